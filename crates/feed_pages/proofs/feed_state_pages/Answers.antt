-- `feed_pages::feed_state_pages` meets its contract. Assumes nothing.
use Prim.Native.Nat.{ℕ}
use Rattle.stream.specs.Lent.{lent_of}
use Rattle.feed_pages.proofs.State.{state_run}
use Rattle.feed_pages.proofs.feed_state_pages.Goals as goal

pub returns : goal.returns
returns c =
    let a = c.args in
    state_run a.state.now _ (lent_of a.carry.now a.ends.now a.lengths.now a.kept.now a.frames.now) _ a.buffer.now
    (record { below = λ (i : ℕ). (c.shared_slice_known-1.given i).fits }) c.of_state-reader.result c.feed_pages-fed.result c.of_state-reader.ensures
    c.feed_pages-fed.ensures c.keep.ensures.0 c.keep.ensures.1
