-- `feed_audio::lists::list_alike` meets its contract: `Repeated.antt` has packets with one measure. Assumes nothing.
use Rattle.std.proofs.lemmas.Result.{err_from_is_err_and}
use mathlib.Core.Path.{refl, ap}
use Prim.Native.Nat.{ℕ, ◌*◌}
use native.Mathlib.Nat.{lt_of_le_of_lt}
use lib.Dec.{lit<}
use Rattle.feed_audio.proofs.Repeated.{single_packs, most-samples, measures-alike, room-alike, filled_alike}
use Rattle.feed_audio.proofs.lists.list_alike.Goals as goal

pub overflow_mul-d : goal.overflow_mul-d
overflow_mul-d c =
    record { fits = rw c.frame_samples-samples.ensures (lt_of_le_of_lt (most-samples c.args.count c.args.toc c.requires.few) (lit< tt)) }

pub packed-m-requires : goal.packed-m-requires
packed-m-requires c = rw c.frame_samples-samples.ensures (single_packs _)

-- the page is judged by the samples of these packets, and they lie where they were judged to lie
pub list_same-left-requires : goal.list_same-left-requires
list_same-left-requires c =
    let a = c.args in
    let placed = c.in_ok-timed.ensures _ _ (measures-alike a.count a.toc c.requires.few (ap (λ (d : ℕ). a.count * d) c.frame_samples-samples.ensures)) in
    rw (c.packed-m.ensures, c.frame_samples-samples.ensures) (room-alike a.count a.toc c.requires.few placed c.requires.room)

pub returns-in_err-timed : goal.returns-in_err-timed
returns-in_err-timed c =
    let a = c.args in
    let p = err_from_is_err_and c.from_residual.result c.from_residual.ensures.1 in
    rw (p.1, p.2)
    (record {
      packed = _;
      times = c.in_err-timed.ensures _ _ (measures-alike a.count a.toc c.requires.few (ap (λ (d : ℕ). a.count * d) c.frame_samples-samples.ensures));
      stays = refl;
    })

pub returns : goal.returns
returns c =
    let a = c.args in
    let placed = c.in_ok-timed.ensures _ _ (measures-alike a.count a.toc c.requires.few (ap (λ (d : ℕ). a.count * d) c.frame_samples-samples.ensures)) in
    filled_alike a.count a.toc c.requires.few placed
    (rw (c.packed-m.ensures, c.frame_samples-samples.ensures, c.is_last_page-last.ensures) at c.list_same-left.ensures)
