-- `feed_page::feed_read` meets its contract: `page_due` has 3 to 8, and `feed_due` the others. Assumes nothing.
use Rattle.std.proofs.lemmas.Result.{err_from_is_err_and}
use mathlib.Core.Path.{◌≡◌, ap}
use Prim.Native.Nat.{◌^◌, ◌<◌, ◌≤◌}
use native.Mathlib.Omega.{arith}
use lib.ListN.{length, drop, get_or, length-take}
use Rattle.page_layout.specs.Page.{count_of, lacing_of}
use Rattle.octets.specs.Octets.{Bytes}
use Rattle.stream.specs.Lent.{Lent, lent_of}
use Rattle.feed_page.proofs.feed_read.Goals as goal

-- a byte tells at most 255 values
few : (page lacing : Bytes) → lacing ≡ lacing_of page → get_or page 26 0 < 2 ^ 8 → length lacing ≤ 255
unfolding lacing_of
few page lacing e h = omega (arith, ap length e, length-take (count_of page) (drop 27 page), h)

pub returns : goal.returns
returns c =
    λ crc u.
    let a = c.args in
    let m : Lent = lent_of a.carry.now a.ends.now a.lengths.now a.kept.now a.frames.now in
    c.feed_due.ensures crc a.core a.page.now (record {
      awaits = c.in_ok-due.ensures crc a.page.now a.tally m u;
      room = u.room;
      lacing = c.lacing_of-lacing.ensures;
      body = c.body_of-body.ensures;
      few = few a.page.now _ c.lacing_of-lacing.ensures (c.shared_slice_known-1.given 26).fits;
    })

pub returns-in_err-due : goal.returns-in_err-due
returns-in_err-due c =
    let p = err_from_is_err_and c.from_residual.result c.from_residual.ensures.1 in
    rw (p.1, p.2)
    (λ crc u.
    let a = c.args in
    c.in_err-due.ensures crc a.page.now a.tally (lent_of a.carry.now a.ends.now a.lengths.now a.kept.now a.frames.now) u)
