-- `feed_audio::feed_completing` meets its contract: `Pages.antt` puts the steps together. Assumes nothing.
use Rattle.std.proofs.lemmas.Result.{err_from_is_err_and}
use Prim.Native.Nat.{◌≤◌}
use mathlib.Core.Path.{ap, ◌∙◌}
use native.Mathlib.Omega.{arith}
use Rattle.granule.specs.declared.Position.TheVariants.{At}
use Rattle.stream.specs.declared.Pending.{Pending}
use Rattle.stream.specs.Lent.{Lent, lent_of}
use Rattle.feed_audio.specs.Code.{next_core}
use Rattle.feed_audio.proofs.Pages.{completing_refused, completing_accepted, place-trimmed}
use Rattle.feed_audio.proofs.feed_completing.Goals as goal

pub keep_rest-requires : goal.keep_rest-requires
keep_rest-requires c = c.requires.left

pub counts_of-counts-requires : goal.counts_of-counts-requires
counts_of-counts-requires c = rw c.is_last_page-last.ensures (place-trimmed _ _ c.in_ok-listed.ensures.times)

pub returns-in_err-listed : goal.returns-in_err-listed
returns-in_err-listed c =
    let a = c.args in
    let small = c.well_formed.0.1.1.1.1.1.0 in
    let few : c.args.core.streams ≤ 255 = omega arith in
    let lent : Lent = lent_of c.args.carry.now c.args.ends.now c.args.lengths.now c.args.kept.now c.args.frames.now in
    let p = err_from_is_err_and c.from_residual.result c.from_residual.ensures.1 in
    rw (p.1, p.2)
    (λ crc. completing_refused crc a.core a.tally a.h a.lacing.now a.body.now lent c.requires few c.append.ensures c.in_err-listed.ensures)

pub returns : goal.returns
returns c crc =
    let a = c.args in
    let small = c.well_formed.0.1.1.1.1.1.0 in
    let few : c.args.core.streams ≤ 255 = omega arith in
    let lent : Lent = lent_of c.args.carry.now c.args.ends.now c.args.lengths.now c.args.kept.now c.args.frames.now in
    completing_accepted crc a.core a.tally a.h a.lacing.now a.body.now lent
    c.requires few c.append.ensures c.in_ok-listed.ensures
    c.keep_rest.ensures
    (rw c.is_last_page-last.ensures at c.counts_of-counts.ensures)
    (c.next_core-next.ensures ∙ ap (λ (p : Pending). next_core a.core a.h p (At a.h.granule)) c.begun.ensures)
    c.next_tally.ensures
