-- 22 by the lengths, then what building tells, and the lists. Assumes nothing.
use native.Mathlib.Omega.{arith}
use Rattle.std.specs.Prelude.{Err}
use mathlib.Core.Path.{refl, ◌∙◌, ◌≡◌}
use borrow.Author.Rules.{rules}
use Rattle.octets.proofs.Tests.{failed, held}
use Rattle.index_columns_builder.proofs.Building.{told-count, told-refusal, unequal, equal}
use Rattle.index_columns_builder.proofs.Building.{granules-stored, places-stored, sequences-stored}
use Rattle.index_columns_builder.proofs.build.Goals as goal

pub returns-then-not-are_equal : goal.returns-then-not-are_equal
returns-then-not-are_equal c =
    record {
      told = unequal _ _ _ _ _ (failed c.are_equal.ensures c.if-not-are_equal.true);
      granule = refl;
      place = refl;
      sequence = refl;
    }

pub returns : goal.returns
returns c =
    let args = c.args in
    let gs = args.granules.now in
    let ps = args.places.now in
    let ss = args.sequences.now in
    let same = held c.are_equal.ensures c.if-not-are_equal.false in
    let called = c.room_for in
    let fits = c.in_ok-room_for.was in
    let told = told-count args.stream.now called.result called.ensures fits c.fill.ensures.count in
    record {
      told = equal _ _ gs ps ss same told;
      granule = c.fill.ensures.granule ∙ granules-stored _ _ gs ps ss same told;
      place = c.fill.ensures.place ∙ places-stored _ _ gs ps ss same told;
      sequence = c.fill.ensures.sequence ∙ sequences-stored _ _ gs ps ss same told;
    }

pub returns-in_err-room_for : goal.returns-in_err-room_for
returns-in_err-room_for c =
    let args = c.args in
    let why = c.in_err-room_for.field-0.0 in
    let same : c.from_residual.result ≡ Err why = grind arith in
    rw same
    (record {
      told = equal _ _ _ _ _ (held c.are_equal.ensures c.if-not-are_equal.false)
          (told-refusal args.stream.now c.room_for.result c.room_for.ensures c.in_err-room_for.was);
      granule = refl;
      place = refl;
      sequence = refl;
    })
