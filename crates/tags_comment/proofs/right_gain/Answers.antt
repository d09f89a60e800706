-- `tags_comment::right_gain` meets its contract: the first test that fails decides, and the number last. Assumes nothing.
use mathlib.Core.Path.{◌≡◌, sym, ap₂, ◌∙◌}
use mathlib.Core.Bool.{true}
use lib.Dec.{leb}
use Rattle.octets.proofs.Tests.{failed, held}
use Rattle.tags_comment.specs.Gain.{all_digits}
use Rattle.tags_comment.proofs.Gain.{too_long, no_digit, not-digits, size_decides, few-digits}
use Rattle.tags_comment.proofs.right_gain.Goals as goal

pub returns-then-long : goal.returns-then-long
returns-then-long c = sym (too_long c.args.t.now c.if-long.true)

pub returns-then-none : goal.returns-then-none
returns-then-none c =
    let d = c.digits_of-d in
    sym (no_digit c.args.t.now d.result.now c.if-long.false d.ensures c.if-none.true)

pub returns-then-not-all_within : goal.returns-then-not-all_within
returns-then-not-all_within c =
    let d = c.digits_of-d in
    sym
    (not-digits c.args.t.now d.result.now c.if-long.false d.ensures c.if-none.false
    (failed c.all_within.ensures c.if-not-all_within.true))

pub decimal-requires : goal.decimal-requires
decimal-requires c =
    -- the digits, where the third test was passed
    let digits : all_digits c.digits_of-d.result.now ≡ true = held c.all_within.ensures c.if-not-all_within.false in
    let d = c.digits_of-d in
    record {
      digits = digits;
      few = few-digits c.args.t.now d.result.now c.if-long.false d.ensures;
    }

pub returns : goal.returns
returns c =
    let digits : all_digits c.digits_of-d.result.now ≡ true = held c.all_within.ensures c.if-not-all_within.false in
    let d = c.digits_of-d in
    ap₂ leb c.decimal.ensures c.most_of.ensures
    ∙ sym (size_decides c.args.t.now d.result.now c.if-long.false d.ensures c.if-none.false digits)
