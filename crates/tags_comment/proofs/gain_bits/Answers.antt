-- `tags_comment::gain_bits` meets its contract. Assumes nothing.
use mathlib.Core.Path.{◌≡◌, sym, ap, ◌∙◌}
use mathlib.Core.Bool.{true, false}
use native.Mathlib.Omega.{arith}
use Rattle.tags_comment.specs.Gain.{is_minus, all_digits, decimal, size_of}
use Rattle.tags_comment.proofs.Gain.{few-digits, is-short, has-digits, minus_fits, plus_fits, minus_gain, plus_gain}
use Rattle.tags_comment.proofs.gain_bits.Goals as goal
use Rattle.tags_comment.proofs.gain_bits.Lts as lts
use Rattle.tags_comment.proofs.gain_bits.Tie as tie

abbrev After-is_minus : Type 0
After-is_minus = lts.After-is_minus tie.the-claims tie.handed_pre tie.handed_post

-- the number that the digits gave, and the sign
size : (c : After-is_minus) → c.decimal-size.result ≡ size_of c.args.t.now
size c = c.decimal-size.ensures ∙ ap (decimal 0) c.digits_of.ensures

minus : (c : goal.Then-is_minus) → is_minus c.args.t.now ≡ true
minus c = sym c.is_minus.ensures ∙ c.if-is_minus.true

plus : (c : goal.Else-is_minus) → is_minus c.args.t.now ≡ false
plus c = sym c.is_minus.ensures ∙ c.if-is_minus.false

pub decimal-size-requires : goal.decimal-size-requires
decimal-size-requires c =
    let t = c.args.t.now in
    let d = c.digits_of in
    record {
      digits = ap all_digits d.ensures ∙ has-digits t c.requires;
      few = few-digits t d.result.now (is-short t c.requires) d.ensures;
    }

pub overflow_sub-result : goal.overflow_sub-result
overflow_sub-result c =
    omega (arith, minus_fits c.args.t.now c.requires c.decimal-size.result (size c.before.before) (minus c))

pub returns-then-is_minus : goal.returns-then-is_minus
returns-then-is_minus c =
    minus_gain c.args.t.now c.requires c.decimal-size.result (size c.before.before) (minus c)

pub overflow_cast-result-2 : goal.overflow_cast-result-2
overflow_cast-result-2 c =
    omega (arith, plus_fits c.args.t.now c.requires c.decimal-size.result (size c.before.before) (plus c))

pub returns : goal.returns
returns c =
    plus_gain c.args.t.now c.requires c.decimal-size.result (size c.before.before) (plus c)
