-- `tags_comment::decimal` meets its contract. The loop's invariant: what is left gives the number, and is digits. Assumes nothing.
use mathlib.Core.Path.{refl, ◌∙◌}
use Prim.Native.Nat.{◌-◌, ◌≤◌}
use native.Mathlib.Omega.{arith}
use lib.ListN.{get_or, drop_of_length-le}
use Rattle.tags_comment.specs.Gain.{decimal}
use Rattle.tags_comment.proofs.Within.{low-there, high-there, others}
use Rattle.tags_comment.proofs.Gain.{digit-more, ten_more, room}
use Rattle.tags_comment.proofs.decimal.Goals as goal
use Rattle.tags_comment.proofs.decimal.Goals.{In-loop-b}

-- the byte is a digit
low : (c : In-loop-b) → 0x30 ≤ get_or c.args.d.now c.loop-b.b-index 0
low c =
    low-there 0x30 0x39 c.args.d.now c.loop-b.b-index (omega arith) c.loop-b.invariant.1

high : (c : In-loop-b) → get_or c.args.d.now c.loop-b.b-index 0 ≤ 0x39
high c =
    high-there 0x30 0x39 c.args.d.now c.loop-b.b-index (omega arith) c.loop-b.invariant.1

pub loop-b-init : goal.loop-b-init
loop-b-init c = (refl, c.requires.digits, omega arith, omega arith)

pub overflow_sub-digit : goal.overflow_sub-digit
overflow_sub-digit c = low (goal.at.overflow_sub-digit c).In-loop-b

pub overflow_mul-x : goal.overflow_mul-x
overflow_mul-x c = let l = c.loop-b in omega (arith, room l.invariant.2 (omega arith))

pub overflow_cast-x : goal.overflow_cast-x
overflow_cast-x c = omega (arith, high (goal.at.overflow_cast-x c).In-loop-b)

pub overflow_add-x : goal.overflow_add-x
overflow_add-x c = let l = c.loop-b in omega (arith, room l.invariant.2 (omega arith), high (goal.at.overflow_add-x c).In-loop-b)

pub loop-b-preserved : goal.loop-b-preserved
loop-b-preserved c =
    let d = c.args.d.now in (
      digit-more d c.loop-b.b-index (omega arith) c.loop-b.x ∙ c.loop-b.invariant.0,
      others 0x30 0x39 d c.loop-b.b-index (omega arith) c.loop-b.invariant.1,
      ten_more c.loop-b.x c.loop-b.b-index (get_or d c.loop-b.b-index 0 - 0x30) c.loop-b.invariant.2 (omega (arith, high (goal.at.loop-b-preserved c).In-loop-b)),
      omega arith,
    )

pub returns : goal.returns
unfolding decimal
returns c = rw (drop_of_length-le c.args.d.now c.loop-b-test.false) at c.loop-b.invariant.0
