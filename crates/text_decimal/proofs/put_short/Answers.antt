-- `text_decimal::put_short` meets its contract: one to four stores are a copy. Assumes nothing.
use mathlib.Core.Path.{◌≡◌, refl, ap}
use mathlib.Core.List.{[], ◌∷◌}
use Prim.Native.Nat.{◌/◌, ◌%◌}
use native.Mathlib.Omega.{arith}
use lib.ListN.{length, length-set}
use Rattle.text_put.proofs.Laying.{one_store, two_stores, three_stores, laid_as}
use Rattle.text_decimal.specs.Decimal.{digit, decimal}
use Rattle.text_decimal.proofs.Decimal.{decimal-one, decimal-two, decimal-three, decimal-four, length-lowest}
use Rattle.text_decimal.proofs.put_short.Goals as goal

one : (c : goal.Then-x-lt10) → let x = c.args.x in decimal x ≡ digit x ∷ []
one c = decimal-one c.args.x c.if-x-lt10.true

two : (c : goal.Then-x-lt100) → let x = c.args.x in decimal x ≡ digit (x / 10) ∷ digit (x % 10) ∷ []
two c = decimal-two c.args.x (omega arith) (omega arith)

three : (c : goal.Then-x-lt1000) → let x = c.args.x in decimal x ≡ digit (x / 100) ∷ digit (x / 10 % 10) ∷ digit (x % 10) ∷ []
three c = decimal-three c.args.x (omega arith) (omega arith)

pub overflow_add-out : goal.overflow_add-out
overflow_add-out c = omega arith

pub overflow_cast-out : goal.overflow_cast-out
overflow_cast-out c = omega arith

pub bounds-out-at : goal.bounds-out-at
bounds-out-at c = omega (arith, ap length (one c))

pub overflow_add-result : goal.overflow_add-result
overflow_add-result c = omega arith

pub returns-then-x-lt10 : goal.returns-then-x-lt10
returns-then-x-lt10 c = laid_as 1 (one c) refl (one_store _ _ _ (omega (arith, ap length (one c))))

pub overflow_add-out-then-x-lt100 : goal.overflow_add-out-then-x-lt100
overflow_add-out-then-x-lt100 c = omega arith

pub overflow_cast-out-then-x-lt100 : goal.overflow_cast-out-then-x-lt100
overflow_cast-out-then-x-lt100 c = omega arith

pub bounds-out-at-then-x-lt100 : goal.bounds-out-at-then-x-lt100
bounds-out-at-then-x-lt100 c = omega (arith, ap length (two c))

pub overflow_add-out-then-x-lt100-2 : goal.overflow_add-out-then-x-lt100-2
overflow_add-out-then-x-lt100-2 c = omega arith

pub overflow_cast-out-then-x-lt100-2 : goal.overflow_cast-out-then-x-lt100-2
overflow_cast-out-then-x-lt100-2 c = omega arith

pub overflow_add-out-then-x-lt100-3 : goal.overflow_add-out-then-x-lt100-3
overflow_add-out-then-x-lt100-3 c = omega arith

pub bounds-out-at-then-x-lt100-2 : goal.bounds-out-at-then-x-lt100-2
bounds-out-at-then-x-lt100-2 c = simp length-set (omega (arith, ap length (two c)))

pub overflow_add-result-then-x-lt100 : goal.overflow_add-result-then-x-lt100
overflow_add-result-then-x-lt100 c = omega arith

pub returns-then-x-lt100 : goal.returns-then-x-lt100
returns-then-x-lt100 c = laid_as 2 (two c) refl (two_stores _ _ _ _ (omega (arith, ap length (two c))))

pub overflow_add-out-then-x-lt1000 : goal.overflow_add-out-then-x-lt1000
overflow_add-out-then-x-lt1000 c = omega arith

pub overflow_cast-out-then-x-lt1000 : goal.overflow_cast-out-then-x-lt1000
overflow_cast-out-then-x-lt1000 c = omega arith

pub bounds-out-at-then-x-lt1000 : goal.bounds-out-at-then-x-lt1000
bounds-out-at-then-x-lt1000 c = omega (arith, ap length (three c))

pub overflow_add-out-then-x-lt1000-2 : goal.overflow_add-out-then-x-lt1000-2
overflow_add-out-then-x-lt1000-2 c = omega arith

pub overflow_cast-out-then-x-lt1000-2 : goal.overflow_cast-out-then-x-lt1000-2
overflow_cast-out-then-x-lt1000-2 c = omega arith

pub overflow_add-out-then-x-lt1000-3 : goal.overflow_add-out-then-x-lt1000-3
overflow_add-out-then-x-lt1000-3 c = omega arith

pub bounds-out-at-then-x-lt1000-2 : goal.bounds-out-at-then-x-lt1000-2
bounds-out-at-then-x-lt1000-2 c = simp length-set (omega (arith, ap length (three c)))

pub overflow_add-out-then-x-lt1000-4 : goal.overflow_add-out-then-x-lt1000-4
overflow_add-out-then-x-lt1000-4 c = omega arith

pub overflow_cast-out-then-x-lt1000-3 : goal.overflow_cast-out-then-x-lt1000-3
overflow_cast-out-then-x-lt1000-3 c = omega arith

pub overflow_add-out-then-x-lt1000-5 : goal.overflow_add-out-then-x-lt1000-5
overflow_add-out-then-x-lt1000-5 c = omega arith

pub bounds-out-at-then-x-lt1000-3 : goal.bounds-out-at-then-x-lt1000-3
bounds-out-at-then-x-lt1000-3 c = simp length-set (omega (arith, ap length (three c)))

pub overflow_add-result-then-x-lt1000 : goal.overflow_add-result-then-x-lt1000
overflow_add-result-then-x-lt1000 c = omega arith

pub returns-then-x-lt1000 : goal.returns-then-x-lt1000
returns-then-x-lt1000 c = laid_as 3 (three c) refl (three_stores _ _ _ _ _ (omega (arith, ap length (three c))))

pub put_four-requires : goal.put_four-requires
put_four-requires c =
    let x = c.args.x in
    let size = ap length (decimal-four x (omega arith) (omega arith)) in
    omega (arith, length-lowest 4 x)

pub overflow_add-result-2 : goal.overflow_add-result-2
overflow_add-result-2 c = omega arith

pub returns : goal.returns
returns c =
    let x = c.args.x in
    laid_as 4 (decimal-four x (omega arith) (omega arith)) (length-lowest 4 x) c.put_four.ensures
