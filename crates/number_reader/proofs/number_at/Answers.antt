-- `number_reader::number_at` meets its contract. The loop's invariant: x is the number in the bytes from the i-th on. Assumes nothing.
use mathlib.Core.Path.{◌≡◌, refl, sym, ap, ◌∙◌}
use mathlib.Core.List.{[]}
use Prim.Native.Nat.{ℕ, suc, ◌+◌, ◌*◌, ◌-◌, ◌^◌, ◌<◌}
use native.Mathlib.Nat.{pow-suc, pow-le-pow_right, one-le-pow, lt_of_lt_of_le}
use native.Mathlib.Numerals.{add-one}
use native.Mathlib.Omega.{arith}
use lib.ListN.{take, drop, drop_of_length-le}
use lib.Seq.{take-nil}
use Rattle.octets.specs.Numbers.{value, number}
use Rattle.octets.proofs.Numbers.{value-more}
use Rattle.number_reader.proofs.number_at.Goals as goal

-- a number of j bytes, with j at most 7, has room for one byte more
room : {x j : ℕ} → x < 256 ^ j → j < 8 → x < 2 ^ 56
room {x} {j} h l = lt_of_lt_of_le h (pow-le-pow_right {n = 256} (omega arith) {i = j} {j = 7} (omega arith))

pub returns-then-s-at : goal.returns-then-s-at
unfolding number value
returns-then-s-at c =
    let a = c.args in
    let none : drop a.at a.s.now ≡ [] = drop_of_length-le a.s.now c.if-s-at.true in
    let e : take a.n (drop a.at a.s.now) ≡ [] = ap (take a.n) none ∙ take-nil a.n in
    record { number = sym (ap value e); below = one-le-pow a.n 256 (omega arith) }

pub loop-i-init : goal.loop-i-init
unfolding value
loop-i-init c = let e : c.args.n - c.args.n ≡ 0 = omega arith in rw e (refl, omega arith)

pub overflow_mul-x : goal.overflow_mul-x
overflow_mul-x c = let l = c.loop-i in omega (arith, room l.invariant.1 (omega arith))

pub overflow_add-x : goal.overflow_add-x
overflow_add-x c = let l = c.loop-i in omega (arith, room l.invariant.1 (omega arith))

pub loop-i-preserved : goal.loop-i-preserved
loop-i-preserved c =
    let a = c.args in
    let l = c.loop-i in
    let j : ℕ = a.n - l.i in
    let q : ℕ = a.at + (l.i - 1) in
    let one : a.n - (l.i - 1) ≡ j + 1 = omega arith in
    let next : a.at + l.i ≡ suc q = omega arith in
    let more : 256 ^ (j + 1) ≡ 256 ^ j * 256 = rw add-one (pow-suc 256 j) in
    let rest : l.x ≡ value (take j (drop (suc q) a.s.now)) = rw next at l.invariant.0 in
    let step = value-more a.s.now q j l.x rest in
    rw one (omega arith, omega arith)

pub returns : goal.returns
unfolding number
returns c =
    let a = c.args in
    let l = c.loop-i in
    let all : a.n - l.i ≡ a.n = omega arith in
    let whole : a.at + l.i ≡ a.at = omega arith in
    record { number = rw (all, whole) at l.invariant.0; below = rw all at l.invariant.1 }
