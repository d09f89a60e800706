-- `utf8::number_with` meets its contract. The loop's invariant: what is left gives the number, which has room. Assumes nothing.
use mathlib.Core.Path.{◌≡◌, sym, ◌∙◌}
use Prim.Native.Nat.{suc, ◌+◌, ◌-◌, ◌%◌}
use native.Mathlib.Nat.{pow-le-pow_right, mul-le-mul}
use native.Mathlib.Omega.{arith}
use lib.ListN.{get_or, drop}
use Rattle.utf8.proofs.Tails.{few, taken-number, cut-number, six_bits, fits, next}
use Rattle.utf8.proofs.number_with.Goals as goal

pub loop-tail-init : goal.loop-tail-init
loop-tail-init c =
    let a = c.args in
    let all : a.n - 0 ≡ a.n = omega arith in
    let power = pow-le-pow_right {n = 64} (omega arith) {i = a.n} {j = 3} (omega arith) in (
      rw (all, c.from-x.ensures, c.part_of-tail-items.ensures) (taken-number a.lead a.n (drop a.at a.s.now)),
      rw (all, c.from-x.ensures) (record { room = mul-le-mul {n₁ = suc a.lead} {n₂ = 256} (omega arith) power }),
    )

pub overflow_mul-x : goal.overflow_mul-x
overflow_mul-x c =
    let l = c.loop-tail in
    let size = few c.args.n (drop c.args.at c.args.s.now) c.part_of-tail-items.ensures in
    omega (arith, fits l.x (c.args.n - l.tail-index) 0 (omega arith) (omega arith) l.invariant.1)

pub overflow_add-x : goal.overflow_add-x
overflow_add-x c =
    let l = c.loop-tail in
    let size = few c.args.n (drop c.args.at c.args.s.now) c.part_of-tail-items.ensures in
    omega (arith, fits l.x (c.args.n - l.tail-index) 0 (omega arith) (omega arith) l.invariant.1)

pub loop-tail-preserved : goal.loop-tail-preserved
loop-tail-preserved c =
    let n = c.args.n in
    let t = c.part_of-tail-items.result.now in
    let l = c.loop-tail in
    let size = few c.args.n (drop c.args.at c.args.s.now) c.part_of-tail-items.ensures in
    let fewer : n - (l.tail-index + 1) ≡ n - l.tail-index - 1 = omega arith in
    rw (fewer, c.from.ensures) (
      six_bits (n - l.tail-index) t l.tail-index (omega arith) (omega arith) l.x ∙ l.invariant.0,
      next l.x (n - l.tail-index) (get_or t l.tail-index 0 % 64) (omega arith) (omega arith) l.invariant.1,
    )

pub returns : goal.returns
returns c =
    let l = c.loop-tail in
    sym (cut-number l.x (c.args.n - l.tail-index) c.part_of-tail-items.result.now l.tail-index (omega arith)) ∙ l.invariant.0
