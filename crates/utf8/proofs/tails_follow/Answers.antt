-- `utf8::tails_follow` meets its contract. The loop's invariant: what is left decides. Assumes nothing.
use mathlib.Core.Path.{◌≡◌, sym, ◌∙◌}
use Prim.Native.Nat.{◌+◌, ◌-◌, ◌≤◌}
use native.Mathlib.Omega.{arith}
use lib.Dec.{eqb}
use lib.ListN.{length, take, drop}
use Rattle.utf8.specs.Characters.{tails_follow}
use Rattle.utf8.proofs.Tails.{few, taken_tails, enough_tails, low-tail, high-tail, right_tail}
use Rattle.utf8.proofs.tails_follow.Goals as goal
use Rattle.utf8.proofs.tails_follow.Goals.{then-tail-lt128-via-then-tail-lt128, then-tail-lt128-via-else-tail-lt128+then-tail-gt191}

pub loop-tail-init : goal.loop-tail-init
loop-tail-init c =
    let a = c.args in
    let all : a.n - 0 ≡ a.n = omega arith in
    let taken : c.part_of-tails.result.now ≡ take a.n (drop a.at a.s.now) = grind (arith, c.part_of-tails.ensures) in
    rw (all, taken) (taken_tails a.n (drop a.at a.s.now))

pub returns-then-tail-lt128 : goal.returns-then-tail-lt128
returns-then-tail-lt128 c =
    let n = c.args.n in
    let t = c.part_of-tails.result.now in
    let l = c.loop-tail in
    let taken : t ≡ take n (drop c.args.at c.args.s.now) = grind (arith, c.part_of-tails.ensures) in
    let size : length t ≤ n = few n (drop c.args.at c.args.s.now) taken in
    elim c.then-tail-lt128.branch [
      | then-tail-lt128-via-then-tail-lt128 w ↦
          sym (low-tail (n - l.tail-index) t l.tail-index (omega arith) (omega arith) w.if-tail-lt128.true) ∙ l.invariant
      | then-tail-lt128-via-else-tail-lt128+then-tail-gt191 w ↦
          sym (high-tail (n - l.tail-index) t l.tail-index (omega arith) (omega arith) w.if-tail-lt128.false w.if-tail-gt191.true) ∙ l.invariant
    ]

pub loop-tail-preserved : goal.loop-tail-preserved
loop-tail-preserved c =
    let n = c.args.n in
    let t = c.part_of-tails.result.now in
    let l = c.loop-tail in
    let taken : t ≡ take n (drop c.args.at c.args.s.now) = grind (arith, c.part_of-tails.ensures) in
    let size : length t ≤ n = few n (drop c.args.at c.args.s.now) taken in
    let fewer : n - (l.tail-index + 1) ≡ n - l.tail-index - 1 = omega arith in
    rw fewer (right_tail (n - l.tail-index) t l.tail-index (omega arith) (omega arith) c.if-tail-lt128.false c.if-tail-gt191.false) ∙ l.invariant

pub returns : goal.returns
returns c =
    let n = c.args.n in
    let s = drop c.args.at c.args.s.now in
    let t = c.part_of-tails.result.now in
    let l = c.loop-tail in
    let taken : t ≡ take n s = grind (arith, c.part_of-tails.ensures) in
    let size : length t ≤ n = few n s taken in
    let enough : eqb (length t) n ≡ tails_follow n s = enough_tails n l.tail-index t (omega arith) (omega arith) ∙ l.invariant in
    grind (arith, enough)
