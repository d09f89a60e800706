-- `feed_lacing::after_first` meets its contract. Assumes nothing.
use mathlib.Core.Path.{◌≡◌, refl, sym, ap, ◌∙◌}
use mathlib.Core.List.{[]}
use Prim.Native.Nat.{ℕ, ◌+◌, ◌<◌}
use native.Mathlib.Omega.{arith}
use lib.ListN.{length, get_or, drop, drop_of_length-le}
use Rattle.stream.specs.Packets.{after_first}
use Rattle.feed_lacing.proofs.Values.{next}
use Rattle.feed_lacing.proofs.Scanning.{after-goes_on, after-ends}
use Rattle.feed_lacing.proofs.after_first.Goals as goal

pub loop-i-init : goal.loop-i-init
loop-i-init c = refl

pub returns-then-v-lt255 : goal.returns-then-v-lt255
returns-then-v-lt255 c =
    let l = c.args.lacing.now in
    let i : ℕ = c.loop-i.i in
    record {
      values = sym (after-ends (drop (i + 1) l) (get_or l i 0) c.if-v-lt255.true) ∙ ap after_first (sym (next l i _ (omega arith) refl)) ∙ c.loop-i.invariant;
      inside = omega arith;
    }

pub loop-i-preserved : goal.loop-i-preserved
loop-i-preserved c =
    let l = c.args.lacing.now in
    let i : ℕ = c.loop-i.i in
    sym (after-goes_on (drop (i + 1) l) (get_or l i 0) c.if-v-lt255.false) ∙ ap after_first (sym (next l i _ (omega arith) refl)) ∙ c.loop-i.invariant

pub returns : goal.returns
unfolding after_first
returns c =
    let l = c.args.lacing.now in
    let none : drop (length l) l ≡ [] = drop_of_length-le l (omega arith) in
    record { values = rw none (rw (drop_of_length-le l c.loop-i-test.false) at c.loop-i.invariant); inside = omega arith }
