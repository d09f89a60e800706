-- `salvage_page::pieces::kept_values` meets its contract. The loop's invariant: no value from n on ends a packet. Assumes nothing.
use Rattle.std.proofs.Common.{◌≡◌, ℕ, zero, suc, ◌-◌, ◌≤◌, false, length, take, drop, sym, refl, ap, le_refl, arith, drop_of_length-le}
use Rattle.octets.specs.Octets.{Bytes}
use Rattle.stream.specs.Page.{ends}
use Rattle.salvage_rules.specs.Tidy.{up_to_last}
use Rattle.salvage_page.proofs.Values.{up_to-none, up_to-here, ends-before}
use Rattle.salvage_page.proofs.pieces.kept_values.Goals as goal

-- none of them
none : (l : Bytes) (n : ℕ) → n ≤ 0 → ends (drop n l) ≡ false → take n l ≡ up_to_last l
none l zero h e = sym (up_to-none l e)
none l (suc n) h e = absurd (omega arith)

pub loop-n-init : goal.loop-n-init
unfolding ends
loop-n-init c = let l : Bytes = c.args.lacing.now in (ap ends (drop_of_length-le l (le_refl (length l))), omega arith)

pub overflow_sub-n : goal.overflow_sub-n
overflow_sub-n c = omega arith

pub bounds-lacing-n : goal.bounds-lacing-n
bounds-lacing-n c = omega arith

pub returns-then-lacing-n-lt255 : goal.returns-then-lacing-n-lt255
returns-then-lacing-n-lt255 c =
    let at = c.loop-n in
    let l : Bytes = c.args.lacing.now in
    record { values = up_to-here l at.n (omega arith) at.invariant.1 c.if-lacing-n-lt255.true at.invariant.0; inside = at.invariant.1 }

pub overflow_sub-n-in-loop-n : goal.overflow_sub-n-in-loop-n
overflow_sub-n-in-loop-n c = omega arith

pub loop-n-smaller : goal.loop-n-smaller
loop-n-smaller c = omega arith

pub loop-n-preserved : goal.loop-n-preserved
loop-n-preserved c =
    let at = c.loop-n in
    let l : Bytes = c.args.lacing.now in
    (ends-before l at.n (omega arith) at.invariant.1 c.if-lacing-n-lt255.false at.invariant.0, omega arith)

pub returns : goal.returns
returns c =
    let at = c.loop-n in
    let l : Bytes = c.args.lacing.now in
    record { values = none l at.n c.loop-n-test.false at.invariant.0; inside = at.invariant.1 }
