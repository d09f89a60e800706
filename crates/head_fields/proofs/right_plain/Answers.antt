-- `head_fields::right_plain` meets its contract. Assumes nothing.
use mathlib.Core.Path.{◌≡◌, sym, ap, ◌∙◌}
use Prim.Native.Nat.{ℕ, ◌-◌, min}
use native.Mathlib.Omega.{arith}
use lib.ListN.{length-take}
use Rattle.head_fields.specs.Right.{plain_indices}
use Rattle.head_fields.proofs.Checks.{with_counts, other-streams, coupled_decides, other-coupled, start_decides}
use Rattle.head_fields.proofs.right_plain.Goals as goal

pub returns-then-has_counts : goal.returns-then-has_counts
returns-then-has_counts c = sym (with_counts c.args.h (sym c.has_counts.ensures ∙ c.if-has_counts.true))

pub returns-then-h-ne1 : goal.returns-then-h-ne1
returns-then-h-ne1 c = sym (other-streams c.args.h (sym c.has_counts.ensures ∙ c.if-has_counts.false) c.if-h-ne1.true)

pub returns-then-channels-eq0 : goal.returns-then-channels-eq0
returns-then-channels-eq0 c =
    sym (coupled_decides c.args.h (sym c.has_counts.ensures ∙ c.if-has_counts.false) c.if-h-ne1.false (sym c.wide-channels.ensures.same ∙ c.if-channels-eq0.true) c.wide-coupled.ensures.same)

pub returns-then-coupled-channels : goal.returns-then-coupled-channels
returns-then-coupled-channels c =
    sym (other-coupled c.args.h (sym c.has_counts.ensures ∙ c.if-has_counts.false) c.if-h-ne1.false (λ e. c.if-coupled-channels.true (c.wide-coupled.ensures.same ∙ e ∙ ap (λ (n : ℕ). n - 1) (sym c.wide-channels.ensures.same))))

pub slice_bounds-begins_with-end-2 : goal.slice_bounds-begins_with-end-2
slice_bounds-begins_with-end-2 c = let n : ℕ = c.least-n.result in omega (arith, length-take n plain_indices)

pub returns : goal.returns
returns c =
    let same : (c.args.h).coupled ≡ c.args.h.channels - 1 = sym c.wide-coupled.ensures.same ∙ c.if-coupled-channels.false ∙ ap (λ (n : ℕ). n - 1) c.wide-channels.ensures.same in
    c.begins_with.ensures
    ∙ sym
    (start_decides c.args.h (sym c.has_counts.ensures ∙ c.if-has_counts.false) c.if-h-ne1.false same
    (c.least-n.ensures ∙ ap (λ (n : ℕ). min n 2) c.wide-channels.ensures.same))
