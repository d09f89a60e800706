-- `recording_pages::place_of` meets its contract. The loop's invariant: page k begins at the place. Assumes nothing.
use Prim.Native.Nat.{◌-◌, ◌≤◌}
use mathlib.Core.Path.{◌≡◌, ap, sym, ◌∙◌}
use native.Mathlib.Omega.{arith}
use borrow.Author.Rules.{rules}
use lib.ListN.{length}
use Rattle.recording.specs.Pages.{pages_of}
use Rattle.recording_pages.specs.Places.{place_of}
use Rattle.recording_pages.proofs.Places.{At, at_first, at_end_lem, at_next, place-past}
use Rattle.recording_pages.proofs.place_of.Goals as goal

pub loop-k-init : goal.loop-k-init
loop-k-init c = (at_first c.args.stream.now, omega arith)

pub returns-then-at-stream : goal.returns-then-at-stream
returns-then-at-stream c =
    let at = c.loop-k in
    let a = c.args in
    let b = a.stream.now in
    at.invariant.0.place ∙ sym (place-past (pages_of b) at.k a.page (at_end_lem b at.k at.at at.invariant.0 (omega arith)) at.invariant.1)

pub overflow_add-at : goal.overflow_add-at
overflow_add-at c =
    let at = c.loop-k in
    let b = c.args.stream.now in
    omega (arith, ap length c.page_at.ensures, (at_next b at.k at.at at.invariant.0 (omega arith)).inside)

pub overflow_add-k : goal.overflow_add-k
overflow_add-k c = omega arith

pub loop-k-smaller : goal.loop-k-smaller
loop-k-smaller c = omega arith

pub loop-k-preserved : goal.loop-k-preserved
loop-k-preserved c =
    let at = c.loop-k in
    let b = c.args.stream.now in
    (rw c.page_at.ensures (at_next b at.k at.at at.invariant.0 (omega arith)).next, omega arith)

pub returns : goal.returns
returns c =
    let at = c.loop-k in
    let a = c.args in
    let same : at.k ≡ a.page = omega (arith, at.invariant.1) in
    at.invariant.0.place ∙ ap (place_of (pages_of a.stream.now)) same
