-- `recording_pages::headers_end` meets its contract. The loop's invariant: so many pages of the headers are left. Assumes nothing.
use Prim.Native.Nat.{◌+◌, ◌-◌, ◌<◌}
use mathlib.Core.Path.{ap, sym, ◌∙◌}
use native.Mathlib.Omega.{arith}
use borrow.Author.Rules.{rules}
use lib.ListN.{length}
use Rattle.recording_pages.specs.Places.{page_at}
use Rattle.recording_pages.proofs.Places.{at_first, at_next}
use Rattle.recording_pages.proofs.HeaderPlaces.{Left, left-first, none_left, last-left, more_left, none-there, ends-here}
use Rattle.recording_pages.proofs.headers_end.Goals as goal

pub returns-then-stream-eq0 : goal.returns-then-stream-eq0
returns-then-stream-eq0 c =
    let b = c.args.stream.now in
    ends-here b 0 0 (at_first b) (none-there b (omega arith))

pub loop-at-init : goal.loop-at-init
loop-at-init c =
    let b = c.args.stream.now in
    rw c.page_at-at.ensures (left-first b (omega arith))

pub overflow_add-at : goal.overflow_add-at
overflow_add-at c =
    let at = c.loop-at in
    let b = c.args.stream.now in
    omega (arith, ap length c.page_at-bytes.ensures, (at_next b at.page at.at at.invariant.place (omega arith)).inside)

pub overflow_add-page : goal.overflow_add-page
overflow_add-page c =
    let at = c.loop-at in
    omega (arith, at.invariant.place.few)

pub returns-then-has_end : goal.returns-then-has_end
returns-then-has_end c =
    let at = c.loop-at in
    let b = c.args.stream.now in
    let more : at.at < length b = omega arith in
    rw c.page_at-bytes.ensures
    (ends-here b (at.page + 1) (at.at + length (page_at b at.at)) (at_next b at.page at.at at.invariant.place more).next
    (last-left b at.page at.at at.invariant more (rw (c.lacing_of.ensures, c.page_at-bytes.ensures) at (sym c.has_end.ensures ∙ c.if-has_end.true))))

pub loop-at-smaller : goal.loop-at-smaller
loop-at-smaller c =
    let at = c.loop-at in
    let b = c.args.stream.now in
    let n = at_next b at.page at.at at.invariant.place (omega arith) in
    omega (arith, ap length c.page_at-bytes.ensures, n.moves)

pub loop-at-preserved : goal.loop-at-preserved
loop-at-preserved c =
    let at = c.loop-at in
    let b = c.args.stream.now in
    let more : at.at < length b = omega arith in
    rw c.page_at-bytes.ensures
    (more_left b at.page at.at at.invariant more (rw (c.lacing_of.ensures, c.page_at-bytes.ensures) at (sym c.has_end.ensures ∙ c.if-has_end.false)))

pub returns : goal.returns
returns c =
    let at = c.loop-at in
    let b = c.args.stream.now in
    ends-here b at.page at.at at.invariant.place (none_left b at.page at.at at.invariant (omega arith))
