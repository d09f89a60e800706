-- `crop_start::find_in` meets its contract. The loop's invariant: the walk has come to a page. Assumes nothing.
use Prim.Native.Nat.{◌+◌, ◌-◌, ◌≤◌}
use mathlib.Core.Path.{◌≡◌, refl, ap, ◌∙◌}
use native.Mathlib.Omega.{arith}
use borrow.Author.Rules.{rules}
use lib.ListN.{length}
use Rattle.page_crc.specs.Crc.{page_crc}
use Rattle.stream.specs.Readings.{readings}
use Rattle.stream.specs.Lent.{lent_of}
use Rattle.recording.specs.Pages.{pages_of}
use Rattle.recording_pages.specs.declared.Place.{Place}
use Rattle.recording.proofs.Streams.{room-stays}
use Rattle.crop_start.specs.Start.{best_start}
use Rattle.crop_start.specs.Code.{Walked}
use Rattle.crop_start.proofs.Finding.{walk_begun, best-at_end}
use Rattle.crop_start.proofs.find_in.Goals as goal

pub loop-walk-init : goal.loop-walk-init
loop-walk-init c =
    let a = c.args in
    (walk_begun a.stream.now a.position c.start.result a.carry.now c.requires.accepted c.start.ensures, omega arith, refl, refl, refl, refl, refl)

pub shape_of-carry-then-walk-stream : goal.shape_of-carry-then-walk-stream
shape_of-carry-then-walk-stream c = c.loop-walk.invariant.2

pub shape_of-ends-then-walk-stream : goal.shape_of-ends-then-walk-stream
shape_of-ends-then-walk-stream c = c.loop-walk.invariant.3

pub shape_of-lengths-then-walk-stream : goal.shape_of-lengths-then-walk-stream
shape_of-lengths-then-walk-stream c = c.loop-walk.invariant.4

pub shape_of-kept-then-walk-stream : goal.shape_of-kept-then-walk-stream
shape_of-kept-then-walk-stream c = c.loop-walk.invariant.5

pub shape_of-frames-then-walk-stream : goal.shape_of-frames-then-walk-stream
shape_of-frames-then-walk-stream c = c.loop-walk.invariant.6

pub returns-then-walk-stream : goal.returns-then-walk-stream
returns-then-walk-stream c =
    let a = c.args in
    best-at_end a.stream.now a.position c.loop-walk.walk c.loop-walk.carry (a.last + 1) c.loop-walk.invariant.0 c.if-walk-stream.true c.loop-walk.invariant.1

pub turn-walk-requires : goal.turn-walk-requires
turn-walk-requires c =
    let l = c.loop-walk in
    let a = c.args in
    record {
      walked = l.invariant.0;
      room = room-stays (lent_of a.carry.now a.ends.now a.lengths.now a.kept.now a.frames.now) (lent_of l.carry l.ends l.lengths l.kept l.frames) c.requires.room l.invariant.2 l.invariant.3 l.invariant.4 l.invariant.5 l.invariant.6;
      headed = ap (λ (p : Place). p.page) c.headers_end-headers.ensures;
      more = omega (arith, c.if-walk-stream.false);
    }

pub loop-walk-smaller : goal.loop-walk-smaller
loop-walk-smaller c =
    let t = c.turn-walk.ensures in
    omega (arith, t.onward, t.walked.begins.inside)

pub loop-walk-preserved : goal.loop-walk-preserved
loop-walk-preserved c =
    let t = c.turn-walk.ensures in
    let inv = c.loop-walk.invariant in (
      t.walked,
      omega (arith, t.page, c.loop-walk-test.true),
      c.carry-1.given ∙ inv.2,
      c.ends-1.given ∙ inv.3,
      c.lengths-1.given ∙ inv.4,
      c.kept-1.given ∙ inv.5,
      c.frames-1.given ∙ inv.6,
    )

pub shape_of-carry : goal.shape_of-carry
shape_of-carry c = c.loop-walk.invariant.2

pub shape_of-ends : goal.shape_of-ends
shape_of-ends c = c.loop-walk.invariant.3

pub shape_of-lengths : goal.shape_of-lengths
shape_of-lengths c = c.loop-walk.invariant.4

pub shape_of-kept : goal.shape_of-kept
shape_of-kept c = c.loop-walk.invariant.5

pub shape_of-frames : goal.shape_of-frames
shape_of-frames c = c.loop-walk.invariant.6

pub returns : goal.returns
returns c =
    let a = c.args in
    let all : c.loop-walk.walk.page ≡ a.last + 1 = omega (arith, c.loop-walk.invariant.1, c.loop-walk-test.false) in
    c.loop-walk.invariant.0.best ∙ ap (best_start (readings page_crc) (pages_of a.stream.now) a.position) all
