-- `check_stream::find_in` meets its contract. The loop's invariant: the walk has come to a page, and the findings from there on are left.
-- Assumes nothing.
use Prim.Native.Nat.{◌-◌}
use mathlib.Core.Path.{◌≡◌, refl, ◌∙◌}
use native.Mathlib.Omega.{arith}
use borrow.Author.Rules.{rules}
use lib.ListN.{length}
use Rattle.stream.specs.Lent.{lent_of}
use Rattle.recording.proofs.Streams.{room-stays}
use Rattle.check_stream.specs.Code.{Walked}
use Rattle.check_stream.proofs.Finding.{Storing, walk_begun, storing_begun, storing_on, storing_end}
use Rattle.check_stream.proofs.find_in.Goals as goal

pub loop-walk-init : goal.loop-walk-init
loop-walk-init c =
    let a = c.args in
    (walk_begun a.stream.now c.begin-walk.result a.carry.now c.begin-walk.ensures, storing_begun a.stream.now c.begin-walk.result a.kinds.now a.pages.now c.begin-walk.ensures, refl, refl, refl, refl, refl)

pub turn-walk-requires : goal.turn-walk-requires
turn-walk-requires c =
    let l = c.loop-walk in
    let a = c.args in
    record {
      tagged = c.requires.tagged;
      walked = l.invariant.0;
      room = room-stays (lent_of a.carry.now a.ends.now a.lengths.now a.kept.now a.frames.now) (lent_of l.carry l.ends l.lengths l.kept l.frames) c.requires.room l.invariant.2 l.invariant.3 l.invariant.4 l.invariant.5 l.invariant.6;
      more = omega arith;
    }

pub put_found-count-requires : goal.put_found-count-requires
put_found-count-requires c =
    let t = c.turn-walk.ensures in
    omega (arith, c.loop-walk.invariant.1.few, t.page, t.walked.few, t.walked.begins.inside)

pub loop-walk-smaller : goal.loop-walk-smaller
loop-walk-smaller c =
    let t = c.turn-walk.ensures in
    omega (arith, t.onward, t.walked.begins.inside)

pub loop-walk-preserved : goal.loop-walk-preserved
loop-walk-preserved c =
    let a = c.args in
    let l = c.loop-walk in
    let turn = c.turn-walk in
    let put = c.put_found-count in (
      turn.ensures.walked,
      storing_on a.stream.now l.walk turn.result turn.new.carry l.count put.result a.kinds.now l.kinds put.new.kinds a.pages.now l.pages put.new.pages
          l.invariant.1 turn.ensures put.ensures c.kinds-1.given c.pages-1.given,
      c.carry-1.given ∙ l.invariant.2,
      c.ends-1.given ∙ l.invariant.3,
      c.lengths-1.given ∙ l.invariant.4,
      c.kept-1.given ∙ l.invariant.5,
      c.frames-1.given ∙ l.invariant.6,
    )

pub shape_of-kinds : goal.shape_of-kinds
shape_of-kinds c = c.loop-walk.invariant.1.kind_size

pub shape_of-pages : goal.shape_of-pages
shape_of-pages c = c.loop-walk.invariant.1.page_size

pub shape_of-carry : goal.shape_of-carry
shape_of-carry c = c.loop-walk.invariant.2

pub shape_of-ends : goal.shape_of-ends
shape_of-ends c = c.loop-walk.invariant.3

pub shape_of-lengths : goal.shape_of-lengths
shape_of-lengths c = c.loop-walk.invariant.4

pub shape_of-kept : goal.shape_of-kept
shape_of-kept c = c.loop-walk.invariant.5

pub shape_of-frames : goal.shape_of-frames
shape_of-frames c = c.loop-walk.invariant.6

pub returns : goal.returns
returns c =
    let l = c.loop-walk in
    let a = c.args in
    storing_end a.stream.now l.walk l.carry l.count a.kinds.now l.kinds a.pages.now l.pages c.requires.tagged.headed.accepted
    l.invariant.0 l.invariant.1 (omega arith)
