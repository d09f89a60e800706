-- `packet_frames::padding_length` meets its contract. The loop's invariant: what is counted and what is left make the whole.
-- Assumes nothing.
use mathlib.Core.Path.{refl, sym, ◌∙◌}
use native.Mathlib.Omega.{arith}
use lib.ListN.{length}
use Rattle.packet_frames.specs.Code.{padding_in}
use Rattle.packet_frames.proofs.CodedLengths.{Padding, padding-cut, padding-ends, padding-over, padding-goes_on, padding-above}
use Rattle.packet_frames.proofs.padding_length.Goals as goal
use Rattle.packet_frames.proofs.padding_length.Goals.{After-wide-v}

turn : (w : After-wide-v)
    → let l = w.loop-place in
    let a = w.args in
    let s = a.s.now in
    Padding s (padding_in s a.at) l.bytes l.place w.wide-v.result
turn w = record { inside = w.loop-place-test.true; byte = w.wide-v.ensures.same; left = w.loop-place.invariant.0 }

pub loop-place-init : goal.loop-place-init
loop-place-init c = (refl, omega arith)

pub bounds-s-place : goal.bounds-s-place
bounds-s-place c = omega arith

pub wide-v-requires : goal.wide-v-requires
wide-v-requires c = tt

pub overflow_add-bytes : goal.overflow_add-bytes
overflow_add-bytes c = omega arith

pub returns-then-s-bytes : goal.returns-then-s-bytes
returns-then-s-bytes c = record { told = padding-over (turn (goal.at.returns-then-s-bytes c).After-wide-v) c.if-v-lt255.true c.if-s-bytes.true; within = tt }

pub overflow_add-result : goal.overflow_add-result
overflow_add-result c = omega arith

pub returns-then-v-lt255 : goal.returns-then-v-lt255
returns-then-v-lt255 c = record { told = padding-ends (turn (goal.at.returns-then-v-lt255 c).After-wide-v) c.if-v-lt255.true c.if-s-bytes.false; within = omega arith }

pub overflow_add-bytes-in-loop-place : goal.overflow_add-bytes-in-loop-place
overflow_add-bytes-in-loop-place c = omega arith

pub returns-then-s-bytes-2 : goal.returns-then-s-bytes-2
returns-then-s-bytes-2 c = record { told = padding-above (turn (goal.at.returns-then-s-bytes-2 c).After-wide-v) c.if-v-lt255.false c.if-s-bytes-2.true; within = tt }

pub loop-place-preserved : goal.loop-place-preserved
loop-place-preserved c = (padding-goes_on (turn (goal.at.loop-place-preserved c).After-wide-v) c.if-v-lt255.false, c.if-s-bytes-2.false)

pub returns : goal.returns
returns c =
    let l = c.loop-place in
    let s = c.args.s.now in
    record { told = sym (padding-cut s (length s) l.bytes l.place c.loop-place-test.false) ∙ l.invariant.0; within = tt }
