-- `text_escape::lay_escaped` meets its contract. The loop's invariant: what is left of the text. Assumes nothing.
use Prim.Native.Nat.{◌+◌, ◌-◌}
use native.Mathlib.Omega.{arith}
use lib.ListN.{get_or, drop, length-append}
use Rattle.text_escape.specs.Escape.{image_of, is_shown, escaped_from, escaped}
use Rattle.text_put.proofs.Filling.{filling_first, filling_next, filling_done}
use Rattle.text_escape.proofs.Escaping.{one_more, no_more}
use Rattle.text_escape.proofs.lay_escaped.Goals as goal

pub loop-i-init : goal.loop-i-init
unfolding escaped
loop-i-init c = filling_first _ _ _

pub put_image-place-requires : goal.put_image-place-requires
put_image-place-requires c =
    let s = c.args.s.now in
    let l = c.loop-i in
    let n = c.bytes_shown-n.result in
    let split = rw (one_more s l.i l.k n (omega arith) c.bytes_shown-n.ensures) at l.invariant in
    let both = length-append (image_of (is_shown n) (get_or s l.i 0)) (escaped_from (n - 1) (drop (l.i + 1) s)) in
    omega (arith, both, split.place, split.size, c.requires)

pub loop-i-preserved : goal.loop-i-preserved
loop-i-preserved c =
    let s = c.args.s.now in
    let l = c.loop-i in
    let split = rw (one_more s l.i l.k c.bytes_shown-n.result (omega arith) c.bytes_shown-n.ensures) at l.invariant in
    rw c.saturating_sub-k.ensures (filling_next split c.put_image-place.ensures c.requires)

pub shape_of-out : goal.shape_of-out
shape_of-out c = c.loop-i.invariant.size

pub returns : goal.returns
returns c =
    filling_done (rw (no_more c.args.s.now c.loop-i.i c.loop-i.k (omega arith)) at c.loop-i.invariant) c.requires
