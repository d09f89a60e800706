-- `text_escape::fits_within` meets its contract. The loop's invariant: what is left of the text and of the room decides. Assumes nothing.
use mathlib.Core.Path.{refl, sym, ap, ◌∙◌}
use Prim.Native.Nat.{◌+◌, ◌-◌}
use native.Mathlib.Omega.{arith}
use lib.Dec.{leb}
use lib.ListN.{length, get_or, drop}
use borrow.Author.Tests.{le-leb}
use Rattle.octets.specs.Octets.{Bytes}
use Rattle.text_escape.specs.Escape.{image_of, is_shown, escaped_from, escaped}
use Rattle.text_escape.proofs.Escaping.{one_more, no_more, no_room, room_behind}
use Rattle.text_escape.proofs.fits_within.Goals as goal

pub loop-i-init : goal.loop-i-init
unfolding escaped
loop-i-init c = refl

pub returns-then-left-size : goal.returns-then-left-size
returns-then-left-size c =
    let s = c.args.s.now in
    let l = c.loop-i in
    let n = c.bytes_shown-n.result in
    let size = c.image_length-size.ensures in
    let split = one_more s l.i l.k n (omega arith) c.bytes_shown-n.ensures in
    sym (no_room (image_of (is_shown n) (get_or s l.i 0)) _ l.left (omega (arith, size))) ∙ ap (λ (t : Bytes). leb (length t) l.left) (sym split) ∙ l.invariant

pub loop-i-preserved : goal.loop-i-preserved
loop-i-preserved c =
    let s = c.args.s.now in
    let l = c.loop-i in
    let n = c.bytes_shown-n.result in
    let size = c.image_length-size.ensures in
    let split = one_more s l.i l.k n (omega arith) c.bytes_shown-n.ensures in
    let behind = room_behind (image_of (is_shown n) (get_or s l.i 0)) (escaped_from (n - 1) (drop (l.i + 1) s)) l.left (omega (arith, size)) in
    rw (c.saturating_sub-k.ensures, size) (behind ∙ ap (λ (t : Bytes). leb (length t) l.left) (sym split) ∙ l.invariant)

pub returns : goal.returns
returns c =
    let none = no_more c.args.s.now c.loop-i.i c.loop-i.k (omega arith) in
    sym (le-leb 0 c.loop-i.left (omega arith)) ∙ ap (λ (t : Bytes). leb (length t) c.loop-i.left) (sym none) ∙ c.loop-i.invariant
