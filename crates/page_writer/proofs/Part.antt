-- Bytes written to a part of an output, from a place to its end. Assumes nothing.
use Prim.Native.Nat.{ℕ, ◌+◌, ◌-◌, ◌≤◌}
use mathlib.Core.Path.{◌≡◌, sym, ap, ◌∙◌}
use mathlib.Core.List.{[], ◌++◌, append_assoc, append-nil}
use native.Mathlib.Omega.{arith}
use borrow.Rule.Slice.PartMut.{mid_of, post_of, put_mid}
use lib.ListN.{length, take, drop, length-drop, drop_of_length-le}
use lib.Seq.{take_all, drop-drop}
use Rattle.octets.specs.Octets.{Bytes, copied}
use Rattle.octets.proofs.Copying.{copied-fits}

copied_in_part : (d : Bytes) (at : ℕ) (s : Bytes) → at + length s ≤ length d → take at d ++ copied (drop at d) 0 s ≡ copied d at s
copied_in_part d at s h =
    let room : 0 + length s ≤ length (drop at d) = omega (arith, length-drop at d) in
    let z : at + (0 + length s) ≡ at + length s = omega arith in
    ap (λ (x : Bytes). take at d ++ x) (copied-fits (drop at d) 0 s room)
    ∙ ap (λ (x : Bytes). take at d ++ (take (length s) s ++ x)) (drop-drop (0 + length s) at d ∙ ap (λ (k : ℕ). drop k d) z)
    ∙ sym (append_assoc (take at d) (take (length s) s) (drop (at + length s) d))
    ∙ sym (copied-fits d at s h)

-- the part from a place on
pub part_from : (d : Bytes) (at : ℕ) → mid_of at (length d - at) d ≡ drop at d
part_from d at = take_all (length d - at) (drop at d) (omega (arith, length-drop at d))

-- ys is that part with s at its start
pub in_part : (d : Bytes) (at : ℕ) (s ys : Bytes) → at + length s ≤ length d → ys ≡ copied (mid_of at (length d - at) d) 0 s
    → put_mid at (length d - at) d ys ≡ copied d at s
in_part d at s ys room e =
    let post : post_of at (length d - at) d ≡ [] = drop_of_length-le (drop at d) {i = length d - at} (omega (arith, length-drop at d)) in
    ap (λ (x : Bytes). take at d ++ (ys ++ x)) post ∙ ap (λ (x : Bytes). take at d ++ x) (append-nil ys)
    ∙ ap (λ (x : Bytes). take at d ++ x) (e ∙ ap (λ (x : Bytes). copied x 0 s) (part_from d at))
    ∙ copied_in_part d at s room
