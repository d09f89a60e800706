-- Laws of `copied`: when it is a paste and when nothing, its length, and copies that follow each other. Assumes nothing.
use mathlib.Core.Path.{◌≡◌, refl, sym, ap, ap₂, ◌∙◌}
use mathlib.Core.Bool.{Bool, true, false}
use mathlib.Core.List.{◌++◌, append_assoc}
use Prim.Native.Nat.{ℕ, ◌+◌, ◌≤◌, ◌<◌}
use native.Mathlib.Nat.{le_refl}
use native.Mathlib.Omega.{arith}
use borrow.Author.Tests.{le-leb, lt-leb, leb-true}
use lib.ListN.{length, take, drop, length-append, length-drop}
use lib.Seq.{paste, length-paste, take-paste, drop-paste, take-length, take_at, drop_at, drop-drop}
use lib.Dec.{leb}
use Rattle.octets.specs.Pick.{pick}
use Rattle.octets.specs.Octets.{Bytes, copied}

pub copied-fits : (d : Bytes) (at : ℕ) (s : Bytes) → at + length s ≤ length d → copied d at s ≡ paste d at s (length s)
unfolding copied
copied-fits d at s h = simp (le-leb (at + length s) (length d) h)

pub copied-short : (d : Bytes) (at : ℕ) (s : Bytes) → length d < at + length s → copied d at s ≡ d
unfolding copied
copied-short d at s h = simp (lt-leb (at + length s) (length d) h)

pub length-copied : (d : Bytes) (at : ℕ) (s : Bytes) → length (copied d at s) ≡ length d
unfolding copied
length-copied d at s = by (leb (at + length s) (length d)) refl
  where
    by : (t : Bool) → leb (at + length s) (length d) ≡ t → length (pick t (paste d at s (length s)) d) ≡ length d
    by true e = length-paste d at s (length s) (leb-true (at + length s) (length d) e) (le_refl (length s))
    by false e = refl

-- a is written, and the rest of d is as it was: s goes in after it
pub copied_next : (d a s : Bytes) → length a + length s ≤ length d
    → copied (a ++ drop (length a) d) (length a) s ≡ (a ++ s) ++ drop (length (a ++ s)) d
copied_next d a s h =
    let r : Bytes = drop (length a) d in
    let size : length (a ++ r) ≡ length d = simp (length-append, length-drop) (omega arith) in
    let past : drop (length s) (drop (length a) (a ++ r)) ≡ drop (length (a ++ s)) d =
    (simp (drop_at a r (length a) refl, drop-drop (length s) (length a) d, length-append a s)) in
    copied-fits (a ++ r) (length a) s (omega arith)
    ∙ simp (take_at a r (length a) refl, take-length s, ← drop-drop (length s) (length a) (a ++ r), past)

-- a is copied to a place, and s right after it
pub copied-append : (d : Bytes) (at : ℕ) (a s : Bytes) (k : ℕ) → k ≡ at + length a → k + length s ≤ length d
    → copied (copied d at a) k s ≡ copied d at (a ++ s)
copied-append d at a s k e h =
    let p : Bytes = paste d at a (length a) in
    let fits : at + length a ≤ length d = omega arith in
    let size : length p ≡ length d = length-paste d at a (length a) fits (le_refl (length a)) in
    let both : length (a ++ s) ≡ length a + length s = length-append a s in
    let place : at + length a + length s ≡ at + length (a ++ s) = omega (arith, both) in
    let front : take k p ≡ take at d ++ a =
    (rw e (take-paste d at a (length a) (omega arith) (le_refl (length a)) ∙ ap (λ (l : Bytes). take at d ++ l) (take-length a))) in
    let behind : drop (k + length s) p ≡ drop (at + length (a ++ s)) d =
    (sym (drop-drop (length s) k p)
    ∙ ap (drop (length s)) (rw e (drop-paste d at a (length a) (omega arith) (le_refl (length a))))
    ∙ drop-drop (length s) (at + length a) d
    ∙ ap (λ (m : ℕ). drop m d) place) in
    ap (λ (b : Bytes). copied b k s) (copied-fits d at a fits)
    ∙ copied-fits p k s (omega arith)
    ∙ ap₂ (λ (x y : Bytes). x ++ take (length s) s ++ y) front behind
    ∙ (simp (take-length s, take-length (a ++ s), append_assoc))
    ∙ sym (copied-fits d at (a ++ s) (omega (arith, both)))
