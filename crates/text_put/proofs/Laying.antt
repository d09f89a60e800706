-- Bytes laid one after the other into a buffer. Assumes nothing.
use mathlib.Core.Path.{◌≡◌, sym, ap, ◌∙◌}
use mathlib.Core.Bool.{true, false}
use mathlib.Core.List.{[], ◌∷◌, ◌++◌}
use Prim.Native.Nat.{ℕ, ◌+◌, ◌≤◌}
use native.Mathlib.Omega.{arith}
use native.Mathlib.Numerals.{add-one, add-two, add-three}
use borrow.Author.Tests.{ltb-true, ltb-false, le-leb, lt-leb}
use lib.Dec.{ltb}
use lib.ListN.{length, set, length-append}
use lib.Seq.{sets, sets-eq, take-length}
use Rattle.octets.specs.Octets.{Bytes, copied}
use Rattle.octets.proofs.Copying.{copied-fits, copied-short, copied-append}
use Rattle.text_put.specs.Writing.{place_after, Put, Laid}

-- a run of stores is a copy
pub stores : (s d : Bytes) (at : ℕ) → at + length s ≤ length d → sets d at s ≡ copied d at s
stores s d at h = sets-eq s d at h ∙ sym (copied-fits d at s h ∙ rw (take-length s))

module _ (d : Bytes) (at : ℕ) where
  pub one_store : (a : ℕ) → at + 1 ≤ length d → set d at a ≡ copied d at (a ∷ [])
  one_store a h = stores (a ∷ []) d at h

  pub two_stores : (a b : ℕ) → at + 2 ≤ length d → set (set d at a) (at + 1) b ≡ copied d at (a ∷ b ∷ [])
  two_stores a b h = rw (add-one at) (stores (a ∷ b ∷ []) d at h)

  pub three_stores : (a b c : ℕ) → at + 3 ≤ length d → set (set (set d at a) (at + 1) b) (at + 2) c ≡ copied d at (a ∷ b ∷ c ∷ [])
  three_stores a b c h = rw (add-one at, add-two at) (stores (a ∷ b ∷ c ∷ []) d at h)

  pub four_stores : (a b c e : ℕ) → at + 4 ≤ length d
      → set (set (set (set d at a) (at + 1) b) (at + 2) c) (at + 3) e ≡ copied d at (a ∷ b ∷ c ∷ e ∷ [])
  four_stores a b c e h = rw (add-one at, add-two at, add-three at) (stores (a ∷ b ∷ c ∷ e ∷ []) d at h)

-- one part after another
pub laid_next : {d e f : Bytes} {at a b : ℕ} {s t : Bytes} → Laid d at s a e → Laid e a t b f → a + length t ≤ length d → Laid d at (s ++ t) b f
laid_next {d} {e} {f} {at} {a} {b} {s} {t} x y h = record {
  place = omega (arith, x.place, y.place, length-append s t);
  output = y.output ∙ ap (λ (l : Bytes). copied l a t) x.output ∙ copied-append d at s t a x.place h;
}

-- a part known in other words
pub laid_as : {d e : Bytes} {at : ℕ} {s t : Bytes} (n : ℕ) → t ≡ s → length s ≡ n → e ≡ copied d at s → Laid d at t (at + n) e
laid_as {d} {e} {at} {s} {t} n same size h = record {
  place = omega (arith, ap length same);
  output = h ∙ ap (copied d at) (sym same);
}

-- a line that fits, and one that does not
pub put_all : {d e : Bytes} {at r : ℕ} {s : Bytes} → ltb (length d) (at + length s) ≡ false → Laid d at s r e → Put d at s r e
unfolding place_after
put_all {d} {e} {at} {r} {s} h x =
    let fits = le-leb (at + length s) (length d) (ltb-false (length d) (at + length s) h) in
    record { place = rw fits x.place; output = x.output }

pub put-none : {d : Bytes} {at : ℕ} {s : Bytes} → ltb (length d) (at + length s) ≡ true → Put d at s at d
unfolding place_after
put-none {d} {at} {s} h =
    let short = ltb-true (length d) (at + length s) h in
    record { place = rw (lt-leb (at + length s) (length d) short); output = sym (copied-short d at s short) }
