-- The search from a place on: a page starts there, or it goes on after it. Assumes nothing.
use Prim.Native.Nat.{ℕ, suc, ◌+◌, ◌≤◌, ◌<◌, min}
use mathlib.Core.Path.{◌≡◌, refl, ap, ◌∙◌, sym}
use mathlib.Core.Bool.{Bool, true, false}
use mathlib.Core.List.{[], ◌∷◌}
use native.Mathlib.Numerals.{add-one}
use native.Mathlib.Omega.{arith}
use lib.Dec.{leb}
use borrow.Author.Tests.{leb-true, leb-false}
use lib.ListN.{length, drop, drop_of_length-le}
use lib.Seq.{drop-cons}
use Rattle.octets.specs.Pick.{pick}
use Rattle.octets.specs.Octets.{Bytes, Octets}
use Rattle.octets.proofs.Parts.{octets-drop}
use Rattle.salvage_search.specs.Search.{starts_page, next_from, next_page}
use Rattle.salvage_search.proofs.Starting.{same_start}

module _ (crc : Bytes → ℕ) (b : Bytes) where
  step : (at : ℕ) → at < length b
      → next_from crc at (drop at b) ≡ pick (starts_page crc (drop at b)) at (next_from crc (at + 1) (drop (at + 1) b))
  unfolding next_from
  step at h = rw (add-one at, drop-cons b at 0 h)

  pub found : (at : ℕ) → at < length b → starts_page crc (drop at b) ≡ true → next_from crc at (drop at b) ≡ at
  found at h s = step at h ∙ ap (λ (t : Bool). pick t at (next_from crc (at + 1) (drop (at + 1) b))) s

  pub goes_on : (at : ℕ) → at < length b → starts_page crc (drop at b) ≡ false
      → next_from crc at (drop at b) ≡ next_from crc (at + 1) (drop (at + 1) b)
  goes_on at h s = step at h ∙ ap (λ (t : Bool). pick t at (next_from crc (at + 1) (drop (at + 1) b))) s

  pub over : (at : ℕ) → length b ≤ at → next_from crc at (drop at b) ≡ at
  unfolding next_from
  over at h = rw (drop_of_length-le b h)

  -- where the search begins
  pub begins : (from : ℕ) → next_from crc (min from (length b)) (drop (min from (length b)) b) ≡ next_page crc b from
  unfolding next_page
  begins from = by (leb from (length b)) refl
    where
      by : (t : Bool) → leb from (length b) ≡ t
          → next_from crc (min from (length b)) (drop (min from (length b)) b) ≡ next_from crc (min from (length b)) (drop from b)
      by true h =
          let l : from ≤ length b = leb-true from (length b) h in
          let same : min from (length b) ≡ from = omega arith in
          ap (λ (k : ℕ). next_from crc (min from (length b)) (drop k b)) same
      by false h =
          let l : length b < from = leb-false from (length b) h in
          ap (next_from crc (min from (length b))) (drop_of_length-le b {i = min from (length b)} (omega arith) ∙ sym (drop_of_length-le b {i = from} (omega arith)))

-- two ways of working out a checksum that agree on bytes
module _ (c d : Bytes → ℕ) (agree : (s : Bytes) → Octets s → c s ≡ d s) where
  same_from : (at : ℕ) (s : Bytes) → Octets s → next_from c at s ≡ next_from d at s
  unfolding next_from
  same_from at [] o = refl
  same_from at (x ∷ s) o = rw (same_start c d agree (x ∷ s) o, same_from (suc at) s (octets-drop 1 (x ∷ s) o))

  pub same_next : (b : Bytes) (from : ℕ) → Octets b → next_page c b from ≡ next_page d b from
  unfolding next_page
  same_next b from o = same_from (min from (length b)) (drop from b) (octets-drop from b o)
