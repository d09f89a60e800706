-- When bytes begin with a page that has a right checksum, by the tests on the way. Assumes nothing.
use Prim.Native.Nat.{ℕ, zero, suc, ◌+◌, ◌<◌}
use mathlib.Core.Path.{◌≡◌, refl, sym, ap, ◌∙◌}
use mathlib.Core.Bool.{Bool, true, false, not}
use mathlib.Core.List.{[], ◌∷◌}
use mathlib.Core.Option.{Option, none, some}
use native.Mathlib.Omega.{arith}
use borrow.Author.Tests.{ne_eqb}
use lib.Dec.{ltb}
use lib.ListN.{length, get_or, take}
use lib.Seq.{take-length}
use Rattle.octets.specs.Pick.{pick}
use Rattle.octets.specs.Octets.{Bytes, Octets, begins}
use Rattle.octets.proofs.Parts.{octets-take}
use Rattle.page_layout.specs.Places.{lacing_at}
use Rattle.page_layout.specs.Page.{has_capture, count_of}
use Rattle.page_size.specs.Size.{size_of}
use Rattle.page_size.specs.Extent.{ends_at, unknown, no_start, extent_in, page_extent}
use Rattle.page_size.proofs.Shapes.{no_capture}
use Rattle.page_end.specs.End.{end_in, end_at}
use Rattle.page_end.proofs.Ends.{end-inside}
use Rattle.std.specs.Prelude.{Result, Ok, Err, is_ok}
use Rattle.refusal.specs.declared.Refusal.{Refusal}
use Rattle.refusal.specs.Told.{told}
use Rattle.page_layout.specs.declared.PageHeader.{PageHeader}
use Rattle.page_reader.specs.Reading.{read_page}
use Rattle.page_reader.proofs.Reading.{not_one_page}
use Rattle.salvage_search.specs.Search.{is_good, good_to, starts_page}
use Rattle.salvage_search.specs.Statements.{StartsWhole}

other_byte : (e : ℕ) (s : Bytes) → 0 < e → (get_or s 0 0 ≡ 0x4f → ⊥) → has_capture (take e s) ≡ false
unfolding has_capture begins
other_byte zero s h d = absurd (omega arith)
other_byte (suc e) [] h d = refl
other_byte (suc e) (x ∷ s) h d = rw (ne_eqb 0x4f x (λ q. d (sym q)))

-- the code's answer, and what is told
pub good_told : (r : Result PageHeader Refusal) → is_ok r ≡ is_good (told r)
good_told (Ok h) = refl
good_told (Err why) = refl

module _ (crc : Bytes → ℕ) (s : Bytes) where
  pub starts-cut : end_at s 0 ≡ none → starts_page crc s ≡ false
  unfolding starts_page
  starts-cut h = rw h

  pub starts-whole : {e : ℕ} → end_at s 0 ≡ some e → starts_page crc s ≡ is_good (read_page crc (take e s))
  unfolding starts_page
  starts-whole h = rw h

  -- the first byte is no "O"
  pub starts_otherwise : (get_or s 0 0 ≡ 0x4f → ⊥) → starts_page crc s ≡ false
  starts_otherwise d = by (end_at s 0) refl
    where
      by : (t : Option ℕ) → end_at s 0 ≡ t → starts_page crc s ≡ false
      by none h = starts-cut h
      by (some e) h =
          starts-whole h
          ∙ ap is_good (not_one_page crc (take e s) (no_capture (take e s) (other_byte e s (end-inside s 0 e h).after d)))

pub true-false : {A : Type 0} → true ≡ false → A
true-false e = let z : ◌≡◌ {A = ℕ} 0 1 = cc in absurd (omega arith)

-- where a page starts, it ends where its lacing values say
pub starts-size : StartsWhole
unfolding end_at page_extent extent_in
starts-size crc s h = by (ltb (length s) lacing_at) refl (has_capture s) refl (ltb (length s) (lacing_at + count_of s)) refl (ltb (length s) (0 + size_of s)) refl
  where
    by : (x : Bool) → ltb (length s) lacing_at ≡ x → (y : Bool) → has_capture s ≡ y → (z : Bool) → ltb (length s) (lacing_at + count_of s) ≡ z
        → (w : Bool) → ltb (length s) (0 + size_of s) ≡ w
        → end_in (pick x unknown (pick (not y) no_start (pick z unknown (ends_at (0 + size_of s))))) (length s) ≡ some (size_of s)
    by true a y b z c w d = true-false (sym h ∙ starts-cut crc s (rw a))
    by false a false b z c w d =
        true-false (sym h ∙ starts-whole crc s {e = length s} (rw (a, b)) ∙ ap is_good (not_one_page crc (take (length s) s) (rw take-length (no_capture s b))))
    by false a true b true c w d = true-false (sym h ∙ starts-cut crc s (rw (a, b, c)))
    by false a true b false c true d = true-false (sym h ∙ starts-cut crc s (rw (a, b, c, d)))
    by false a true b false c false d = let z : 0 + size_of s ≡ size_of s = omega arith in rw d (ap some z)

-- two ways of working out a checksum that agree on bytes
module _ (c d : Bytes → ℕ) (agree : (s : Bytes) → Octets s → c s ≡ d s) where
  same-reading : (p : Bytes) → Octets p → read_page c p ≡ read_page d p
  unfolding read_page
  same-reading p o = rw (agree p o)

  pub same_start : (s : Bytes) → Octets s → starts_page c s ≡ starts_page d s
  unfolding starts_page
  same_start s o = by (end_at s 0)
    where
      by : (t : Option ℕ) → good_to c s t ≡ good_to d s t
      by none = refl
      by (some e) = ap is_good (same-reading (take e s) (octets-take e s o))
