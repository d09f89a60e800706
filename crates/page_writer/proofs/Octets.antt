-- What is written of bytes is bytes. Assumes nothing.
use Prim.Native.Nat.{ℕ, zero, suc, ◌+◌, ◌<◌}
use mathlib.Core.Bool.{Bool, true, false}
use mathlib.Core.List.{[], ◌∷◌, ◌++◌}
use lib.Dec.{leb, lit<}
use lib.ListN.{length, get_or, take, drop}
use lib.Seq.{paste}
use Rattle.octets.specs.Pick.{pick}
use Rattle.octets.specs.Octets.{Bytes, Octets, copied}
use Rattle.octets.specs.Numbers.{octets}
use Rattle.octets.proofs.Numbers.{octets-below}
use Rattle.octets.proofs.Parts.{octets-tail, octets-take, octets-drop}
use Rattle.page_crc.specs.Crc.{page_crc}
use Rattle.page_layout.specs.declared.PageHeader.{PageHeader}
use Rattle.page_layout.specs.Places.{capture_pattern, checksum_at}
use Rattle.page_writer.specs.Writing.{with_checksum, start_of, page_bytes}

-- ---- lists of bytes

append-below : (s t : Bytes) → Octets s → Octets t → (i : ℕ) → get_or (s ++ t) i 0 < 256
append-below [] t o p i = p.below i
append-below (b ∷ s) t o p zero = o.below 0
append-below (b ∷ s) t o p (suc i) = append-below s t (octets-tail o) p i

pub octets-append : (s t : Bytes) → Octets s → Octets t → Octets (s ++ t)
octets-append s t o p = record { below = append-below s t o p }

pub octets_cons : (x : ℕ) (s : Bytes) → x < 256 → Octets s → Octets (x ∷ s)
octets_cons x s h o = record { below = at }
  where
    at : (i : ℕ) → get_or (x ∷ s) i 0 < 256
    at zero = h
    at (suc i) = o.below i

pub octets-none : Octets []
octets-none = record { below = λ (i : ℕ). lit< tt }

pub octets-copied : (d : Bytes) (at : ℕ) (s : Bytes) → Octets d → Octets s → Octets (copied d at s)
unfolding copied
octets-copied d at s o p = by (leb (at + length s) (length d))
  where
    by : (t : Bool) → Octets (pick t (paste d at s (length s)) d)
    by true =
        octets-append (take at d ++ take (length s) s) (drop (at + length s) d)
        (octets-append (take at d) (take (length s) s) (octets-take at d o) (octets-take (length s) s p)) (octets-drop (at + length s) d o)
    by false = o

-- ---- a page

module _ (h : PageHeader) (low : h.flags < 256) where
  start-octets : (n : ℕ) → n < 256 → Octets (start_of h n)
  unfolding start_of
  start-octets n small =
      let flags : Octets (h.flags ∷ []) = octets_cons h.flags [] low octets-none in
      let begin : Octets (0 ∷ h.flags ∷ []) = octets_cons 0 (h.flags ∷ []) (lit< tt) flags in
      let capture : Octets capture_pattern =
      (octets_cons 0x4f _ (lit< tt) (octets_cons 0x67 _ (lit< tt) (octets_cons 0x67 _ (lit< tt) (octets_cons 0x53 [] (lit< tt) octets-none)))) in
      let granule = octets-append _ _ (octets-append _ _ capture begin) (octets-below 8 h.granule) in
      let serial = octets-append _ _ granule (octets-below 4 h.serial) in
      let sequence = octets-append _ _ serial (octets-below 4 h.sequence) in
      let checksum = octets-append _ _ sequence (octets-below 4 0) in
      octets-append _ _ checksum (octets_cons n [] small octets-none)

  pub page-octets : (l b : Bytes) → length l < 256 → Octets l → Octets b → Octets (page_bytes h l b)
  unfolding page_bytes with_checksum
  page-octets l b small o p =
      octets-copied (start_of h (length l) ++ l ++ b) checksum_at (octets 4 (page_crc (start_of h (length l) ++ l ++ b)))
      (octets-append _ _ (octets-append _ _ (start-octets (length l) small) o) p) (octets-below 4 _)
