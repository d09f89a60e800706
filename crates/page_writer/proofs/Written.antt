-- The bytes of a written page: where each field is, how long the page is, and its checksum. Assumes nothing.
use mathlib.Core.Path.{◌≡◌, refl, sym, ◌∙◌}
use mathlib.Core.Bool.{true}
use mathlib.Core.List.{◌∷◌, ◌++◌}
use Prim.Native.Nat.{ℕ, ◌^◌, ◌<◌}
use native.Mathlib.Omega.{arith}
use lib.ListN.{length, length-append}
use lib.Seq.{take-append_seam, drop-append_seam, drop-drop}
use Rattle.octets.specs.Octets.{Bytes}
use Rattle.octets.specs.Numbers.{octets, number}
use Rattle.octets.proofs.Numbers.{length-octets, value-octets}
use Rattle.octets.proofs.Copying.{copied-fits}
use Rattle.octets.proofs.Beginnings.{begins-append}
use Rattle.page_crc.specs.Crc.{page_crc}
use Rattle.page_crc.proofs.Page.{page_crc-same}
use Rattle.page_layout.specs.declared.PageHeader.{PageHeader}
use Rattle.page_layout.specs.Places.{capture_pattern, checksum_at, lacing_at}
use Rattle.page_layout.specs.Page.{has_capture, version_of, header_of, checksum_of, count_of, lacing_of, body_of}
use Rattle.page_writer.specs.Writing.{start_of, with_checksum, page_bytes, page_size}
use Rattle.page_writer.specs.Statements.{Fit}

-- the page of these fields, lacing values and body, with the checksum x
unfoldable pub page : PageHeader → ℕ → Bytes → Bytes → Bytes
page h x l b =
    capture_pattern ++ (0 ∷ h.flags
    ∷ (octets 8 h.granule ++ (octets 4 h.serial ++ (octets 4 h.sequence ++ (octets 4 x ++ (length l ∷ (l ++ b)))))))

-- a header by its fields
same : (h : PageHeader) {g s q : ℕ} → g ≡ h.granule → s ≡ h.serial → q ≡ h.sequence
    → ◌≡◌ {A = PageHeader} (record { flags = h.flags; granule = g; serial = s; sequence = q }) h
same h g s q = rw (g, s, q)

module _ (h : PageHeader) (x : ℕ) (l b : Bytes) where
  pub page-length : length (page h x l b) ≡ page_size l b
  unfolding page octets
  page-length = simp length-append (omega arith)

  pub page_capture : has_capture (page h x l b) ≡ true
  unfolding page has_capture
  page_capture = begins-append capture_pattern _

  pub page-version : version_of (page h x l b) ≡ 0
  unfolding page
  page-version = refl

  pub page-count : count_of (page h x l b) ≡ length l
  unfolding page octets
  page-count = refl

  pub page-lacing : lacing_of (page h x l b) ≡ l
  unfolding page octets lacing_of
  page-lacing = take-append_seam l b

  pub page-body : body_of (page h x l b) ≡ b
  unfolding page octets body_of
  page-body = sym (drop-drop (length l) lacing_at (page h x l b)) ∙ drop-append_seam l b

  pub page-header : Fit h → header_of (page h x l b) ≡ h
  unfolding page octets header_of number
  page-header f =
      same h (value-octets 8 h.granule f.granule) (value-octets 4 h.serial f.serial) (value-octets 4 h.sequence f.sequence)

  pub page_checksum : x < 2 ^ 32 → checksum_of (page h x l b) ≡ x
  unfolding page octets number
  page_checksum less = value-octets 4 x less

  -- whatever its field holds
  pub page-crc : page_crc (page h x l b) ≡ page_crc (page h 0 l b)
  unfolding page octets
  page-crc = page_crc-same (page h 0 l b) (octets 4 x) (omega arith) (length-octets 4 x)

pub page-with_checksum : (h : PageHeader) (l b : Bytes) → page_bytes h l b ≡ page h (page_crc (page h 0 l b)) l b
unfolding page octets page_bytes start_of with_checksum
page-with_checksum h l b = copied-fits (page h 0 l b) checksum_at (octets 4 (page_crc (page h 0 l b))) (omega arith)
