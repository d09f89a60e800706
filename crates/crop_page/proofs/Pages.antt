-- The tests of a page's marks and lacing values in turn, and a page's fields with its number less. Assumes nothing.
use Rattle.refusal.specs.declared.Refusal.{Refusal}
use Rattle.std.specs.Prelude.{Result, Ok, Err}
use Rattle.std.proofs.Common.{◌≡◌, ℕ, ◌+◌, ◌-◌, ◌%◌, ◌^◌, ◌<◌, true, false, not, arith}
use Rattle.octets.specs.Octets.{Bytes}
use Rattle.page_flags.specs.Flags.{is_continued, is_last_page}
use Rattle.page_layout.specs.declared.PageHeader.{PageHeader}
use Rattle.page_layout.specs.Page.{header_of, lacing_of, body_of}
use Rattle.page_writer.specs.Writing.{WroteAny}
use Rattle.stream.specs.Page.{page_of, continued, last, ends, completes}
use Rattle.stream.specs.Statements.{shifted}
use Rattle.crop_rules.specs.Crop.{may_begin, back}
use Rattle.crop_page.specs.Renumbering.{WroteBack}

module _ (p : Bytes) where
  pub if_continued : is_continued (header_of p).flags ≡ true → false ≡ may_begin (page_of p)
  unfolding may_begin continued page_of
  if_continued e = rw e

  pub if_none_ends : is_continued (header_of p).flags ≡ false → ends (lacing_of p) ≡ false → false ≡ may_begin (page_of p)
  unfolding may_begin continued completes page_of
  if_none_ends e f = rw (e, f)

  pub if_one_ends : is_continued (header_of p).flags ≡ false → ends (lacing_of p) ≡ true
      → not (is_last_page (header_of p).flags) ≡ may_begin (page_of p)
  unfolding may_begin continued completes last page_of
  if_one_ends e f = rw (e, f)

-- a number that d added to wraps back to q
moved_back : (q d r : ℕ) → q < 2 ^ 32 → d < 2 ^ 32 → r < 2 ^ 32 → (r + d) % 2 ^ 32 ≡ q → r ≡ shifted (back d) q
moved_back q d r a b c e = omega arith

-- the answer of writing these fields
pub wrote_back : (p : Bytes) (h : PageHeader) (l body : Bytes) (d r : ℕ) (out : Bytes) (w : Result ℕ Refusal) (end : Bytes)
    → h ≡ header_of p → l ≡ lacing_of p → body ≡ body_of p → h.sequence < 2 ^ 32 → d < 2 ^ 32 → r < 2 ^ 32
    → (r + d) % 2 ^ 32 ≡ h.sequence
    → WroteAny (record { flags = h.flags; granule = h.granule; serial = h.serial; sequence = r }) l body out w end
    → WroteBack d p out w end
unfolding page_of
wrote_back p h l body d r out w end header lacing rest a b c e is =
    rw (moved_back h.sequence d r a b c e, lacing, rest, header) at is
