-- A page renumbered is the page with its sequence number further on, as long, and passes 3 and 4. Assumes nothing.
use Prim.Native.Nat.{ℕ}
use mathlib.Core.Path.{◌≡◌, refl, sym, ap, ◌∙◌}
use mathlib.Core.Bool.{true}
use mathlib.Core.Option.{none}
use native.Mathlib.Omega.{arith}
use borrow.Author.Tests.{not-false}
use lib.ListN.{length}
use Rattle.octets.specs.Octets.{Bytes, Octets}
use Rattle.refusal.specs.Checks.{first_of}
use Rattle.refusal.proofs.Checks.{no_refusal, passed}
use Rattle.page_crc.specs.Crc.{page_crc}
use Rattle.page_layout.specs.declared.PageHeader.{PageHeader}
use Rattle.page_layout.specs.Page.{header_of, lacing_of, body_of}
use Rattle.page_size.specs.Size.{is_one_page}
use Rattle.page_size.proofs.Whole.{body-length}
use Rattle.page_reader.specs.Reading.{read_checks, read_page}
use Rattle.page_writer.specs.Statements.{Fit, ReadsAs}
use Rattle.page_writer.proofs.Written.{page-length, page-with_checksum}
use Rattle.page_writer.proofs.RoundTrip.{size_same, bytes_read}
use Rattle.page_writer.proofs.Fitting.{header-fit}
use Rattle.stream.specs.Page.{page_of}
use Rattle.stream.specs.Readings.{Readings, readings}
use Rattle.stream.specs.Statements.{page_shifted, BytesShifted}
use Rattle.recording.specs.Statements.{Good}
use Rattle.crop_rules.specs.Crop.{renumbered}

abbrev pub R : Readings
R = readings page_crc

module _ (n : ℕ) (b : Bytes) (o : Octets b) (g : Good R b) where
  one : is_one_page b ≡ true
  unfolding readings
  one = g.page

  abbrev h : PageHeader
  h = (page_shifted n (page_of b)).header

  fit : Fit h
  unfolding page_of
  fit =
      let f = header-fit b o one in
      record { flags = f.flags; granule = f.granule; serial = f.serial; sequence = omega arith }

  reads : ReadsAs (renumbered n b) h (lacing_of b) (body_of b)
  unfolding renumbered
  reads = bytes_read h (lacing_of b) (body_of b) (sym (body-length b one)) fit

  checks : (first_of (read_checks page_crc (renumbered n b)) ≡ none) × (header_of (renumbered n b) ≡ h)
  unfolding read_page
  checks = no_refusal (first_of (read_checks page_crc (renumbered n b))) (header_of (renumbered n b)) h reads.header

  new : Good R (renumbered n b)
  unfolding readings
  new =
      let a = passed _ _ _ checks.0 in
      record { page = not-false _ a.0; checksummed = not-false _ (passed _ _ _ a.1).0 }

  pub shifted-bytes : BytesShifted R n b (renumbered n b)
  unfolding page_of
  shifted-bytes = record {
    page = rw (checks.1, reads.lacing, reads.body) refl;
    is_page = new.page ∙ sym g.page;
    is_checksummed = new.checksummed ∙ sym g.checksummed;
    small = (header-fit b o one).sequence;
  }

  pub same_size : length (renumbered n b) ≡ length b
  unfolding renumbered
  same_size =
      ap length (page-with_checksum h (lacing_of b) (body_of b)) ∙ page-length h _ (lacing_of b) (body_of b) ∙ size_same b one
