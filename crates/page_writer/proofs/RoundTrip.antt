-- Reading what was written gives it back, and writing what was read does. Assumes nothing.
use mathlib.Core.Path.{◌≡◌, refl, sym, ap, ◌∙◌}
use mathlib.Core.Bool.{true}
use mathlib.Core.List.{◌++◌}
use mathlib.Core.Option.{none}
use Prim.Native.Nat.{ℕ, ◌^◌, ◌≤◌, ◌<◌}
use native.Mathlib.Omega.{arith}
use borrow.Author.Tests.{ltb-false, eqb-true, not-false, eq-eqb}
use lib.ListN.{length, get_or, drop, take-append-drop}
use lib.Seq.{take-length, take-append_seam, drop-drop}
use Rattle.octets.specs.Octets.{Bytes, Octets, total}
use Rattle.octets.proofs.Fields.{field, byte}
use Rattle.octets.proofs.Copying.{copied-fits}
use Rattle.refusal.proofs.Checks.{no_refusal, passed}
use Rattle.refusal.specs.Checks.{first_of}
use Rattle.refusal.specs.Told.{gives}
use Rattle.page_crc.specs.Crc.{page_crc}
use Rattle.page_crc.proofs.Page.{page_crc-fits}
use Rattle.page_layout.specs.declared.PageHeader.{PageHeader}
use Rattle.page_layout.specs.Places.{capture_pattern, version_at, flags_at, granule_at, serial_at, sequence_at, checksum_at, count_at, lacing_at}
use Rattle.page_layout.specs.Page.{header_of, checksum_of, count_of, lacing_of, body_of}
use Rattle.page_lacing.proofs.Bodies.{is_body_lem, body-sum}
use Rattle.page_size.specs.Size.{size_of, is_one_page}
use Rattle.page_reader.specs.Reading.{read_checks, read_page}
use Rattle.page_writer.specs.Writing.{page_bytes, page_size, write_checks, write_told, write_out}
use Rattle.page_writer.specs.Statements.{Fit, ReadsAs, ReadsBack, WritesBack}
use Rattle.page_size.proofs.Whole.{capture, captured, version-whole, whole, lacing-length, body-length}
use Rattle.page_reader.proofs.Reading.{right_page}
use Rattle.page_writer.proofs.Writing.{writable}
use Rattle.page_writer.proofs.Written.{page, page-length, page_capture, page-version, page-count, page-lacing, page-body, page-header, page_checksum, page-crc, page-with_checksum}

-- ---- reading what was written

-- what the checks of a writer that wrote have shown
record Sound (h : PageHeader) (l b out : Bytes) : Type 0 where
  clear : first_of (write_checks h l b (length out)) ≡ none
  sum : total l ≡ length b
  room : page_size l b ≤ length out

sound : (h : PageHeader) (l b out : Bytes) (n : ℕ) → write_told h l b out ≡ gives n → Sound h l b out
unfolding write_told
sound h l b out n e =
    let clear = (no_refusal (first_of (write_checks h l b (length out))) (page_size l b) n e).0 in
    let p = passed _ _ _ clear in
    let q = passed _ _ _ p.1 in
    let r = passed _ _ _ q.1 in
    record { clear = clear; sum = body-sum l b (not-false _ p.0); room = ltb-false _ _ r.0 }

-- a page with its own checksum is read
module _ (h : PageHeader) (x : ℕ) (l b : Bytes) (sum : total l ≡ length b) where
  page-size : length (page h x l b) ≡ size_of (page h x l b)
  unfolding size_of
  page-size = rw (page-length h x l b, page-count h x l b, page-lacing h x l b, sum)

  page-one : is_one_page (page h x l b) ≡ true
  unfolding is_one_page
  page-one = rw (page_capture h x l b, page-version h x l b, eq-eqb (length (page h x l b)) (size_of (page h x l b)) page-size)

  page-reads : Fit h → page_crc (page h x l b) ≡ x → x < 2 ^ 32 → ReadsAs (page h x l b) h l b
  page-reads f e less = record {
    header = right_page page_crc (page h x l b) page-one (eq-eqb _ _ (e ∙ sym (page_checksum h x l b less))) ∙ ap gives (page-header h x l b f);
    lacing = page-lacing h x l b;
    body = page-body h x l b;
  }

-- the bytes of a page are
pub bytes_read : (h : PageHeader) (l b : Bytes) → total l ≡ length b → Fit h → ReadsAs (page_bytes h l b) h l b
bytes_read h l b sum f =
    let x : ℕ = page_crc (page h 0 l b) in
    rw (page-with_checksum h l b) (page-reads h x l b sum f (page-crc h x l b) (page_crc-fits (page h 0 l b)))

pub reads-back : ReadsBack
unfolding write_out
reads-back h l b out f e =
    let s = sound h l b out _ e in
    let x : ℕ = page_crc (page h 0 l b) in
    let n : length (page h x l b) ≡ page_size l b = page-length h x l b in
    rw (s.clear, page-with_checksum h l b, copied-fits out 0 (page h x l b) (omega arith), ← n, take-length, take-append_seam)
    (page-reads h x l b s.sum f (page-crc h x l b) (page_crc-fits (page h 0 l b)))

-- ---- writing what was read

-- the bytes of a whole page
module _ (p : Bytes) (one : is_one_page p ≡ true) where
  pub size_same : page_size (lacing_of p) (body_of p) ≡ length p
  unfolding size_of
  size_same = rw (lacing-length p one, body-length p one) (sym (whole p one))

  rebuilt : Octets p → page (header_of p) (checksum_of p) (lacing_of p) (body_of p) ≡ p
  unfolding page header_of lacing_of body_of
  rebuilt o =
      let begins : capture_pattern ++ drop 4 p ≡ p =
      (ap (λ (s : Bytes). s ++ drop 4 p) (sym (capture p (captured p one).0)) ∙ take-append-drop 4 p) in
      let size : lacing_at ≤ length p = omega (arith, size_same) in
      let end : lacing_of p ++ body_of p ≡ drop lacing_at p = rw (← drop-drop (count_of p) lacing_at p) (take-append-drop (count_of p) (drop lacing_at p)) in
      rw (
        end,
        byte count_at (length (lacing_of p)) p (sym (lacing-length p one)) (omega arith),
        field 4 checksum_at p o (omega arith),
        field 4 sequence_at p o (omega arith),
        field 4 serial_at p o (omega arith),
        field 8 granule_at p o (omega arith),
        byte flags_at (get_or p flags_at 0) p refl (omega arith),
        byte version_at 0 p (version-whole p one).0 (omega arith),
        begins,
      )

-- a page with a right checksum is written as it is
pub page-again : (p : Bytes) → Octets p → is_one_page p ≡ true → page_crc p ≡ checksum_of p → page_bytes (header_of p) (lacing_of p) (body_of p) ≡ p
page-again p o one ok =
    let h : PageHeader = header_of p in
    let again : page h (checksum_of p) (lacing_of p) (body_of p) ≡ p = rebuilt p one o in
    let crc : page_crc (page h 0 (lacing_of p) (body_of p)) ≡ checksum_of p =
    (sym (page-crc h (checksum_of p) (lacing_of p) (body_of p)) ∙ ap page_crc again ∙ ok) in
    page-with_checksum h (lacing_of p) (body_of p) ∙ rw crc again

pub writes_back : WritesBack
unfolding write_told write_out read_page
writes_back p out h o e low room =
    let r = no_refusal (first_of (read_checks page_crc p)) (header_of p) h e in
    let a = passed _ _ _ r.0 in
    let one : is_one_page p ≡ true = not-false _ a.0 in
    let ok : page_crc p ≡ checksum_of p = eqb-true _ _ (not-false _ (passed _ _ _ a.1).0) in
    let l : Bytes = lacing_of p in
    let b : Bytes = body_of p in
    let same : page_bytes h l b ≡ p = rw r.1 at (page-again p o one ok) in
    let size : page_size l b ≡ length p = size_same p one in
    let clear : first_of (write_checks h l b (length out)) ≡ none =
    (writable h l b (length out) (is_body_lem l b (omega (arith, o.below count_at, lacing-length p one)) (sym (body-length p one))) low (omega arith)) in
    record { told = rw clear (ap gives size); output = rw (clear, same) }
