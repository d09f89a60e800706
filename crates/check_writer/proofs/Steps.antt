-- The three pages fed one after the other, each accepted. Assumes nothing.
use Prim.Native.Nat.{ℕ, ◌^◌, ◌≤◌, ◌<◌}
use mathlib.Core.Path.{◌≡◌, refl, ap, ◌∙◌}
use mathlib.Core.Bool.{true, false}
use mathlib.Core.List.{[], ◌∷◌}
use mathlib.Core.Option.{none}
use native.Mathlib.Omega.{arith}
use borrow.Author.Tests.{not-false, eq-eqb}
use lib.ListN.{length}
use Rattle.octets.specs.Octets.{Bytes}
use Rattle.limits.specs.Limits.{packet_max}
use Rattle.refusal.specs.Checks.{first_of}
use Rattle.refusal.proofs.Checks.{no_refusal, passed}
use Rattle.page_crc.specs.Crc.{page_crc}
use Rattle.page_layout.specs.declared.PageHeader.{PageHeader}
use Rattle.page_layout.specs.Page.{header_of}
use Rattle.page_lacing.specs.Lacing.{Cut}
use Rattle.page_reader.specs.Reading.{read_checks, read_page}
use Rattle.page_writer.specs.Writing.{page_bytes}
use Rattle.page_writer.specs.Statements.{Fit, ReadsAs}
use Rattle.page_writer.proofs.RoundTrip.{bytes_read}
use Rattle.head_fields.specs.declared.Head.{Head}
use Rattle.granule.specs.declared.Position.{Position}
use Rattle.granule.specs.declared.Position.TheVariants.{Unset, At}
use Rattle.granule.specs.Judging.{granule_wrong}
use Rattle.stream.specs.declared.Phase.{Phase}
use Rattle.stream.specs.declared.Phase.TheVariants.{First, Comment, Audio, Ended}
use Rattle.stream.specs.Page.{Page, page_of, continued, last, whole, rest}
use Rattle.stream.specs.Readings.{Readings, readings}
use Rattle.stream.specs.State.{nothing, State, expecting}
use Rattle.stream.specs.Packets.{Seen, join, seen, audio_packets}
use Rattle.stream.specs.Rules.{wrong_flags, packet_checks, time_checks, next_on, verdict, after}
use Rattle.recording.specs.Judging.{fresh}
use Rattle.demands.proofs.Example.{Reads, verdict-by}
use Rattle.check_writer.specs.Written.{laced_as, page_for}
use Rattle.check_writer.proofs.Laced.{laced_total, laced_cut, laced_unfinished, laced_short, laced_shape}

abbrev pub R : Readings
R = readings page_crc

-- ---- one page of one packet

abbrev pub header_for : ℕ → ℕ → ℕ → ℕ → PageHeader
header_for flags granule serial sequence = record { flags = flags; granule = granule; serial = serial; sequence = sequence }

abbrev pub page_with : PageHeader → Bytes → Page
page_with h b = record { header = h; lacing = laced_as (length b); body = b }

-- what was written reads as it
module _ (h : PageHeader) (b : Bytes) (fit : Fit h) where
  abbrev bytes : Bytes
  bytes = page_bytes h (laced_as (length b)) b

  reads : ReadsAs bytes h (laced_as (length b)) b
  reads = bytes_read h (laced_as (length b)) b (laced_total b) fit

  checks : (first_of (read_checks page_crc bytes) ≡ none) × (header_of bytes ≡ h)
  unfolding read_page
  checks = no_refusal (first_of (read_checks page_crc bytes)) (header_of bytes) h reads.header

  pub page-reads : Reads bytes (page_with h b)
  unfolding readings page_of
  page-reads =
      let a = passed _ _ _ checks.0 in
      record {
        page = rw (checks.1, reads.lacing, reads.body) refl;
        is_page = not-false _ a.0;
        is_checksummed = not-false _ (passed _ _ _ a.1).0;
      }

-- its packet, where nothing is unfinished
abbrev pub one : Bytes → Seen
one b = record { packets = b ∷ []; left = nothing; completes = true }

whole-one : (h : PageHeader) (b : Bytes) → whole (page_with h b) ≡ b ∷ []
unfolding whole
whole-one h b = ap (λ (c : Cut). c.whole) (laced_cut b)

rest-one : (h : PageHeader) (b : Bytes) → rest (page_with h b) ≡ none
unfolding rest
rest-one h b = rw (laced_unfinished b) refl

pub seen_one : (s : State) (h : PageHeader) (b : Bytes) → s.carried ≡ nothing → seen s (page_with h b) ≡ one b
unfolding seen join
seen_one s h b e = rw (e, whole-one h b, rest-one h b) refl

-- ---- the states

abbrev pub state : Phase → Position → ℕ → ℕ → ℕ → ℕ → State
state phase position serial next streams preskip = record {
  phase = phase;
  carried = nothing;
  position = position;
  serial = serial;
  next = next;
  streams = streams;
  preskip = preskip;
}

-- a page is accepted in s, and t follows
pub record Step (s : State) (b : Bytes) (t : State) : Type 0 where
  pub passes : verdict R s b ≡ none
  pub follows : after R s b ≡ t

module _ (serial : ℕ) (small : serial < 2 ^ 32) where
  fit : (flags granule sequence : ℕ) → flags < 2 ^ 8 → granule < 2 ^ 64 → sequence < 2 ^ 32 → Fit (header_for flags granule serial sequence)
  fit flags granule sequence f g q = record { flags = f; granule = g; serial = small; sequence = q }

  -- the identification header
  pub first_step : (h : Head) (b : Bytes) → R.is_head b ≡ true → R.is_mapped b ≡ true → R.head_of b ≡ h → length b ≤ packet_max
      → Step fresh (page_for 2 0 serial 0 b) (state Comment Unset serial 1 h.streams h.preskip)
  unfolding first_of expecting wrong_flags continued last granule_wrong audio_packets packet_checks time_checks next_on after
  first_step h b head mapped is size =
      let p : Page = page_with (header_for 2 0 serial 0) b in
      let k : Reads (page_for 2 0 serial 0 b) p = page-reads (header_for 2 0 serial 0) b (fit 2 0 0 (omega arith) (omega arith) (omega arith)) in
      let s : State = state First Unset serial 0 0 0 in
      record {
        passes =
            verdict-by fresh (page_for 2 0 serial 0 b) p k refl
            ∙ rw (seen_one s (header_for 2 0 serial 0) b refl, eq-eqb serial serial refl, laced_short b size, laced_shape b, head, mapped) refl;
        follows = rw (k.page, seen_one s (header_for 2 0 serial 0) b refl, is) refl;
      }

  -- the comment header
  pub second_step : (h : Head) (b : Bytes) → R.is_tags b ≡ true → length b ≤ packet_max
      → Step (state Comment Unset serial 1 h.streams h.preskip) (page_for 0 0 serial 1 b) (state Audio Unset serial 2 h.streams h.preskip)
  unfolding first_of expecting wrong_flags continued last granule_wrong audio_packets packet_checks time_checks next_on after
  second_step h b tags size =
      let p : Page = page_with (header_for 0 0 serial 1) b in
      let k : Reads (page_for 0 0 serial 1 b) p = page-reads (header_for 0 0 serial 1) b (fit 0 0 1 (omega arith) (omega arith) (omega arith)) in
      let s : State = state Comment Unset serial 1 h.streams h.preskip in
      record {
        passes =
            verdict-by s (page_for 0 0 serial 1 b) p k refl
            ∙ rw (seen_one s (header_for 0 0 serial 1) b refl, eq-eqb serial serial refl, laced_short b size, laced_shape b, tags) refl;
        follows = rw (k.page, seen_one s (header_for 0 0 serial 1) b refl) refl;
      }

  -- the audio packet
  pub third_step : (h : Head) (b : Bytes) → h.preskip ≡ 312 → R.is_legal h.streams b ≡ true → R.is_mixed h.streams b ≡ false → length b ≤ packet_max
      → Step (state Audio Unset serial 2 h.streams h.preskip) (page_for 4 960 serial 2 b) (state Ended (At 960) serial 3 h.streams h.preskip)
  unfolding first_of expecting wrong_flags continued last granule_wrong audio_packets packet_checks time_checks next_on after
  third_step h b skip legal alike size =
      let p : Page = page_with (header_for 4 960 serial 2) b in
      let k : Reads (page_for 4 960 serial 2 b) p = page-reads (header_for 4 960 serial 2) b (fit 4 960 2 (omega arith) (omega arith) (omega arith)) in
      let s : State = state Audio Unset serial 2 h.streams h.preskip in
      record {
        passes =
            verdict-by s (page_for 4 960 serial 2 b) p k refl
            ∙ rw (seen_one s (header_for 4 960 serial 2) b refl, eq-eqb serial serial refl, laced_short b size, legal, alike, skip) refl;
        follows = rw (k.page, seen_one s (header_for 4 960 serial 2) b refl) refl;
      }
