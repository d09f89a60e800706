-- The example's pages are accepted as they should be. Assumes nothing.
use Prim.Native.Nat.{ℕ, ◌^◌, ◌≤◌}
use native.Mathlib.Nat.{le_of_eq}
use mathlib.Core.Path.{◌≡◌, refl, sym, ap, subst, ◌∙◌}
use mathlib.Core.Bool.{Bool, true, false, not, ◌&&◌}
use mathlib.Core.List.{List, [], ◌∷◌, ◌++◌}
use mathlib.Core.Option.{none}
use borrow.Author.Tests.{not-false, ltb-true}
use lib.Dec.{ltb, eqb}
use lib.ListN.{length, drop, replicate, length-replicate}
use Rattle.octets.specs.Octets.{Bytes, total, begins}
use Rattle.octets.specs.Numbers.{value, number}
use Rattle.octets.proofs.Tests.{both}
use Rattle.refusal.specs.declared.Refusal.TheVariants.{NotOnePage, WrongChecksum}
use Rattle.refusal.specs.Checks.{Check, ◌when◌, first_of}
use Rattle.refusal.specs.Told.{gives}
use Rattle.refusal.proofs.Checks.{no_refusal, passed}
use Rattle.page_crc.specs.Crc.{page_crc}
use Rattle.page_layout.specs.declared.PageHeader.{PageHeader}
use Rattle.page_layout.specs.Page.{has_capture, header_of, checksum_of}
use Rattle.page_size.specs.Size.{is_one_page}
use Rattle.page_lacing.specs.Lacing.{ended_from, unfinished_from, cut_from, is_body}
use Rattle.page_reader.specs.Reading.{read_checks, read_page}
use Rattle.page_writer.specs.Writing.{page_size, write_told}
use Rattle.page_writer.specs.Statements.{Fit, ReadsAs}
use Rattle.page_writer.proofs.RoundTrip.{reads-back}
use Rattle.head_reader.specs.Fields.{streams_of, coupled_of, indices_of, places, head_of as fields_of}
use Rattle.head_families.specs.Families.{allowed_channels}
use Rattle.head_fields.specs.Right.{right_length, right_indices, right_streams, right_mapping}
use Rattle.head_reader.specs.Reading.{length_of, is_head}
use Rattle.utf8.specs.Characters.{utf8_from, utf8}
use Rattle.tags_layout.specs.Layout.{fits_at, all_fit, texts_from, place_after, is_laid_out, tags_of}
use Rattle.tags_rules.specs.Right.{all_right, occurrences, right_comments}
use Rattle.tags_reader.specs.Right.{right_tags, is_tags}
use Rattle.packet_toc.specs.Toc.{config_samples, frame_samples}
use Rattle.packet_frames.specs.Frames.{coded, coded_times, padding_from}
use Rattle.packet_frames.specs.Packet.{counted_shape, shape_of, parse}
use Rattle.packet_reader.specs.Streams.{measured_of, all_are}
use Rattle.granule.specs.declared.Position.{Position}
use Rattle.granule.specs.declared.Position.TheVariants.{Unset, Joined, At}
use Rattle.granule.specs.Judging.{granule_wrong, from}
use Rattle.stream.specs.declared.Phase.{Phase}
use Rattle.stream.specs.declared.Phase.TheVariants.{Comment, Audio, Opened, Ended}
use Rattle.stream.specs.Page.{Page, page_of, continued, last, whole, rest}
use Rattle.stream.specs.Readings.{readings}
use Rattle.stream.specs.State.{Carried, nothing, dropped, held, State, is_ended, expecting}
use Rattle.stream.specs.Packets.{Seen, join, seen, any_long, long_from, after_first, audio_packets, measures_of, samples_of}
use Rattle.limits.specs.Limits.{packet_max}
use Rattle.stream.specs.Shape.{shape_from, shape_of as pageShape}
use Rattle.stream.specs.Rules.{wrong_flags, field_checks, lacing_checks, header_checks, packet_checks, time_checks, checks_on, Stamp, stamps, start_on, stamps_on, next_on, verdict, after, stamped}
use Rattle.demands.specs.Example.{R, head_page, tags_page, first_page, middle_page, hole_page, last_page, shifted_page, written, Planned, follow, first_plan, second_plan, room}
use Rattle.stream.specs.Feed.{start}
use Rattle.stream.proofs.Theorem1.{fresh}
use Rattle.demands.proofs.Plan.{is_some, Goes, wanted, Followed, followed}

-- ---- what was written reads as the page

pub record Reads (b : Bytes) (p : Page) : Type 0 where
  pub page : page_of b ≡ p
  pub is_page : R.is_page b ≡ true
  pub is_checksummed : R.is_checksummed b ≡ true

-- the fields' widths hold the numbers
abbrev fits_in : PageHeader → Bool
fits_in h = ltb h.flags (2 ^ 8) && (ltb h.granule (2 ^ 64) && (ltb h.serial (2 ^ 32) && ltb h.sequence (2 ^ 32)))

fit : (h : PageHeader) → fits_in h ≡ true → Fit h
fit h e =
    let a = both (ltb h.flags (2 ^ 8)) (ltb h.granule (2 ^ 64) && (ltb h.serial (2 ^ 32) && ltb h.sequence (2 ^ 32))) e in
    let b = both (ltb h.granule (2 ^ 64)) (ltb h.serial (2 ^ 32) && ltb h.sequence (2 ^ 32)) a.1 in
    let c = both (ltb h.serial (2 ^ 32)) (ltb h.sequence (2 ^ 32)) b.1 in
    record {
      flags = ltb-true h.flags (2 ^ 8) a.0;
      granule = ltb-true h.granule (2 ^ 64) b.0;
      serial = ltb-true h.serial (2 ^ 32) c.0;
      sequence = ltb-true h.sequence (2 ^ 32) c.1;
    }

-- an output that the page just fits
abbrev output : Page → Bytes
output p = replicate (page_size p.lacing p.body) 0

pub reads : (p : Page) → fits_in p.header ≡ true → write_told p.header p.lacing p.body (output p) ≡ gives (page_size p.lacing p.body)
    → Reads (written p) p
unfolding readings page_of read_page written
reads p fits told =
    let k : ReadsAs (written p) p.header p.lacing p.body = reads-back p.header p.lacing p.body (output p)
    (fit p.header fits) told in
    let found = no_refusal (first_of (read_checks page_crc (written p))) (header_of (written p)) p.header k.header in
    let one = passed NotOnePage (not (is_one_page (written p)))
    (WrongChecksum when not (eqb (page_crc (written p)) (checksum_of (written p))) ∷ []) found.0 in
    let two = passed WrongChecksum (not (eqb (page_crc (written p)) (checksum_of (written p)))) [] one.1 in
    record {
      page = rw (found.1, k.lacing, k.body) refl;
      is_page = not-false (is_one_page (written p)) one.0;
      is_checksummed = not-false (eqb (page_crc (written p)) (checksum_of (written p))) two.0;
    }

-- ---- one page on a state

-- the checks of a page that passes 3 and 4
abbrev checks_by : State → Page → Seen → List Check
checks_by s p x =
    field_checks s p ++ (lacing_checks s p x ++ (header_checks R s x ++ (packet_checks R s.streams (audio_packets s x) ++ time_checks R s p x)))

-- it passes, t follows, and these stamps are listed
pub record Step (s : State) (b : Bytes) (t : State) (l : List Stamp) : Type 0 where
  pub passes : verdict R s b ≡ none
  pub follows : after R s b ≡ t
  pub lists : stamped R s b ≡ l

pub verdict-by : (s : State) (b : Bytes) (p : Page) → Reads b p → is_ended (expecting s p).phase ≡ false
    → verdict R s b ≡ first_of (checks_by (expecting s p) p (seen (expecting s p) p))
unfolding verdict checks_on first_of
verdict-by s b p k going = rw (k.page, k.is_page, k.is_checksummed, going) refl

pub step : (s t : State) (l : List Stamp) (b : Bytes) (p : Page) → Reads b p → is_ended (expecting s p).phase ≡ false
    → first_of (checks_by (expecting s p) p (seen (expecting s p) p)) ≡ none → next_on R (expecting s p) p (seen (expecting s p) p) ≡ t
    → stamps_on R (expecting s p) p (seen (expecting s p) p) ≡ l → Step s b t l
unfolding after stamped
step s t l b p k going v n m = record { passes = verdict-by s b p k going ∙ v; follows = rw k.page n; lists = rw k.page m }

-- ---- the pages

pub record Pages : Type 0 where
  pub head : Reads (written head_page) head_page
  pub tags : Reads (written tags_page) tags_page
  pub first : Reads (written first_page) first_page
  pub middle : Reads (written middle_page) middle_page
  pub hole : Reads (written hole_page) hole_page
  pub end : Reads (written last_page) last_page
  pub shifted : Reads (written shifted_page) shifted_page

pub pages : Pages
unfolding write_told first_of total is_body
pages = record {
  head = reads head_page refl refl;
  tags = reads tags_page refl refl;
  first = reads first_page refl refl;
  middle = reads middle_page refl refl;
  hole = reads hole_page refl refl;
  end = reads last_page refl refl;
  shifted = reads shifted_page refl refl;
}

-- of 480 samples
abbrev pub stamp : ℕ → Stamp
stamp end = record { end = end; samples = 480; frames = 1 }

-- ---- the first reader's states

abbrev pub at : Phase → Carried → Position → ℕ → State
at phase carried position next = record { phase = phase; carried = carried; position = position; serial = 7; next = next; streams = 1; preskip = 312 }

abbrev pub s1 : State
s1 = at Comment nothing Unset 1

abbrev pub s2 : State
s2 = at Audio nothing Unset 2

abbrev pub s3 : State
s3 = at Audio (held 255 (replicate 255 0)) (At 1000) 3

abbrev pub s4 : State
s4 = at Audio (held 510 (replicate 510 0)) (At 1000) 4

abbrev pub s5 : State
s5 = at Audio nothing (At 3000) 5

abbrev pub s6 : State
s6 = at Ended nothing (At 3100) 6

-- ---- the second reader's states

abbrev pub q0 : State
q0 = record { phase = Opened; carried = nothing; position = Joined; serial = 0; next = 0; streams = 1; preskip = 312 }

abbrev pub q1 : State
q1 = at Audio dropped Joined 4

-- ---- the steps of both

pub record Steps : Type 0 where
  pub head : Step fresh (written head_page) s1 []
  pub tags : Step s1 (written tags_page) s2 []
  pub first : Step s2 (written first_page) s3 (stamp 1000 ∷ [])
  pub middle : Step s3 (written middle_page) s4 []
  pub hole : Step s4 (written hole_page) s5 (stamp 3000 ∷ [])
  pub end : Step s5 (written last_page) s6 (stamp 3480 ∷ [])
  pub opened : Step q0 (written middle_page) q1 []
  pub dropped : Step q1 (written hole_page) s5 []

pub steps : Steps
unfolding first_of expecting seen join whole rest cut_from unfinished_from wrong_flags continued last long_from any_long ended_from after_first pageShape shape_from granule_wrong readings begins is_tags is_laid_out fits_at all_fit texts_from place_after tags_of right_tags right_comments all_right occurrences utf8 utf8_from packet_checks audio_packets time_checks measures_of next_on stamps_on start_on from stamps samples_of total measured_of parse shape_of all_are frame_samples config_samples coded coded_times counted_shape padding_from is_head length_of fields_of number value streams_of coupled_of indices_of places right_length right_mapping allowed_channels right_streams right_indices
steps = record {
  head = step fresh s1 [] (written head_page) head_page pages.head refl refl refl refl;
  tags = step s1 s2 [] (written tags_page) tags_page pages.tags refl refl refl refl;
  first = step s2 s3 (stamp 1000 ∷ []) (written first_page) first_page pages.first refl refl refl refl;
  middle = step s3 s4 [] (written middle_page) middle_page pages.middle refl refl refl refl;
  hole = step s4 s5 (stamp 3000 ∷ []) (written hole_page) hole_page pages.hole refl refl refl refl;
  end = step s5 s6 (stamp 3480 ∷ []) (written last_page) last_page pages.end refl refl refl refl;
  opened = step q0 q1 [] (written middle_page) middle_page pages.middle refl refl refl refl;
  dropped = step q1 s5 [] (written hole_page) hole_page pages.hole refl refl refl refl;
}

-- ---- the refused ones

empty_refused : is_some (verdict R s1 []) ≡ true
unfolding verdict checks_on first_of expecting readings is_one_page has_capture begins
empty_refused = refl

empty_opened : is_some (verdict R q0 []) ≡ true
unfolding verdict checks_on first_of expecting readings is_one_page has_capture begins
empty_opened = refl

first-again : is_some (verdict R s3 (written first_page)) ≡ true
unfolding first_of expecting
first-again = ap is_some (verdict-by s3 (written first_page) first_page pages.first refl)

middle-again : is_some (verdict R q1 (written middle_page)) ≡ true
unfolding first_of expecting
middle-again = ap is_some (verdict-by q1 (written middle_page) middle_page pages.middle refl)

-- ---- the plans

later : (ps : List Planned) {s : State} {b : Bytes} {t : State} {l : List Stamp} → Step s b t l → Goes R t ps → Goes R (after R s b) ps
later ps k g = subst (λ (s : State). Goes R s ps) (sym k.follows) g

pub first_goes : Goes R fresh first_plan
first_goes = (
  refl,
  (
    steps.head.passes,
    later (drop 2 first_plan) steps.head (
      empty_refused,
      (
        steps.tags.passes,
        later (drop 4 first_plan) steps.tags (
          steps.first.passes,
          later (drop 5 first_plan) steps.first (
            first-again,
            (
              steps.middle.passes,
              later (drop 7 first_plan) steps.middle (
                steps.hole.passes,
                later (drop 8 first_plan) steps.hole
                    (steps.end.passes, tt),
              ),
            ),
          ),
        ),
      ),
    ),
  ),
)

pub second-goes : Goes R q0 second_plan
second-goes = (
  empty_opened,
  (
    steps.opened.passes,
    later (drop 2 second_plan) steps.opened (
      middle-again,
      (
        refl,
        (
          steps.dropped.passes,
          later (drop 5 second_plan) steps.dropped
              (steps.end.passes, tt),
        ),
      ),
    ),
  ),
)

pub room_enough : packet_max ≤ length room
unfolding room
room_enough = le_of_eq (sym (length-replicate {A = ℕ} packet_max 0))

pub first-followed : Followed R start [] (follow R start room first_plan) (wanted first_plan)
first-followed = followed R first_plan start room [] room_enough refl first_goes
