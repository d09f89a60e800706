-- The instances meet the hypotheses. Assumes nothing.
use Prim.Native.Nat.{ℕ, ◌+◌, ◌≤◌}
use mathlib.Core.Path.{◌≡◌, refl, sym, ap, ◌∙◌}
use mathlib.Core.Bool.{true≢false}
use mathlib.Core.List.{[], ◌∷◌, ◌++◌}
use mathlib.Core.Option.{Option, none, some}
use native.Mathlib.Omega.{arith}
use lib.Dec.{lit<}
use lib.ListN.{length, take, replicate, length-append, length-replicate}
use lib.Seq.{take_at}
use Rattle.octets.specs.Octets.{Bytes, total}
use Rattle.refusal.specs.declared.Refusal.{Refusal}
use Rattle.refusal.specs.declared.Refusal.TheVariants.{GranuleTooSmall}
use Rattle.refusal.specs.Checks.{first_of}
use Rattle.refusal.specs.Numbers.{number_of}
use Rattle.refusal.specs.Told.{gives, refuses}
use Rattle.page_lacing.specs.Lacing.{ended_from, unfinished_from, cut_from, is_body}
use Rattle.page_writer.specs.Writing.{write_told}
use Rattle.packet_toc.specs.Toc.{config_samples, frame_samples}
use Rattle.packet_frames.specs.Frames.{coded, coded_times, padding_from}
use Rattle.packet_frames.specs.Packet.{counted_shape, shape_of, parse}
use Rattle.packet_reader.specs.Streams.{measured_of, all_are}
use Rattle.granule.specs.declared.Position.TheVariants.{At}
use Rattle.granule.specs.Judging.{granule_wrong, from}
use Rattle.granule.specs.Samples.{tally, kept_of}
use Rattle.stream.specs.declared.Phase.TheVariants.{Audio}
use Rattle.stream.specs.Page.{Page, page_of, continued, last, ends, completes, whole, rest}
use Rattle.stream.specs.Readings.{readings}
use Rattle.stream.specs.State.{nothing, held, State, expecting}
use Rattle.stream.specs.Packets.{join, seen, any_long, long_from, after_first, audio_packets, measures_of, samples_of}
use Rattle.limits.specs.Limits.{packet_max}
use Rattle.stream.specs.Shape.{shape_from, shape_of as pageShape}
use Rattle.stream.specs.Rules.{wrong_flags, packet_checks, time_checks, stamps, start_on, stamps_on, next_on, verdict}
use Rattle.stream.specs.Stream.{segments, segments_of, open_from}
use Rattle.stream.specs.Feed.{Reader, view, entries, entries_on, Taken, Fed, fed_by, feed}
use Rattle.stream.specs.Feedings.{HandedOn}
use Rattle.stream.specs.Statements.{page_shifted, BytesShifted}
use Rattle.demands.specs.Example.{R, first_page, hole_page, last_page, written, lent_with, room}
use Rattle.stream.specs.SameAnswers.{SameRooms}
use Rattle.demands.specs.Instances.{sevens, nines, middle, MeetsAnswers, MeetsHeldCounts, ending, MeetsUnskipped}
use Rattle.demands.specs.Instances.{ahead, full, MeetsCarry, later_page, entered, shifted, MeetsEntering}
use Rattle.stream.proofs.Clear.{some≢none}
use Rattle.stream.proofs.Step.{expected, saw, feeds}
use Rattle.demands.proofs.Plan.{roomy, lacks}
use Rattle.demands.proofs.Example.{Reads, reads, verdict-by, Step, step, stamp, at, s3, s4, pages, steps, room_enough}

-- ---- buffers

filled : (n k : ℕ) → length (replicate 510 0 ++ replicate n k) ≡ 510 + n
filled n k =
    let zeros : Bytes = replicate 510 0 in
    length-append zeros (replicate n k) ∙ ap (λ (x : ℕ). length zeros + x) (length-replicate {A = ℕ} n k)

begins_so : (n k : ℕ) → take 510 (replicate 510 0 ++ replicate n k) ≡ replicate 510 0
begins_so n k = take_at (replicate 510 0) (replicate n k) 510 refl

enough_sevens : packet_max ≤ length sevens
unfolding sevens
enough_sevens = omega (arith, filled 60930 7)

enough_nines : packet_max ≤ length nines
unfolding nines
enough_nines = omega (arith, filled 61000 9)

held-sevens : take 510 sevens ≡ replicate 510 0
unfolding sevens
held-sevens = begins_so 60930 7

held-nines : take 510 nines ≡ replicate 510 0
unfolding nines
held-nines = begins_so 61000 9

held-room : take 510 room ≡ replicate 510 0
unfolding room
held-room = refl

-- ---- what is told where the verdict is known

taken : (r : Reader) (c b : Bytes) → packet_max ≤ length c → verdict R (view r.core c) b ≡ none
    → (t : Taken) × ((feed R r (lent_with c) b).told ≡ gives t)
taken r c b room e =
    let k = by (verdict R (view r.core c) b) e in
    (k.0, ap (λ (f : Fed). f.told) (feeds R r (lent_with c) b (roomy c room)) ∙ k.1)
  where
    by : (v : Option Refusal) → v ≡ none → (t : Taken) × ((fed_by v R r (lent_with c) (expected r c b) (page_of b) (saw r c b)).told ≡ gives t)
    by none e = (_, refl)
    by (some n) e = absurd (some≢none e)

refused : (r : Reader) (c b : Bytes) (n : Refusal) → packet_max ≤ length c → verdict R (view r.core c) b ≡ some n
    → (feed R r (lent_with c) b).told ≡ refuses (number_of n)
refused r c b n room e =
    ap (λ (f : Fed). f.told) (feeds R r (lent_with c) b (roomy c room))
    ∙ ap (λ (v : Option Refusal). (fed_by v R r (lent_with c) (expected r c b) (page_of b) (saw r c b)).told) e

-- ---- Whole

middle-view : (skip : ℕ) → view (middle skip).core sevens ≡ s4
middle-view skip = ap (λ (h : Bytes). at Audio (held 510 h) (At 1000) 4) held-sevens

pub meets_answers : MeetsAnswers
unfolding HandedOn SameRooms
meets_answers = record {
  one = λ skip. ((λ e. refl), ((λ e. absurd (true≢false (sym lacks ∙ e))), tt));
  other = λ skip. ((λ e. refl), ((λ e. absurd (true≢false (sym lacks ∙ e))), tt));
  rooms = (roomy nines enough_nines ∙ sym (roomy sevens enough_sevens), (refl, tt));
  equal = λ skip other. record { core = refl; held = held-nines ∙ sym held-sevens };
  accepted = λ skip. taken (middle skip) sevens (written hole_page) enough_sevens
      (ap (λ (s : State). verdict R s (written hole_page)) (middle-view skip) ∙ steps.hole.passes);
}

-- ---- HeldCounts

pub meets_held_counts : MeetsHeldCounts
unfolding HandedOn
meets_held_counts = record {
  handed = λ skip. ((λ e. held-sevens ∙ sym held-nines), ((λ e. absurd (true≢false (sym lacks ∙ e))), tt));
  equal = λ skip. held-nines ∙ sym held-room;
}

-- ---- Unskipped

listed_by : (r : Reader) (c b : Bytes) (p : Page) → packet_max ≤ length c → Reads b p → verdict R (view r.core c) b ≡ none
    → (feed R r (lent_with c) b).entries
    ≡ entries_on R r.tally.skip (expecting (view r.core c) p) p (seen (expecting (view r.core c) p) p)
listed_by r c b p room k e =
    ap (λ (f : Fed). f.entries) (feeds R r (lent_with c) b (roomy c room))
    ∙ ap (λ (v : Option Refusal). (fed_by v R r (lent_with c) (expected r c b) (page_of b) (saw r c b)).entries) e
    ∙ ap (λ (q : Page). entries_on R r.tally.skip (expecting (view r.core c) q) q (seen (expecting (view r.core c) q) q)) k.page

pub meets_unskipped : MeetsUnskipped
unfolding entries_on entries kept_of tally expecting seen join whole rest cut_from unfinished_from last audio_packets measures_of start_on from readings samples_of total measured_of parse shape_of all_are frame_samples config_samples coded coded_times counted_shape padding_from
meets_unskipped = record {
  nothing = record { skip = refl; past = refl };
  accepted = taken ending room (written last_page) room_enough steps.end.passes;
  lists = listed_by ending room (written last_page) last_page room_enough pages.end steps.end.passes ∙ refl;
}

-- ---- CarryBuffer and Entering

later-reads : Reads (written later_page) later_page
unfolding write_told first_of total is_body
later-reads = reads later_page refl refl

ahead-view : view ahead.core sevens ≡ at Audio (held 510 (replicate 510 0)) (At 5000) 4
ahead-view = ap (λ (h : Bytes). at Audio (held 510 h) (At 5000) 4) held-sevens

ahead-refused : verdict R (at Audio (held 510 (replicate 510 0)) (At 5000) 4) (written hole_page) ≡ some GranuleTooSmall
unfolding first_of expecting seen join whole rest cut_from unfinished_from wrong_flags continued last long_from any_long ended_from after_first pageShape shape_from granule_wrong readings packet_checks audio_packets time_checks measures_of samples_of total measured_of parse shape_of all_are frame_samples config_samples coded coded_times counted_shape padding_from
ahead-refused = verdict-by (at Audio (held 510 (replicate 510 0)) (At 5000) 4) (written hole_page) hole_page pages.hole refl

full_step : Step (at Audio nothing (At 300) 2) (written first_page) s3 (stamp 1000 ∷ [])
unfolding first_of expecting seen join whole rest cut_from unfinished_from wrong_flags continued last long_from any_long ended_from after_first pageShape shape_from granule_wrong readings packet_checks audio_packets time_checks measures_of next_on stamps_on start_on from stamps samples_of total measured_of parse shape_of all_are frame_samples config_samples coded coded_times counted_shape padding_from
full_step = step (at Audio nothing (At 300) 2) s3 (stamp 1000 ∷ []) (written first_page) first_page pages.first refl refl refl refl

full_taken : (t : Taken) × ((feed R full (lent_with room) (written first_page)).told ≡ gives t)
full_taken = taken full room (written first_page) room_enough full_step.passes

pub meets_carry : MeetsCarry
unfolding open_from segments_of segments continued completes ends
meets_carry = record {
  appended = refused ahead sevens (written hole_page) GranuleTooSmall enough_sevens
      (ap (λ (s : State). verdict R s (written hole_page)) ahead-view ∙ ahead-refused);
  accepted = full_taken;
  begins = rw pages.first.page refl;
}

shifted-page : BytesShifted R 7 (written first_page) (written later_page)
shifted-page = record {
  page = later-reads.page ∙ sym (ap (page_shifted 7) pages.first.page);
  is_page = later-reads.is_page ∙ sym pages.first.is_page;
  is_checksummed = later-reads.is_checksummed ∙ sym pages.first.is_checksummed;
  small = rw pages.first.page (lit< tt);
}

pub meets_entering : MeetsEntering
unfolding HandedOn continued completes ends last
meets_entering = record {
  small = lit< tt;
  past = record { phase = refl; pending = refl; position = refl; serial = refl; next = refl; streams = refl; preskip = refl };
  entrance = record {
    begins = rw pages.first.page refl;
    completes = rw pages.first.page refl;
    goes = rw pages.first.page refl;
  };
  pair = (record { one = entered; other = shifted; pages = shifted-page; room = refl }, (refl, refl));
  one = ((λ e. refl), tt);
  other = ((λ e. refl), tt);
  accepted = full_taken;
}
