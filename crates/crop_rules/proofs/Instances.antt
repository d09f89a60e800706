-- The instances meet the hypotheses. Assumes nothing.
use Prim.Native.Nat.{ℕ}
use mathlib.Core.Path.{◌≡◌, refl, sym, ap, ap₂, ◌∙◌}
use mathlib.Core.Bool.{Bool, true, false}
use mathlib.Core.List.{List, [], ◌∷◌, map}
use mathlib.Core.Option.{Option, none, some}
use native.Mathlib.Omega.{arith}
use lib.Dec.{lit<}
use lib.ListN.{length, take}
use Rattle.octets.specs.Pick.{pick}
use Rattle.octets.specs.Octets.{Bytes, Octets, total}
use Rattle.octets.specs.Numbers.{octets}
use Rattle.refusal.specs.declared.Refusal.{Refusal}
use Rattle.refusal.specs.declared.Refusal.TheVariants.{OutOfSequence}
use Rattle.refusal.specs.Checks.{first_of}
use Rattle.refusal.specs.Told.{Told}
use Rattle.page_crc.specs.Crc.{page_crc}
use Rattle.page_lacing.specs.Lacing.{ended_from, unfinished_from, cut_from, is_body}
use Rattle.page_writer.specs.Writing.{write_told, start_of}
use Rattle.page_writer.proofs.Octets.{octets-append, octets-none}
use Rattle.packet_toc.specs.Toc.{config_samples, frame_samples}
use Rattle.packet_frames.specs.Frames.{coded_times}
use Rattle.packet_frames.specs.Packet.{shape_of, parse}
use Rattle.packet_reader.specs.Streams.{measured_of, all_are}
use Rattle.granule.specs.declared.Position.TheVariants.{At}
use Rattle.granule.specs.Judging.{granule_wrong, from}
use Rattle.stream.specs.declared.Phase.TheVariants.{Audio}
use Rattle.stream.specs.declared.Pending.{Pending}
use Rattle.stream.specs.declared.Pending.TheVariants.{Nothing, Held, Dropped}
use Rattle.stream.specs.Page.{Page, continued, last, ends, completes, whole, rest}
use Rattle.stream.specs.Readings.{readings}
use Rattle.stream.specs.State.{nothing, State, in_headers, expecting}
use Rattle.stream.specs.Packets.{join, seen, any_long, long_from, audio_packets, measures_of, samples_of}
use Rattle.stream.specs.Shape.{shape_from, shape_of as pageShape}
use Rattle.stream.specs.Rules.{wrong_flags, packet_checks, time_checks, Stamp, stamps, start_on, stamps_on, next_on, verdict, after, stamped}
use Rattle.stream.specs.Lent.{is_short}
use Rattle.stream.specs.Stream.{listings, phase_of, after_comment, audio_pages}
use Rattle.stream.specs.Feed.{Reader, carried_in, view, start}
use Rattle.stream.specs.Feedings.{feed_in, reader_after, finally, held_of, left_in, carry_left, HandedOn, tell}
use Rattle.stream.specs.Statements.{state_shifted}
use Rattle.stream.specs.Entering.{tells}
use Rattle.stream.proofs.Joining.{after_all}
use Rattle.stream.proofs.Step.{state_by, tell_by}
use Rattle.stream.proofs.Runs.{Turn, turn}
use Rattle.feed_pages.specs.Feedings.{together}
use Rattle.recording.specs.Pages.{pages_of}
use Rattle.recording.specs.Judging.{first_refused, fresh, packets_in, judge_pages}
use Rattle.recording.specs.Feedings.{Feeds}
use Rattle.recording.proofs.Cutting.{pages-apart}
use Rattle.recording.proofs.Passing.{accepted-pages}
use Rattle.recording.proofs.Streams.{feedings-feed}
use Rattle.recording_pages.specs.Places.{header_count}
use Rattle.demands.specs.Example.{head_page, tags_page, written, lent_with, room}
use Rattle.demands.proofs.Plan.{roomy}
use Rattle.demands.proofs.WrittenOctets.{page-octets}
use Rattle.demands.proofs.Example.{Reads, reads, verdict-by, Step, step, stamp, at, s2, pages as examples, steps as firsts, room_enough}
use Rattle.crop_rules.specs.Crop.{may_begin, is_start, renumbered, shift_of, crop_pages}
use Rattle.crop_rules.specs.Statements.{Croppable, Added}
use Rattle.crop_rules.specs.Instances.{audio_page, pages, buffer, F, G, due_page, stray_page, fed, MeetsCrop}
use Rattle.crop_rules.proofs.Renumbered.{R}
use Rattle.crop_rules.proofs.Sound.{Sound}
use Rattle.crop_rules.proofs.Along.{Moves, moves}
use Rattle.crop_rules.proofs.Listed.{phase-after}
use Rattle.crop_rules.proofs.Cropped.{Given, given}
use Rattle.crop_rules.proofs.Following.{view-after}

-- ---- the pages

record Audios : Type 0 where
  first : Reads (written (audio_page 480 2)) (audio_page 480 2)
  second : Reads (written (audio_page 1480 3)) (audio_page 1480 3)
  third : Reads (written (audio_page 1960 4)) (audio_page 1960 4)
  due : Reads (written due_page) due_page
  stray : Reads (written stray_page) stray_page

audios : Audios
unfolding write_told first_of total is_body
audios = record {
  first = reads (audio_page 480 2) refl refl;
  second = reads (audio_page 1480 3) refl refl;
  third = reads (audio_page 1960 4) refl refl;
  due = reads due_page refl refl;
  stray = reads stray_page refl refl;
}

record AllOctets : Type 0 where
  stream : Octets buffer
  due : Octets (written due_page)
  stray : Octets (written stray_page)

all-octets : AllOctets
unfolding start_of octets buffer together
all-octets = record {
  stream =
      octets-append _ _ (page-octets head_page refl)
      (octets-append _ _ (page-octets tags_page refl)
      (octets-append _ _ (page-octets (audio_page 480 2) refl)
      (octets-append _ _ (page-octets (audio_page 1480 3) refl)
      (octets-append _ _ (page-octets (audio_page 1960 4) refl) octets-none))));
  due = page-octets due_page refl;
  stray = page-octets stray_page refl;
}

-- ---- their steps

-- after an audio page
abbrev past : ℕ → ℕ → State
past granule next = at Audio nothing (At granule) next

record Steps : Type 0 where
  first : Step s2 (written (audio_page 480 2)) (past 480 3) (stamp 480 ∷ [])
  second : Step (past 480 3) (written (audio_page 1480 3)) (past 1480 4) (stamp 1480 ∷ [])
  third : Step (past 1480 4) (written (audio_page 1960 4)) (past 1960 5) (stamp 1960 ∷ [])
  due : Step (past 1960 5) (written due_page) (past 2440 6) (stamp 2440 ∷ [])
  stray : verdict R (past 2440 6) (written stray_page) ≡ some OutOfSequence

steps : Steps
unfolding first_of expecting seen join whole rest cut_from unfinished_from wrong_flags continued last long_from any_long ended_from pageShape shape_from granule_wrong readings packet_checks audio_packets time_checks measures_of next_on stamps_on start_on from stamps samples_of total measured_of parse shape_of all_are frame_samples config_samples coded_times
steps = record {
  first = step s2 (past 480 3) (stamp 480 ∷ []) (written (audio_page 480 2)) (audio_page 480 2) audios.first refl refl refl refl;
  second = step (past 480 3) (past 1480 4) (stamp 1480 ∷ []) (written (audio_page 1480 3)) (audio_page 1480 3) audios.second refl refl refl refl;
  third = step (past 1480 4) (past 1960 5) (stamp 1960 ∷ []) (written (audio_page 1960 4)) (audio_page 1960 4) audios.third refl refl refl refl;
  due = step (past 1960 5) (past 2440 6) (stamp 2440 ∷ []) (written due_page) due_page audios.due refl refl refl refl;
  stray = verdict-by (past 2440 6) (written stray_page) stray_page audios.stray refl;
}

-- ---- the stream

abbrev S : List Bytes
S = map written pages

accepted : first_refused R fresh 0 S ≡ none
unfolding first_refused
accepted =
    rw (firsts.head.passes, firsts.head.follows, firsts.tags.passes, firsts.tags.follows, steps.first.passes, steps.first.follows, steps.second.passes, steps.second.follows, steps.third.passes) refl

ends_at_lem : after_all R fresh S ≡ past 1960 5
unfolding after_all
ends_at_lem = rw (firsts.head.follows, firsts.tags.follows, steps.first.follows, steps.second.follows, steps.third.follows) refl

cut : pages_of buffer ≡ S
unfolding buffer
cut = pages-apart S (accepted-pages page_crc S accepted)

header-count : header_count S ≡ 2
unfolding header_count audio_pages after_comment completes ends
header-count = rw examples.tags.page refl

starts : is_start S 3 ≡ true
unfolding is_start may_begin continued completes ends last
starts = rw (header-count, audios.second.page) refl

headed : in_headers (phase_of S) ≡ false
headed = ap in_headers (sym (phase-after S accepted) ∙ ap (λ (s : State). s.phase) ends_at_lem)

croppable : Croppable buffer 3
unfolding judge_pages
croppable = record {
  octets = all-octets.stream;
  pages = length S;
  packets = packets_in (listings R S);
  whole = rw (cut, accepted, headed);
  start = ap (λ (l : List Bytes). is_start l 3) cut ∙ starts;
}

-- ---- two pages fed with room where nothing is unfinished

idle_held : (p : Pending) (c : Bytes) → carried_in p c ≡ nothing → held_of p ≡ 0
idle_held Nothing c e = refl
idle_held (Held n) c e = let z : ◌≡◌ {A = ℕ} 0 1 = cc in absurd (omega arith)
idle_held Dropped c e = refl

has_room : is_short (lent_with room) ≡ false
has_room = roomy room room_enough

-- a reader in the state s, with nothing unfinished
module _ (r : Reader) (old : Bytes) (s : State) (is : view r.core old ≡ s) (idle : s.carried ≡ nothing) where
  agrees : (c : Bytes) → take (held_of r.core.pending) c ≡ take (held_of r.core.pending) old
  agrees c = rw (idle_held r.core.pending old (ap (λ (x : State). x.carried) is ∙ idle)) refl

  turns : (b : Bytes) → Turn R r old (fed b)
  turns b = turn R r old (fed b) has_room (agrees room)

  next-view : (b : Bytes) → view (reader_after R r (fed b)).core (feed_in R r (fed b)).lent.carry ≡ state_by (verdict R s b) s (after R s b)
  next-view b = (turns b).steps.view ∙ ap (λ (x : State). state_by (verdict R x b) x (after R x b)) is

  next-told : (b : Bytes) → tell (feed_in R r (fed b)) ≡ tell_by (verdict R s b) (stamped R s b)
  next-told b = (turns b).steps.told ∙ ap (λ (x : State). tell_by (verdict R x b) (stamped R x b)) is

-- one that is accepted, and another after it
record Two (r : Reader) (old : Bytes) (s t : State) (a b : Bytes) : Type 0 where
  handed : HandedOn R r old (fed a ∷ fed b ∷ [])
  told : tells R r (fed a ∷ fed b ∷ []) ≡ tell_by (verdict R s a) (stamped R s a) ∷ tell_by (verdict R t b) (stamped R t b) ∷ []

two : (r : Reader) (old : Bytes) (s t : State) (a b : Bytes) → view r.core old ≡ s → s.carried ≡ nothing → verdict R s a ≡ none
    → after R s a ≡ t → t.carried ≡ nothing → Two r old s t a b
unfolding HandedOn tells
two r old s t a b is idle passes follows still =
    let left : Bytes = (feed_in R r (fed a)).lent.carry in
    let gone : Reader = reader_after R r (fed a) in
    let now : view gone.core left ≡ t =
    next-view r old s is idle a ∙ ap (λ (v : Option Refusal). state_by v s (after R s a)) passes ∙ follows in
    let free : left_in R r (fed a) old ≡ left = ap (λ (x : Bool). pick x old left) has_room in
    record {
      handed = ((λ e. agrees r old s is idle room), ((λ e. agrees gone left t now still room ∙ ap (take (held_of gone.core.pending)) (sym free)), tt));
      told = ap₂ (λ (x y : Told (List Stamp)). x ∷ y ∷ []) (next-told r old s is idle a) (next-told gone left t now still b);
    }

-- ---- what is added

sound : (p : Page) → Octets (written p) → Reads (written p) p → Sound (written p)
sound p o k = record { octets = o; good = record { page = k.is_page; checksummed = k.is_checksummed } }

due-sound : Sound (written due_page)
due-sound = sound due_page all-octets.due audios.due

stray_sound : Sound (written stray_page)
stray_sound = sound stray_page all-octets.stray audios.stray

abbrev adding : (p : Page) → Sound (written p) → Added
adding p g = record { bytes = written p; octets = g.octets; good = g.good; one = lent_with room; other = lent_with room; room = refl }

-- to the stream
fed-stream : Feeds R (pages_of buffer) F
unfolding F
fed-stream = feedings-feed R (pages_of buffer) (lent_with room) has_room

stream-ends : after_all R fresh (pages_of buffer) ≡ past 1960 5
stream-ends = ap (after_all R fresh) cut ∙ ends_at_lem

given-here : Given buffer 3
given-here = given buffer 3 croppable

one-two : Two (finally R start F) (carry_left R start [] F) (past 1960 5) (past 2440 6) (written due_page) (written stray_page)
one-two =
    two (finally R start F) (carry_left R start [] F) (past 1960 5) (past 2440 6) (written due_page) (written stray_page)
    (view-after (pages_of buffer) F given-here.accepted fed-stream ∙ stream-ends) refl steps.due.passes steps.due.follows refl

-- to the crop
abbrev C : List Bytes
C = crop_pages (pages_of buffer) 3

abbrev n : ℕ
n = shift_of (pages_of buffer) 3

fed-crop : Feeds R C G
unfolding G
fed-crop = feedings-feed R C (lent_with room) has_room

moved : Moves n (past 1960 5) (written due_page)
moved = moves n (past 1960 5) (written due_page) due-sound (record { going = refl; small = lit< tt })

other-two : Two (finally R start G) (carry_left R start [] G) (state_shifted n (past 1960 5)) (state_shifted n (past 2440 6))
    (renumbered n (written due_page)) (renumbered n (written stray_page))
other-two =
    two (finally R start G) (carry_left R start [] G) (state_shifted n (past 1960 5)) (state_shifted n (past 2440 6))
    (renumbered n (written due_page)) (renumbered n (written stray_page))
    (view-after C G given-here.crop-accepted fed-crop ∙ given-here.ends ∙ ap (state_shifted n) stream-ends) refl
    (moved.judged ∙ steps.due.passes) (moved.follows ∙ ap (state_shifted n) steps.due.follows) refl

pub meets_crop : MeetsCrop
meets_crop = record {
  croppable = croppable;
  headers = ap header_count cut ∙ header-count;
  added = adding due_page due-sound ∷ adding stray_page stray_sound ∷ [];
  feedings = refl;
  continued = record { stream = fed-stream; crop = fed-crop; one = one-two.handed; other = other-two.handed };
  told = one-two.told ∙ rw (steps.due.passes, steps.due.lists, steps.stray) refl;
}
