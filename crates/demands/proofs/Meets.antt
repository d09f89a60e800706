-- The example meets the hypotheses of every theorem. Assumes nothing.
use Prim.Native.Nat.{ℕ, zero, suc, ◌<◌}
use mathlib.Core.Path.{◌≡◌, refl, sym, ap, ap₂, subst, ◌∙◌}
use mathlib.Core.Bool.{Bool, true, false, not, ◌&&◌, ◌||◌}
use mathlib.Core.List.{List, [], ◌∷◌, ◌++◌, map, nil≢cons}
use mathlib.Core.Option.{Option, none, some}
use native.Mathlib.Omega.{arith}
use lib.Dec.{lit<}
use lib.ListN.{length, take, drop, replicate}
use Rattle.octets.specs.Pick.{pick}
use Rattle.octets.specs.Octets.{Bytes, Octets, total}
use Rattle.octets.specs.Numbers.{value, octets, number}
use Rattle.refusal.specs.declared.Refusal.{Refusal}
use Rattle.refusal.specs.Told.{gives}
use Rattle.page_crc.specs.Crc.{page_crc}
use Rattle.page_writer.specs.Writing.{start_of}
use Rattle.head_fields.specs.declared.Head.{Head}
use Rattle.head_reader.specs.Fields.{streams_of, head_of as fields_of}
use Rattle.packet_toc.specs.Toc.{config_samples, frame_samples}
use Rattle.packet_frames.specs.Frames.{coded, coded_times, padding_from}
use Rattle.packet_frames.specs.Packet.{counted_shape, shape_of, parse}
use Rattle.packet_reader.specs.Streams.{measured_of}
use Rattle.granule.specs.Samples.{tally}
use Rattle.granule.specs.Judging.{from}
use Rattle.stream.specs.Page.{Page, page_of, last, ends, completes}
use Rattle.stream.specs.Readings.{readings}
use Rattle.stream.specs.State.{State}
use Rattle.stream.specs.Rules.{first_packet, verdict}
use Rattle.stream.specs.Feed.{view, start, open_at, Taken, Fed, fed_by, feed}
use Rattle.stream.specs.Packets.{samples_of}
use Rattle.stream.specs.Stream.{segments, segments_of, packets_from, left_from, open_from, open_after, head_of, after_comment, audio_pages, Mark, mark_from, marks_from, marks, initial, holes_from, count_from}
use Rattle.stream.specs.Feedings.{Shown, stream, bytes_in, bytes_of, has_position}
use Rattle.stream.specs.Statements.{page_shifted, audio_in, opened_in}
use Rattle.demands.specs.Example.{R, head_page, tags_page, first_page, middle_page, hole_page, last_page, written, first_plan, second_plan, room, F, M, audio_marks, Meets, lent_with, MeetsAlone}
use Rattle.stream.proofs.Step.{expected, saw, feeds, feeds-short}
use Rattle.stream.proofs.Clear.{some≢none}
use Rattle.stream.proofs.Theorem1.{fresh}
use Rattle.stream.proofs.Joining.{told_all}
use Rattle.stream.proofs.Runs.{second}
use Rattle.stream.proofs.Theorem4.{after_same}
use Rattle.stream.proofs.HeaderRun.{id_bytes}
use Rattle.stream.proofs.Real.{opens-stream}
use Rattle.demands.proofs.Plan.{roomy, lacks, Goes, wanted, PlanOctets, Followed, followed, plan_octets}
use Rattle.demands.proofs.Example.{Reads, pages, stamp, q0, steps, second-goes, room_enough, first-followed}
use Rattle.demands.proofs.WrittenOctets.{page-octets}

abbrev S : List Shown
S = stream R start F

-- the stream's audio pages
abbrev audio_bytes : List Bytes
audio_bytes = written first_page ∷ written middle_page ∷ written hole_page ∷ written last_page ∷ []

pages_are : bytes_of S ≡ written head_page ∷ written tags_page ∷ audio_bytes
unfolding F
pages_are = first-followed.accepted

-- ---- the bytes are bytes

no_octets : Octets []
no_octets = record { below = λ i. lit< tt }

plan_is_octets : PlanOctets first_plan
unfolding start_of octets
plan_is_octets =
    let head = page-octets head_page refl in
    let tags = page-octets tags_page refl in
    let first = page-octets first_page refl in
    let middle = page-octets middle_page refl in
    let hole = page-octets hole_page refl in
    let end = page-octets last_page refl in
    (head, (head, (no_octets, (tags, (first, (first, (middle, (hole, (end, tt)))))))))

-- ---- the header, and the second reader

head-is : head_of R (bytes_of S) ≡ fields_of head_page.body
unfolding head_of readings packets_from segments_of segments
head-is =
    ap (head_of R) pages_are
    ∙ ap (λ (p : Page). fields_of (first_packet (packets_from [] (segments_of p)))) pages.head.page

opened-is : view (opened_in R F).core [] ≡ q0
unfolding fields_of number value streams_of
opened-is = ap (λ (h : Head). view (open_at h).core []) head-is

second-followed : Followed R (opened_in R F) [] M (wanted second_plan)
unfolding M
second-followed =
    followed R second_plan (opened_in R F) room [] room_enough refl (subst (λ (s : State). Goes R s second_plan) (sym opened-is) second-goes)

-- ---- the audio pages

map-drop : {A B : Type 0} (f : A → B) (n : ℕ) (l : List A) → map f (drop n l) ≡ drop n (map f l)
map-drop f zero l = refl
map-drop f (suc n) [] = refl
map-drop f (suc n) (x ∷ l) = map-drop f n l

map-take : {A B : Type 0} (f : A → B) (n : ℕ) (l : List A) → map f (take n l) ≡ take n (map f l)
map-take f zero l = refl
map-take f (suc n) [] = refl
map-take {B = B} f (suc n) (x ∷ l) = ap (λ (r : List B). f x ∷ r) (map-take f n l)

audio-same : (xs : List Shown) → bytes_of (audio_pages bytes_in xs) ≡ audio_pages id_bytes (bytes_of xs)
unfolding audio_pages
audio-same [] = refl
audio-same (x ∷ xs) = sym (after_same xs)

tags_complete : completes (page_of (written tags_page)) ≡ true
unfolding completes ends
tags_complete = ap completes pages.tags.page

audio-is : bytes_of (audio_in R F) ≡ audio_bytes
unfolding audio_pages after_comment
audio-is =
    audio-same S ∙ ap (audio_pages id_bytes) pages_are
    ∙ ap (λ (t : Bool). pick t audio_bytes (after_comment id_bytes audio_bytes)) tags_complete

-- ---- what the second reader is told

told_is : told_all R q0 (written middle_page ∷ written hole_page ∷ written last_page ∷ []) ≡ gives [] ∷ gives [] ∷ gives (stamp 3480 ∷ []) ∷ []
told_is = rw (steps.opened.passes, steps.opened.follows, steps.opened.lists, steps.dropped.passes, steps.dropped.follows, steps.dropped.lists, steps.end.passes, steps.end.lists) refl

-- ---- the marks

mark_on : (n : ℕ) (h b : Bytes) (p : Page) (bs : List Bytes) → Reads b p
    → marks_from R n h (b ∷ bs) ≡ pick (completes p) (mark_from R n h p ∷ marks_from R n (left_from h (segments_of p)) bs)
    (marks_from R n (left_from h (segments_of p)) bs)
unfolding marks_from
mark_on n h b p bs k =
    ap (λ (q : Page). pick (completes q) (mark_from R n h q ∷ marks_from R n (left_from h (segments_of q)) bs)
    (marks_from R n (left_from h (segments_of q)) bs)) k.page

audio_marks_are : marks_from R 1 [] audio_bytes ≡ audio_marks
unfolding marks_from segments_of segments packets_from left_from completes ends last readings measured_of parse shape_of frame_samples config_samples coded coded_times counted_shape padding_from samples_of total
audio_marks_are =
    mark_on 1 [] (written first_page) first_page (drop 1 audio_bytes) pages.first
    ∙ ap (λ (ms : List Mark). take 1 audio_marks ++ ms)
    (mark_on 1 (replicate 255 0) (written middle_page) middle_page (drop 2 audio_bytes) pages.middle
    ∙ mark_on 1 (replicate 510 0) (written hole_page) hole_page (drop 3 audio_bytes) pages.hole
    ∙ ap (λ (ms : List Mark). take 1 (drop 1 audio_marks) ++ ms) (mark_on 1 [] (written last_page) last_page [] pages.end))

marks_are : marks R (bytes_of S) ≡ audio_marks
unfolding marks fields_of streams_of
marks_are = ap₂ (λ (h : Head) (bs : List Bytes). marks_from R h.streams [] bs) head-is (sym (audio-same S) ∙ audio-is) ∙ audio_marks_are

-- ---- what began before the opening, and the granule position

began-is : open_after false (bytes_of (take 1 (audio_in R F))) ≡ true
unfolding open_after open_from segments_of segments
began-is =
    ap (open_after false) (map-take bytes_in 1 (audio_in R F) ∙ ap (take 1) audio-is)
    ∙ ap (λ (p : Page). open_from false (segments_of p)) pages.first.page

abbrev position_in : List Bytes → Bool
position_in [] = false
position_in (b ∷ bs) = (completes (page_of b) && not (last (page_of b))) || position_in bs

position-bytes : (xs : List Shown) → has_position xs ≡ position_in (bytes_of xs)
unfolding has_position
position-bytes [] = refl
position-bytes (x ∷ xs) = ap (λ (t : Bool). (completes (page_of x.bytes) && not (last (page_of x.bytes))) || t) (position-bytes xs)

position-is : has_position (drop 1 (audio_in R F)) ≡ true
unfolding completes ends last
position-is =
    position-bytes (drop 1 (audio_in R F)) ∙ ap position_in (map-drop bytes_in 1 (audio_in R F) ∙ ap (drop 1) audio-is)
    ∙ rw (pages.middle.page, pages.hole.page) refl

some-pages_lem : (xs : List Shown) {b : Bytes} {bs : List Bytes} → bytes_of xs ≡ b ∷ bs → 0 < length xs
some-pages_lem [] e = absurd (nil≢cons e)
some-pages_lem (x ∷ xs) e = omega arith

pub meets : Meets
unfolding F initial holes_from count_from tally from samples_of total
meets =
    let bytes-all = plan_octets R first_plan start room plan_is_octets in
    record {
      bytes = bytes-all;
      pages = pages_are;
      opens = opens-stream page_crc F bytes-all first-followed.handed (some-pages_lem S pages_are);
      followed = record {
        first = first-followed.handed;
        second = second-followed.handed;
        room = second-followed.room;
        pages = second-followed.marks ∙ sym (map-drop bytes_in 1 (audio_in R F) ∙ ap (drop 1) audio-is);
        others = second-followed.others;
      };
      began = began-is;
      position = position-is;
      told = (second R M (opened_in R F) [] second-followed.handed second-followed.room second-followed.others).told
          ∙ ap₂ (told_all R) opened-is second-followed.marks ∙ told_is;
      marks = marks_are;
      begins = refl;
      hole = refl;
      trimmed = refl;
      kept = refl;
    }

-- ---- the others

told-by : (v : Option Refusal) → v ≡ none
    → (t : Taken) × ((fed_by v R start (lent_with room) (expected start room (written head_page)) (page_of (written head_page))
    (saw start room (written head_page))).told ≡ gives t)
told-by none e = (_, refl)
told-by (some n) e = absurd (some≢none e)

first_taken : (t : Taken) × ((feed R start (lent_with room) (written head_page)).told ≡ gives t)
first_taken =
    let k = told-by (verdict R fresh (written head_page)) steps.head.passes in
    (k.0, ap (λ (f : Fed). f.told) (feeds R start (lent_with room) (written head_page) (roomy room room_enough)) ∙ k.1)

pub meets_alone : MeetsAlone
meets_alone = record {
  refused = ap (λ (f : Fed). f.told) (feeds-short R start (lent_with []) (written head_page) lacks);
  accepted = first_taken;
  octets = plan_is_octets.0;
  roomy = roomy room room_enough;
  shifted = record {
    page = pages.shifted.page ∙ sym (ap (page_shifted 5) pages.hole.page);
    is_page = pages.shifted.is_page ∙ sym pages.hole.is_page;
    is_checksummed = pages.shifted.is_checksummed ∙ sym pages.hole.is_checksummed;
    small = rw pages.hole.page (lit< tt);
  };
  alike = refl;
  going = refl;
  small = lit< tt;
}
