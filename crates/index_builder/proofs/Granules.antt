-- The granule positions of an index: those of the stream's marks, and of a whole stream none is below the one before it.
-- Assumes nothing.
use Prim.Native.Nat.{ℕ, suc, ◌+◌, ◌≤◌}
use mathlib.Core.Path.{◌≡◌, refl, ap, ◌∙◌}
use mathlib.Core.Bool.{Bool, true, false, true≢false}
use mathlib.Core.List.{List, [], ◌∷◌, map}
use mathlib.Core.Option.{none}
use native.Mathlib.Omega.{arith}
use borrow.Author.Tests.{ltb-false, le-ltb}
use lib.ListN.{length}
use Rattle.octets.specs.Pick.{pick}
use Rattle.octets.specs.Octets.{Bytes}
use Rattle.granule.specs.declared.Position.{Position}
use Rattle.granule.specs.declared.Position.TheVariants.{Unset, Joined, At}
use Rattle.granule.specs.Judging.{too_small}
use Rattle.stream.specs.declared.Phase.{Phase}
use Rattle.stream.specs.declared.Phase.TheVariants.{First, Comment, Audio, Opened, Ended}
use Rattle.stream.specs.Page.{Page, page_of, granule_of, completes, last}
use Rattle.stream.specs.Readings.{Readings}
use Rattle.stream.specs.State.{State, in_headers, expecting_in, expecting}
use Rattle.stream.specs.Packets.{measures_of, samples_of, seen}
use Rattle.stream.specs.Rules.{after_phase, after_position, audio_completes, next_on, verdict, after}
use Rattle.stream.specs.Stream.{segments_of, left_from, head_of, after_comment, audio_pages, Mark, marks_from, marks}
use Rattle.stream.proofs.Passed.{timed}
use Rattle.stream.proofs.Pieces.{seen-completes}
use Rattle.recording.specs.Judging.{first_refused, fresh}
use Rattle.recording.proofs.Passing.{first}
use Rattle.recording.proofs.Streams.{whole_is}
use Rattle.index_search.specs.Index.{granules_of, fall_after, first_fall}
use Rattle.index_walk.specs.Records.{PlacedPage, placed_from, records_of, index_of}
use Rattle.index_builder.specs.Statements.{RecordsAreMarks, NeverFalls}

-- ---- the marks

abbrev granule : Mark → ℕ
granule m = m.granule

audio-marks : (R : Readings) (n at : ℕ) (h : Bytes) (S : List Bytes)
    → granules_of (records_of (placed_from at S)) ≡ map granule (marks_from R n h S)
unfolding placed_from records_of marks_from
audio-marks R n at h [] = refl
audio-marks R n at h (b ∷ bs) = by (completes (page_of b)) refl (audio-marks R n (at + length b) (left_from h (segments_of (page_of b))) bs)
  where
    by : (t : Bool) → completes (page_of b) ≡ t
        → granules_of (records_of (placed_from (at + length b) bs)) ≡ map granule (marks_from R n (left_from h (segments_of (page_of b))) bs)
        → granules_of (records_of (placed_from at (b ∷ bs))) ≡ map granule (marks_from R n h (b ∷ bs))
    by true e later = rw e (ap (λ (gs : List ℕ). granule_of (page_of b) ∷ gs) later)
    by false e later = rw e later

comment-marks : (R : Readings) (n at : ℕ) (S : List Bytes)
    → granules_of (records_of (after_comment (λ (x : PlacedPage). x.bytes) (placed_from at S)))
    ≡ map granule (marks_from R n [] (after_comment (λ (b : Bytes). b) S))
unfolding placed_from records_of marks_from after_comment
comment-marks R n at [] = refl
comment-marks R n at (b ∷ bs) = by (completes (page_of b)) refl (comment-marks R n (at + length b) bs)
  where
    by : (t : Bool) → completes (page_of b) ≡ t
        → granules_of (records_of (after_comment (λ (x : PlacedPage). x.bytes) (placed_from (at + length b) bs)))
        ≡ map granule (marks_from R n [] (after_comment (λ (c : Bytes). c) bs))
        → granules_of (records_of (after_comment (λ (x : PlacedPage). x.bytes) (placed_from at (b ∷ bs))))
        ≡ map granule (marks_from R n [] (after_comment (λ (c : Bytes). c) (b ∷ bs)))
    by true e later = rw e (audio-marks R n (at + length b) [] bs)
    by false e later = rw e later

pub records_are_marks : RecordsAreMarks
unfolding index_of placed_from records_of audio_pages marks marks_from
records_are_marks R [] = refl
records_are_marks R (b ∷ bs) = comment-marks R (head_of R (b ∷ bs)).streams (0 + length b) bs

-- ---- one page among accepted ones

-- what the next granule position is not below
abbrev low : Position → ℕ
low Unset = 0
low Joined = 0
low (At p) = p

-- 17
reached : (position : Position) (end : Bool) (g d : ℕ) → too_small position end g d ≡ false → low position ≤ g
reached Unset end g d e = omega arith
reached Joined end g d e = omega arith
reached (At p) true g d e = ltb-false g p e
reached (At p) false g d e = omega (arith, ltb-false g (p + d) e)

module _ (s : State) (p : Page) where
  same-position : (expecting s p).position ≡ s.position
  unfolding expecting
  same-position = by s.phase
    where
      by : (ph : Phase) → (expecting_in ph s p).position ≡ s.position
      by First = refl
      by Comment = refl
      by Audio = refl
      by Opened = refl
      by Ended = refl

  still_audio : in_headers s.phase ≡ false → in_headers (expecting s p).phase ≡ false
  unfolding expecting
  still_audio a = by s.phase refl
    where
      by : (ph : Phase) → s.phase ≡ ph → in_headers (expecting_in ph s p).phase ≡ false
      by First e = absurd (true≢false (rw e at a))
      by Comment e = a
      by Audio e = a
      by Opened e = refl
      by Ended e = a

  stays-audio : (ph : Phase) (done end : Bool) → in_headers ph ≡ false → in_headers (after_phase ph done end) ≡ false
  stays-audio First done end e = absurd (true≢false e)
  stays-audio Comment done end e = absurd (true≢false e)
  stays-audio Audio done true e = refl
  stays-audio Audio done false e = refl
  stays-audio Opened done true e = refl
  stays-audio Opened done false e = refl
  stays-audio Ended done end e = refl

-- an audio page
module _ (R : Readings) (s : State) (b : Bytes) (audio : in_headers s.phase ≡ false) where
  abbrev page : Page
  page = page_of b

  audio-completes : audio_completes (expecting s page) (seen (expecting s page) page) ≡ completes page
  audio-completes = rw (still_audio s page audio, seen-completes (expecting s page) page)

  audio-stays : in_headers (after R s b).phase ≡ false
  unfolding after next_on
  audio-stays =
      stays-audio s page (expecting s page).phase (seen (expecting s page) page).completes (last page) (still_audio s page audio)

  audio-position : (after R s b).position ≡ after_position (completes page) s.position (granule_of page)
  unfolding after next_on
  audio-position = rw (audio-completes, same-position s page)

  audio-reached : completes page ≡ true → verdict R s b ≡ none → low s.position ≤ granule_of page
  unfolding verdict
  audio-reached e v =
      let t : State = expecting s page in
      let k = timed R t b (seen t page) (audio-completes ∙ e) v in
      rw (← same-position s page) (reached t.position (last page) (granule_of page) (samples_of (measures_of R t (seen t page))) k.reaches)

-- a page of a header
module _ (R : Readings) (s : State) (b : Bytes) where
  first-after : s.phase ≡ First → (after R s b).phase ≡ Comment
  unfolding after next_on expecting
  first-after e = rw e

  comment-after : s.phase ≡ Comment → (after R s b).phase ≡ pick (completes (page_of b)) Audio Comment
  unfolding after next_on expecting
  comment-after e = rw (seen-completes (expecting s (page_of b)) (page_of b), e)

  first-position : s.phase ≡ First → (after R s b).position ≡ s.position
  unfolding after next_on expecting
  first-position e = rw e

  comment-position : s.phase ≡ Comment → (after R s b).position ≡ s.position
  unfolding after next_on expecting
  comment-position e = rw e

-- ---- no granule position falls

audio_rise : (R : Readings) (S : List Bytes) (s : State) (k at place : ℕ) → in_headers s.phase ≡ false → first_refused R s k S ≡ none
    → fall_after place (low s.position) (granules_of (records_of (placed_from at S))) ≡ none
unfolding placed_from records_of fall_after
audio_rise R [] s k at place audio e = refl
audio_rise R (b ∷ bs) s k at place audio e = by (completes (page_of b)) refl
    (audio_rise R bs (after R s b) (suc k) (at + length b) (place + 1) (audio-stays R s b audio) (first R s k b bs e).later)
    (audio_rise R bs (after R s b) (suc k) (at + length b) place (audio-stays R s b audio) (first R s k b bs e).later)
  where
    later : ℕ → ℕ → Type 0
    later i before = fall_after i before (granules_of (records_of (placed_from (at + length b) bs))) ≡ none

    by : (t : Bool) → completes (page_of b) ≡ t → later (place + 1) (low (after R s b).position) → later place (low (after R s b).position)
        → fall_after place (low s.position) (granules_of (records_of (placed_from at (b ∷ bs)))) ≡ none
    by true t one None-more =
        let up = audio-reached R s b audio t (first R s k b bs e).passes in
        let g : (after R s b).position ≡ At (granule_of (page_of b)) = audio-position R s b audio ∙ rw t in
        rw (t, le-ltb (granule_of (page_of b)) (low s.position) up) (rw g at one)
    by false t one None-more =
        let g : (after R s b).position ≡ s.position = audio-position R s b audio ∙ rw t in
        rw t (rw g at None-more)

comment_rise : (R : Readings) (S : List Bytes) (s : State) (k at : ℕ) → s.phase ≡ Comment → low s.position ≡ 0 → first_refused R s k S ≡ none
    → first_fall (granules_of (records_of (after_comment (λ (x : PlacedPage). x.bytes) (placed_from at S)))) ≡ none
unfolding placed_from records_of after_comment first_fall fall_after
comment_rise R [] s k at phase zero e = refl
comment_rise R (b ∷ bs) s k at phase zero e = by (completes (page_of b)) refl
    (audio_rise R bs (after R s b) (suc k) (at + length b) 0) (comment_rise R bs (after R s b) (suc k) (at + length b))
  where
    later : first_refused R (after R s b) (suc k) bs ≡ none
    later = (first R s k b bs e).later

    still : low (after R s b).position ≡ 0
    still = ap low (comment-position R s b phase) ∙ zero

    by : (t : Bool) → completes (page_of b) ≡ t
        → (in_headers (after R s b).phase ≡ false → first_refused R (after R s b) (suc k) bs ≡ none
        → fall_after 0 (low (after R s b).position) (granules_of (records_of (placed_from (at + length b) bs))) ≡ none)
        → ((after R s b).phase ≡ Comment → low (after R s b).position ≡ 0 → first_refused R (after R s b) (suc k) bs ≡ none
        → first_fall (granules_of (records_of (after_comment (λ (x : PlacedPage). x.bytes) (placed_from (at + length b) bs)))) ≡ none)
        → first_fall (granules_of (records_of (after_comment (λ (x : PlacedPage). x.bytes) (placed_from at (b ∷ bs))))) ≡ none
    by true t audio comment =
        let ph : (after R s b).phase ≡ Audio = comment-after R s b phase ∙ rw t in
        rw t (rw still at (audio (ap in_headers ph) later))
    by false t audio comment =
        let ph : (after R s b).phase ≡ Comment = comment-after R s b phase ∙ rw t in
        rw t (comment ph still later)

never_from : (R : Readings) (S : List Bytes) → first_refused R fresh 0 S ≡ none → first_fall (granules_of (index_of S)) ≡ none
unfolding index_of placed_from records_of audio_pages first_fall fall_after
never_from R [] e = refl
never_from R (b ∷ bs) e =
    comment_rise R bs (after R fresh b) 1 (0 + length b) (first-after R fresh b refl) (ap low (first-position R fresh b refl))
    (first R fresh 0 b bs e).later

pub never_falls : NeverFalls
never_falls R S pages packets e = never_from R S (whole_is R S pages packets e).0.accepted
