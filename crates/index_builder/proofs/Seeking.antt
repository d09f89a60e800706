-- Seeking and joining part way work together: a record has the place of an audio page of its stream, and a reader opened there
-- lists what the first reader listed. Assumes nothing.
use Prim.Native.Nat.{ℕ, zero, suc, ◌+◌, ◌<◌}
use mathlib.Core.Path.{◌≡◌, refl, sym, ap, subst, ◌∙◌}
use mathlib.Core.Bool.{Bool, true, false}
use mathlib.Core.List.{List, [], ◌∷◌}
use native.Mathlib.Omega.{arith}
use borrow.Author.Tests.{ltb-true, ltb-false}
use lib.Dec.{ltb}
use lib.ListN.{length, get_or, drop, length-map, drop_of_length-le}
use Rattle.octets.specs.Pick.{pick}
use Rattle.octets.specs.Octets.{Bytes}
use Rattle.stream.specs.Page.{page_of, completes}
use Rattle.stream.specs.Readings.{Readings, readings}
use Rattle.stream.specs.Stream.{after_comment, audio_pages}
use Rattle.stream.specs.Feed.{start}
use Rattle.stream.specs.Feedings.{Shown, bytes_in, bytes_of, stream}
use Rattle.stream.specs.Statements.{audio_in}
use Rattle.stream.proofs.HeaderRun.{id_bytes}
use Rattle.stream.proofs.Theorem3.{demand_3}
use Rattle.stream.proofs.Theorem4.{after_same}
use Rattle.recording.specs.Pages.{pages_of}
use Rattle.recording.proofs.Passing.{empty_cons}
use Rattle.recording.proofs.Places.{no_pages}
use Rattle.recording.proofs.Streams.{whole_is, whole-streams}
use Rattle.index_search.specs.declared.IndexRecord.{IndexRecord}
use Rattle.index_search.specs.Index.{Index, no_record, granules_of, at_record, seek_of}
use Rattle.index_search.specs.Statements.{Means}
use Rattle.index_search.proofs.Means.{answer_means}
use Rattle.index_walk.specs.Records.{PlacedPage, placed_from, record_of, records_of, index_of}
use Rattle.recording_pages.specs.Places.{page_at}
use Rattle.recording_pages.proofs.Pages.{front}
use Rattle.index_builder.specs.Statements.{SeekJoins}

-- the place is that of the jth of these pages
record Begins (b : Bytes) (S : List Bytes) (place : ℕ) : Type 0 where
  j : ℕ
  there : pages_of (drop place b) ≡ drop j S

-- the pages after the first
next_place : (b : Bytes) (at : ℕ) (p : Bytes) (S : List Bytes) → pages_of (drop at b) ≡ p ∷ S → pages_of (drop (at + length p) b) ≡ S
next_place b at p S e = by (ltb at (length b)) refl
  where
    by : (t : Bool) → ltb at (length b) ≡ t → pages_of (drop (at + length p) b) ≡ S
    by true t =
        let f = (front b at (ltb-true at (length b) t)).pages in
        let same : page_at b at ≡ p = cc in
        let rest : pages_of (drop (at + length (page_at b at)) b) ≡ S = cc in
        rw same at rest
    by false t =
        let none_left : pages_of (drop at b) ≡ [] = rw (drop_of_length-le b (ltb-false at (length b) t)) no_pages in
        empty_cons (sym none_left ∙ e)

-- each record of an index has the place of one of these pages of b
abbrev Placed : Bytes → List Bytes → Index → Type 0
Placed b S ix = (i : ℕ) → i < length ix → Begins b S (get_or ix i no_record).place

one_more : (b p : Bytes) (S : List Bytes) (ix : Index) → Placed b S ix → Placed b (p ∷ S) ix
one_more b p S ix k i h = record { j = suc (k i h).j; there = (k i h).there }

audio-placed : (b : Bytes) (S : List Bytes) (at : ℕ) → pages_of (drop at b) ≡ S → Placed b S (records_of (placed_from at S))
unfolding placed_from records_of
audio-placed b [] at e = λ i h. absurd (omega arith)
audio-placed b (p ∷ S) at e =
    by (completes (page_of p)) (record_of (record { place = at; bytes = p })) (records_of (placed_from (at + length p) S)) refl
    (audio-placed b S (at + length p) (next_place b at p S e))
  where
    by : (t : Bool) (r : IndexRecord) (ix : Index) → r.place ≡ at → Placed b S ix → Placed b (p ∷ S) (pick t (r ∷ ix) ix)
    by true r ix here k zero h = rw here (record { j = 0; there = e })
    by true r ix here k (suc i) h = one_more b p S ix k i (omega arith)
    by false r ix here k i h = one_more b p S ix k i h

comment-placed : (b : Bytes) (S : List Bytes) (at : ℕ) → pages_of (drop at b) ≡ S
    → Placed b (after_comment id_bytes S) (records_of (after_comment (λ (x : PlacedPage). x.bytes) (placed_from at S)))
unfolding placed_from records_of after_comment
comment-placed b [] at e = λ i h. absurd (omega arith)
comment-placed b (p ∷ S) at e =
    by (completes (page_of p)) (comment-placed b S (at + length p) (next_place b at p S e))
  where
    xs : List PlacedPage
    xs = placed_from (at + length p) S

    by : (t : Bool) → Placed b (after_comment id_bytes S) (records_of (after_comment (λ (x : PlacedPage). x.bytes) xs))
        → Placed b (pick t S (after_comment id_bytes S)) (records_of (pick t xs (after_comment (λ (x : PlacedPage). x.bytes) xs)))
    by true k = audio-placed b S (at + length p) (next_place b at p S e)
    by false k = k

all_placed : (b : Bytes) (S : List Bytes) → pages_of (drop 0 b) ≡ S → Placed b (audio_pages id_bytes S) (index_of S)
unfolding index_of placed_from records_of audio_pages
all_placed b [] e = λ i h. absurd (omega arith)
all_placed b (p ∷ S) e = comment-placed b S (0 + length p) (next_place b 0 p S e)

-- ---- the audio pages of the first reader

audio-bytes : (X : List Shown) → bytes_of (audio_pages bytes_in X) ≡ audio_pages id_bytes (bytes_of X)
unfolding audio_pages
audio-bytes [] = refl
audio-bytes (x ∷ xs) = sym (after_same xs)

bytes_drop : (j : ℕ) (X : List Shown) → bytes_of (drop j X) ≡ drop j (bytes_of X)
bytes_drop zero X = refl
bytes_drop (suc j) [] = refl
bytes_drop (suc j) (x ∷ X) = bytes_drop j X

-- ---- an answer is a place of the index

record-there : (ix : Index) (target i probes : ℕ) → seek_of ix target ≡ at_record i probes → i < length ix
record-there ix target i probes e =
    let m : Means (granules_of ix) target (at_record i probes) = subst (Means (granules_of ix) target) e (answer_means (granules_of ix) target) in
    omega (arith, m.1.there, length-map ix (λ (r : IndexRecord). r.granule))

pub seek_joins : SeekJoins
seek_joins crc b pages packets target i probes F M judged feeds sought opened =
    let R : Readings = readings crc in
    let S : List Bytes = pages_of b in
    let place : ℕ = (get_or (index_of S) i no_record).place in
    let at : Begins b (audio_pages id_bytes S) place = all_placed b S refl i (record-there (index_of S) target i probes sought) in
    let shown : bytes_of (stream R start F) ≡ S =
    (ap bytes_of (whole-streams R S F pages packets judged feeds).shows ∙ (whole_is R S pages packets judged).0.shown) in
    let there : pages_of (drop place b) ≡ bytes_of (drop at.j (audio_in R F)) =
    (at.there
    ∙ ap (λ (T : List Bytes). drop at.j (audio_pages id_bytes T)) (sym shown)
    ∙ ap (drop at.j) (sym (audio-bytes (stream R start F)))
    ∙ sym (bytes_drop at.j (audio_in R F))) in
    record {
      j = at.j;
      there = there;
      told = demand_3 R F at.j M
          (record {
            first = feeds.handed;
            second = opened.handed;
            room = opened.room;
            pages = opened.pages ∙ there;
            others = opened.others;
          });
    }
