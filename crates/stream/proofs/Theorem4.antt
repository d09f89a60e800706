-- T4: the counts that were told are those of the samples, one by one, and have a closed form. Assumes nothing.
use Prim.Native.Nat.{ℕ, ◌+◌, ◌%◌, ◌^◌}
use mathlib.Core.Path.{◌≡◌, refl, sym, ap, ap₂, subst, ◌∙◌}
use mathlib.Core.Bool.{Bool, true, false, not, ◌&&◌}
use mathlib.Core.List.{List, [], ◌∷◌, map}
use mathlib.Core.Option.{none}
use native.Mathlib.Nat.{zero-add, add-zero, add_assoc}
use native.Mathlib.Omega.{arith}
use lib.Dec.{ltb}
use Prim.Native.Nat.{suc}
use Rattle.octets.specs.Pick.{pick}
use Rattle.octets.specs.Octets.{Bytes, total}
use Rattle.head_fields.specs.declared.Head.{Head}
use Rattle.granule.specs.declared.Position.{Position}
use Rattle.granule.specs.declared.Position.TheVariants.{Unset, At}
use Rattle.granule.specs.Samples.{tally}
use Rattle.granule.specs.Judging.{too_small, from}
use Rattle.granule.proofs.Tallies.{tally-same, tally-parts}
use Rattle.stream.specs.Page.{page_of, last, granule_of, completes}
use Rattle.stream.specs.Packets.{samples_of}
use Rattle.packet_reader.specs.declared.Measure.{Measure}
use Rattle.stream.specs.Readings.{Readings}
use Rattle.stream.specs.State.{State, expecting}
use Rattle.stream.specs.Packets.{seen}
use Rattle.stream.specs.Rules.{after_position, verdict}
use Rattle.stream.specs.Feed.{start, Entry}
use Rattle.stream.specs.Stream.{segments_of, left_from, open_from, carried_of, head_of, after_comment, audio_pages, Mark, decoded, measures_from, mark_from, marks_from, marks, holes_from, decoded_in, sample_trimmed, sample_skipped, sample_kept, count_from, Listing, nothing_listed, entries_from, listing_from, audio_listings, comment_listings, listings, serial_of}
use Rattle.stream.specs.Feedings.{Shown, stream, bytes_in, bytes_of}
use Rattle.stream.specs.Statements.{StreamCounts}
use Rattle.stream.proofs.Passed.{timed}
use Rattle.stream.proofs.Segments.{Begun, begun-left}
use Rattle.stream.proofs.TwoReaders.{audio}
use Rattle.stream.proofs.Joining.{after_all, ended-none}
use Rattle.stream.proofs.Runs.{Lists, skip_in}
use Rattle.stream.proofs.AudioRun.{no_samples, here-measures, here-completes, audio-after}
use Rattle.stream.proofs.HeaderRun.{id_bytes, Arrived}
use Rattle.stream.proofs.Theorem1.{fresh, Whole, whole-stream}
use Rattle.stream.proofs.MarkCounts.{Legal, shares, spans, closed-form}

-- ---- sums over listings

abbrev sum : (Listing → ℕ) → List Listing → ℕ
sum f ls = total (map f ls)

-- a list of listings, page by page: `value` of a page where a packet completes, and nothing of another
sum_told : (f : Listing → ℕ) (S : List Shown) → total (map (λ (x : Shown). f x.listing) S) ≡ sum f (map (λ (x : Shown). x.listing) S)
unfolding total
sum_told f [] = refl
sum_told f (x ∷ xs) = ap (λ (n : ℕ). f x.listing + n) (sum_told f xs)

-- what a field of a listing sums up to over audio pages: `over` marks
module _ (R : Readings) (head : Head) (f : Listing → ℕ) (over : ℕ → Position → List Mark → ℕ)
    (empty : (n : ℕ) (position : Position) → over n position [] ≡ 0)
    (done : (n : ℕ) (position : Position) (m : Mark) (ms : List Mark)
    → over n position (m ∷ ms) ≡ f (listing_from head.preskip position n true m) + over (n + decoded m) (At m.granule) ms)
    (going : (n : ℕ) (position : Position) (m : Mark) → decoded m ≡ 0 → f (listing_from head.preskip position n false m) ≡ 0)
    (nothing-told : f nothing_listed ≡ 0) where
  sum-audio : (bs : List Bytes) (h : Bytes) (position : Position) (n : ℕ)
      → sum f (audio_listings R head h position n bs) ≡ over n position (marks_from R head.streams h bs)
  unfolding audio_listings marks_from total
  sum-audio [] h position n = sym (empty n position)
  sum-audio (b ∷ bs) h position n =
      by (completes (page_of b)) refl (λ (q : Position) (k : ℕ). sum-audio bs (left_from h (segments_of (page_of b))) q k)
    where
      by : (t : Bool) → completes (page_of b) ≡ t
          → ((q : Position) (k : ℕ) → sum f (audio_listings R head (left_from h (segments_of (page_of b))) q k bs)
          ≡ over k q (marks_from R head.streams (left_from h (segments_of (page_of b))) bs))
          → f (listing_from head.preskip position n t (mark_from R head.streams h (page_of b)))
          + sum f (audio_listings R head (left_from h (segments_of (page_of b))) (after_position t position (granule_of (page_of b)))
          (n + samples_of (measures_from R head.streams h (page_of b))) bs)
          ≡ over n position (pick t (mark_from R head.streams h (page_of b) ∷ marks_from R head.streams
          (left_from h (segments_of (page_of b))) bs) (marks_from R head.streams (left_from h (segments_of (page_of b))) bs))
      by true e again =
          ap (λ (z : ℕ). f (listing_from head.preskip position n true (mark_from R head.streams h (page_of b))) + z)
          (again (At (granule_of (page_of b))) (n + samples_of (measures_from R head.streams h (page_of b))))
          ∙ sym (done n position (mark_from R head.streams h (page_of b)) (marks_from R head.streams (left_from h (segments_of (page_of b))) bs))
      by false e again =
          let z : samples_of (measures_from R head.streams h (page_of b)) ≡ 0 = no_samples R head.streams h (page_of b) e in
          ap₂ (λ (a k : ℕ). a + sum f (audio_listings R head (left_from h (segments_of (page_of b))) position k bs))
          (going n position (mark_from R head.streams h (page_of b)) z) (ap (λ (k : ℕ). n + k) z ∙ add-zero n)
          ∙ zero-add (sum f (audio_listings R head (left_from h (segments_of (page_of b))) position n bs)) ∙ again position n

  -- the header pages add nothing
  sum-comments : (bs : List Bytes) → sum f (comment_listings R head bs) ≡ over 0 Unset (marks_from R head.streams [] (after_comment id_bytes bs))
  unfolding comment_listings after_comment total marks_from
  sum-comments [] = sym (empty 0 Unset)
  sum-comments (b ∷ bs) =
      ap (λ (z : ℕ). z + sum f (pick (completes (page_of b)) (audio_listings R head [] Unset 0 bs) (comment_listings R head bs))) nothing-told
      ∙ zero-add (sum f (pick (completes (page_of b)) (audio_listings R head [] Unset 0 bs) (comment_listings R head bs)))
      ∙ by (completes (page_of b)) (sum-audio bs [] Unset 0) (sum-comments bs)
    where
      by : (t : Bool) → sum f (audio_listings R head [] Unset 0 bs) ≡ over 0 Unset (marks_from R head.streams [] bs)
          → sum f (comment_listings R head bs) ≡ over 0 Unset (marks_from R head.streams [] (after_comment id_bytes bs))
          → sum f (pick t (audio_listings R head [] Unset 0 bs) (comment_listings R head bs))
          ≡ over 0 Unset (marks_from R head.streams [] (pick t bs (after_comment id_bytes bs)))
      by true a c = a
      by false a c = c

-- over a stream
sum-stream : (R : Readings) (bs : List Bytes) (f : Listing → ℕ) (over : ℕ → Position → List Mark → ℕ)
    → ((n : ℕ) (position : Position) → over n position [] ≡ 0)
    → ((n : ℕ) (position : Position) (m : Mark) (ms : List Mark)
    → over n position (m ∷ ms) ≡ f (listing_from (head_of R bs).preskip position n true m) + over (n + decoded m) (At m.granule) ms)
    → ((n : ℕ) (position : Position) (m : Mark) → decoded m ≡ 0 → f (listing_from (head_of R bs).preskip position n false m) ≡ 0)
    → f nothing_listed ≡ 0 → sum f (listings R bs) ≡ over 0 Unset (marks R bs)
unfolding listings marks audio_pages total marks_from
sum-stream R [] f over empty done going nothing-told = sym (empty 0 Unset)
sum-stream R (b ∷ bs) f over empty done going nothing-told =
    ap (λ (z : ℕ). z + sum f (comment_listings R (head_of R (b ∷ bs)) bs)) nothing-told ∙ zero-add (sum f (comment_listings R (head_of R (b ∷ bs)) bs))
    ∙ sum-comments R (head_of R (b ∷ bs)) f over empty done going nothing-told bs

-- ---- the kept counts of a page's entries are the count over the page

kept-later : (k n : ℕ) (m : Mark) (at d j : ℕ) → sample_kept k n m at (d + j) ≡ sample_kept k (n + d) m (at + d) j
kept-later k n m at d j =
    let a : at + suc (d + j) ≡ at + d + suc j = omega arith in
    ap₂ (λ (x y : ℕ). not (m.last && ltb m.granule x) && not (ltb y k)) a (sym (add_assoc n d j))

entries-kept : (k n : ℕ) (m : Mark) (at : ℕ) (ds : List Measure)
    → total (map (λ (e : Entry). e.kept) (entries_from k n m at ds)) ≡ tally (sample_kept k n m at) (samples_of ds)
unfolding entries_from total samples_of tally
entries-kept k n m at [] = refl
entries-kept k n m at (d ∷ ds) =
    let c : ℕ = d.samples in
    ap (λ (z : ℕ). tally (sample_kept k n m at) c + z)
    (entries-kept k (n + c) m (at + c) ds
    ∙ sym (tally-same (λ (j : ℕ). sample_kept k n m at (c + j)) (sample_kept k (n + c) m (at + c)) (kept-later k n m at c) (samples_of ds)))
    ∙ sym (tally-parts (sample_kept k n m at) c (samples_of ds))

-- ---- the marks are legal

ended-marks : (R : Readings) (head : Head) (h : Bytes) (o : Bool) (position : Position) (serial next skip : ℕ) (k : Bytes) (xs : List Shown)
    → Lists R (audio true (carried_of o h) position serial next head) skip xs → marks_from R head.streams k (bytes_of xs) ≡ []
unfolding marks_from
ended-marks R head h o position serial next skip k [] f = refl
ended-marks R head h o position serial next skip k (x ∷ xs) f = absurd (ended-none R head (carried_of o h) position serial next x.bytes f.0)

-- one page: 17 does not hold
module _ (R : Readings) (head : Head) (b : Bytes) (o : Bool) (h : Bytes) (position : Position) (serial next : ℕ) (k : Begun o h) where
  abbrev now : State
  now = audio false (carried_of o h) position serial next head

  in_time : verdict R now b ≡ none → completes (page_of b) ≡ true
      → too_small position (last (page_of b)) (granule_of (page_of b)) (samples_of (measures_from R head.streams h (page_of b))) ≡ false
  unfolding verdict expecting
  in_time v e =
      ap (λ (ds : List Measure). too_small position (last (page_of b)) (granule_of (page_of b)) (samples_of ds))
      (sym (here-measures R head b o h position serial next k))
      ∙ (timed R now b (seen now (page_of b)) (here-completes R head b o h position serial next k ∙ e) v).reaches

marks-legal : (R : Readings) (head : Head) (xs : List Shown) (ended o : Bool) (h : Bytes) (position : Position) (serial next skip : ℕ) → Begun o h
    → Lists R (audio ended (carried_of o h) position serial next head) skip xs → Legal position (marks_from R head.streams h (bytes_of xs))
unfolding marks_from
marks-legal R head [] ended o h position serial next skip k f = tt
marks-legal R head (x ∷ xs) true o h position serial next skip k f = absurd (ended-none R head (carried_of o h) position serial next x.bytes f.0)
marks-legal R head (x ∷ xs) false o h position serial next skip k f =
    by (completes (page_of x.bytes)) refl
    (λ (end : Bool) (q : Position). marks-legal R head xs end (open_from o (segments_of (page_of x.bytes)))
    (left_from h (segments_of (page_of x.bytes))) q serial ((next + 1) % 2 ^ 32)
    (skip_in R skip (audio false (carried_of o h) position serial next head) x.bytes) (begun-left o h (segments_of (page_of x.bytes)) k))
  where
    -- the state after the page
    then : Bool → Position → State
    then end q = audio end (carried_of (open_from o (segments_of (page_of x.bytes))) (left_from h (segments_of (page_of x.bytes)))) q serial
        ((next + 1) % 2 ^ 32) head

    later : List Mark
    later = marks_from R head.streams (left_from h (segments_of (page_of x.bytes))) (bytes_of xs)

    lists : (t : Bool) → completes (page_of x.bytes) ≡ t
        → Lists R (then (last (page_of x.bytes)) (after_position t position (granule_of (page_of x.bytes))))
        (skip_in R skip (audio false (carried_of o h) position serial next head) x.bytes) xs
    lists t e =
        subst (λ (s : State). Lists R s (skip_in R skip (audio false (carried_of o h) position serial next head) x.bytes) xs)
        (audio-after R head x.bytes o h position serial next k f.0
        ∙ ap (λ (w : Bool). then (last (page_of x.bytes)) (after_position w position (granule_of (page_of x.bytes)))) e) f.2

    by : (t : Bool) → completes (page_of x.bytes) ≡ t
        → ((end : Bool) (q : Position)
        → Lists R (then end q) (skip_in R skip (audio false (carried_of o h) position serial next head) x.bytes) xs → Legal q later)
        → Legal position (pick t (mark_from R head.streams h (page_of x.bytes) ∷ later) later)
    by true e again = (
      in_time R head x.bytes o h position serial next k f.0 e,
      λ l. ended-marks R head (left_from h (segments_of (page_of x.bytes))) (open_from o (segments_of (page_of x.bytes)))
          (At (granule_of (page_of x.bytes))) serial ((next + 1) % 2 ^ 32)
          (skip_in R skip (audio false (carried_of o h) position serial next head) x.bytes) (left_from h (segments_of (page_of x.bytes))) xs
          (subst (λ (end : Bool). Lists R (then end (At (granule_of (page_of x.bytes))))
          (skip_in R skip (audio false (carried_of o h) position serial next head) x.bytes) xs) l (lists true e)),
      again (last (page_of x.bytes)) (At (granule_of (page_of x.bytes))) (lists true e),
    )
    by false e again = again (last (page_of x.bytes)) position (lists false e)

pub after_same : (ys : List Shown) → after_comment id_bytes (bytes_of ys) ≡ bytes_of (after_comment bytes_in ys)
unfolding after_comment
after_same [] = refl
after_same (y ∷ ys) = by (completes (page_of y.bytes)) (after_same ys)
  where
    by : (t : Bool) → after_comment id_bytes (bytes_of ys) ≡ bytes_of (after_comment bytes_in ys)
        → pick t (bytes_of ys) (after_comment id_bytes (bytes_of ys)) ≡ bytes_of (pick t ys (after_comment bytes_in ys))
    by true e = refl
    by false e = e

marks-same : (R : Readings) (S : List Shown) → marks R (bytes_of S) ≡ marks_from R (head_of R (bytes_of S)).streams [] (bytes_of (audio_pages bytes_in S))
unfolding marks audio_pages
marks-same R [] = refl
marks-same R (x ∷ xs) = ap (marks_from R (head_of R (bytes_of (x ∷ xs))).streams []) (after_same xs)

stream-legal : (R : Readings) (S : List Shown) → Whole R S → Legal Unset (marks R (bytes_of S))
stream-legal R S w =
    let head : Head = head_of R (bytes_of S) in
    let a : Arrived R head (serial_of (bytes_of S)) (after_all R fresh (bytes_of S)) (audio_pages bytes_in S) = w.arrives in
    subst (Legal Unset) (sym (marks-same R S))
    (marks-legal R head (audio_pages bytes_in S) false false [] Unset (serial_of (bytes_of S)) a.next head.preskip (λ e. refl) a.lists)

-- ---- T4

no_tally_lem : (test : ℕ → Bool) (d : ℕ) → d ≡ 0 → tally test d ≡ 0
unfolding tally
no_tally_lem test d e = ap (tally test) e

abbrev listed_kept : Listing → ℕ
listed_kept l = total (map (λ (e : Entry). e.kept) l.entries)

pub stream-counts : StreamCounts
unfolding count_from decoded_in holes_from total
stream-counts R F handed =
    let S : List Shown = stream R start F in
    let bs : List Bytes = bytes_of S in
    let k : ℕ = (head_of R bs).preskip in
    let ms : List Mark = marks R bs in
    let w : Whole R S = whole-stream R F handed in
    let legal : Legal Unset ms = stream-legal R S w in
    let at : Position → Mark → ℕ = (λ (q : Position) (m : Mark). from q m.last m.granule (decoded m)) in
    record {
      listed = sum_told listed_kept S ∙ ap (sum listed_kept) w.listings
          ∙ sum-stream R bs listed_kept (count_from (sample_kept k)) (λ n q. refl)
          (λ n q m l. ap (λ (a : ℕ). a + count_from (sample_kept k) (n + decoded m) (At m.granule) l)
          (sym (entries-kept k n m (at q m) m.measures)))
          (λ n q m e. entries-kept k n m (at q m) m.measures ∙ no_tally_lem (sample_kept k n m (at q m)) (decoded m) e) refl;
      kept = sum_told (λ (l : Listing). l.counts.kept) S ∙ ap (sum (λ (l : Listing). l.counts.kept)) w.listings
          ∙ sum-stream R bs (λ (l : Listing). l.counts.kept) (count_from (sample_kept k)) (λ n q. refl) (λ n q m l. refl)
          (λ n q m e. no_tally_lem (sample_kept k n m (at q m)) (decoded m) e) refl;
      skipped = sum_told (λ (l : Listing). l.counts.skipped) S ∙ ap (sum (λ (l : Listing). l.counts.skipped)) w.listings
          ∙ sum-stream R bs (λ (l : Listing). l.counts.skipped) (count_from (sample_skipped k)) (λ n q. refl) (λ n q m l. refl)
          (λ n q m e. no_tally_lem (sample_skipped k n m (at q m)) (decoded m) e) refl;
      trimmed = sum_told (λ (l : Listing). l.counts.trimmed) S ∙ ap (sum (λ (l : Listing). l.counts.trimmed)) w.listings
          ∙ sum-stream R bs (λ (l : Listing). l.counts.trimmed) (count_from sample_trimmed) (λ n q. refl) (λ n q m l. refl)
          (λ n q m e. no_tally_lem (sample_trimmed n m (at q m)) (decoded m) e) refl;
      hole = sum_told (λ (l : Listing). l.counts.hole) S ∙ ap (sum (λ (l : Listing). l.counts.hole)) w.listings
          ∙ sum-stream R bs (λ (l : Listing). l.counts.hole) (λ (n : ℕ) (q : Position) (l : List Mark). holes_from q l) (λ n q. refl)
          (λ n q m l. refl) (λ n q m e. refl) refl;
      samples = sum_told (λ (l : Listing). l.counts.samples) S ∙ ap (sum (λ (l : Listing). l.counts.samples)) w.listings
          ∙ sum-stream R bs (λ (l : Listing). l.counts.samples) (λ (n : ℕ) (q : Position) (l : List Mark). decoded_in l) (λ n q. refl)
          (λ n q m l. refl) (λ n q m e. e) refl;
      shares = shares k ms;
      spans = spans ms legal;
      closed = λ some. closed-form k ms legal;
    }
