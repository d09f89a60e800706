-- The audio pages of a stream: the full reader's state, what it told, and the samples still to skip, from the pages alone.
-- Assumes nothing.
use Prim.Native.Nat.{ℕ, suc, ◌+◌, ◌-◌, ◌%◌, ◌^◌, ◌<◌}
use mathlib.Core.Path.{◌≡◌, refl, sym, ap, ap₂, subst, ◌∙◌}
use mathlib.Core.Bool.{Bool, true, false, not, ◌&&◌, ◌||◌, beq, true≢false, false≢true}
use mathlib.Core.List.{List, [], ◌∷◌, ◌++◌, map}
use mathlib.Core.Option.{none}
use native.Mathlib.Nat.{add-zero, add_assoc}
use native.Mathlib.Omega.{arith}
use borrow.Author.Tests.{eqb-true, not-false}
use lib.Dec.{ltb, eqb}
use lib.ListN.{length, take, drop}
use Rattle.octets.specs.Pick.{pick}
use Rattle.octets.specs.Octets.{Bytes}
use Rattle.head_fields.specs.declared.Head.{Head}
use Rattle.granule.specs.declared.Position.{Position}
use Rattle.granule.specs.declared.Position.TheVariants.{At}
use Rattle.granule.specs.Samples.{tally, is_trimmed, is_skipped, is_kept, kept_of, skipped_of, trimmed_of}
use Rattle.granule.specs.Judging.{from, hole}
use Rattle.granule.proofs.Tallies.{tally-same}
use Rattle.granule.proofs.Counting.{skip-after}
use Rattle.stream.specs.declared.Counts.{Counts}
use Rattle.stream.specs.Page.{Page, page_of, continued, last, granule_of, ends, completes}
use Rattle.packet_reader.specs.declared.Measure.{Measure}
use Rattle.stream.specs.Readings.{Readings}
use Rattle.stream.specs.State.{Carried, State, unfinished, expecting}
use Rattle.stream.specs.Packets.{seen, audio_packets, measures_of, samples_of}
use Rattle.stream.specs.Rules.{start_on, after_position, next_on, verdict, after}
use Rattle.stream.specs.Feed.{Entry, entry_of, entries, entries_on, counts_on, skip_on}
use Rattle.stream.specs.Stream.{segments, segments_of, packets_from, left_from, open_from, open_after, left_after, carried_of, ended_after, Mark, decoded, measures_from, mark_from, marks_from, last_from, position_from, decoded_in, sample_trimmed, sample_skipped, sample_kept, Listing, entries_from, counts_from, listing_from, audio_listings}
use Rattle.stream.specs.Feedings.{Shown, bytes_of}
use Rattle.stream.proofs.Passed.{Shaped, shaped}
use Rattle.stream.proofs.Pieces.{page-completes}
use Rattle.stream.proofs.Segments.{Begun, begun-left, joins}
use Rattle.stream.proofs.TwoReaders.{audio}
use Rattle.stream.proofs.Joining.{after_all, ended-none}
use Rattle.stream.proofs.Runs.{listing_on, skip_in, Lists, skip_all}

-- ---- a page that was accepted: its serial, its sequence number and its continued mark are those expected

beq_eq : (a b : Bool) → beq a b ≡ true → a ≡ b
beq_eq true true e = refl
beq_eq true false e = absurd (false≢true e)
beq_eq false true e = absurd (false≢true e)
beq_eq false false e = refl

pub record Expected (s : State) (p : Page) : Type 0 where
  pub serial : p.header.serial ≡ s.serial
  pub sequence : p.header.sequence ≡ s.next
  pub continues : continued p ≡ unfinished s.carried

pub expected : (R : Readings) (s : State) (b : Bytes) → verdict R s b ≡ none → Expected (expecting s (page_of b)) (page_of b)
unfolding verdict
expected R s b v =
    let t : State = expecting s (page_of b) in
    let p : Page = page_of b in
    let k : Shaped R t b (seen t p) = shaped R t b (seen t p) v in
    record {
      serial = eqb-true p.header.serial t.serial (not-false (eqb p.header.serial t.serial) k.serial);
      sequence = eqb-true p.header.sequence t.next (not-false (eqb p.header.sequence t.next) k.sequence);
      continues = beq_eq (continued p) (unfinished t.carried) (not-false (beq (continued p) (unfinished t.carried)) k.continues);
    }

-- ---- where no packet completes there is none

no_packets : (h l body : Bytes) → ends l ≡ false → packets_from h (segments l body) ≡ []
unfolding ends packets_from segments
no_packets h [] body e = refl
no_packets h (v ∷ l) body e = by (ltb v 255) e (no_packets (h ++ take v body) l (drop v body))
  where
    by : (t : Bool) → (t || ends l) ≡ false → (ends l ≡ false → packets_from (h ++ take v body) (segments l (drop v body)) ≡ [])
        → pick t ((h ++ take v body) ∷ packets_from [] (segments l (drop v body))) (packets_from (h ++ take v body) (segments l (drop v body))) ≡ []
    by true e again = absurd (true≢false e)
    by false e again = again e

pub no_samples : (R : Readings) (n : ℕ) (h : Bytes) (p : Page) → completes p ≡ false → samples_of (measures_from R n h p) ≡ 0
unfolding completes segments_of samples_of
no_samples R n h p e = ap (λ (ws : List Bytes). samples_of (map (R.measure_of n) ws)) (no_packets h p.lacing p.body e)

-- ---- samples still to skip, or decoded samples before

pub less : (k n d : ℕ) → k - n - d ≡ k - (n + d)
less k n d = omega arith

pub kept_same : (k n : ℕ) (m : Mark) (at d : ℕ) → kept_of (k - n) m.last m.granule at d ≡ tally (sample_kept k n m at) d
unfolding kept_of
kept_same k n m at d =
    tally-same (is_kept (k - n) m.last m.granule at) (sample_kept k n m at)
    (λ (j : ℕ). ap (λ (t : Bool). not (is_trimmed m.last m.granule at j) && not t) (sym (skip-after k n j))) d

pub skipped-same : (k n : ℕ) (m : Mark) (at d : ℕ) → skipped_of (k - n) m.last m.granule at d ≡ tally (sample_skipped k n m at) d
unfolding skipped_of
skipped-same k n m at d =
    tally-same (is_skipped (k - n) m.last m.granule at) (sample_skipped k n m at)
    (λ (j : ℕ). ap (λ (t : Bool). not (is_trimmed m.last m.granule at j) && t) (sym (skip-after k n j))) d

pub trimmed-same : (n : ℕ) (m : Mark) (at d : ℕ) → trimmed_of m.last m.granule at d ≡ tally (sample_trimmed n m at) d
unfolding trimmed_of
trimmed-same n m at d = refl

entries-same : (k n : ℕ) (m : Mark) (at : ℕ) (ds : List Measure) → entries (k - n) m.last m.granule at ds ≡ entries_from k n m at ds
unfolding entries entries_from
entries-same k n m at [] = refl
entries-same k n m at (d ∷ ds) =
    ap₂ (λ (a : ℕ) (l : List Entry). entry_of at d a ∷ l) (kept_same k n m at d.samples)
    (ap (λ (s : ℕ). entries s m.last m.granule (at + d.samples) ds) (less k n d.samples)
    ∙ entries-same k (n + d.samples) m (at + d.samples) ds)

-- ---- one audio page

module _ (R : Readings) (head : Head) (b : Bytes) (o : Bool) (h : Bytes) (position : Position) (serial next : ℕ) (begun : Begun o h) where
  abbrev page : Page
  page = page_of b

  abbrev now : State
  now = audio false (carried_of o h) position serial next head

  abbrev here : List Measure
  here = measures_from R head.streams h page

  pub here-measures : measures_of R now (seen now page) ≡ here
  unfolding measures_of audio_packets seen
  here-measures = ap (map (R.measure_of head.streams)) (joins o h page begun).packets

  pub here-completes : (seen now page).completes ≡ completes page
  unfolding seen
  here-completes = page-completes (carried_of o h) page

  -- the state that follows
  pub audio-after : verdict R now b ≡ none
      → after R now b ≡ audio (last page) (carried_of (open_from o (segments_of page)) (left_from h (segments_of page)))
      (after_position (completes page) position (granule_of page)) serial ((next + 1) % 2 ^ 32) head
  unfolding after next_on expecting seen
  audio-after v =
      let e : Expected now page = expected R now b v in
      ap₂ (λ (k : Carried) (t : Bool). audio (last page) k (after_position t position (granule_of page)) page.header.serial
      ((page.header.sequence + 1) % 2 ^ 32) head) (joins o h page begun).left here-completes
      ∙ ap₂ (λ (s q : ℕ). audio (last page) (carried_of (open_from o (segments_of page)) (left_from h (segments_of page)))
      (after_position (completes page) position (granule_of page)) s ((q + 1) % 2 ^ 32) head) e.serial e.sequence

  pub audio-skip : (skip : ℕ) → skip_in R skip now b ≡ skip - samples_of here
  unfolding skip_on expecting
  audio-skip skip = ap (λ (ds : List Measure). skip - samples_of ds) here-measures

  -- what is told of it, n samples being decoded before
  abbrev mark : Mark
  mark = mark_from R head.streams h page

  abbrev start : ℕ
  start = from position (last page) (granule_of page) (samples_of here)

  start-same : start_on R now page (seen now page) ≡ start
  unfolding start_on
  start-same = ap (λ (ds : List Measure). from position (last page) (granule_of page) (samples_of ds)) here-measures

  entries-here : (k n : ℕ) → entries_on R (k - n) now page (seen now page) ≡ entries_from k n mark start here
  unfolding entries_on
  entries-here k n =
      ap₂ (λ (at : ℕ) (ds : List Measure). entries (k - n) (last page) (granule_of page) at ds) start-same here-measures ∙ entries-same k n mark start here

  -- the counts of measures ds
  counts_by : ℕ → ℕ → List Measure → Bool → Counts
  counts_by skip at ds t = record {
    packets = length ds;
    samples = samples_of ds;
    kept = kept_of skip (last page) (granule_of page) at (samples_of ds);
    skipped = skipped_of skip (last page) (granule_of page) at (samples_of ds);
    trimmed = trimmed_of (last page) (granule_of page) at (samples_of ds);
    hole = pick t (hole position (granule_of page) (samples_of ds)) 0;
  }

  -- the same with other words for three of them
  counts_with : ℕ → ℕ → ℕ → Counts
  counts_with a s c = record {
    packets = length here;
    samples = samples_of here;
    kept = a;
    skipped = s;
    trimmed = c;
    hole = pick (completes page) (hole position (granule_of page) (samples_of here)) 0;
  }

  counts-here : (k n : ℕ) → counts_on R (k - n) now page (seen now page)
      ≡ counts_from k n mark start (pick (completes page) (hole position (granule_of page) (decoded mark)) 0)
  unfolding counts_on counts_by counts_with
  counts-here k n =
      ap₂ (λ (at : ℕ) (ds : List Measure). counts_by (k - n) at ds (seen now page).completes) start-same here-measures
      ∙ ap (counts_by (k - n) start here) here-completes
      ∙ ap₂ (λ (a s : ℕ). counts_with a s (trimmed_of (last page) (granule_of page) start (samples_of here))) (kept_same k n mark start (samples_of here))
      (skipped-same k n mark start (samples_of here))
      ∙ ap (counts_with (tally (sample_kept k n mark start) (samples_of here)) (tally (sample_skipped k n mark start) (samples_of here)))
      (trimmed-same n mark start (samples_of here))

  pub audio-listing : (k n : ℕ) → listing_on R (k - n) now b ≡ listing_from k position n (completes page) mark
  unfolding expecting
  audio-listing k n = ap₂ (λ (es : List Entry) (c : Counts). record { entries = es; counts = c }) (entries-here k n) (counts-here k n)

-- ---- all audio pages

pub next-page : (next l : ℕ) → ((next + 1) % 2 ^ 32 + l) % 2 ^ 32 ≡ (next + suc l) % 2 ^ 32
next-page next l = omega arith

pub position_from_lem : (g : ℕ) (ms : List Mark) → position_from (At g) ms ≡ At (last_from g ms)
unfolding last_from
position_from_lem g [] = refl
position_from_lem g (m ∷ ms) = refl

pub record Audio (R : Readings) (head : Head) (xs : List Shown) (ended o : Bool) (h : Bytes) (position : Position) (serial next n : ℕ) : Type 0 where
  pub state : after_all R (audio ended (carried_of o h) position serial next head) (bytes_of xs)
      ≡ audio (ended_after ended (bytes_of xs)) (carried_of (open_after o (bytes_of xs)) (left_after h (bytes_of xs)))
      (position_from position (marks_from R head.streams h (bytes_of xs))) serial ((next + length xs) % 2 ^ 32) head
  pub skips : skip_all R (audio ended (carried_of o h) position serial next head) (head.preskip - n) (bytes_of xs)
      ≡ head.preskip - (n + decoded_in (marks_from R head.streams h (bytes_of xs)))
  pub listings : map (λ (x : Shown). x.listing) xs ≡ audio_listings R head h position n (bytes_of xs)

-- the marks of a page and of those after it
mark_on : (R : Readings) (n : ℕ) (h b : Bytes) (ms : List Mark) (position : Position) (t : Bool) → completes (page_of b) ≡ t
    → position_from (after_position t position (granule_of (page_of b))) ms ≡ position_from position (pick t (mark_from R n h (page_of b) ∷ ms) ms)
mark_on R n h b ms position true e = position_from_lem (granule_of (page_of b)) ms
mark_on R n h b ms position false e = refl

decoded_on : (R : Readings) (n : ℕ) (h b : Bytes) (ms : List Mark) (t : Bool) → completes (page_of b) ≡ t
    → samples_of (measures_from R n h (page_of b)) + decoded_in ms ≡ decoded_in (pick t (mark_from R n h (page_of b) ∷ ms) ms)
unfolding decoded_in
decoded_on R n h b ms true e = refl
decoded_on R n h b ms false e = let z : samples_of (measures_from R n h (page_of b)) ≡ 0 = no_samples R n h (page_of b) e in omega arith

pub audio_run : (R : Readings) (head : Head) (xs : List Shown) (ended o : Bool) (h : Bytes) (position : Position) (serial next n : ℕ)
    → Begun o h → next < 2 ^ 32 → Lists R (audio ended (carried_of o h) position serial next head) (head.preskip - n) xs
    → Audio R head xs ended o h position serial next n
unfolding after_all skip_all ended_after open_after left_after marks_from decoded_in audio_listings
audio_run R head [] ended o h position serial next n k small f =
    let z : (next + 0) % 2 ^ 32 ≡ next = omega arith in
    record { state = ap (λ (q : ℕ). audio ended (carried_of o h) position serial q head) (sym z); skips = ap (λ (d : ℕ). head.preskip - d) (sym (add-zero n)); listings = refl }
audio_run R head (x ∷ xs) true o h position serial next n k small f = absurd
    (ended-none R head (carried_of o h) position serial next x.bytes f.0)
audio_run R head (x ∷ xs) false o h position serial next n k small f =
    let b : Bytes = x.bytes in
    let p : Page = page_of b in
    let bs : List Bytes = bytes_of xs in
    let now : State = audio false (carried_of o h) position serial next head in
    let o' : Bool = open_from o (segments_of p) in
    let h' : Bytes = left_from h (segments_of p) in
    let at : Position = after_position (completes p) position (granule_of p) in
    let d : ℕ = samples_of (measures_from R head.streams h p) in
    let then : State = audio (last p) (carried_of o' h') at serial ((next + 1) % 2 ^ 32) head in
    let ms : List Mark = marks_from R head.streams h' bs in
    let state : after R now b ≡ then = audio-after R head b o h position serial next k f.0 in
    let skip : skip_in R (head.preskip - n) now b
    ≡ head.preskip - (n + d) = audio-skip R head b o h position serial next k (head.preskip - n) ∙ less head.preskip n d in
    let later : Lists R then (head.preskip - (n + d)) xs =
    subst (λ (j : ℕ). Lists R then j xs) skip (subst (λ (t : State). Lists R t (skip_in R (head.preskip - n) now b) xs) state f.2) in
    let ih : Audio R head xs (last p) o' h' at serial ((next + 1) % 2 ^ 32) (n + d) =
    audio_run R head xs (last p) o' h' at serial ((next + 1) % 2 ^ 32) (n + d) (begun-left o h (segments_of p) k) (omega arith) later in
    record {
      state = ap (λ (t : State). after_all R t bs) state ∙ ih.state
          ∙ ap₂ (λ (w : Position) (q : ℕ). audio (ended_after (last p) bs) (carried_of (open_after o' bs) (left_after h' bs)) w serial q head)
          (mark_on R head.streams h b ms position (completes p) refl) (next-page next (length xs));
      skips = ap₂ (λ (t : State) (j : ℕ). skip_all R t j bs) state skip ∙ ih.skips
          ∙ ap (λ (j : ℕ). head.preskip - j)
          (add_assoc n d (decoded_in ms) ∙ ap (λ (j : ℕ). n + j) (decoded_on R head.streams h b ms (completes p) refl));
      listings = ap₂ (λ (a : Listing) (l : List Listing). a ∷ l) (f.1 ∙ audio-listing R head b o h position serial next k head.preskip n)
          ih.listings;
    }
