-- One accepted page of a reader opened part way: no total wraps, and each grows by what the page lists. Assumes nothing.
use Prim.Native.Nat.{ℕ, ◌+◌, ◌-◌, ◌^◌, ◌≤◌, ◌<◌}
use mathlib.Core.Path.{◌≡◌, refl, sym, ap, ap₂, subst, ◌∙◌}
use mathlib.Core.Bool.{Bool, true, false, not, ◌&&◌, true≢false}
use mathlib.Core.List.{List, map}
use mathlib.Core.Option.{none}
use native.Mathlib.Omega.{arith}
use borrow.Author.Tests.{ltb-false}
use lib.Dec.{ltb}
use Rattle.octets.specs.Pick.{pick}
use Rattle.octets.specs.Octets.{Bytes, Octets, total}
use Rattle.granule.specs.declared.Position.{Position}
use Rattle.granule.specs.declared.Position.TheVariants.{Unset, Joined, At}
use Rattle.granule.specs.Samples.{kept_of, skipped_of, trimmed_of}
use Rattle.granule.specs.Judging.{granule_max, granule_wrong, too_small, before, hole, from, placed}
use Rattle.granule.specs.Statements.{Fits}
use Rattle.granule.proofs.Counting.{closed_forms}
use Rattle.granule.proofs.Placing.{fits-placed}
use Rattle.stream.specs.declared.Phase.{Phase}
use Rattle.stream.specs.declared.Phase.TheVariants.{First, Comment, Audio, Opened, Ended}
use Rattle.stream.specs.Page.{Page, page_of, last, granule_of, completes}
use Rattle.packet_reader.specs.declared.Measure.{Measure}
use Rattle.stream.specs.Readings.{Readings, readings}
use Rattle.stream.specs.State.{State, is_ended, in_headers, expecting_in, expecting}
use Rattle.stream.specs.Packets.{Seen, measures_of, samples_of}
use Rattle.stream.specs.Rules.{granule_most, audio_completes, start_on, after_phase, after_position, next_on, verdict}
use Rattle.stream.specs.Feed.{Reader, reader_of, view, core_of, Entry, entries_on, counts_on, skip_after, skip_on, added, tally_on}
use Rattle.stream.specs.Unskipped.{trimmed_in}
use Rattle.stream.specs.Totals.{trimmed_most}
use Rattle.stream.proofs.Passed.{Shaped, shaped, Timed, timed}
use Rattle.stream.proofs.Pieces.{seen-completes}
use Rattle.stream.proofs.Step.{expected, saw, still_ended}
use Rattle.stream.proofs.Unskipped.{skipped-none, kept-rest}
use Rattle.stream.proofs.TotalsAny.{position-stays}
use Rattle.stream.proofs.TotalsLengths.{page-most, none_sounds, entries-kept, entries-trimmed, entries-samples}

-- ---- the totals and the position

-- k kept samples and holes of o: none before the first granule position, and then they reach from the initial one, i, to the last
abbrev pub Balanced : ℕ → Position → ℕ → ℕ → Type 0
Balanced i Unset k o = (k ≡ 0) × (o ≡ 0)
Balanced i Joined k o = (k ≡ 0) × (o ≡ 0)
Balanced i (At g) k o = (i + k + o ≡ g) × (g ≤ granule_max)

-- the initial position after a page that completes a packet, or not; n is the one that the page would set
abbrev pub initial_on : Bool → Position → ℕ → ℕ → ℕ
initial_on true Unset i n = n
initial_on true Joined i n = n
initial_on true (At q) i n = i
initial_on false q i n = i

-- a reader opened part way, after any pages
pub record PartWay (i : ℕ) (r : Reader) : Type 0 where
  pub skip : r.tally.skip ≡ 0
  pub past : in_headers r.core.phase ≡ false
  pub skipped : r.tally.skipped ≡ 0
  pub untrimmed : is_ended r.core.phase ≡ false → r.tally.trimmed ≡ 0
  pub few : r.tally.trimmed ≤ trimmed_most
  pub balanced : Balanced i r.core.position r.tally.kept r.tally.hole

-- the samples of the packets listed
abbrev sounding : List Entry → ℕ
sounding es = total (map (λ (n : Entry). n.samples) es)

-- a page with this list takes r to e
pub record Grows (i : ℕ) (r e : Reader) (p : Page) (es : List Entry) : Type 0 where
  pub kept : e.tally.kept ≡ r.tally.kept + total (map (λ (n : Entry). n.kept) es)
  pub trimmed : e.tally.trimmed ≡ r.tally.trimmed + total (map (trimmed_in p) es)
  pub samples : total (map (λ (n : Entry). n.kept) es) + total (map (trimmed_in p) es) ≡ sounding es
  pub hole : e.tally.hole
      ≡ r.tally.hole + pick (completes p) (hole r.core.position (granule_of p) (sounding es)) 0
  pub position : e.core.position ≡ after_position (completes p) r.core.position (granule_of p)
  pub opened : PartWay (initial_on (completes p) r.core.position i (granule_of p - sounding es)) e

balanced_same : (q : Position) (i k o a z : ℕ) → a ≡ k → z ≡ o → Balanced i q k o → Balanced i q a z
balanced_same Unset i k o a z e f s = (e ∙ s.0, f ∙ s.1)
balanced_same Joined i k o a z e f s = (e ∙ s.0, f ∙ s.1)
balanced_same (At g) i k o a z e f s = (ap₂ (λ (x y : ℕ). i + x + y) e f ∙ s.0, s.1)

balanced_small : (q : Position) (i k o : ℕ) → Balanced i q k o → (k ≤ granule_max) × (o ≤ granule_max)
balanced_small Unset i k o s = (omega (arith, s.0), omega (arith, s.1))
balanced_small Joined i k o s = (omega (arith, s.0), omega (arith, s.1))
balanced_small (At g) i k o s = (omega (arith, s.0, s.1), omega (arith, s.0, s.1))

-- one page where a packet completes
balanced_on : (q : Position) (i k o g d n : ℕ) → Balanced i q k o → before q g d + hole q g d + n ≡ g → g ≤ granule_max
    → Balanced (initial_on true q i (g - d)) (At g) (k + n) (o + hole q g d)
balanced_on Unset i k o g d n s e h = (omega (arith, s.0, s.1, e), h)
balanced_on Joined i k o g d n s e h = (omega (arith, s.0, s.1, e), h)
balanced_on (At q) i k o g d n s e h = (regroup (g - (q + d)) s.0 e, h)
  where
    regroup : (w : ℕ) → i + k + o ≡ q → q + w + n ≡ g → i + (k + n) + (o + w) ≡ g
    regroup w a b = omega arith

-- what is before the page, its hole and what it keeps reach G
reaches_granule : (q : Position) (skip : ℕ) (end : Bool) (g d : ℕ) → skip ≡ 0 → too_small q end g d ≡ false
    → before q g d + hole q g d + kept_of skip end g (from q end g d) d ≡ g
unfolding placed
reaches_granule q skip end g d z e =
    let f : Fits g d (placed q end g d) = fits-placed q end g d e in
    ap (λ (n : ℕ). before q g d + hole q g d + kept_of n end g (from q end g d) d) z
    ∙ regroup (before q g d) (hole q g d) (kept_of 0 end g (from q end g d) d) (trimmed_of end g (from q end g d) d)
    (from q end g d) f.ends f.spans (kept-rest end g (from q end g d) d)
  where
    regroup : (b w k t a : ℕ) → a + d ≡ g + t → b + w ≡ a → k + t ≡ d → b + w + k ≡ g
    regroup b w k t a x y v = omega arith

-- ---- a total that does not wrap

unwrapped : (a n : ℕ) → a + n < 2 ^ 64 → added a n ≡ a + n
unwrapped a n h = omega arith

-- ---- what the reader expects

expects_audio : (s : State) (p : Page) → in_headers s.phase ≡ false → is_ended (expecting s p).phase ≡ false
    → (expecting s p).phase ≡ Audio
unfolding expecting
expects_audio s p f g = by s.phase refl g
  where
    by : (ph : Phase) → s.phase ≡ ph → is_ended (expecting_in ph s p).phase ≡ false → (expecting_in ph s p).phase ≡ Audio
    by First e h = absurd (true≢false (sym (ap in_headers e) ∙ f))
    by Comment e h = absurd (true≢false (sym (ap in_headers e) ∙ f))
    by Audio e h = e
    by Opened e h = refl
    by Ended e h = absurd (true≢false (sym (ap is_ended e) ∙ h))

-- ---- the page

module _ (crc : Bytes → ℕ) (i : ℕ) (r : Reader) (c b : Bytes) (o : Octets b) (w : PartWay i r)
    (v : verdict (readings crc) (view r.core c) b ≡ none) where
  abbrev R : Readings
  R = readings crc

  abbrev s : State
  s = expected r c b

  abbrev p : Page
  p = page_of b

  abbrev x : Seen
  x = saw r c b

  abbrev q : Position
  q = r.core.position

  abbrev g : ℕ
  g = granule_of p

  abbrev d : ℕ
  d = samples_of (measures_of R s x)

  abbrev at : ℕ
  at = start_on R s p x

  abbrev skip : ℕ
  skip = r.tally.skip

  abbrev kept : ℕ
  kept = kept_of skip (last p) g at d

  abbrev trimmed : ℕ
  trimmed = trimmed_of (last p) g at d

  abbrev empty : ℕ
  empty = pick (completes p) (hole q g d) 0

  shape : Shaped R s b x
  unfolding verdict
  shape = shaped R s b x v

  audio : s.phase ≡ Audio
  audio = expects_audio (view r.core c) p w.past shape.going

  place : s.position ≡ q
  place = position-stays (view r.core c) p

  sounds : audio_completes s x ≡ completes p
  sounds = ap (λ (ph : Phase). not (in_headers ph) && x.completes) audio ∙ seen-completes s p

  going : r.tally.trimmed ≡ 0
  going = w.untrimmed (sym (still_ended (view r.core c) p) ∙ shape.going)

  shared : kept + trimmed ≡ d
  shared = ap (λ (n : ℕ). kept_of n (last p) g at d + trimmed) w.skip ∙ kept-rest (last p) g at d

  -- the new totals, before any wrap
  balanced_new : (t : Bool) → completes p ≡ t
      → Balanced (initial_on t q i (g - d)) (after_position t q g) (r.tally.kept + kept) (r.tally.hole + pick t (hole q g d) 0)
  unfolding verdict start_on granule_wrong
  balanced_new true e =
      let k : Timed R s b x = timed R s b x (sounds ∙ e) v in
      let small : too_small q (last p) g d ≡ false = ap (λ (z : Position). too_small z (last p) g d) (sym place) ∙ k.reaches in
      let most : ltb granule_max g ≡ false =
      ap₂ (λ (ph : Phase) (t : Bool). granule_wrong (granule_most ph) t g) (sym audio) (sym (seen-completes s p ∙ e))
      ∙ shape.granule in
      balanced_on q i r.tally.kept r.tally.hole g d kept w.balanced
      (ap (λ (z : Position). before q g d + hole q g d + kept_of skip (last p) g (from z (last p) g d) d) place
      ∙ reaches_granule q skip (last p) g d w.skip small) (ltb-false granule_max g most)
  balanced_new false e =
      let z : d ≡ 0 = none_sounds R s p e in
      balanced_same q i r.tally.kept r.tally.hole _ _ (omega (arith, shared, z)) (omega arith) w.balanced

  small : (r.tally.kept + kept ≤ granule_max) × (r.tally.hole + empty ≤ granule_max)
  small =
      balanced_small (after_position (completes p) q g) (initial_on (completes p) q i (g - d)) (r.tally.kept + kept)
      (r.tally.hole + empty) (balanced_new (completes p) refl)

  kept_new : added r.tally.kept kept ≡ r.tally.kept + kept
  kept_new = let k : r.tally.kept + kept ≤ granule_max = small.0 in unwrapped r.tally.kept kept (omega arith)

  hole_new : added r.tally.hole (pick (audio_completes s x) (hole s.position g d) 0) ≡ r.tally.hole + empty
  hole_new =
      ap₂ (λ (t : Bool) (z : Position). added r.tally.hole (pick t (hole z g d) 0)) sounds place
      ∙ (let k : r.tally.hole + empty ≤ granule_max = small.1 in unwrapped r.tally.hole empty (omega arith))

  few_new : r.tally.trimmed + trimmed ≤ trimmed_most
  few_new = let k : d ≤ trimmed_most = page-most crc s b o in omega (arith, going, shared)

  trimmed_new : added r.tally.trimmed trimmed ≡ r.tally.trimmed + trimmed
  trimmed_new = let k : r.tally.trimmed + trimmed ≤ trimmed_most = few_new in unwrapped r.tally.trimmed trimmed (omega arith)

  -- the page is marked last, or not
  stays-past : (t : Bool) → in_headers (pick t Ended Audio) ≡ false
  stays-past true = refl
  stays-past false = refl

  untrimmed_by : (t : Bool) → is_ended (pick t Ended Audio) ≡ false → trimmed_of t g at d ≡ 0
  untrimmed_by true e = absurd (true≢false e)
  untrimmed_by false e = (closed_forms 0 g at d).uncut

  then : Reader
  then = reader_of (core_of (next_on R s p x)) (tally_on R r.tally s p x)

  part_way : PartWay (initial_on (completes p) q i (g - d)) then
  unfolding next_on tally_on skip_on counts_on then
  part_way = record {
    skip = ap (λ (ph : Phase). skip_after ph (next_on R s p x).preskip skip d) audio ∙ (omega (arith, w.skip));
    past = ap (λ (ph : Phase). in_headers (after_phase ph x.completes (last p))) audio ∙ stays-past (last p);
    skipped = ap₂ added w.skipped (ap (λ (n : ℕ). skipped_of n (last p) g at d) w.skip ∙ skipped-none (last p) g at d);
    untrimmed = λ e. trimmed_new ∙ ap₂ (λ (a n : ℕ). a + n) going
        (untrimmed_by (last p) (ap (λ (ph : Phase). is_ended (after_phase ph x.completes (last p))) (sym audio) ∙ e));
    few = subst (λ (n : ℕ). n ≤ trimmed_most) (sym trimmed_new) few_new;
    balanced = subst (λ (z : Position). Balanced (initial_on (completes p) q i (g - d)) z (added r.tally.kept kept)
        (added r.tally.hole (pick (audio_completes s x) (hole s.position g d) 0)))
        (sym (ap₂ (λ (t : Bool) (z : Position). after_position t z g) sounds place))
        (balanced_same (after_position (completes p) q g) (initial_on (completes p) q i (g - d)) (r.tally.kept + kept)
        (r.tally.hole + empty) _ _ kept_new hole_new (balanced_new (completes p) refl));
  }

  pub page_grows : Grows i r (reader_of (core_of (next_on R s p x)) (tally_on R r.tally s p x)) p (entries_on R skip s p x)
  unfolding next_on tally_on counts_on entries_on then
  page_grows =
      let es : List Entry = entries_on R skip s p x in
      let ds : List Measure = measures_of R s x in
      let a : total (map (λ (n : Entry). n.kept) es) ≡ kept = entries-kept skip (last p) g at ds in
      let t : total (map (trimmed_in p) es) ≡ trimmed = entries-trimmed skip (last p) g at ds in
      let n : total (map (λ (n : Entry). n.samples) es) ≡ d = entries-samples skip (last p) g at ds in
      record {
        kept = kept_new ∙ ap (λ (k : ℕ). r.tally.kept + k) (sym a);
        trimmed = trimmed_new ∙ ap (λ (k : ℕ). r.tally.trimmed + k) (sym t);
        samples = ap₂ (λ (k m : ℕ). k + m) a t ∙ shared ∙ sym n;
        hole = hole_new ∙ ap (λ (k : ℕ). r.tally.hole + pick (completes p) (hole q g k) 0) (sym n);
        position = ap₂ (λ (t : Bool) (z : Position). after_position t z g) sounds place;
        opened = subst (λ (k : ℕ). PartWay (initial_on (completes p) q i (g - k)) then) (sym n) part_way;
      }
