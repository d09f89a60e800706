-- The totals of a reader opened part way are the sums of what it listed, and none of them wraps. Assumes nothing.
use Prim.Native.Nat.{ℕ, ◌+◌, ◌-◌, ◌≤◌}
use mathlib.Core.Path.{◌≡◌, refl, sym, ap, ap₂, subst, ◌∙◌}
use mathlib.Core.Bool.{Bool, true, false}
use mathlib.Core.List.{List, [], ◌∷◌}
use mathlib.Core.Option.{Option, none, some}
use native.Mathlib.Nat.{zero-add, add-zero, add_assoc}
use native.Mathlib.Omega.{arith}
use Rattle.octets.specs.Pick.{pick}
use Rattle.octets.specs.Octets.{Bytes, Octets, total}
use Rattle.refusal.specs.declared.Refusal.{Refusal}
use Rattle.refusal.specs.Told.{Told, gives, refuses}
use Rattle.head_fields.specs.declared.Head.{Head}
use Rattle.granule.specs.declared.Position.{Position}
use Rattle.granule.specs.declared.Position.TheVariants.{Unset, Joined, At}
use Rattle.granule.specs.Judging.{granule_max, hole}
use Rattle.stream.specs.Page.{Page, page_of, granule_of, completes}
use Rattle.stream.specs.Readings.{Readings, readings}
use Rattle.stream.specs.Packets.{Seen}
use Rattle.stream.specs.State.{State}
use Rattle.stream.specs.Rules.{after_position, next_on, verdict}
use Rattle.stream.specs.Feed.{Reader, reader_of, open_at, view, core_of, Entry, entries_on, tally_on, Taken, Fed, fed_by, feed}
use Rattle.stream.specs.Lent.{Lent, is_short}
use Rattle.stream.specs.Feedings.{Feeding, feed_in, reader_by, finally, Shown, show_as, stream}
use Rattle.stream.specs.Statements.{kept_listed, AllOctets}
use Rattle.stream.specs.Totals.{samples_in, samples_listed, trimmed_listed, opened_initial, opened_holes, OpenedStreamTotals}
use Rattle.stream.proofs.Step.{gives≢refuses, expected, saw, feeds, feeds-short}
use Rattle.stream.proofs.TotalsPage.{Balanced, initial_on, PartWay, Grows, page_grows}

-- ---- one feeding

grows_by : (crc : Bytes → ℕ) (i : ℕ) (r : Reader) (m : Lent) (b : Bytes) (t : Taken) (v : Option Refusal) → Octets b → PartWay i r
    → verdict (readings crc) (view r.core m.carry) b ≡ v
    → (fed_by v (readings crc) r m (expected r m.carry b) (page_of b) (saw r m.carry b)).told ≡ gives t
    → Grows i r t.reader (page_of b)
    (fed_by v (readings crc) r m (expected r m.carry b) (page_of b) (saw r m.carry b)).entries
grows_by crc i r m b t none o w v e =
    let R : Readings = readings crc in
    let s : State = expected r m.carry b in
    let x : Seen = saw r m.carry b in
    let same : reader_of (core_of (next_on R s (page_of b) x)) (tally_on R r.tally s (page_of b) x) ≡ t.reader = cc in
    subst (λ (z : Reader). Grows i r z (page_of b) (entries_on R r.tally.skip s (page_of b) x)) same
    (page_grows crc i r m.carry b o w v)
grows_by crc i r m b t (some n) o w v e = absurd (gives≢refuses (sym e))

grows : (crc : Bytes → ℕ) (i : ℕ) (r : Reader) (m : Lent) (b : Bytes) (t : Taken) → Octets b → PartWay i r
    → (feed (readings crc) r m b).told ≡ gives t → Grows i r t.reader (page_of b) (feed (readings crc) r m b).entries
grows crc i r m b t o w e = by (is_short m) refl
  where
    by : (k : Bool) → is_short m ≡ k → Grows i r t.reader (page_of b) (feed (readings crc) r m b).entries
    by true q = absurd (gives≢refuses (sym e ∙ ap (λ (f : Fed). f.told) (feeds-short (readings crc) r m b q)))
    by false q =
        let same = feeds (readings crc) r m b q in
        subst (λ (f : Fed). Grows i r t.reader (page_of b) f.entries) (sym same)
        (grows_by crc i r m b t (verdict (readings crc) (view r.core m.carry) b) o w refl
        (sym (ap (λ (f : Fed). f.told) same) ∙ e))

-- ---- the stream

-- the initial position after these pages, i being set where there is a position
abbrev initial_from : Position → ℕ → List Shown → ℕ
initial_from Unset i S = opened_initial S
initial_from Joined i S = opened_initial S
initial_from (At g) i S = i

-- from the reader r over the pages S to the reader e
record Sums (i : ℕ) (r : Reader) (S : List Shown) (e : Reader) : Type 0 where
  kept : e.tally.kept ≡ r.tally.kept + kept_listed S
  trimmed : e.tally.trimmed ≡ r.tally.trimmed + trimmed_listed S
  samples : kept_listed S + trimmed_listed S ≡ samples_listed S
  hole : e.tally.hole ≡ r.tally.hole + opened_holes r.core.position S
  opened : PartWay (initial_from r.core.position i S) e

abbrev granule_in : Shown → ℕ
granule_in x = granule_of (page_of x.bytes)

-- one page more
initial_on_lem : (q : Position) (i : ℕ) (x : Shown) (S : List Shown) (t : Bool) → completes (page_of x.bytes) ≡ t
    → initial_from (after_position t q (granule_in x)) (initial_on t q i (granule_in x - samples_in x)) S
    ≡ initial_from q i (x ∷ S)
unfolding opened_initial
initial_on_lem Unset i x S true e = rw e refl
initial_on_lem Unset i x S false e = rw e refl
initial_on_lem Joined i x S true e = rw e refl
initial_on_lem Joined i x S false e = rw e refl
initial_on_lem (At g) i x S true e = refl
initial_on_lem (At g) i x S false e = refl

holes_on : (q : Position) (n : ℕ) (x : Shown) (S : List Shown) (t : Bool) → completes (page_of x.bytes) ≡ t
    → n + pick t (hole q (granule_in x) (samples_in x)) 0 + opened_holes (after_position t q (granule_in x)) S
    ≡ n + opened_holes q (x ∷ S)
unfolding opened_holes
holes_on q n x S true e = rw e (add_assoc n _ _)
holes_on q n x S false e = rw e (ap (λ (k : ℕ). k + opened_holes q S) (add-zero n))

sums-more : (i : ℕ) (r next : Reader) (x : Shown) (S : List Shown) (e : Reader)
    → Grows i r next (page_of x.bytes) x.listing.entries
    → Sums (initial_on (completes (page_of x.bytes)) r.core.position i (granule_in x - samples_in x)) next S e
    → Sums i r (x ∷ S) e
unfolding total
sums-more i r next x S e g s =
    let p : Page = page_of x.bytes in
    let n : ℕ = granule_in x - samples_in x in
    record {
      kept = s.kept ∙ ap (λ (k : ℕ). k + kept_listed S) g.kept ∙ add_assoc r.tally.kept _ _;
      trimmed = s.trimmed ∙ ap (λ (k : ℕ). k + trimmed_listed S) g.trimmed ∙ add_assoc r.tally.trimmed _ _;
      samples = regroup _ _ _ _ _ _ g.samples s.samples;
      hole = s.hole ∙ ap₂ (λ (k : ℕ) (z : Position). k + opened_holes z S) g.hole g.position
          ∙ holes_on r.core.position r.tally.hole x S (completes p) refl;
      opened = subst (λ (k : ℕ). PartWay k e)
          (ap (λ (z : Position). initial_from z (initial_on (completes p) r.core.position i n) S) g.position
          ∙ initial_on_lem r.core.position i x S (completes p) refl) s.opened;
    }
  where
    regroup : (a b c d y z : ℕ) → a + b ≡ y → c + d ≡ z → (a + c) + (b + d) ≡ y + z
    regroup a b c d y z u v = omega arith

-- before any page
balanced_none : (q : Position) (i k o : ℕ) → Balanced i q k o → Balanced (initial_from q i []) q k o
balanced_none Unset i k o s = s
balanced_none Joined i k o s = s
balanced_none (At g) i k o s = s

sums_none : (i : ℕ) (r : Reader) → PartWay i r → Sums i r [] r
unfolding total opened_holes
sums_none i r w = record {
  kept = sym (add-zero r.tally.kept);
  trimmed = sym (add-zero r.tally.trimmed);
  samples = refl;
  hole = sym (add-zero r.tally.hole);
  opened = record {
    skip = w.skip;
    past = w.past;
    skipped = w.skipped;
    untrimmed = w.untrimmed;
    few = w.few;
    balanced = balanced_none r.core.position i r.tally.kept r.tally.hole w.balanced;
  };
}

sums : (crc : Bytes → ℕ) (F : List Feeding) (i : ℕ) (r : Reader) → AllOctets F → PartWay i r
    → Sums i r (stream (readings crc) r F) (finally (readings crc) r F)
unfolding stream finally
sums crc [] i r o w = sums_none i r w
sums crc (f ∷ fs) i r o w =
    by (feed_in (readings crc) r f).told refl (λ (k : ℕ) (next : Reader) (z : PartWay k next). sums crc fs k next o.1 z)
  where
    by : (told : Told Taken) → (feed_in (readings crc) r f).told ≡ told
        → ((k : ℕ) (next : Reader) → PartWay k next
        → Sums k next (stream (readings crc) next fs) (finally (readings crc) next fs))
        → Sums i r (show_as told (feed_in (readings crc) r f).entries f.bytes (stream (readings crc) (reader_by told r) fs))
        (finally (readings crc) (reader_by told r) fs)
    by (gives t) e again =
        let es : List Entry = (feed_in (readings crc) r f).entries in
        let x : Shown = record { bytes = f.bytes; listing = record { entries = es; counts = t.counts } } in
        let g : Grows i r t.reader (page_of f.bytes) es = grows crc i r f.lent f.bytes t o.0 w e in
        sums-more i r t.reader x (stream (readings crc) t.reader fs) (finally (readings crc) t.reader fs) g
        (again (initial_on (completes (page_of f.bytes)) r.core.position i (granule_in x - samples_in x)) t.reader g.opened)
    by (refuses n) e again = again i r w

-- ---- the law

opened-first : (h : Head) → PartWay 0 (open_at h)
opened-first h =
    record { skip = refl; past = refl; skipped = refl; untrimmed = λ e. refl; few = omega arith; balanced = (refl, refl) }

spanned : (q : Position) (i k o g : ℕ) → Balanced i q k o → q ≡ At g → (i + k + o ≡ g) × (g ≤ granule_max)
spanned q i k o g s e = subst (λ (z : Position). Balanced i z k o) e s

pub opened_stream_totals : OpenedStreamTotals
opened_stream_totals crc h F o =
    let S : List Shown = stream (readings crc) (open_at h) F in
    let e : Reader = finally (readings crc) (open_at h) F in
    let s : Sums 0 (open_at h) S e = sums crc F 0 (open_at h) o (opened-first h) in
    let kept : e.tally.kept ≡ kept_listed S = s.kept ∙ zero-add (kept_listed S) in
    let trimmed : e.tally.trimmed ≡ trimmed_listed S = s.trimmed ∙ zero-add (trimmed_listed S) in
    record {
      skipped = s.opened.skipped;
      kept = kept;
      trimmed = trimmed;
      samples = ap₂ (λ (a b : ℕ). a + b) kept trimmed ∙ s.samples;
      hole = s.hole ∙ zero-add (opened_holes Joined S);
      spans = λ g z. (spanned e.core.position (opened_initial S) e.tally.kept e.tally.hole g s.opened.balanced z).0;
      small = λ g z. (spanned e.core.position (opened_initial S) e.tally.kept e.tally.hole g s.opened.balanced z).1;
      few = s.opened.few;
    }
