-- A reader with nothing left to skip keeps all but what is trimmed, and stays so. Assumes nothing.
use Prim.Native.Nat.{ℕ, ◌+◌, ◌-◌}
use mathlib.Core.Path.{◌≡◌, refl, sym, ap, ap₂, subst, ◌∙◌}
use mathlib.Core.Bool.{Bool, true, false, not, ◌&&◌, true≢false}
use mathlib.Core.List.{List, [], ◌∷◌, map}
use mathlib.Core.Option.{Option, none, some}
use native.Mathlib.Omega.{arith}
use borrow.Author.Tests.{le-ltb}
use Rattle.octets.specs.Octets.{Bytes}
use Rattle.refusal.specs.declared.Refusal.{Refusal}
use Rattle.refusal.specs.Told.{Told, gives, refuses}
use Rattle.granule.specs.Samples.{is_trimmed, is_skipped, kept_of, skipped_of, trimmed_of}
use Rattle.granule.proofs.Counting.{samples_shared}
use Rattle.granule.proofs.Tallies.{tally-same, tally-none}
use Rattle.stream.specs.declared.Phase.{Phase}
use Rattle.stream.specs.declared.Phase.TheVariants.{First, Comment, Audio, Opened, Ended}
use Rattle.stream.specs.Page.{Page, page_of, last, granule_of}
use Rattle.packet_reader.specs.declared.Measure.{Measure}
use Rattle.stream.specs.Readings.{Readings}
use Rattle.stream.specs.State.{State, is_first, expecting_in, expecting}
use Rattle.stream.specs.Packets.{Seen, measures_of, samples_of}
use Rattle.stream.specs.Rules.{next_on, start_on, after_phase, verdict}
use Rattle.stream.specs.Feed.{Reader, view, open_at, Entry, entries, entries_on, counts_on, skip_after, skip_on, tally_on, Taken, Fed, fed_by, feed}
use Rattle.stream.specs.Lent.{Lent, is_short}
use Rattle.stream.specs.Feedings.{Feeding, feed_in, reader_by, reader_after, finally, Shown, show_as, stream}
use Rattle.stream.specs.Unskipped.{AllButTrimmed, Unskipping, FeedsUnskipped, StaysUnskipping, EachAllButTrimmed, OpenedUnskipped}
use Rattle.stream.proofs.Step.{gives≢refuses, expected, saw, feeds, feeds-short}

-- ---- samples

and-false : (t : Bool) → (not t && false) ≡ false
and-false true = refl
and-false false = refl

pub skipped-none : (end : Bool) (g at d : ℕ) → skipped_of 0 end g at d ≡ 0
unfolding skipped_of
skipped-none end g at d =
    tally-same (is_skipped 0 end g at) (λ (j : ℕ). false)
    (λ (j : ℕ). ap (λ (b : Bool). not (is_trimmed end g at j) && b) (le-ltb j 0 (omega arith)) ∙ and-false (is_trimmed end g at j)) d
    ∙ tally-none d

pub kept-rest : (end : Bool) (g at d : ℕ) → kept_of 0 end g at d + trimmed_of end g at d ≡ d
kept-rest end g at d = omega (arith, samples_shared 0 end g at d, skipped-none end g at d)

kept-each : (skip : ℕ) (end : Bool) (g at d : ℕ) → skip ≡ 0 → kept_of skip end g at d + trimmed_of end g (at + d - d) d ≡ d
kept-each skip end g at d z =
    let back : at + d - d ≡ at = omega arith in
    ap₂ (λ (n k : ℕ). kept_of n end g at d + trimmed_of end g k d) z back ∙ kept-rest end g at d

entries-each : (ds : List Measure) (skip : ℕ) (end : Bool) (g at : ℕ) → skip ≡ 0
    → map (λ (e : Entry). e.kept + trimmed_of end g (e.end - e.samples) e.samples) (entries skip end g at ds)
    ≡ map (λ (e : Entry). e.samples) (entries skip end g at ds)
unfolding entries
entries-each [] skip end g at z = refl
entries-each (d ∷ ds) skip end g at z =
    ap₂ (λ (n : ℕ) (l : List ℕ). n ∷ l) (kept-each skip end g at d.samples z)
    (entries-each ds (skip - d.samples) end g (at + d.samples) (omega arith))

-- ---- a page

page-each : (R : Readings) (skip : ℕ) (t : State) (p : Page) (x : Seen) → skip ≡ 0 → AllButTrimmed p (entries_on R skip t p x) (counts_on R skip t p x)
unfolding entries_on counts_on
page-each R skip t p x z = record {
  each = entries-each (measures_of R t x) skip (last p) (granule_of p) (start_on R t p x) z;
  skipped = ap (λ (n : ℕ). skipped_of n (last p) (granule_of p) (start_on R t p x) (samples_of (measures_of R t x))) z
      ∙ skipped-none (last p) (granule_of p) (start_on R t p x) (samples_of (measures_of R t x));
  kept = ap (λ (n : ℕ). kept_of n (last p) (granule_of p) (start_on R t p x) (samples_of (measures_of R t x))
      + trimmed_of (last p) (granule_of p) (start_on R t p x) (samples_of (measures_of R t x))) z
      ∙ kept-rest (last p) (granule_of p) (start_on R t p x) (samples_of (measures_of R t x));
}

skip-stays : (ph : Phase) (preskip skip d : ℕ) → is_first ph ≡ false → skip ≡ 0 → skip_after ph preskip skip d ≡ 0
skip-stays First preskip skip d f z = absurd (true≢false f)
skip-stays Comment preskip skip d f z = z
skip-stays Audio preskip skip d f z = omega arith
skip-stays Opened preskip skip d f z = omega arith
skip-stays Ended preskip skip d f z = z

pub never_first : (ph : Phase) (done end : Bool) → is_first (after_phase ph done end) ≡ false
never_first First done end = refl
never_first Comment true end = refl
never_first Comment false end = refl
never_first Audio done true = refl
never_first Audio done false = refl
never_first Opened done true = refl
never_first Opened done false = refl
never_first Ended done end = refl

-- what a reader past its first page expects is past it too
expects_past : (s : State) (p : Page) → is_first s.phase ≡ false → is_first (expecting s p).phase ≡ false
unfolding expecting
expects_past s p f = by s.phase refl
  where
    by : (ph : Phase) → s.phase ≡ ph → is_first (expecting_in ph s p).phase ≡ false
    by First q = absurd (true≢false (sym (ap is_first q) ∙ f))
    by Comment q = f
    by Audio q = f
    by Opened q = refl
    by Ended q = f

-- ---- a feeding

shows-by : (R : Readings) (r : Reader) (m : Lent) (s : State) (p : Page) (x : Seen) (t : Taken) (v : Option Refusal) → Unskipping r
    → (fed_by v R r m s p x).told ≡ gives t → AllButTrimmed p (fed_by v R r m s p x).entries t.counts
shows-by R r m s p x t none u e =
    let same : counts_on R r.tally.skip s p x ≡ t.counts = cc in
    subst (AllButTrimmed p (entries_on R r.tally.skip s p x)) same (page-each R r.tally.skip s p x u.skip)
shows-by R r m s p x t (some n) u e = absurd (gives≢refuses (sym e))

stays_by : (R : Readings) (r : Reader) (m : Lent) (s : State) (p : Page) (x : Seen) (v : Option Refusal) → Unskipping r
    → is_first s.phase ≡ false → Unskipping (reader_by (fed_by v R r m s p x).told r)
unfolding skip_on tally_on next_on
stays_by R r m s p x none u f = record {
  skip = skip-stays s.phase _ r.tally.skip (samples_of (measures_of R s x)) f u.skip;
  past = never_first s.phase x.completes (last p);
}
stays_by R r m s p x (some n) u f = u

pub feeds_unskipped : FeedsUnskipped
feeds_unskipped R r m b t u e = by (is_short m) refl
  where
    by : (k : Bool) → is_short m ≡ k → AllButTrimmed (page_of b) (feed R r m b).entries t.counts
    by true q = absurd (gives≢refuses (sym e ∙ ap (λ (f : Fed). f.told) (feeds-short R r m b q)))
    by false q =
        let same = feeds R r m b q in
        subst (λ (f : Fed). AllButTrimmed (page_of b) f.entries t.counts) (sym same)
        (shows-by R r m (expected r m.carry b) (page_of b) (saw r m.carry b) t (verdict R (view r.core m.carry) b) u
        (sym (ap (λ (f : Fed). f.told) same) ∙ e))

pub stays_unskipping : StaysUnskipping
stays_unskipping R r m b u = by (is_short m) refl
  where
    by : (k : Bool) → is_short m ≡ k → Unskipping (reader_by (feed R r m b).told r)
    by true q = subst (λ (f : Fed). Unskipping (reader_by f.told r)) (sym (feeds-short R r m b q)) u
    by false q =
        subst (λ (f : Fed). Unskipping (reader_by f.told r)) (sym (feeds R r m b q))
        (stays_by R r m (expected r m.carry b) (page_of b) (saw r m.carry b) (verdict R (view r.core m.carry) b) u
        (expects_past (view r.core m.carry) (page_of b) u.past))

-- ---- lists

pub record Over (R : Readings) (r : Reader) (F : List Feeding) : Type 0 where
  pub each : EachAllButTrimmed (stream R r F)
  pub stays : Unskipping (finally R r F)

shown_by : (b : Bytes) (es : List Entry) (later : List Shown) (told : Told Taken)
    → ((t : Taken) → told ≡ gives t → AllButTrimmed (page_of b) es t.counts) → EachAllButTrimmed later
    → EachAllButTrimmed (show_as told es b later)
unfolding EachAllButTrimmed
shown_by b es later (gives t) k l = (k t refl, l)
shown_by b es later (refuses n) k l = l

pub over : (R : Readings) (F : List Feeding) (r : Reader) → Unskipping r → Over R r F
unfolding EachAllButTrimmed stream finally
over R [] r u = record { each = tt; stays = u }
over R (f ∷ fs) r u =
    let k : Over R (reader_after R r f) fs = over R fs (reader_after R r f) (stays_unskipping R r f.lent f.bytes u) in
    record {
      each = shown_by f.bytes (feed_in R r f).entries (stream R (reader_after R r f) fs) (feed_in R r f).told
          (λ t e. feeds_unskipped R r f.lent f.bytes t u e) k.each;
      stays = k.stays;
    }

pub opened_unskipped : OpenedUnskipped
opened_unskipped R h F =
    let k : Over R (open_at h) F = over R F (open_at h) (record { skip = refl; past = refl }) in
    record { pages = k.each; skip = k.stays.skip }
