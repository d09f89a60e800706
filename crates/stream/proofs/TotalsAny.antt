-- What holds of the totals of any reader: they are sums of the pages' records modulo 2^64, its granule position is at most the
-- largest, and only the page marked last trims. Assumes nothing.
use Prim.Native.Nat.{ℕ, ◌+◌, ◌*◌, ◌%◌, ◌^◌, ◌≤◌, ◌<◌}
use mathlib.Core.Path.{◌≡◌, refl, sym, ap, subst, ◌∙◌}
use mathlib.Core.Bool.{Bool, true, false, not, ◌&&◌, true≢false}
use mathlib.Core.List.{List, [], ◌∷◌}
use mathlib.Core.Option.{Option, none, some}
use native.Mathlib.Omega.{arith}
use borrow.Author.Tests.{ltb-false}
use lib.ListN.{length}
use Rattle.octets.specs.Octets.{Bytes, total}
use Rattle.limits.specs.Limits.{list_max}
use Rattle.refusal.specs.declared.Refusal.{Refusal}
use Rattle.refusal.specs.Told.{refuses}
use Rattle.packet_frames.specs.Frames.{samples_max}
use Rattle.granule.specs.declared.Position.{Position}
use Rattle.granule.specs.declared.Position.TheVariants.{Unset, Joined, At}
use Rattle.granule.specs.Samples.{trimmed_of}
use Rattle.granule.specs.Judging.{granule_max, granule_wrong}
use Rattle.granule.proofs.Counting.{samples_shared, closed_forms}
use Rattle.stream.specs.declared.Phase.{Phase}
use Rattle.stream.specs.declared.Phase.TheVariants.{First, Comment, Audio, Opened, Ended}
use Rattle.stream.specs.declared.Tally.{Tally}
use Rattle.stream.specs.declared.Counts.{Counts}
use Rattle.stream.specs.Page.{Page, page_of, last, granule_of}
use Rattle.stream.specs.Readings.{Readings}
use Rattle.stream.specs.State.{State, is_ended, in_headers, expecting_in, expecting}
use Rattle.stream.specs.Packets.{Seen, audio_packets, measures_of, samples_of}
use Rattle.stream.specs.Rules.{granule_most, start_on, after_phase, after_position, next_on, verdict}
use Rattle.stream.specs.Feed.{Reader, view, added, tally_after, tally_on, counts_on, Fed, fed_by}
use Rattle.stream.specs.Lent.{is_short}
use Rattle.stream.specs.Feedings.{Feeding, feed_in, reader_by, reader_after, finally, show_as, stream}
use Rattle.stream.specs.Statements.{sum_of, AllOctets}
use Rattle.stream.specs.Totals.{trimmed_most}
use Rattle.stream.proofs.Passed.{Shaped, shaped}
use Rattle.stream.proofs.Step.{expected, saw, still_ended, feeds, feeds-short}
use Rattle.stream.proofs.Lists.{audio-few}
use Rattle.stream.proofs.TotalsLengths.{sum-most}

-- ---- one feeding: refused, or accepted after every check

-- the state that expects the page
abbrev pub awaiting : Reader → Feeding → State
awaiting r f = expected r f.lent.carry f.bytes

abbrev pub packets_in : Reader → Feeding → Seen
packets_in r f = saw r f.lent.carry f.bytes

-- what the reader gives if it accepts
abbrev pub taken : Readings → Reader → Feeding → Fed
taken R r f = fed_by none R r f.lent (awaiting r f) (page_of f.bytes) (packets_in r f)

pub fed_either : (R : Readings) (r : Reader) (f : Feeding) (P : Fed → Type 0) → ((g : Fed) (n : ℕ) → g.told ≡ refuses n → P g)
    → (verdict R (view r.core f.lent.carry) f.bytes ≡ none → P (taken R r f)) → P (feed_in R r f)
fed_either R r f P refused accepted = by (is_short f.lent) refl
  where
    on : (v : Option Refusal) → verdict R (view r.core f.lent.carry) f.bytes ≡ v
        → P (fed_by v R r f.lent (awaiting r f) (page_of f.bytes) (packets_in r f))
    on none e = accepted e
    on (some n) e = refused _ _ refl

    by : (t : Bool) → is_short f.lent ≡ t → P (feed_in R r f)
    by true e = subst P (sym (feeds-short R r f.lent f.bytes e)) (refused _ _ refl)
    by false e =
        subst P (sym (feeds R r f.lent f.bytes e))
        (on (verdict R (view r.core f.lent.carry) f.bytes) refl)

-- the checks that an accepted page passed
abbrev pub Sound : Readings → Reader → Feeding → Type 0
Sound R r f = Shaped R (awaiting r f) f.bytes (packets_in r f)

pub sound : (R : Readings) (r : Reader) (f : Feeding) → verdict R (view r.core f.lent.carry) f.bytes ≡ none
    → Sound R r f
unfolding verdict
sound R r f v = shaped R (awaiting r f) f.bytes (packets_in r f) v

-- ---- a total is the sum over the pages' records, modulo 2^64

wraps_once : (a n s : ℕ) → ((a + n) % 2 ^ 64 + s) % 2 ^ 64 ≡ (a + (n + s)) % 2 ^ 64
wraps_once a n s = omega arith

added-low : (a n : ℕ) → added a n < 2 ^ 64
added-low a n = omega arith

module _ (R : Readings) (a : Tally → ℕ) (c : Counts → ℕ)
    (adds : (t : Tally) (skip : ℕ) (n : Counts) → a (tally_after t skip n) ≡ added (a t) (c n)) where
  -- after a feeding with the answer g and others fs
  abbrev SumOn : Reader → List Feeding → Bytes → Fed → Type 0
  SumOn r fs b g =
      a (finally R (reader_by g.told r) fs).tally
      ≡ (a r.tally + sum_of c (show_as g.told g.entries b (stream R (reader_by g.told r) fs))) % 2 ^ 64

  pub total-sum : (F : List Feeding) (r : Reader) → a r.tally < 2 ^ 64
      → a (finally R r F).tally ≡ (a r.tally + sum_of c (stream R r F)) % 2 ^ 64
  unfolding finally stream total tally_on
  total-sum [] r low = omega arith
  total-sum (f ∷ fs) r low =
      fed_either R r f (SumOn r fs f.bytes) (λ g n e. (rw e (total-sum fs r low)))
      (λ v. accepted (total-sum fs (reader_by (taken R r f).told r)))
    where
      page : Counts
      page = counts_on R r.tally.skip (awaiting r f) (page_of f.bytes) (packets_in r f)

      then : Reader
      then = reader_by (taken R r f).told r

      accepted : (a then.tally < 2 ^ 64
          → a (finally R then fs).tally ≡ (a then.tally + sum_of c (stream R then fs)) % 2 ^ 64)
          → SumOn r fs f.bytes (taken R r f)
      accepted again =
          let e : a then.tally ≡ added (a r.tally) (c page) = adds r.tally _ page in
          again (subst (λ (n : ℕ). n < 2 ^ 64) (sym e) (added-low (a r.tally) (c page)))
          ∙ ap (λ (n : ℕ). (n + sum_of c (stream R then fs)) % 2 ^ 64) e
          ∙ wraps_once (a r.tally) (c page) (sum_of c (stream R then fs))

  -- from 0 on, and where the sum is small
  pub total-is : (F : List Feeding) (r : Reader) (n : ℕ) → a r.tally ≡ 0 → sum_of c (stream R r F) ≡ n → n < 2 ^ 64
      → a (finally R r F).tally ≡ n
  total-is F r n z e small = omega (arith, total-sum F r (omega arith))

-- ---- the granule position is at most the largest

abbrev pub Within : Position → Type 0
Within Unset = Unit {0}
Within Joined = Unit {0}
Within (At g) = g ≤ granule_max

pub position-stays : (s : State) (p : Page) → (expecting s p).position ≡ s.position
unfolding expecting
position-stays s p = by s.phase
  where
    by : (ph : Phase) → (expecting_in ph s p).position ≡ s.position
    by First = refl
    by Comment = refl
    by Audio = refl
    by Opened = refl
    by Ended = refl

-- 11, where an audio packet completes
granule-low : (ph : Phase) (done : Bool) (g : ℕ) (q : Position) → granule_wrong (granule_most ph) done g ≡ false → Within q
    → Within (after_position (not (in_headers ph) && done) q g)
unfolding granule_wrong
granule-low First done g q e w = w
granule-low Comment done g q e w = w
granule-low Audio true g q e w = ltb-false granule_max g e
granule-low Audio false g q e w = w
granule-low Opened true g q e w = ltb-false granule_max g e
granule-low Opened false g q e w = w
granule-low Ended true g q e w = ltb-false granule_max g e
granule-low Ended false g q e w = w

pub position-low : (R : Readings) (F : List Feeding) (r : Reader) → Within r.core.position
    → Within (finally R r F).core.position
unfolding finally next_on
position-low R [] r w = w
position-low R (f ∷ fs) r w =
    position-low R fs (reader_after R r f)
    (fed_either R r f (λ (g : Fed). Within (reader_by g.told r).core.position) (λ g n e. (rw e w))
    (λ v. granule-low (awaiting r f).phase (packets_in r f).completes (granule_of (page_of f.bytes)) (awaiting r f).position
    (sound R r f v).granule (subst Within (sym (position-stays (view r.core f.lent.carry) (page_of f.bytes))) w)))

-- ---- only the page marked last trims

-- a reader that has ended accepts nothing
pub ended-stream : (R : Readings) (F : List Feeding) (r : Reader) → is_ended r.core.phase ≡ true → stream R r F ≡ []
unfolding stream
ended-stream R [] r e = refl
ended-stream R (f ∷ fs) r e =
    fed_either R r f (λ (g : Fed). show_as g.told g.entries f.bytes (stream R (reader_by g.told r) fs) ≡ [])
    (λ g n q. (rw q (ended-stream R fs r e)))
    (λ v. absurd (true≢false (sym e
    ∙ sym (still_ended (view r.core f.lent.carry) (page_of f.bytes)) ∙ (sound R r f v).going)))

-- no more is trimmed than there is
trimmed-low : (end : Bool) (g at d : ℕ) → trimmed_of end g at d ≤ d
trimmed-low end g at d = omega (arith, samples_shared 0 end g at d)

headers_list_nothing : (R : Readings) (t : State) (x : Seen) → in_headers t.phase ≡ true → samples_of (measures_of R t x) ≡ 0
unfolding measures_of audio_packets samples_of
headers_list_nothing R t x e = rw e refl

ends_at-last : (ph : Phase) (done : Bool) → in_headers ph ≡ false → is_ended (after_phase ph done true) ≡ true
ends_at-last First done e = absurd (true≢false e)
ends_at-last Comment done e = absurd (true≢false e)
ends_at-last Audio done e = refl
ends_at-last Opened done e = refl
ends_at-last Ended done e = refl

module _ (R : Readings) (low : (n : ℕ) (b : Bytes) → (R.measure_of n b).samples ≤ samples_max) where
  abbrev trims : Counts → ℕ
  trims n = n.trimmed

  pub trimmed-few : (F : List Feeding) (r : Reader) → AllOctets F → sum_of trims (stream R r F) ≤ trimmed_most
  unfolding stream total counts_on next_on measures_of
  trimmed-few [] r o = omega arith
  trimmed-few (f ∷ fs) r o =
      fed_either R r f
      (λ (g : Fed). sum_of trims (show_as g.told g.entries f.bytes (stream R (reader_by g.told r) fs)) ≤ trimmed_most)
      (λ g n e. (rw e (trimmed-few fs r o.1)))
      (λ v. accepted (in_headers t.phase) (last p) refl refl (trimmed-few fs then o.1))
    where
      p : Page
      p = page_of f.bytes

      t : State
      t = awaiting r f

      x : Seen
      x = packets_in r f

      then : Reader
      then = reader_by (taken R r f).told r

      at : ℕ
      at = start_on R t p x

      d : ℕ
      d = samples_of (measures_of R t x)

      later : ℕ
      later = sum_of trims (stream R then fs)

      accepted : (h end : Bool) → in_headers t.phase ≡ h → last p ≡ end → later ≤ trimmed_most
          → trimmed_of (last p) (granule_of p) at d + later ≤ trimmed_most
      accepted true end e q again = omega (arith, trimmed-low (last p) (granule_of p) at d, headers_list_nothing R t x e, again)
      accepted false false e q again =
          let z : trimmed_of (last p) (granule_of p) at d ≡ 0 =
          ap (λ (w : Bool). trimmed_of w (granule_of p) at d) q ∙ (closed_forms 0 (granule_of p) at d).uncut in
          omega (arith, z, again)
      accepted false true e q again =
          let over : is_ended then.core.phase ≡ true =
          ap (λ (w : Bool). is_ended (after_phase t.phase x.completes w)) q ∙ ends_at-last t.phase x.completes e in
          let z : later ≡ 0 = ap (sum_of trims) (ended-stream R fs then over) in
          let few : length (measures_of R t x) ≤ list_max = audio-few R t f.bytes o.0 in
          let all : d ≤ length (measures_of R t x) * samples_max =
          sum-most (R.measure_of t.streams) (low t.streams) (audio_packets t x) in
          omega (arith, z, few, all, trimmed-low (last p) (granule_of p) at d)
