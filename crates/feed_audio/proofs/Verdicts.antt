-- The refusals 15 to 19: what the code measures and judges is what the checks decide. Assumes nothing.
use Prim.Native.Nat.{ℕ, ◌-◌, ◌≤◌}
use mathlib.Core.Path.{◌≡◌, refl, sym, ap, ap₂, ◌∙◌}
use mathlib.Core.Bool.{Bool, true, false, not}
use mathlib.Core.List.{List, [], ◌∷◌, ◌++◌, map}
use mathlib.Core.Option.{Option, none, some}
use native.Mathlib.Omega.{arith}
use borrow.Author.Tests.{eqb-true, eqb-false}
use lib.Dec.{eqb}
use Rattle.octets.specs.Pick.{pick}
use Rattle.octets.specs.Octets.{Bytes}
use Rattle.refusal.specs.declared.Refusal.{Refusal}
use Rattle.refusal.specs.declared.Refusal.TheVariants.{IllegalPacket, MixedLengths}
use Rattle.refusal.specs.Checks.{Check, ◌when◌, first_of, or_else}
use Rattle.refusal.specs.Told.{Told, gives, decided}
use Rattle.refusal.proofs.Checks.{first_of-append}
use Rattle.page_layout.specs.declared.PageHeader.{PageHeader}
use Rattle.packet_reader.specs.declared.Measure.{Measure}
use Rattle.packet_reader.specs.Streams.{measured_of, is_illegal, is_mixed, first_contents}
use Rattle.granule.specs.declared.Position.{Position}
use Rattle.granule.specs.declared.Placed.{Placed}
use Rattle.granule.specs.Judging.{judge_checks, placed, judge}
use Rattle.stream.specs.declared.Core.{Core}
use Rattle.page_flags.specs.Flags.{is_last_page}
use Rattle.stream.specs.Readings.{Readings, readings}
use Rattle.stream.specs.Packets.{samples_of}
use Rattle.stream.specs.Rules.{packet_checks}
use Rattle.stream.specs.Feed.{is_late}
use Rattle.stream.proofs.Clear.{some≢none}
use Rattle.stream.proofs.Step.{gives≢refuses}
use Rattle.stream.proofs.Real.{readings-agree}
use Rattle.feed_audio.specs.Code.{count_of, and_later, measure_in, measured, timed_by}

-- ---- 15 and 16

-- what is decided of a packet whose Opus packets are measured at place i
abbrev read_at : ℕ → Bytes → Told Measure
read_at i b =
    decided (pick (not (not (is_illegal (measured_of i b)))) (some IllegalPacket) (pick (is_mixed (measured_of i b)) (some MixedLengths) none))
    (first_contents (measured_of i b)).measure

record Counted (n m : ℕ) : Type 0 where
  low : 1 ≤ m
  high : m ≤ 255
  same : m - 1 ≡ n - 1

counted : (n : ℕ) → n ≤ 255 → Counted n (count_of n)
counted n h = by (eqb n 0) refl
  where
    by : (b : Bool) → eqb n 0 ≡ b → Counted n (pick b 1 n)
    by true e = let z : n ≡ 0 = eqb-true n 0 e in record { low = omega arith; high = omega arith; same = omega arith }
    by false e =
        let z : (n ≡ 0 → ⊥) = eqb-false n 0 e in
        record { low = some_of n z; high = h; same = refl }
      where
        some_of : (m : ℕ) → (m ≡ 0 → ⊥) → 1 ≤ m
        some_of m z = omega arith

reads : (crc : Bytes → ℕ) (n : ℕ) → n ≤ 255 → (b : Bytes) → measure_in b (count_of n) ≡ read_at (n - 1) b
unfolding readings packet_checks first_of
reads crc n h b =
    let k : Counted n (count_of n) = counted n h in
    sym ((readings-agree crc).packet b (count_of n) k.low k.high) ∙ ap (λ (i : ℕ). read_at i b) k.same

-- one packet in front of others
one_more : (a m : Bool) (d : Measure) (o : Option Refusal) (ds : List Measure)
    → and_later (decided (pick a (some IllegalPacket) (pick m (some MixedLengths) none)) d) (decided o ds)
    ≡ decided (pick a (some IllegalPacket) (pick m (some MixedLengths) o)) (d ∷ ds)
one_more true m d o ds = refl
one_more false true d o ds = refl
one_more false false d none ds = refl
one_more false false d (some r) ds = refl

module _ (crc : Bytes → ℕ) (n : ℕ) (few : n ≤ 255) where
  abbrev measuring : List Bytes → List Measure
  measuring bs = map ((readings crc).measure_of n) bs

  measures : (bs : List Bytes) → measured (count_of n) bs ≡ decided (first_of (packet_checks (readings crc) n bs)) (measuring bs)
  unfolding measured readings packet_checks first_of
  measures [] = refl
  measures (b ∷ bs) =
      ap₂ and_later (reads crc n few b) (measures bs)
      ∙ one_more (not (not (is_illegal (measured_of (n - 1) b)))) (is_mixed (measured_of (n - 1) b)) (first_contents (measured_of (n - 1) b)).measure (first_of (packet_checks (readings crc) n bs)) (measuring bs)

-- ---- with 19, 18 and 17

abbrev pub judging : Core → PageHeader → List Measure → List Check
judging k h ds = judge_checks k.position k.preskip h.granule (samples_of ds) (is_last_page h.flags)

abbrev pub placing : Core → PageHeader → List Measure → Placed
placing k h ds = placed k.position (is_last_page h.flags) h.granule (samples_of ds)

pub judges : (crc : Bytes → ℕ) (k : Core) (h : PageHeader) → k.streams ≤ 255 → (bs : List Bytes)
    → timed_by (measured (count_of k.streams) bs) k h
    ≡ decided (first_of (packet_checks (readings crc) k.streams bs ++ judging k h (map ((readings crc).measure_of k.streams) bs))) (placing k h (map ((readings crc).measure_of k.streams) bs))
unfolding judge
judges crc k h few bs =
    let ds : List Measure = map ((readings crc).measure_of k.streams) bs in
    let cs : List Check = packet_checks (readings crc) k.streams bs in
    ap (λ (t : Told (List Measure)). timed_by t k h) (measures crc k.streams few bs) ∙ by (first_of cs) ds
    ∙ ap (λ (o : Option Refusal). decided o (placing k h ds)) (sym (first_of-append cs (judging k h ds)))
  where
    by : (o : Option Refusal) (ds : List Measure) → timed_by (decided o ds) k h ≡ decided (or_else o (first_of (judging k h ds))) (placing k h ds)
    by none ds = refl
    by (some r) ds = refl

-- the measures, where none of 15 and 16 refuses
pub measures_are : (crc : Bytes → ℕ) (n : ℕ) → n ≤ 255 → (bs : List Bytes) (ds : List Measure) → gives ds ≡ measured (count_of n) bs → ds ≡ map ((readings crc).measure_of n) bs
measures_are crc n few bs ds e = by (first_of (packet_checks (readings crc) n bs)) (e ∙ measures crc n few bs)
  where
    by : (o : Option Refusal) → gives ds ≡ decided o (map ((readings crc).measure_of n) bs) → ds ≡ map ((readings crc).measure_of n) bs
    by none q = cc
    by (some r) q = absurd (gives≢refuses q)

-- ---- they are late

abbrev AllLate : List Check → Type 0
AllLate [] = Unit {0}
AllLate ((r when t) ∷ cs) = (is_late r ≡ true) × AllLate cs

first_late_lem : (cs : List Check) → AllLate cs → (r : Refusal) → first_of cs ≡ some r → is_late r ≡ true
unfolding first_of
first_late_lem [] k r e = absurd (some≢none (sym e))
first_late_lem ((q when true) ∷ cs) k r e = let same : q ≡ r = some_same e in ap is_late (sym same) ∙ k.0
  where
    some_same : {a b : Refusal} → ◌≡◌ {A = Option Refusal} (some a) (some b) → a ≡ b
    some_same e = cc
first_late_lem ((q when false) ∷ cs) k r e = first_late_lem cs k.1 r e

all_late : (R : Readings) (n : ℕ) (bs : List Bytes) (position : Position) (preskip g d : ℕ) (last : Bool)
    → AllLate (packet_checks R n bs ++ judge_checks position preskip g d last)
unfolding packet_checks
all_late R n [] position preskip g d last = (refl, (refl, (refl, tt)))
all_late R n (b ∷ bs) position preskip g d last = (refl, (refl, all_late R n bs position preskip g d last))

pub late : (R : Readings) (k : Core) (h : PageHeader) (n : ℕ) (bs : List Bytes) (ds : List Measure) (r : Refusal)
    → first_of (packet_checks R n bs ++ judging k h ds) ≡ some r → is_late r ≡ true
late R k h n bs ds r e =
    first_late_lem (packet_checks R n bs ++ judging k h ds) (all_late R n bs k.position k.preskip h.granule (samples_of ds) (is_last_page h.flags)) r e
