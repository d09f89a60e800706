-- The samples of one accepted audio page: at most 5,760 of each of its 255 packets, and none where no packet completes. What a
-- page's list sums up to is what its record counts. Assumes nothing.
use Prim.Native.Nat.{ℕ, zero, suc, ◌+◌, ◌-◌, ◌*◌, ◌≤◌}
use mathlib.Core.Path.{◌≡◌, refl, sym, ap, ap₂, ◌∙◌}
use mathlib.Core.Bool.{Bool, true, false, true≢false}
use mathlib.Core.List.{List, [], ◌∷◌, map}
use mathlib.Core.Option.{Option, none, some}
use native.Mathlib.Omega.{arith}
use lib.ListN.{length}
use Rattle.octets.specs.Pick.{pick}
use Rattle.octets.specs.Octets.{Bytes, Octets, total}
use Rattle.granule.specs.Samples.{kept_of, trimmed_of, tally}
use Rattle.granule.proofs.Counting.{samples_in-parts}
use Rattle.packet_frames.specs.Frames.{samples_max}
use Rattle.packet_frames.specs.Packet.{Parsed, breaks, frames, parse}
use Rattle.packet_reader.specs.declared.Contents.{Contents}
use Rattle.packet_reader.specs.Streams.{contents_of, Measured, illegal, measured, with_first, last_of, first_and, measured_of, first_contents}
use Rattle.packet_reader.specs.Statements.{Legal}
use Rattle.packet_reader.proofs.Legal.{legal-packets}
use Rattle.stream.specs.Page.{Page, page_of, completes, whole, rest}
use Rattle.packet_reader.specs.declared.Measure.{Measure}
use Rattle.stream.specs.Readings.{Readings, readings}
use Rattle.stream.specs.State.{Carried, nothing, dropped, held, State, in_headers}
use Rattle.stream.specs.Packets.{join, seen, audio_packets, measures_of, samples_of}
use Rattle.stream.specs.Feed.{Entry, entries}
use Rattle.stream.specs.Totals.{trimmed_most}
use Rattle.stream.proofs.Pieces.{non_empty, whole-ends}
use Rattle.stream.proofs.Lists.{audio-few}

-- ---- a packet that passes 15, of any number of streams

abbrev Most : Measured → Type 0
Most illegal = Unit {0}
Most (measured c ds) = c.measure.samples ≤ samples_max

last-most : (b : Bytes) (p : Parsed) → ((sizes : List ℕ) (s : Bytes) → p ≡ frames sizes s → Legal b sizes) → Most (last_of b p)
last-most b (breaks rule) h = tt
last-most b (frames sizes s) h = (h sizes s refl).samples.most

with_most : (c : Contents) (m : Measured) → c.measure.samples ≤ samples_max → Most (with_first c m)
with_most c illegal h = tt
with_most c (measured e es) h = h

first-most : (f : Bytes → Measured) (b : Bytes) (p : Parsed) → ((sizes : List ℕ) (s : Bytes) → p ≡ frames sizes s → Legal b sizes)
    → Most (first_and f b p)
first-most f b (breaks rule) h = tt
first-most f b (frames sizes s) h = with_most (contents_of b sizes) (f s) (h sizes s refl).samples.most

all_most : (n : ℕ) (b : Bytes) → Most (measured_of n b)
unfolding measured_of
all_most zero b = last-most b (parse false b) (legal-packets false b)
all_most (suc n) b = first-most (measured_of n) b (parse true b) (legal-packets true b)

-- an illegal one has no samples
length_most : (m : Measured) → Most m → (first_contents m).measure.samples ≤ samples_max
length_most illegal h = omega arith
length_most (measured d ds) h = h

pub samples-most : (crc : Bytes → ℕ) (n : ℕ) (b : Bytes) → ((readings crc).measure_of n b).samples ≤ samples_max
unfolding readings
samples-most crc n b = length_most (measured_of (n - 1) b) (all_most (n - 1) b)

-- ---- the packets of a page

pub sum-most : (f : Bytes → Measure) → ((b : Bytes) → (f b).samples ≤ samples_max) → (bs : List Bytes)
    → samples_of (map f bs) ≤ length (map f bs) * samples_max
unfolding samples_of
sum-most f h [] = omega arith
sum-most f h (b ∷ bs) =
    let one : (f b).samples ≤ samples_max = h b in
    let more : samples_of (map f bs) ≤ length (map f bs) * samples_max = sum-most f h bs in
    omega arith

pub page-most : (crc : Bytes → ℕ) (s : State) (b : Bytes) → Octets b
    → samples_of (measures_of (readings crc) s (seen s (page_of b))) ≤ trimmed_most
unfolding measures_of
page-most crc s b o =
    let ds : List Measure = measures_of (readings crc) s (seen s (page_of b)) in
    let few : length ds ≤ 255 = audio-few (readings crc) s b o in
    let sum : samples_of ds ≤ length ds * samples_max =
    sum-most ((readings crc).measure_of s.streams) (samples-most crc s.streams) (audio_packets s (seen s (page_of b))) in
    omega arith

-- none completes
join-none : (cr : Carried) (ws : List Bytes) (r : Option Bytes) → non_empty ws ≡ false → (join cr ws r).packets ≡ []
unfolding join
join-none nothing [] r e = refl
join-none dropped [] r e = refl
join-none (held n h) [] none e = refl
join-none (held n h) [] (some b) e = refl
join-none cr (w ∷ ws) r e = absurd (true≢false e)

none-listed : (R : Readings) (s : State) (p : Page) → completes p ≡ false → measures_of R s (seen s p) ≡ []
unfolding measures_of audio_packets seen whole completes
none-listed R s p e = by (in_headers s.phase)
  where
    empty : (join s.carried (whole p) (rest p)).packets ≡ []
    empty = join-none s.carried (whole p) (rest p) (whole-ends 0 p.lacing p.body ∙ e)

    by : (t : Bool) → map (R.measure_of s.streams) (pick t [] (join s.carried (whole p) (rest p)).packets) ≡ []
    by true = refl
    by false = ap (map (R.measure_of s.streams)) empty

pub none_sounds : (R : Readings) (s : State) (p : Page) → completes p ≡ false → samples_of (measures_of R s (seen s p)) ≡ 0
unfolding samples_of
none_sounds R s p e = ap samples_of (none-listed R s p e)

-- ---- what a page's list sums up to

pub entries-kept : (skip : ℕ) (end : Bool) (g at : ℕ) (ds : List Measure)
    → total (map (λ (e : Entry). e.kept) (entries skip end g at ds)) ≡ kept_of skip end g at (samples_of ds)
unfolding entries samples_of total kept_of tally
entries-kept skip end g at [] = refl
entries-kept skip end g at (d ∷ ds) =
    ap (λ (n : ℕ). kept_of skip end g at d.samples + n) (entries-kept (skip - d.samples) end g (at + d.samples) ds)
    ∙ sym (samples_in-parts skip end g at d.samples (samples_of ds)).kept

pub entries-trimmed : (skip : ℕ) (end : Bool) (g at : ℕ) (ds : List Measure)
    → total (map (λ (e : Entry). trimmed_of end g (e.end - e.samples) e.samples) (entries skip end g at ds))
    ≡ trimmed_of end g at (samples_of ds)
unfolding entries samples_of total trimmed_of tally
entries-trimmed skip end g at [] = refl
entries-trimmed skip end g at (d ∷ ds) =
    let back : at + d.samples - d.samples ≡ at = omega arith in
    ap₂ (λ (a n : ℕ). trimmed_of end g a d.samples + n) back (entries-trimmed (skip - d.samples) end g (at + d.samples) ds)
    ∙ sym (samples_in-parts skip end g at d.samples (samples_of ds)).trimmed

pub entries-samples : (skip : ℕ) (end : Bool) (g at : ℕ) (ds : List Measure)
    → total (map (λ (e : Entry). e.samples) (entries skip end g at ds)) ≡ samples_of ds
unfolding entries samples_of total
entries-samples skip end g at [] = refl
entries-samples skip end g at (d ∷ ds) =
    ap (λ (n : ℕ). d.samples + n) (entries-samples (skip - d.samples) end g (at + d.samples) ds)
