-- The packets' measures: what a turn of `measure` keeps, and what `measure_page` puts in front. Assumes nothing.
use Rattle.std.specs.Prelude.{Result, Ok, Err}
use Prim.Native.Nat.{ℕ, suc, ◌+◌, ◌*◌, ◌-◌, ◌/◌, ◌%◌, ◌<◌, ◌≤◌}
use mathlib.Core.Path.{◌≡◌, refl, sym, ap, ap₂, ◌∙◌}
use mathlib.Core.Bool.{Bool}
use mathlib.Core.List.{List, [], ◌∷◌, ◌++◌, append_assoc, append-nil}
use native.Mathlib.Numerals.{add-one}
use native.Mathlib.Omega.{arith}
use borrow.Author.Tests.{lt-ltb, le-ltb}
use lib.ListN.{length, get_or, take, drop, set, length-set, drop_of_length-le}
use lib.Seq.{take-suc-set, drop-drop}
use Rattle.octets.specs.Octets.{Bytes, total}
use Rattle.refusal.specs.declared.Refusal.{Refusal}
use Rattle.refusal.specs.Told.{Told, gives, refuses, retold, told}
use Rattle.refusal.specs.Numbers.{number_of}
use Rattle.page_lacing.specs.Lacing.{cut_from}
use Rattle.packet_frames.specs.Frames.{samples_max}
use Rattle.packet_reader.specs.declared.Measure.{Measure}
use Rattle.packet_reader.specs.declared.Contents.{Contents}
use Rattle.packet_reader.specs.Streams.{read_packet}
use Rattle.packet_reader.proofs.Legal.{legal-lengths}
use Rattle.stream.specs.Page.{whole_from}
use Rattle.stream.specs.Packets.{samples_of}
use Rattle.stream.proofs.Pieces.{onwards}
use Rattle.feed_audio.specs.declared.packets.Measured.{Measured}
use Rattle.feed_audio.specs.Code.{packed_of, unpacked, measures_in, Packable, in_front, and_later, measure_in, measured, Measures}
use Rattle.feed_audio.proofs.Turns.{total-next}
use Rattle.feed_lacing.proofs.Values.{next}

-- ---- laws of the definitions

-- one packet more
measures_snoc : (vs : List ℕ) (v : ℕ) → measures_in (vs ++ (v ∷ [])) ≡ measures_in vs ++ (unpacked v ∷ [])
unfolding measures_in
measures_snoc [] v = refl
measures_snoc (w ∷ vs) v = ap (λ (ms : List Measure). unpacked w ∷ ms) (measures_snoc vs v)

samples_snoc : (ms : List Measure) (m : Measure) → samples_of (ms ++ (m ∷ [])) ≡ samples_of ms + m.samples
unfolding samples_of
samples_snoc [] m = omega arith
samples_snoc (e ∷ ms) m = omega (arith, samples_snoc ms m)

-- how many there are
pub length-measures : (vs : List ℕ) → length (measures_in vs) ≡ length vs
unfolding measures_in
length-measures [] = refl
length-measures (v ∷ vs) = ap suc (length-measures vs)

-- a measure in one number, and back
pub packs : (m : Measure) → Packable m → unpacked (packed_of m) ≡ m
packs m p =
    let a : (m.samples * 64 + m.frames) / 64 ≡ m.samples = omega (arith, p.frames) in
    let b : (m.samples * 64 + m.frames) % 64 ≡ m.frames = omega (arith, p.frames) in
    ap₂ (λ (s f : ℕ). record { samples = s; frames = f }) a b

-- a measure stored after the others
stored : (vs : List ℕ) (n : ℕ) (m : Measure) → n < length vs → Packable m
    → measures_in (take (n + 1) (set vs n (packed_of m))) ≡ measures_in (take n vs) ++ (m ∷ [])
stored vs n m h p =
    ap measures_in (rw (add-one n) (take-suc-set vs n (packed_of m) h)) ∙ measures_snoc (take n vs) (packed_of m)
    ∙ ap (λ (x : Measure). measures_in (take n vs) ++ (x ∷ [])) (packs m p)

pub in_front-again : (ms : List Measure) (m : Measure) (t : Told (List Measure))
    → in_front ms (and_later (gives m) t) ≡ in_front (ms ++ (m ∷ [])) t
in_front-again ms m (gives later) = rw append_assoc
in_front-again ms m (refuses n) = refl

-- the measures of what is left, `bytes` of the values already read
abbrev pub ahead : ℕ → ℕ → List ℕ → Bytes → Told (List Measure)
ahead streams bytes l body = measured streams (whole_from bytes l body)

-- one value more
whole-more : (n v : ℕ) (l : List ℕ) (body : Bytes) → 255 ≤ v → whole_from n (v ∷ l) body ≡ whole_from (n + v) l body
unfolding cut_from
whole-more n v l body h = ap (λ (t : Bool). (onwards t (n + v) l body).whole) (le-ltb v 255 h)

whole-ends : (n v : ℕ) (l : List ℕ) (body : Bytes) → v < 255 → whole_from n (v ∷ l) body ≡ take (n + v) body ∷ whole_from 0 l (drop (n + v) body)
unfolding cut_from
whole-ends n v l body h = ap (λ (t : Bool). (onwards t (n + v) l body).whole) (lt-ltb v 255 h)

pub ahead_more : (streams bytes v : ℕ) (l : List ℕ) (body : Bytes) → 255 ≤ v → ahead streams bytes (v ∷ l) body ≡ ahead streams (bytes + v) l body
ahead_more streams bytes v l body h = ap (measured streams) (whole-more bytes v l body h)

pub ahead-ends : (streams bytes v : ℕ) (l : List ℕ) (body : Bytes) → v < 255
    → ahead streams bytes (v ∷ l) body ≡ and_later (measure_in (take (bytes + v) body) streams) (ahead streams 0 l (drop (bytes + v) body))
unfolding measured
ahead-ends streams bytes v l body h = ap (measured streams) (whole-ends bytes v l body h)

pub ahead_none : (streams bytes : ℕ) (body : Bytes) → ahead streams bytes [] body ≡ gives []
unfolding cut_from measured
ahead_none streams bytes body = refl

-- ---- a packet's reading

abbrev pub measure_of : Told Contents → Told Measure
measure_of t = retold (λ (c : Contents). c.measure) t

pub read_as : {r q : Result Contents Refusal} {t : Told Contents} → told r ≡ t → r ≡ q → t ≡ told q
read_as e q = sym e ∙ ap told q

-- a packet's measure fits one number
pub packable : (b : Bytes) (n : ℕ) (c : Contents) → read_packet b n ≡ gives c → Packable c.measure
packable b n c e =
    let legal = legal-lengths b n c e in
    record { samples = legal.samples.most; frames = omega (arith, legal.few) }

-- ---- the loop

pub record Measuring (streams : ℕ) (lacing body : List ℕ) (goal : Told (List Measure)) (n m from : ℕ) (packed : List ℕ) (count d start bytes i : ℕ) : Type 0 where
  pub tells : in_front (measures_in (take count packed)) (ahead streams bytes (drop i lacing) (drop start body)) ≡ goal
  pub adds : d ≡ samples_of (measures_in (take count packed))
  pub small : d ≤ samples_max * count
  pub few : count + from ≤ n + i
  pub within : i ≤ length lacing
  pub room : start + bytes + total (drop i lacing) ≤ length body
  pub size : length packed ≡ m

module _ {streams : ℕ} {lacing body : List ℕ} {goal : Told (List Measure)} {n m from : ℕ} {packed : List ℕ} {count d start bytes i : ℕ}
    (g : Measuring streams lacing body goal n m from packed count d start bytes i) {v : ℕ} (e' : v ≡ get_or lacing i 0) (in_l : i < length lacing) where
  pub fits : start + (bytes + v) ≤ length body
  fits = omega (arith, total-next lacing i v in_l e')

  pub goes_on : 255 ≤ v → Measuring streams lacing body goal n m from packed count d start (bytes + v) (i + 1)
  goes_on h = record {
    tells = rw (next lacing i v in_l e', ahead_more streams bytes v (drop (i + 1) lacing) (drop start body) h) at g.tells;
    adds = g.adds;
    small = g.small;
    few = omega arith;
    within = omega arith;
    room = omega (arith, total-next lacing i v in_l e');
    size = g.size;
  }

  -- the packet that ends here, as the code cuts it
  abbrev piece : Bytes
  piece = take (start + (bytes + v) - start) (drop start body)

  module _ (h : v < 255) where
    reads_on : {x : Told Contents} → read_packet piece streams ≡ x
        → in_front (measures_in (take count packed)) (and_later (measure_of x) (ahead streams 0 (drop (i + 1) lacing) (drop (start + (bytes + v)) body))) ≡ goal
    reads_on {x} r =
        let k : start + (bytes + v) - start ≡ bytes + v = omega arith in
        let r' : read_packet (take (bytes + v) (drop start body)) streams ≡ x = rw k at r in
        rw (← ap measure_of r', ← drop-drop (bytes + v) start body, ← ahead-ends streams bytes v (drop (i + 1) lacing) (drop start body) h, ← next lacing i v in_l e') g.tells

    pub refused : {why : Refusal} (later : List ℕ) → read_packet piece streams ≡ refuses (number_of why) → Measures (Err why) later goal
    refused later r = record { tells = reads_on r; sums = tt }

    pub ends : {c : Contents} → read_packet piece streams ≡ gives c → count < m
        → Measuring streams lacing body goal n m from (set packed count (packed_of c.measure)) (count + 1) (d + c.measure.samples)
        (start + (bytes + v)) 0 (i + 1)
    ends {c} r space =
        let e : Measure = c.measure in
        let fit : Packable e = packable piece streams c r in
        let front : measures_in (take (count + 1) (set packed count (packed_of e))) ≡ measures_in (take count packed) ++ (e ∷ []) =
        stored packed count e (omega arith) fit in
        record {
          tells = rw (front, ← in_front-again) (reads_on r);
          adds = ap (λ (k : ℕ). k + e.samples) g.adds ∙ sym (samples_snoc (measures_in (take count packed)) e) ∙ ap samples_of (sym front);
          small = omega (arith, fit.samples);
          few = omega arith;
          within = omega arith;
          room = omega (arith, total-next lacing i v in_l e');
          size = length-set packed count (packed_of e) ∙ g.size;
        }

pub all-measured : {streams : ℕ} {lacing body : List ℕ} {goal : Told (List Measure)} {n m from : ℕ} {packed : List ℕ} {count d start bytes i : ℕ}
    → Measuring streams lacing body goal n m from packed count d start bytes i → length lacing ≤ i → count ≤ m → n ≤ 1 → length lacing ≤ 255
    → Measures (Ok (record { count = count; samples = d })) packed goal
all-measured {streams} {lacing} {body} {goal} {n} {m} {from} {packed} {count} {d} {start} {bytes} {i} g h few one page =
    let all : gives (measures_in (take count packed)) ≡ goal =
    ap gives (sym (append-nil (measures_in (take count packed)))) ∙ (rw (drop_of_length-le lacing h, ahead_none streams bytes (drop start body)) at g.tells) in
    record { tells = all; sums = record { adds = g.adds; few = omega arith; small = omega arith } }

-- ---- a page's packets, the held one first

pub in_front-none : (t : Told (List Measure)) → in_front [] t ≡ t
in_front-none (gives es) = refl
in_front-none (refuses n) = refl

pub none_yet : {r : Result Measured Refusal} {packed : List ℕ} {t : Told (List Measure)} → Measures r packed (in_front [] t) → Measures r packed t
none_yet {r} {packed} {t} m = rw in_front-none at m

module _ (packed : List ℕ) (m : Measure) (h : 0 < length packed) (fit : Packable m) where
  first-stored : measures_in (take 1 (set packed 0 (packed_of m))) ≡ m ∷ []
  unfolding measures_in
  first-stored = stored packed 0 m h fit

  pub first-sums : m.samples ≡ samples_of (measures_in (take 1 (set packed 0 (packed_of m))))
  unfolding samples_of
  first-sums = rw first-stored (omega arith)

module _ (streams : ℕ) (b : Bytes) (bs : List Bytes) where
  pub first-refused : {why : Refusal} (packed : List ℕ) → read_packet b streams ≡ refuses (number_of why)
      → Measures (Err why) packed (measured streams (b ∷ bs))
  unfolding measured
  first-refused packed e = record { tells = sym (ap (λ (x : Told Contents). and_later (measure_of x) (measured streams bs)) e); sums = tt }

  pub first-measured : {c : Contents} {r : Result Measured Refusal} {packed : List ℕ} (old : List ℕ) → read_packet b streams ≡ gives c → 0 < length old
      → Measures r packed (in_front (measures_in (take 1 (set old 0 (packed_of c.measure)))) (measured streams bs))
      → Measures r packed (measured streams (b ∷ bs))
  unfolding measured
  first-measured {c} old e h m = rw e (rw (first-stored old c.measure h (packable b streams c e)) at m)
