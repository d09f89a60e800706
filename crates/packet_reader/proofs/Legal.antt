-- A legal packet has from 1 to 48 frames and from 120 to 5,760 samples, a multiple of 120. Assumes nothing.
use mathlib.Core.Path.{◌≡◌, refl, ◌∙◌}
use mathlib.Core.Bool.{Bool, true, false, ◌||◌}
use mathlib.Core.List.{List, [], ◌∷◌, ◌++◌}
use Prim.Native.Nat.{ℕ, zero, suc, ◌+◌, ◌*◌, ◌/◌, ◌%◌, ◌-◌, ◌≤◌}
use native.Mathlib.Nat.{mul-le-mul, mul-mod_left, mul_assoc}
use native.Mathlib.Omega.{arith}
use borrow.Author.Tests.{eqb-false, ltb-false}
use lib.Dec.{ltb, eqb}
use lib.ListN.{length, get_or, drop, replicate, length-append, length-replicate}
use Rattle.octets.specs.Pick.{pick}
use Rattle.octets.specs.Octets.{Bytes, total}
use Rattle.refusal.specs.Checks.{first_of}
use Rattle.refusal.proofs.Checks.{no_refusal, passed}
use Rattle.packet_toc.specs.Toc.{code_of, frame_samples}
use Rattle.packet_frames.specs.Frames.{frame_max, samples_max, Rule, R2, R3, R4, R5, Read, short, value, coded, coded_times, padding_from}
use Rattle.packet_frames.specs.Packet.{Shape, broken, shape, padded, count_of, is_variable, has_padding, counted_shape, shape_of, Parsed, breaks, frames, on_read, parse_shape, parse}
use Rattle.packet_toc.proofs.Samples.{FrameLength, frame-length}
use Rattle.packet_frames.proofs.Shapes.{some}
use Rattle.packet_frames.proofs.Framing.{times-length}
use Rattle.packet_reader.specs.declared.Contents.{Contents}
use Rattle.packet_reader.specs.Streams.{contents_of, Measured, illegal, measured, with_first, last_of, first_and, measured_of, is_illegal, packet_checks, first_contents, read_packet}
use Rattle.packet_reader.specs.Statements.{PacketLength, Legal, LegalContents, LegalPackets, LegalLengths}

-- ---- as many frames as the shape tells

abbrev CountIs : ℕ → Parsed → Type 0
CountIs m (breaks rule) = Unit {0}
CountIs m (frames sizes s) = length sizes ≡ m

count_either : (m : ℕ) (t : Bool) (a b : Parsed) → CountIs m a → CountIs m b → CountIs m (pick t a b)
count_either m true a b p q = p
count_either m false a b p q = q

-- where the numbers read satisfy P
on_count : {A : Type 0} (m : ℕ) (rule : Rule) (f : A → Bytes → Parsed) (r : Read A) → ((a : A) (s : Bytes) → r ≡ value a s → CountIs m (f a s))
    → CountIs m (on_read rule f r)
on_count m rule f short h = tt
on_count m rule f (value a s) h = h a s refl

count-is : (self : Bool) (m : ℕ) (vary : Bool) (p : ℕ) (s : Bytes) (rule : Rule) → 1 ≤ m → CountIs m (parse_shape self (shape m vary p s rule))
count-is true m true p s rule h =
    on_count m rule _ (coded_times m s)
    (λ ns r e. count_either m (ltb (length r) (total ns + p)) (breaks rule) (frames ns (drop (total ns + p) r)) tt (times-length m s ns r e))
count-is true m false p s rule h =
    on_count m rule _ (coded s)
    (λ n r e. count_either m (ltb (length r) (total (replicate m n) + p)) (breaks rule) (frames (replicate m n) (drop (total (replicate m n) + p) r)) tt
    (length-replicate m n))
count-is false m true p s rule h =
    on_count m rule _ (coded_times (m - 1) s)
    (λ ns r e.
    let last : ℕ = length r - (total ns + p) in
    let whole = frames (ns ++ (last ∷ [])) [] in
    count_either m (ltb (length r) (total ns + p)) (breaks rule) (pick (ltb frame_max last) (breaks R2) whole) tt
    (count_either m (ltb frame_max last) (breaks R2) whole tt
    (length-append ns (last ∷ []) ∙ omega (arith, times-length (m - 1) s ns r e))))
count-is false m false p s rule h =
    let n : ℕ = (length s - p) / m in
    let whole = frames (replicate m n) [] in
    let each = pick (ltb frame_max n) (breaks R2) whole in
    let even = pick (eqb ((length s - p) % m) 0) each (breaks rule) in
    count_either m (ltb (length s) p) (breaks rule) even tt
    (count_either m (eqb ((length s - p) % m) 0) each (breaks rule) (count_either m (ltb frame_max n) (breaks R2) whole tt (length-replicate m n)) tt)

-- ---- a shape's frames have at most 5,760 samples

abbrev Bounded : ℕ → Shape → Type 0
Bounded d (broken rule) = Unit {0}
Bounded d (shape m vary p s rule) = (1 ≤ m) × (m * d ≤ samples_max)

bounded_either : (d : ℕ) (t : Bool) (a b : Shape) → (t ≡ true → Bounded d a) → (t ≡ false → Bounded d b) → Bounded d (pick t a b)
bounded_either d true a b p q = p refl
bounded_either d false a b p q = q refl

padded_bounded : (d m : ℕ) (vary : Bool) (r : Read ℕ) → (1 ≤ m) × (m * d ≤ samples_max) → Bounded d (padded m vary r)
padded_bounded d m vary short h = tt
padded_bounded d m vary (value p s) h = h

neither : (a b : Bool) → a || b ≡ false → (a ≡ false) × (b ≡ false)
neither true b e = let z : ◌≡◌ {A = ℕ} 0 1 = cc in absurd (omega arith)
neither false b e = (refl, e)

counted_bounded : (toc : ℕ) (s : Bytes) → Bounded (frame_samples toc) (counted_shape toc s)
unfolding counted_shape
counted_bounded toc [] = tt
counted_bounded toc (c ∷ s) =
    let m : ℕ = count_of c in
    let d : ℕ = frame_samples toc in
    let q = pick (has_padding c) (padding_from 0 s) (value 0 s) in
    bounded_either d (eqb m 0 || ltb samples_max (m * d)) (broken R5) (padded m (is_variable c) q) (λ e. tt)
    (λ e. let n = neither (eqb m 0) (ltb samples_max (m * d)) e in padded_bounded d m (is_variable c) q (some (eqb-false m 0 n.0), ltb-false samples_max (m * d) n.1))

shape_bounded : (b : Bytes) → Bounded (frame_samples (get_or b 0 0)) (shape_of b)
unfolding shape_of
shape_bounded [] = tt
shape_bounded (toc ∷ s) =
    let d : ℕ = frame_samples toc in
    let most = (frame-length toc).most in
    let three = counted_shape toc s in
    let two = pick (eqb (code_of toc) 2) (shape 2 true 0 s R4) three in
    let one = pick (eqb (code_of toc) 1) (shape 2 false 0 s R3) two in
    bounded_either d (eqb (code_of toc) 0) (shape 1 true 0 s R2) one (λ e. (omega arith, omega arith))
    (λ e. bounded_either d (eqb (code_of toc) 1) (shape 2 false 0 s R3) two (λ e. (omega arith, omega arith))
    (λ e. bounded_either d (eqb (code_of toc) 2) (shape 2 true 0 s R4) three (λ e. (omega arith, omega arith)) (λ e. counted_bounded toc s)))

-- ---- the law

-- m frames of a frame's length d
lengths : (m d : ℕ) → FrameLength d → 1 ≤ m → m * d ≤ samples_max → (m ≤ 48) × PacketLength (m * d)
lengths m d f h b =
    let each : m * 120 ≤ m * d = mul-le-mul {n₁ = m} {n₂ = m} (omega arith) f.least in
    let first : 1 * 120 ≤ m * d = mul-le-mul h f.least in
    let whole : d / 120 * 120 ≡ d = omega (arith, f.multiple) in (
      omega arith,
      record { least = omega arith; most = b; multiple = rw (← whole, ← mul_assoc m (d / 120) 120) (mul-mod_left (m * (d / 120)) 120) },
    )

by_shape : (self : Bool) (b : Bytes) (x : Shape) (sizes : List ℕ) (s : Bytes) → Bounded (frame_samples (get_or b 0 0)) x
    → parse_shape self x ≡ frames sizes s → Legal b sizes
by_shape self b (broken rule) sizes s h e = let z : ◌≡◌ {A = ℕ} 0 1 = cc in absurd (omega arith)
by_shape self b (shape m vary p r rule) sizes s h e =
    let count : length sizes ≡ m = rw e at (count-is self m vary p r rule h.0) in
    let k = lengths m (frame_samples (get_or b 0 0)) (frame-length (get_or b 0 0)) h.0 h.1 in
    record { some = omega (arith, h.0); few = omega (arith, k.0); samples = rw count k.1 }

pub legal-packets : LegalPackets
unfolding parse
legal-packets self b sizes s e = by_shape self b (shape_of b) sizes s (shape_bounded b) e

-- ---- of every packet that is read

abbrev Good : Measured → Type 0
Good illegal = Unit {0}
Good (measured c ds) = LegalContents c

legal_contents : (b : Bytes) (sizes : List ℕ) → Legal b sizes → LegalContents (contents_of b sizes)
legal_contents b sizes l = record { samples = l.samples; some = l.some; few = l.few }

last-good : (b : Bytes) (p : Parsed) → ((sizes : List ℕ) (s : Bytes) → p ≡ frames sizes s → Legal b sizes) → Good (last_of b p)
last-good b (breaks rule) h = tt
last-good b (frames sizes s) h = legal_contents b sizes (h sizes s refl)

with_good : (c : Contents) (m : Measured) → LegalContents c → Good (with_first c m)
with_good c illegal g = tt
with_good c (measured e es) g = g

first_good : (f : Bytes → Measured) (b : Bytes) (p : Parsed) → ((sizes : List ℕ) (s : Bytes) → p ≡ frames sizes s → Legal b sizes) → Good (first_and f b p)
first_good f b (breaks rule) h = tt
first_good f b (frames sizes s) h = with_good (contents_of b sizes) (f s) (legal_contents b sizes (h sizes s refl))

all-good : (n : ℕ) (b : Bytes) → Good (measured_of n b)
unfolding measured_of
all-good zero b = last-good b (parse false b) (legal-packets false b)
all-good (suc n) b = first_good (measured_of n) b (parse true b) (legal-packets true b)

good-first : (m : Measured) → is_illegal m ≡ false → Good m → LegalContents (first_contents m)
good-first illegal e g = let z : ◌≡◌ {A = ℕ} 0 1 = cc in absurd (omega arith)
good-first (measured c ds) e g = g

pub legal-lengths : LegalLengths
unfolding read_packet
legal-lengths b n c e =
    let m : Measured = measured_of (n - 1) b in
    let r = no_refusal (first_of (packet_checks b n)) (first_contents m) c e in
    let legal = (passed _ _ _ (passed _ _ _ r.0).1).0 in
    rw r.1 at (good-first m legal (all-good (n - 1) b))
