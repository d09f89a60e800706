-- A packet by its outline: the rule that it breaks does not matter, and padding longer than the packet makes it illegal.
-- Assumes nothing.
use mathlib.Core.Path.{◌≡◌, refl}
use mathlib.Core.Bool.{Bool, true, false, ◌||◌}
use mathlib.Core.List.{List, [], ◌∷◌, ◌++◌}
use Prim.Native.Nat.{ℕ, zero, suc, ◌+◌, ◌*◌, ◌-◌, ◌/◌, ◌%◌, ◌≤◌, ◌<◌}
use native.Mathlib.Nat.{le_refl, le_trans}
use native.Mathlib.Omega.{arith}
use borrow.Author.Tests.{lt-ltb, ltb-true}
use lib.Dec.{ltb, eqb}
use lib.ListN.{length, drop, replicate}
use Rattle.octets.specs.Pick.{pick}
use Rattle.octets.specs.Octets.{Bytes, total}
use Rattle.packet_toc.specs.Toc.{code_of, frame_samples}
use Rattle.packet_frames.specs.Frames.{frame_max, samples_max, Rule, R1, R2, R3, R4, R5, Read, short, value, coded, with_first, and_later, coded_times, padding_from}
use Rattle.packet_frames.specs.Packet.{Shape, broken, shape, padded, has_padding, count_of, is_variable, counted_shape, shape_of, Parsed, breaks, frames, placed, last_frame, on_read, parse_shape, parse}
use Rattle.packet_frames.specs.Code.{plain_of, frames_in, outline}

-- ---- what is left is no longer than what was there

-- at most n bytes are left
abbrev Left : {A : Type 0} → ℕ → Read A → Type 0
Left n short = Unit {0}
Left n (value a s) = length s ≤ n

left_either : {A : Type 0} (n : ℕ) (t : Bool) (a b : Read A) → Left n a → Left n b → Left n (pick t a b)
left_either n true a b p q = p
left_either n false a b p q = q

left-more : {A : Type 0} {m n : ℕ} → m ≤ n → (r : Read A) → Left m r → Left n r
left-more h short l = tt
left-more h (value a s) l = le_trans l h

coded-left : (s : Bytes) → Left (length s) (coded s)
unfolding coded
coded-left [] = tt
coded-left (n ∷ []) = left_either _ (ltb n 252) (value n []) short (omega arith) tt
coded-left (n ∷ m ∷ s) = left_either _ (ltb n 252) (value n (m ∷ s)) (value (n + 4 * m) s) (omega arith) (omega arith)

first-left : (k n : ℕ) (r : Read (List ℕ)) → Left k r → Left k (with_first n r)
first-left k n short l = tt
first-left k n (value ns s) l = l

later-left : (k : ℕ) (f : Bytes → Read (List ℕ)) → ((s : Bytes) → Left (length s) (f s)) → (r : Read ℕ) → Left k r → Left k (and_later f r)
later-left k f p short l = tt
later-left k f p (value n s) l = first-left k n (f s) (left-more l (f s) (p s))

coded_times-left : (n : ℕ) (s : Bytes) → Left (length s) (coded_times n s)
unfolding coded_times
coded_times-left zero s = le_refl (length s)
coded_times-left (suc n) s = later-left (length s) (coded_times n) (coded_times-left n) (coded s) (coded-left s)

padding-left : (p : ℕ) (s : Bytes) → Left (length s) (padding_from p s)
unfolding padding_from
padding-left p [] = tt
padding-left p (v ∷ s) =
    left_either _ (ltb v 255) (value (p + v) s) (padding_from (p + 254) s) (omega arith) (left-more (omega arith) (padding_from (p + 254) s) (padding-left (p + 254) s))

-- the same of a shape
abbrev ShapeIn : ℕ → Shape → Type 0
ShapeIn n (broken rule) = Unit {0}
ShapeIn n (shape m vary p s rule) = length s ≤ n

shape_either : (n : ℕ) (t : Bool) (a b : Shape) → ShapeIn n a → ShapeIn n b → ShapeIn n (pick t a b)
shape_either n true a b p q = p
shape_either n false a b p q = q

padded_in : (n m : ℕ) (vary : Bool) (r : Read ℕ) → Left n r → ShapeIn n (padded m vary r)
padded_in n m vary short l = tt
padded_in n m vary (value p s) l = l

counted_in_lem : (toc : ℕ) (s : Bytes) (n : ℕ) → length s ≤ n → ShapeIn n (counted_shape toc s)
unfolding counted_shape
counted_in_lem toc [] n h = tt
counted_in_lem toc (c ∷ s) n h =
    shape_either n (eqb (count_of c) 0 || ltb samples_max (count_of c * frame_samples toc)) (broken R5) (padded (count_of c) (is_variable c) (pick (has_padding c) (padding_from 0 s) (value 0 s))) tt
    (padded_in n (count_of c) (is_variable c) (pick (has_padding c) (padding_from 0 s) (value 0 s))
    (left_either n (has_padding c) (padding_from 0 s) (value 0 s) (left-more (omega arith) (padding_from 0 s) (padding-left 0 s)) (omega arith)))

shape_in : (s : Bytes) → ShapeIn (length s) (shape_of s)
unfolding shape_of
shape_in [] = tt
shape_in (toc ∷ s) =
    let n : ℕ = suc (length s) in
    let three = counted_shape toc s in
    let two = pick (eqb (code_of toc) 2) (shape 2 true 0 s R4) three in
    let one = pick (eqb (code_of toc) 1) (shape 2 false 0 s R3) two in
    shape_either n (eqb (code_of toc) 0) (shape 1 true 0 s R2) one (omega arith)
    (shape_either n (eqb (code_of toc) 1) (shape 2 false 0 s R3) two (omega arith)
    (shape_either n (eqb (code_of toc) 2) (shape 2 true 0 s R4) three (omega arith) (counted_in_lem toc s n (omega arith))))

-- ---- the rule does not matter

refusing : (t : Bool) (u v : Rule) (x y : Parsed) → outline x ≡ outline y → outline (pick t (breaks u) x) ≡ outline (pick t (breaks v) y)
refusing true u v x y e = refl
refusing false u v x y e = e

else_refusing : (t : Bool) (u v : Rule) (x : Parsed) → outline (pick t x (breaks u)) ≡ outline (pick t x (breaks v))
else_refusing true u v x = refl
else_refusing false u v x = refl

on_read_lem : {A : Type 0} (u v : Rule) (f g : A → Bytes → Parsed) (r : Read A) → ((a : A) (s : Bytes) → outline (f a s) ≡ outline (g a s))
    → outline (on_read u f r) ≡ outline (on_read v g r)
on_read_lem u v f g short p = refl
on_read_lem u v f g (value a s) p = p a s

placed_any : (u v : Rule) (ns : List ℕ) (p : ℕ) (s : Bytes) → outline (placed u ns p s) ≡ outline (placed v ns p s)
placed_any u v ns p s =
    let x = frames ns (drop (total ns + p) s) in
    refusing (ltb (length s) (total ns + p)) u v x x refl

-- the last frame where there is room, and equal frames of n bytes
abbrev last_of : List ℕ → ℕ → Bytes → Parsed
last_of ns p s =
    pick (ltb frame_max (length s - (total ns + p))) (breaks R2) (frames (ns ++ ((length s - (total ns + p)) ∷ [])) [])

abbrev each_of : ℕ → ℕ → Parsed
each_of m n = pick (ltb frame_max n) (breaks R2) (frames (replicate m n) [])

any_rule : (self : Bool) (m : ℕ) (vary : Bool) (p : ℕ) (s : Bytes) (u v : Rule)
    → outline (parse_shape self (shape m vary p s u)) ≡ outline (parse_shape self (shape m vary p s v))
any_rule true m true p s u v = on_read_lem u v _ _ (coded_times m s) (λ ns r. placed_any u v ns p r)
any_rule true m false p s u v = on_read_lem u v _ _ (coded s) (λ n r. placed_any u v (replicate m n) p r)
any_rule false m true p s u v =
    on_read_lem u v _ _ (coded_times (m - 1) s)
    (λ ns r. let x = last_of ns p r in refusing (ltb (length r) (total ns + p)) u v x x refl)
any_rule false m false p s u v =
    let t = eqb ((length s - p) % m) 0 in
    let x = each_of m ((length s - p) / m) in
    refusing (ltb (length s) p) u v (pick t x (breaks u)) (pick t x (breaks v)) (else_refusing t u v x)

-- ---- padding that is too long

module _ (k p : ℕ) (long : k < p) where
  placed-not : (u : Rule) (ns : List ℕ) (s : Bytes) → length s ≤ k → outline (placed u ns p s) ≡ short
  placed-not u ns s h = rw (lt-ltb (length s) (total ns + p) (omega arith))

  last-not : (u : Rule) (ns : List ℕ) (s : Bytes) → length s ≤ k → outline (last_frame u ns p s) ≡ short
  last-not u ns s h = rw (lt-ltb (length s) (total ns + p) (omega arith))

  on_read-not : {A : Type 0} (u : Rule) (f : A → Bytes → Parsed) (r : Read A) → Left k r
      → ((a : A) (s : Bytes) → length s ≤ k → outline (f a s) ≡ short) → outline (on_read u f r) ≡ short
  on_read-not u f short l q = refl
  on_read-not u f (value a s) l q = q a s l

  too_long : (self : Bool) (m : ℕ) (vary : Bool) (s : Bytes) (u : Rule) → length s ≤ k → outline (parse_shape self (shape m vary p s u)) ≡ short
  too_long true m true s u h = on_read-not u _ (coded_times m s) (left-more h (coded_times m s) (coded_times-left m s)) (λ ns r l. placed-not u ns r l)
  too_long true m false s u h = on_read-not u _ (coded s) (left-more h (coded s) (coded-left s)) (λ n r l. placed-not u (replicate m n) r l)
  too_long false m true s u h = on_read-not u _ (coded_times (m - 1) s) (left-more h (coded_times (m - 1) s) (coded_times-left (m - 1) s)) (λ ns r l. last-not u ns r l)
  too_long false m false s u h = rw (lt-ltb (length s) p (omega arith))

-- ---- the whole packet

by_shape : (self : Bool) (k : ℕ) (x : Shape) → ShapeIn k x → outline (parse_shape self x) ≡ frames_in self (plain_of k x)
by_shape self k (broken rule) h = refl
by_shape self k (shape m vary p s rule) h = by (ltb k p) refl
  where
    by : (t : Bool) → ltb k p ≡ t → outline (parse_shape self (shape m vary p s rule)) ≡ frames_in self (plain_of k (shape m vary p s rule))
    by true e = rw e (too_long k p (ltb-true k p e) self m vary s rule h)
    by false e = rw e (any_rule self m vary p s rule R1)

pub outlined : (self : Bool) (s : Bytes) → outline (parse self s) ≡ frames_in self (plain_of (length s) (shape_of s))
unfolding parse
outlined self s = by_shape self (length s) (shape_of s) (shape_in s)
