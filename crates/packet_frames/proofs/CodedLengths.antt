-- Coded lengths and the padding's length, way by way: what is read at a place of s, and how a loop over them goes on.
-- Assumes nothing.
use Rattle.std.specs.Prelude.{Option, Some, None}
use mathlib.Core.Path.{◌≡◌, refl, sym, ap, ◌∙◌}
use mathlib.Core.Bool.{Bool, true, false}
use mathlib.Core.List.{List, [], ◌∷◌}
use Prim.Native.Nat.{ℕ, suc, ◌+◌, ◌*◌, ◌-◌, ◌≤◌, ◌<◌}
use native.Mathlib.Numerals.{add-one}
use native.Mathlib.Omega.{arith}
use borrow.Author.Tests.{lt-ltb, le-ltb}
use lib.Dec.{ltb}
use lib.ListN.{length, get_or, drop, drop_of_length-le}
use lib.Seq.{drop-cons}
use Rattle.octets.specs.Pick.{pick}
use Rattle.octets.specs.Octets.{Bytes, total}
use Rattle.packet_frames.specs.Frames.{Read, short, value, coded, with_first, and_later, coded_times, padding_from}
use Rattle.packet_frames.specs.Code.{FoundIs, ValueIn, summed, capped}
use Rattle.packet_frames.specs.declared.Found.{Found}

-- a number n was read of s, and `next` is the place after it
pub record Got (s : Bytes) (k n next : ℕ) (t : Read ℕ) : Type 0 where
  pub told : value n (drop next s) ≡ t
  pub within : ValueIn s k n next

-- what a call promises of its answer r, by the variant
module _ (s : Bytes) (k : ℕ) {r : Option Found} {t : Read ℕ} where
  pub missing : r ≡ None → FoundIs s k t r → short ≡ t
  missing e p = rw e at p.told

  pub found : {x : Found} → r ≡ Some x → FoundIs s k t r → Got s k x.value x.next t
  found e p = record { told = rw e at p.told; within = rw e at p.within }

-- the byte n at a place of s, and what follows it
front : (s : Bytes) (at n : ℕ) → at < length s → n ≡ get_or s at 0 → drop at s ≡ n ∷ drop (at + 1) s
front s at n h e = rw (e, add-one at) (drop-cons s at 0 h)

-- one coded length
coded-byte : (n : ℕ) (s : Bytes) → n < 252 → coded (n ∷ s) ≡ value n s
unfolding coded
coded-byte n [] h = rw (lt-ltb n 252 h)
coded-byte n (m ∷ s) h = rw (lt-ltb n 252 h)

pub coded-end : (s : Bytes) (at : ℕ) → length s ≤ at → short ≡ coded (drop at s)
unfolding coded
coded-end s at h = rw (drop_of_length-le s h)

module _ (s : Bytes) (at n : ℕ) (h : at < length s) (e : n ≡ get_or s at 0) where
  pub coded-small : n < 252 → value n (drop (at + 1) s) ≡ coded (drop at s)
  coded-small l = sym (ap coded (front s at n h e) ∙ coded-byte n (drop (at + 1) s) l)

  pub coded-cut : 252 ≤ n → length s ≤ at + 1 → short ≡ coded (drop at s)
  unfolding coded
  coded-cut l c = rw (front s at n h e, drop_of_length-le s c, le-ltb n 252 l)

  pub coded_large : (m : ℕ) → 252 ≤ n → at + 1 < length s → m ≡ get_or s (at + 1) 0 → value (n + 4 * m) (drop (at + 2) s) ≡ coded (drop at s)
  unfolding coded
  coded_large m l c f =
      let next : at + 1 + 1 ≡ at + 2 = omega arith in
      rw (front s at n h e, front s (at + 1) m c f, next, le-ltb n 252 l)

-- the sum of some lengths, k being summed already
abbrev pub plus : ℕ → Read (List ℕ) → Read ℕ
plus k short = short
plus k (value ns s) = value (k + total ns) s

plus_zero : (r : Read (List ℕ)) → plus 0 r ≡ summed r
plus_zero short = refl
plus_zero (value ns s) = ap (λ (n : ℕ). value n s) (omega arith)

plus_first : (k n : ℕ) (r : Read (List ℕ)) → plus k (with_first n r) ≡ plus (k + n) r
unfolding total
plus_first k n short = refl
plus_first k n (value ns s) = ap (λ (n : ℕ). value n s) (omega arith)

pub times_begin : (n : ℕ) (s : Bytes) → plus 0 (coded_times (n - 0) s) ≡ summed (coded_times n s)
times_begin n s = let e : n - 0 ≡ n = omega arith in rw e (plus_zero (coded_times n s))

-- there is a length to be read, and i were read
times-next : (n i : ℕ) (s : Bytes) → i < n → coded_times (n - i) s ≡ and_later (coded_times (n - (i + 1))) (coded s)
unfolding coded_times
times-next n i s h = let e : n - i ≡ suc (n - (i + 1)) = omega arith in rw e

pub times_cut : (n i k : ℕ) (s : Bytes) → i < n → short ≡ coded s → plus k (coded_times (n - i) s) ≡ short
times_cut n i k s h e = rw (times-next n i s h, ← e)

pub times_more : (n i k m : ℕ) (s t : Bytes) → i < n → value m t ≡ coded s
    → plus k (coded_times (n - i) s) ≡ plus (k + m) (coded_times (n - (i + 1)) t)
times_more n i k m s t h e = rw (times-next n i s h, ← e) (plus_first k m (coded_times (n - (i + 1)) t))

pub times-done : (n i k : ℕ) (s : Bytes) → n ≤ i → plus k (coded_times (n - i) s) ≡ value k s
unfolding coded_times total
times-done n i k s h = let e : n - i ≡ 0 = omega arith in rw e (ap (λ (m : ℕ). value m s) (omega arith))

-- padding that is above the bound stays there
above : (k p : ℕ) (s : Bytes) → k < p → capped k (padding_from p s) ≡ short
unfolding padding_from
above k p [] h = refl
above k p (v ∷ s) h = by (ltb v 255) (above k (p + 254) s (omega arith))
  where
    by : (t : Bool) → capped k (padding_from (p + 254) s) ≡ short → capped k (pick t (value (p + v) s) (padding_from (p + 254) s)) ≡ short
    by true e = rw (lt-ltb k (p + v) (omega arith))
    by false e = e

pub padding-cut : (s : Bytes) (k p at : ℕ) → length s ≤ at → capped k (padding_from p (drop at s)) ≡ short
unfolding padding_from
padding-cut s k p at h = rw (drop_of_length-le s h)

-- the byte v of the padding's length at a place of s, p being counted already
pub record Padding (s : Bytes) (whole : Read ℕ) (p at v : ℕ) : Type 0 where
  pub inside : at < length s
  pub byte : v ≡ get_or s at 0
  pub left : capped (length s) (padding_from p (drop at s)) ≡ whole

module _ {s : Bytes} {whole : Read ℕ} {p at v : ℕ} (t : Padding s whole p at v) where
  pub padding-ends : v < 255 → p + v ≤ length s → value (p + v) (drop (at + 1) s) ≡ whole
  unfolding padding_from
  padding-ends l f = rw (front s at v t.inside t.byte, lt-ltb v 255 l, le-ltb (length s) (p + v) f) at t.left

  pub padding-over : v < 255 → length s < p + v → short ≡ whole
  unfolding padding_from
  padding-over l f = rw (front s at v t.inside t.byte, lt-ltb v 255 l, lt-ltb (length s) (p + v) f) at t.left

  pub padding-goes_on : 255 ≤ v → capped (length s) (padding_from (p + 254) (drop (at + 1) s)) ≡ whole
  unfolding padding_from
  padding-goes_on l = rw (front s at v t.inside t.byte, le-ltb v 255 l) at t.left

  pub padding-above : 255 ≤ v → length s < p + 254 → short ≡ whole
  padding-above l f = sym (above (length s) (p + 254) (drop (at + 1) s) f) ∙ padding-goes_on l
