-- Signs and digits laid one after the other. Assumes nothing.
use mathlib.Core.Path.{◌≡◌, refl}
use mathlib.Core.List.{[], ◌∷◌, ◌++◌, append_assoc}
use Prim.Native.Nat.{ℕ, ◌+◌, ◌-◌, ◌*◌, ◌/◌, ◌%◌, ◌^◌, ◌≤◌, ◌<◌}
use native.Mathlib.Omega.{arith}
use lib.IntN.{ℤ, pos, negsuc, nat_abs}
use lib.ListN.{length, set, length-append}
use lib.Signed.{mag}
use mir.Syntax.{w16}
use mir.Val.{of_z}
use Rattle.octets.specs.Octets.{Bytes}
use Rattle.text_put.specs.Marks.{tab, line_feed}
use Rattle.text_put.specs.Writing.{Put, Laid}
use Rattle.text_put.proofs.Laying.{one_store, laid_as, laid_next}
use Rattle.text_put.proofs.Filling.{filling_first, filling_done}
use Rattle.text_put.proofs.Putting.{laid-put, laid_then, length-laid}
use Rattle.text_decimal.specs.Decimal.{decimal}
use Rattle.text_decimal.specs.Digits.{lowest}
use Rattle.text_decimal.proofs.Decimal.{length_most, length-u64, length-lowest}
use Rattle.text_gain.specs.Numbers.{sign_of, signed_decimal, unit, decibels, decibels_end}

-- ---- signs: b is the bits of g

pub plus : (g : ℤ) (b : ℕ) → b ≡ of_z w16 g → mag g < 2 ^ 15 → b < 32768 → (sign_of g ≡ []) × (b ≡ nat_abs g)
plus (pos n) b e f h = (refl, e)
plus (negsuc n) b e f h = absurd (omega arith)

pub minus : (g : ℤ) (b : ℕ) → b ≡ of_z w16 g → mag g < 2 ^ 15 → 32768 ≤ b → (sign_of g ≡ 45 ∷ []) × (65536 - b ≡ nat_abs g)
minus (pos n) b e f h = absurd (omega arith)
minus (negsuc n) b e f h = (refl, omega arith)

laid-nothing : (d : Bytes) (at : ℕ) → at ≤ length d → Laid d at [] at d
laid-nothing d at inside = filling_done (filling_first d at []) (omega arith)

pub no_sign : (g : ℤ) (d : Bytes) (at : ℕ) → sign_of g ≡ [] → at < length d → Laid d at (sign_of g) at d
no_sign g d at e inside = rw e (laid-nothing d at (omega arith))

pub a_sign : (g : ℤ) (d : Bytes) (at : ℕ) → sign_of g ≡ 45 ∷ [] → at < length d → Laid d at (sign_of g) (at + 1) (set d at 45)
a_sign g d at e inside = laid_as 1 e refl (one_store d at 45 (omega arith))

-- ---- a signed number, and decibels

-- five parts, from the left
grouped : (a b c d e : Bytes) → a ++ b ++ c ++ d ++ e ≡ (((a ++ b) ++ c) ++ d) ++ e
grouped a b c d e = simp append_assoc

-- the sign of a number that is known otherwise
pub same_sign : {g h : ℤ} {d e : Bytes} {at r : ℕ} → h ≡ g → Laid d at (sign_of h) r e → Laid d at (sign_of g) r e
same_sign same x = rw same at x

sign_most : (g : ℤ) → length (sign_of g) ≤ 1
sign_most (pos n) = omega arith
sign_most (negsuc n) = omega arith

module _ (d : Bytes) (at : ℕ) (g : ℤ) (n : ℕ) (e : n ≡ nat_abs g) (small : n ≤ 32768) {v : Bytes} {a : ℕ} (sign : Laid d at (sign_of g) a v) where
  pub laid_signed : {w : Bytes} {r : ℕ} → at + 21 ≤ length d → Put v a (decimal n) r w → Laid d at (signed_decimal g) r w
  unfolding signed_decimal
  laid_signed room x = rw (← e) (laid_then sign (omega (arith, sign.place, sign_most g, length-u64 n (omega arith))) x)

  module _ (room : at + 33 ≤ length d) {w x : Bytes} {b p : ℕ} (whole : Put v a (decimal (n / 256)) b w) (point : Put w b (46 ∷ []) p x) where
    length_whole : length (sign_of g ++ decimal (n / 256)) ≤ 21
    length_whole = omega (arith, length-append (sign_of g) (decimal (n / 256)), sign_most g, length-u64 (n / 256) (omega arith))

    -- all before the decimals
    begun : Laid d at ((sign_of g ++ decimal (n / 256)) ++ (46 ∷ [])) p x
    begun =
        let both = length-append (sign_of g) (decimal (n / 256)) in
        let first = laid_then sign (omega (arith, sign.place, length_whole)) whole in
        laid_then first (omega (arith, first.place, length_whole)) point

    begun-most : p ≤ at + 22
    begun-most = omega (arith, begun.place, length-append (sign_of g ++ decimal (n / 256)) (46 ∷ []), length_whole)

    pub room-rest : p + 8 ≤ length x
    room-rest = omega (arith, begun-most, length-laid begun)

    pub laid-decibels : {y z : Bytes} {q r : ℕ} → Laid x p (lowest 8 (n % 256 * 390625)) q y → Put y q unit r z → Laid d at (decibels g) r z
    unfolding decibels
    laid-decibels rest end =
        let size = length-lowest 8 (n % 256 * 390625) in
        let third = laid_next begun rest (omega (arith, begun-most)) in
        rw (← e, grouped (sign_of g) (decimal (n / 256)) (46 ∷ []) (lowest 8 (n % 256 * 390625)) unit)
        (laid_then third (omega (arith, begun-most, rest.place)) end)

-- ---- their lengths, and the end of a gain's line

size-most : (g : ℤ) → mag g < 2 ^ 15 → nat_abs g ≤ 32768
size-most (pos n) h = omega arith
size-most (negsuc n) h = omega arith

module _ (g : ℤ) (small : mag g < 2 ^ 15) where
  pub length_signed : length (signed_decimal g) ≤ 6
  unfolding signed_decimal
  length_signed =
      let size = size-most g small in
      omega (arith, length-append (sign_of g) (decimal (nat_abs g)), sign_most g, length_most (nat_abs g) 4 (omega arith))

  length-decibels : length (decibels g) ≤ 33
  unfolding decibels
  length-decibels =
      let size = size-most g small in
      let whole = length-u64 (nat_abs g / 256) (omega arith) in
      let rest = length-lowest 8 (nat_abs g % 256 * 390625) in
      let sign = sign_most g in
      simp length-append (omega arith)

  pub length-end : length (decibels_end g) ≤ 35
  unfolding decibels_end
  length-end = let most = length-decibels in simp length-append (omega arith)

  -- a gain's decibels after a tab, and a line feed after them
  pub laid_end : {d v w x : Bytes} {a b r : ℕ} → 35 ≤ length d → Put d 0 tab a v → Laid v a (decibels g) b w → Put w b line_feed r x
      → Laid d 0 (decibels_end g) r x
  unfolding decibels_end
  laid_end room e f h =
      let most = length-decibels in
      let first = laid-put (omega arith) e in
      let second = laid_next first f (omega (arith, first.place)) in
      let both = length-append tab (decibels g) in
      laid_then second (omega (arith, second.place)) h
