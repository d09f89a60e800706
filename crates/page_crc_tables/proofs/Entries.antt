-- The rules of the tables of bytes and of half bytes, each at all entries by one test that antt computes. The first table
-- has some registers moved by eight bits, and each later one the table before it moved by eight more. Assumes nothing.
use mathlib.Core.Path.{◌≡◌, refl, sym, ap, ◌∙◌}
use mathlib.Core.Bool.{Bool, true, false}
use mathlib.Core.List.{List, [], ◌∷◌, ◌++◌}
use Prim.Native.Nat.{ℕ, zero, suc, ◌+◌, ◌*◌, ◌/◌, ◌%◌, ◌^◌, ◌<◌, ◌≤◌}
use native.Mathlib.Nat.{le_of_suc-le-suc, not-suc-le-zero, zero-add, add-zero, add_assoc, zero-mul, suc-mul}
use native.Mathlib.Omega.{arith}
use lib.Dec.{T, eqb, eqb→eq}
use lib.Bits.{bit_xor, xor_zero_r, xor_shifted}
use lib.ListN.{length, take, drop, get_or, length-take, length-drop, get_or-append}
use lib.Seq.{get_or-take, get_or-drop, get_or-append-add}
use Rattle.page_crc_tables.specs.Register.{bits, byte}
use Rattle.page_crc_tables.specs.Table.{Right, RightHalves, entry_in, half_entry_in}
use Rattle.page_crc_tables.specs.Statements.{WholeByHalves}
use Rattle.page_crc_tables.proofs.Linear.{bits_lt, bits_xor, bits-add, byte_step}

abbrev both : Bool → Bool → Bool
both true b = b
both false b = false

both_left : (a b : Bool) → T (both a b) → T a
both_left true b t = tt
both_left false b t = t

both_right : (a b : Bool) → T (both a b) → T b
both_right true b t = t
both_right false b t = absurd t

-- each of the second list is f of the one at its place in the first
abbrev chain : (ℕ → ℕ) → List ℕ → List ℕ → Bool
chain f ps [] = true
chain f [] (x ∷ xs) = false
chain f (p ∷ ps) (x ∷ xs) = both (eqb x (f p)) (chain f ps xs)

chained : (f : ℕ → ℕ) (ps xs : List ℕ) → T (chain f ps xs) → (i : ℕ) → i < length xs → get_or xs i 0 ≡ f (get_or ps i 0)
chained f ps [] t i h = absurd (not-suc-le-zero h)
chained f [] (x ∷ xs) t i h = absurd t
chained f (p ∷ ps) (x ∷ xs) t zero h = eqb→eq x (f p) (both_left (eqb x (f p)) (chain f ps xs) t)
chained f (p ∷ ps) (x ∷ xs) t (suc i) h = chained f ps xs (both_right (eqb x (f p)) (chain f ps xs) t) i (le_of_suc-le-suc h)

-- what antt computes of tables of w entries each: the first from the registers ps, each later one by f from the one before
abbrev test : ℕ → List ℕ → (ℕ → ℕ) → List ℕ → Bool
test w ps f t = both (chain (bits 8) ps (take w t)) (chain f t (drop w t))

module _ (w : ℕ) (ps : List ℕ) (f : ℕ → ℕ) (t : List ℕ) (size : w ≤ length t) (ok : T (test w ps f t)) where
  first : (i : ℕ) → i < w → get_or t i 0 ≡ bits 8 (get_or ps i 0)
  first i h =
      sym (get_or-take w t i 0 h)
      ∙ chained (bits 8) ps (take w t) (both_left (chain (bits 8) ps (take w t)) (chain f t (drop w t)) ok)
      i (simp length-take (omega arith))

  module _ (moves : (p : ℕ) → p < 2 ^ 32 → f p ≡ bits 8 p) where
    -- place i of table j, from the register r at place i
    later : (j i r : ℕ) → i < w → j * w + i < length t → r < 2 ^ 32 → get_or ps i 0 ≡ r → get_or t (j * w + i) 0 ≡ bits (8 * suc j) r
    later zero i r h l hr e = rw (zero-mul, zero-add) (first i h ∙ ap (bits 8) e)
    later (suc j) i r h l hr e =
        let p : ℕ = bits (8 * suc j) r in
        let place : suc j * w + i ≡ w + (j * w + i) = rw suc-mul (omega arith) in
        let n : 8 * suc j + 8 ≡ 8 * suc (suc j) = omega arith in
        ap (λ (k : ℕ). get_or t k 0) place ∙ sym (get_or-drop w t (j * w + i) 0)
        ∙ chained f t (drop w t) (both_right (chain (bits 8) ps (take w t)) (chain f t (drop w t)) ok)
        (j * w + i) (simp length-drop (omega arith))
        ∙ ap f (later j i r h (omega arith) hr e) ∙ moves p (bits_lt (8 * suc j) r hr)
        ∙ sym (bits-add (8 * suc j) 8 r) ∙ ap (λ (m : ℕ). bits m r) n

-- the numbers i, i + 1 and so on, n of them, times d
abbrev tops : ℕ → ℕ → ℕ → List ℕ
tops d zero i = []
tops d (suc n) i = i * d ∷ tops d n (suc i)

tops_at : (d n i b : ℕ) → b < n → get_or (tops d n i) b 0 ≡ (i + b) * d
tops_at d zero i b h = absurd (not-suc-le-zero h)
tops_at d (suc n) i zero h = rw add-zero
tops_at d (suc n) i (suc b) h = tops_at d n (suc i) b (le_of_suc-le-suc h) ∙ ap (λ (k : ℕ). k * d) (omega arith)

top_at : (d n b : ℕ) → b < n → get_or (tops d n 0) b 0 ≡ b * d
top_at d n b h = tops_at d n 0 b h ∙ ap (λ (k : ℕ). k * d) (zero-add b)

-- a register moved by a byte with the help of the first table: one xor, where eight bits would be eight
abbrev helped : List ℕ → ℕ → ℕ
helped t p = bit_xor (p * 2 ^ 8 % 2 ^ 32) (get_or t (p / 2 ^ 24) 0)

-- the bytes in the register's top
abbrev bytes : List ℕ
bytes = tops (2 ^ 24) 256 0

module _ (t : List ℕ) (size : length t ≡ 4096) (ok : T (test 256 bytes (helped t) t)) where
  helps : (p : ℕ) → p < 2 ^ 32 → helped t p ≡ bits 8 p
  unfolding byte
  helps p h =
      let b : ℕ = p / 2 ^ 24 in
      let hb : b < 256 = omega arith in
      ap (bit_xor (p * 2 ^ 8 % 2 ^ 32)) (first 256 bytes (helped t) t (omega arith) ok b hb ∙ ap (bits 8) (top_at (2 ^ 24) 256 b hb))
      ∙ simp xor_zero_r at (sym (byte_step p 0 h (omega arith)))

  pub tables_right : Right (entry_in t)
  unfolding entry_in
  tables_right =
      let at = later 256 bytes (helped t) t (omega arith) ok helps in
      record { entry = λ j b hj hb. at j b (b * 2 ^ 24) hb (omega arith) (omega arith) (top_at (2 ^ 24) 256 b hb) }

-- the high halves of a byte in the register's top, and the low ones
abbrev highs : List ℕ
highs = tops (2 ^ 28) 16 0

abbrev lows : List ℕ
lows = tops (2 ^ 24) 16 0

module _ (t : List ℕ) (size : length t ≡ 512) (ok : T (test 32 (highs ++ lows) (bits 8) t)) where
  half_at : (j i r : ℕ) → j < 16 → i < 32 → r < 2 ^ 32 → get_or (highs ++ lows) i 0 ≡ r → get_or t (j * 32 + i) 0 ≡ bits (8 * suc j) r
  half_at j i r hj hi hr e = later 32 (highs ++ lows) (bits 8) t (omega arith) ok (λ p h. refl) j i r hi (omega arith) hr e

  high : (h : ℕ) → h < 16 → get_or (highs ++ lows) h 0 ≡ h * 2 ^ 28
  high h l = get_or-append highs lows 0 h l ∙ top_at (2 ^ 28) 16 h l

  low : (l : ℕ) → l < 16 → get_or (highs ++ lows) (16 + l) 0 ≡ l * 2 ^ 24
  low l h = get_or-append-add highs lows l 0 ∙ top_at (2 ^ 24) 16 l h

  pub halves_right : RightHalves t
  halves_right = record {
    high = λ j h hj hh. half_at j h (h * 2 ^ 28) hj (omega arith) (omega arith) (high h hh);
    low = λ j l hj hl. rw (add_assoc (j * 32) 16 l) (half_at j (16 + l) (l * 2 ^ 24) hj (omega arith) (omega arith) (low l hl));
  }

-- a byte is the xor of its halves
pub whole_by_halves : WholeByHalves
unfolding half_entry_in
whole_by_halves t right = record { entry = whole }
  where
    whole : (j b : ℕ) → j < 16 → b < 256 → half_entry_in t j b ≡ bits (8 * suc j) (b * 2 ^ 24)
    whole j b hj hb =
        let h : ℕ = b / 16 in
        let l : ℕ = b % 16 in
        let hh : h < 16 = omega arith in
        let hl : l < 16 = omega arith in
        let sum : h * 2 ^ 28 + l * 2 ^ 24 ≡ b * 2 ^ 24 = omega arith in
        rw (right.high j h hj hh, right.low j l hj hl)
        (sym (bits_xor (8 * suc j) (h * 2 ^ 28) (l * 2 ^ 24) (omega arith) (omega arith))
        ∙ ap (bits (8 * suc j)) (xor_shifted h 28 (l * 2 ^ 24) (omega arith) ∙ sum))
