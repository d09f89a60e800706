-- Slicing with the right entries gives the checksum: what a byte puts into the register some bytes later is one entry, and
-- the rest of the register does not depend on it. Assumes nothing.
use mathlib.Core.Path.{◌≡◌, refl, sym, ap, ap₂, ◌∙◌}
use mathlib.Core.Bool.{Bool, true, false}
use mathlib.Core.List.{[], ◌∷◌}
use Prim.Native.Nat.{ℕ, zero, suc, ◌*◌, ◌/◌, ◌%◌, ◌^◌, ◌≤◌, ◌<◌}
use native.Mathlib.Nat.{mod-lt}
use native.Mathlib.Omega.{arith}
use lib.Dec.{leb}
use lib.Pow.{pow_pos}
use lib.Bits.{bit_xor, xor_lt}
use lib.ListN.{length, take, drop, length-take, length-drop, take-append-drop}
use Rattle.octets.specs.Octets.{Bytes, Octets}
use Rattle.octets.specs.Pick.{pick}
use Rattle.octets.proofs.Parts.{octets-tail, octets-drop, octets-take}
use Rattle.page_crc_tables.specs.Register.{bits}
use Rattle.page_crc_tables.specs.Table.{Right}
use Rattle.page_crc_tables.proofs.Linear.{bits_lt, byte_step}
use Rattle.page_crc.specs.Crc.{crc}
use Rattle.page_crc.specs.Sliced.{block_of, size, blocks, sliced}
use Rattle.page_crc.specs.Statements.{SlicedRight}
use Rattle.page_crc.proofs.Register.{bits-byte, crc-append, crc_lt, crc_xor}

-- the byte b, with the bytes of s to follow
first : (b : ℕ) (s : Bytes) → Octets (b ∷ s) → (w : ℕ) → w < 2 ^ 32
    → crc w (b ∷ s) ≡ bit_xor (crc (w * 2 ^ 8 % 2 ^ 32) s) (bits (8 * suc (length s)) (bit_xor (w / 2 ^ 24) b * 2 ^ 24))
unfolding crc
first b s h w hw =
    let x : ℕ = bit_xor (w / 2 ^ 24) b in
    let hx : x < 2 ^ 8 = xor_lt 8 (w / 2 ^ 24) b (omega arith) (h.below 0) in
    let low : ℕ = w * 2 ^ 8 % 2 ^ 32 in
    ap (λ (r : ℕ). crc r s) (byte_step w b hw (h.below 0))
    ∙ crc_xor s (octets-tail h) low (bits 8 (x * 2 ^ 24)) (mod-lt (w * 2 ^ 8) (pow_pos 32)) (bits_lt 8 (x * 2 ^ 24) (omega arith))
    ∙ ap (bit_xor (crc low s)) (bits-byte (length s) (x * 2 ^ 24))

-- a block's size is one of five
sizes : (P : ℕ → Type 0) → P 16 → P 8 → P 4 → P 2 → P 1 → (a b c d : Bool) → P (pick a 16 (pick b 8 (pick c 4 (pick d 2 1))))
sizes P p q r t u true b c d = p
sizes P p q r t u false true c d = q
sizes P p q r t u false false true d = r
sizes P p q r t u false false false true = t
sizes P p q r t u false false false false = u

pub size-within : (n : ℕ) → (1 ≤ size n) × (size n ≤ 16)
unfolding size
size-within n =
    sizes (λ (m : ℕ). (1 ≤ m) × (m ≤ 16)) (omega arith, omega arith) (omega arith, omega arith) (omega arith, omega arith)
    (omega arith, omega arith) (omega arith, omega arith) (leb 16 n) (leb 8 n) (leb 4 n) (leb 2 n)

-- a block takes a byte at least
pub shorter : (n : ℕ) (s : Bytes) → length s ≤ suc n → length (drop (size (length s)) s) ≤ n
shorter n s h = simp length-drop (omega (arith, size-within (length s)))

module _ (e : ℕ → ℕ → ℕ) (right : Right e) where
  block_right : (s : Bytes) → Octets s → length s ≤ 16 → (x : ℕ) → x < 2 ^ 32 → block_of e x s ≡ crc x s
  unfolding block_of crc
  block_right [] h l x hx = refl
  block_right (b ∷ s) h l x hx =
      let i : ℕ = bit_xor (x / 2 ^ 24) b in
      let hi : i < 2 ^ 8 = xor_lt 8 (x / 2 ^ 24) b (omega arith) (h.below 0) in
      ap₂ bit_xor (block_right s (octets-tail h) (omega arith) (x * 2 ^ 8 % 2 ^ 32) (mod-lt (x * 2 ^ 8) (pow_pos 32)))
      (right.entry (length s) i (omega arith) hi)
      ∙ sym (first b s h x hx)

  blocks_right : (n : ℕ) (s : Bytes) → Octets s → length s ≤ n → (r : ℕ) → r < 2 ^ 32 → blocks e n r s ≡ crc r s
  unfolding blocks crc
  blocks_right zero [] h l r hr = refl
  blocks_right zero (b ∷ s) h l r hr = absurd (omega arith)
  blocks_right (suc n) s h l r hr =
      let m : ℕ = size (length s) in
      let one = block_right (take m s) (octets-take m s h) (simp length-take (omega (arith, size-within (length s)))) r hr in
      let wide : block_of e r (take m s) < 2 ^ 32 = rw one (crc_lt (take m s) r hr) in
      blocks_right n (drop m s) (octets-drop m s h) (shorter n s l) (block_of e r (take m s)) wide
      ∙ ap (λ (y : ℕ). crc y (drop m s)) one ∙ sym (crc-append r (take m s) (drop m s)) ∙ ap (crc r) (take-append-drop m s)

pub sliced_right : SlicedRight
unfolding sliced
sliced_right e right s h r hr = blocks_right e right (length s) s h (omega arith) r hr
