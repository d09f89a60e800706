-- The register's step is linear, so a byte's step is a shift and an entry of a table. Assumes nothing.
use mathlib.Core.Path.{◌≡◌, refl, sym, ap, ap₂, ◌∙◌}
use Prim.Native.Nat.{ℕ, zero, suc, ◌+◌, ◌*◌, ◌/◌, ◌%◌, ◌^◌, ◌<◌}
use native.Mathlib.Nat.{mod-lt, add-zero, zero-add, suc-add, mul_assoc, pow-succ', le-mul_of_pos_right}
use native.Mathlib.Omega.{arith}
use lib.Dec.{lit<}
use lib.Pow.{pow_pos, split}
use lib.Bits.{bit_xor, xor_shr, xor_mod, xor_lt, xor_zero_r, xor_comm, xor_block, xor_shifted}
use Rattle.page_crc_tables.specs.Register.{poly, bit, bits, byte}
use Rattle.page_crc_tables.proofs.Xor.{digit, xor_swap, xor_shl}

-- the digits that leave two registers
poly_xor : (u v : ℕ) → u < 2 → v < 2 → poly (bit_xor u v) ≡ bit_xor (poly u) (poly v)
unfolding poly
poly_xor u v hu hv =
    digit (λ (a : ℕ). poly (bit_xor a v) ≡ bit_xor (poly a) (poly v)) refl
    (digit (λ (b : ℕ). poly (bit_xor 1 b) ≡ bit_xor (poly 1) (poly b)) refl refl v hv) u hu

poly_lt : (u : ℕ) → poly u < 2 ^ 32
unfolding poly
poly_lt zero = lit< tt
poly_lt (suc u) = lit< tt

top : {x : ℕ} → x < 2 ^ 32 → x / 2 ^ 31 < 2
top {x} h = omega arith

pub bit_lt : (x : ℕ) → bit x < 2 ^ 32
unfolding bit
bit_lt x = xor_lt 32 (x * 2 % 2 ^ 32) (poly (x / 2 ^ 31)) (mod-lt (x * 2) (pow_pos 32)) (poly_lt (x / 2 ^ 31))

pub bit-bit_xor : (x y : ℕ) → x < 2 ^ 32 → y < 2 ^ 32 → bit (bit_xor x y) ≡ bit_xor (bit x) (bit y)
unfolding bit
bit-bit_xor x y hx hy =
    ap₂ bit_xor (ap (λ (n : ℕ). n % 2 ^ 32) (sym (xor_shl 1 x y)) ∙ xor_mod (x * 2) (y * 2) 32)
    (ap poly (xor_shr x y 31) ∙ poly_xor (x / 2 ^ 31) (y / 2 ^ 31) (top hx) (top hy))
    ∙ xor_swap (x * 2 % 2 ^ 32) (y * 2 % 2 ^ 32) (poly (x / 2 ^ 31)) (poly (y / 2 ^ 31))

pub bits_lt : (n x : ℕ) → x < 2 ^ 32 → bits n x < 2 ^ 32
unfolding bits
bits_lt zero x h = h
bits_lt (suc n) x h = bits_lt n (bit x) (bit_lt x)

pub bits_xor : (n x y : ℕ) → x < 2 ^ 32 → y < 2 ^ 32 → bits n (bit_xor x y) ≡ bit_xor (bits n x) (bits n y)
unfolding bits
bits_xor zero x y hx hy = refl
bits_xor (suc n) x y hx hy = ap (bits n) (bit-bit_xor x y hx hy) ∙ bits_xor n (bit x) (bit y) (bit_lt x) (bit_lt y)

-- m bits and then n
pub bits-add : (m n r : ℕ) → bits (m + n) r ≡ bits n (bits m r)
unfolding bits
bits-add zero n r = rw zero-add
bits-add (suc m) n r = rw suc-add (bits-add m n (bit r))

-- nothing leaves a register below 2 ^ 31
bit-low : (x : ℕ) → x < 2 ^ 31 → bit x ≡ x * 2
unfolding bit poly
bit-low x h =
    let z : x / 2 ^ 31 ≡ 0 = omega arith in
    let m : x * 2 % 2 ^ 32 ≡ x * 2 = omega arith in
    rw (z, m) (xor_zero_r (x * 2))

-- so n bits move left a register that has the room
low : (n x : ℕ) → x * 2 ^ n < 2 ^ 32 → bits n x ≡ x * 2 ^ n
unfolding bits
low zero x h = omega arith
low (suc n) x h =
    let e : x * 2 ^ suc n ≡ x * 2 * 2 ^ n = ap (λ (k : ℕ). x * k) (pow-succ' 2 n) ∙ sym (mul_assoc x 2 (2 ^ n)) in
    let small : x < 2 ^ 31 = omega (arith, le-mul_of_pos_right (x * 2) (pow_pos n)) in
    ap (bits n) (bit-low x small) ∙ low n (x * 2) (rw e at h) ∙ sym e

-- the byte and the register's top make the index
pub byte_step : (r b : ℕ) → r < 2 ^ 32 → b < 2 ^ 8
    → byte r b ≡ bit_xor (r * 2 ^ 8 % 2 ^ 32) (bits 8 (bit_xor (r / 2 ^ 24) b * 2 ^ 24))
unfolding byte
byte_step r b hr hb =
    let hi : ℕ = r / 2 ^ 24 in
    let lo : ℕ = r % 2 ^ 24 in
    let hlo : lo < 2 ^ 24 = mod-lt r (pow_pos 24) in
    let hhi : hi < 2 ^ 8 = omega arith in
    let i : ℕ = bit_xor hi b in
    let hi8 : i < 2 ^ 8 = xor_lt 8 hi b hhi hb in
    let whole : bit_xor r (b * 2 ^ 24) ≡ bit_xor (i * 2 ^ 24) lo =
    (ap₂ bit_xor (sym (split r 24)) (sym (add-zero (b * 2 ^ 24))) ∙ xor_block 24 hi b lo 0 hlo (pow_pos 24)
    ∙ ap (λ (n : ℕ). i * 2 ^ 24 + n) (xor_zero_r lo) ∙ sym (xor_shifted i 24 lo hlo)) in
    let out : lo * 2 ^ 8 ≡ r * 2 ^ 8 % 2 ^ 32 = omega arith in
    ap (bits 8) whole ∙ bits_xor 8 (i * 2 ^ 24) lo (omega arith) (omega arith)
    ∙ xor_comm (bits 8 (i * 2 ^ 24)) (bits 8 lo)
    ∙ ap (λ (n : ℕ). bit_xor n (bits 8 (i * 2 ^ 24))) (low 8 lo (omega arith) ∙ out)

-- a step of a byte leaves 32 bits, whatever went in
pub byte_lt : (r b : ℕ) → byte r b < 2 ^ 32
unfolding byte bits
byte_lt r b = bit_lt (bits 7 (bit_xor r (b * 2 ^ 24)))
