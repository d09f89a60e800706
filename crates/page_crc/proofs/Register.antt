-- The register over bytes: more of them, how wide it is, and what is xored into it. Assumes nothing.
use mathlib.Core.Path.{◌≡◌, refl, sym, ap, ◌∙◌}
use mathlib.Core.List.{[], ◌∷◌}
use Prim.Native.Nat.{ℕ, suc, ◌*◌, ◌^◌, ◌<◌}
use native.Mathlib.Omega.{arith}
use lib.Dec.{lit<}
use lib.Bits.{bit_xor, xor_comm, xor_lt}
use lib.ListN.{length}
use Rattle.octets.specs.Octets.{Bytes, Octets}
use Rattle.octets.proofs.Parts.{octets-tail}
use Rattle.page_crc_tables.specs.Register.{bits, byte}
use Rattle.page_crc_tables.proofs.Xor.{xor_assoc}
use Rattle.page_crc_tables.proofs.Linear.{bits_xor, bits_lt, bits-add, byte_lt}
use Rattle.page_crc.specs.Crc.{crc}
use Rattle.page_crc.specs.Statements.{CrcAppend, CrcFits}

-- a byte and then n bytes
pub bits-byte : (n r : ℕ) → bits (8 * n) (bits 8 r) ≡ bits (8 * suc n) r
bits-byte n r = sym (bits-add 8 (8 * n) r) ∙ ap (λ (k : ℕ). bits k r) (omega arith)

pub crc-append : CrcAppend
unfolding crc
crc-append r [] t = refl
crc-append r (b ∷ s) t = crc-append (byte r b) s t

pub crc_lt : (s : Bytes) (r : ℕ) → r < 2 ^ 32 → crc r s < 2 ^ 32
unfolding crc
crc_lt [] r h = h
crc_lt (b ∷ s) r h = crc_lt s (byte r b) (byte_lt r b)

pub crc-fits : CrcFits
crc-fits s = crc_lt s 0 (lit< tt)

-- what is xored into the register is moved by a byte as if the byte were zero
byte_xor : (u v b : ℕ) → u < 2 ^ 32 → v < 2 ^ 32 → b < 256 → byte (bit_xor u v) b ≡ bit_xor (byte u b) (bits 8 v)
unfolding byte
byte_xor u v b hu hv hb =
    ap (bits 8)
    (xor_assoc u v (b * 2 ^ 24) ∙ ap (bit_xor u) (xor_comm v (b * 2 ^ 24)) ∙ sym (xor_assoc u (b * 2 ^ 24) v))
    ∙ bits_xor 8 (bit_xor u (b * 2 ^ 24)) v (xor_lt 32 u (b * 2 ^ 24) hu (omega arith)) hv

-- and by many bytes
pub crc_xor : (s : Bytes) → Octets s → (u v : ℕ) → u < 2 ^ 32 → v < 2 ^ 32
    → crc (bit_xor u v) s ≡ bit_xor (crc u s) (bits (8 * length s) v)
unfolding crc bits
crc_xor [] h u v hu hv = refl
crc_xor (b ∷ s) h u v hu hv =
    ap (λ (r : ℕ). crc r s) (byte_xor u v b hu hv (h.below 0))
    ∙ crc_xor s (octets-tail h) (byte u b) (bits 8 v) (byte_lt u b) (bits_lt 8 v hv)
    ∙ ap (bit_xor (crc (byte u b) s)) (bits-byte (length s) v)
