-- The lengths coded in an Opus packet, whether its frames are empty, and the rules of RFC 6716 by their names (RFC 6716, 3.2
-- and 3.4; RULES.md, 6). Assumes nothing.
use Rattle.std.specs.Prelude.{ℕ, zero, suc, ◌+◌, ◌*◌, Bool, true, ◌&&◌, List, [], ◌∷◌, ltb, eqb}
use Rattle.octets.specs.Pick.{pick}
use Rattle.octets.specs.Octets.{Bytes}

-- the rules of RFC 6716, 3.4: which one a packet breaks
pub data Rule : Type 0 where
  R1 R2 R3 R4 R5 R6 R7 : Rule

-- R2: no frame is longer than 1,275 bytes
abbrev pub frame_max : ℕ
frame_max = 1275

-- R5: no more than 120 ms
abbrev pub samples_max : ℕ
samples_max = 5760

-- what is read from the front of some bytes
pub data Read (A : Type 0) : Type 0 where
  -- too few bytes for a value
  short : Read A
  -- a value and the bytes that follow it
  value : A → Bytes → Read A

-- one coded length (RFC 6716, 3.2.1): a byte up to 251, or a larger one and four times the next
unfoldable pub coded : Bytes → Read ℕ
coded [] = short
coded (n ∷ []) = pick (ltb n 252) (value n []) short
coded (n ∷ m ∷ s) = pick (ltb n 252) (value n (m ∷ s)) (value (n + 4 * m) s)

abbrev pub with_first : ℕ → Read (List ℕ) → Read (List ℕ)
with_first n short = short
with_first n (value ns s) = value (n ∷ ns) s

abbrev pub and_later : (Bytes → Read (List ℕ)) → Read ℕ → Read (List ℕ)
and_later later short = short
and_later later (value n s) = with_first n (later s)

-- n coded lengths one after the other
unfoldable pub coded_times : ℕ → Bytes → Read (List ℕ)
coded_times zero s = value [] s
coded_times (suc n) s = and_later (coded_times n) (coded s)

-- the length of the padding (RFC 6716, 3.2.5), p being counted already: each byte of 255 counts 254 and goes on, a
-- smaller one ends it
unfoldable pub padding_from : ℕ → Bytes → Read ℕ
padding_from p [] = short
padding_from p (v ∷ s) = pick (ltb v 255) (value (p + v) s) (padding_from (p + 254) s)

-- every frame is empty, by the sizes of the frames: it has no bytes
unfoldable pub is_silent : List ℕ → Bool
is_silent [] = true
is_silent (n ∷ ns) = eqb n 0 && is_silent ns
