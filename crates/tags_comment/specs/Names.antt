-- One comment: its name and its value (RFC 7845, 5.2; RULES.md, 5). The name is what precedes the first "="; a comment without
-- one has no name. Assumes nothing.
use Rattle.std.specs.Prelude.{ℕ, suc, ◌-◌, Bool, true, false, not, ◌&&◌, ◌||◌, [], ◌∷◌, leb, ltb, eqb, length, take, drop}
use Rattle.octets.specs.Pick.{pick}
use Rattle.octets.specs.Octets.{Bytes}
use Rattle.utf8.specs.Characters.{utf8}

-- "="
abbrev pub equals : ℕ
equals = 0x3d

-- the place of the first "=", or the comment's length
unfoldable pub equals_place : Bytes → ℕ
equals_place [] = 0
equals_place (b ∷ c) = pick (eqb b equals) 0 (suc (equals_place c))

abbrev pub has_name : Bytes → Bool
has_name c = ltb (equals_place c) (length c)

abbrev pub name_of : Bytes → Bytes
name_of c = take (equals_place c) c

abbrev pub value_of : Bytes → Bytes
value_of c = drop (suc (equals_place c)) c

-- each byte lies in low to high
unfoldable pub all_within : ℕ → ℕ → Bytes → Bool
all_within low high [] = true
all_within low high (b ∷ s) = (leb low b && leb b high) && all_within low high s

-- the bytes of a name lie in 0x20 to 0x7D
abbrev pub right_name : Bytes → Bool
right_name n = all_within 0x20 0x7d n

-- a comment that a packet may hold
unfoldable pub right_comment : Bytes → Bool
right_comment c = utf8 c && (not (has_name c) || right_name (name_of c))

-- ---- names compared without regard to ASCII case

abbrev pub upper : ℕ → ℕ
upper b = pick (leb 0x61 b && leb b 0x7a) (b - 32) b

unfoldable pub same_name : Bytes → Bytes → Bool
same_name [] [] = true
same_name [] (b ∷ m) = false
same_name (a ∷ n) [] = false
same_name (a ∷ n) (b ∷ m) = eqb (upper a) (upper b) && same_name n m

-- the comment's name is n
unfoldable pub is_named : Bytes → Bytes → Bool
is_named n c = has_name c && same_name n (name_of c)
