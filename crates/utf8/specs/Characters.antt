-- UTF-8 by RFC 3629, 3 (RULES.md, 5): the length of a character is read from its lead byte's leading ones; shortest forms, no
-- surrogates, none above 10FFFF. Assumes nothing.
use Rattle.std.specs.Prelude.{ℕ, zero, suc, ◌+◌, ◌-◌, ◌*◌, ◌%◌, ◌^◌, ◌≤◌, ◌≡◌, Bool, true, false, not, ◌&&◌, [], ◌∷◌, leb, ltb, eqb, length, get_or, drop}
use Rattle.std.specs.Int.Count.{count_leading_zeros}
use Rattle.octets.specs.Pick.{pick}
use Rattle.octets.specs.Octets.{Bytes}
use Rattle.utf8.specs.declared.Character.{Character}

-- how many ones a byte begins with
abbrev pub leading_ones : ℕ → ℕ
leading_ones b = count_leading_zeros 8 (255 - b)

-- how many bytes a character has, by the leading ones of its lead byte; 0 where no character begins so
abbrev pub length_by : ℕ → ℕ
length_by ones = pick (eqb ones 0) 1 (pick (eqb ones 2) 2 (pick (eqb ones 3) 3 (pick (eqb ones 4) 4 0)))

unfoldable pub character_length : ℕ → ℕ
character_length b = length_by (leading_ones b)

-- that length as the code tells it, and as it takes it where a character begins
pub record LengthTold (lead r : ℕ) : Type 0 where
  pub same : r ≡ character_length lead
  pub most : r ≤ 4

pub record LengthTaken (lead n : ℕ) : Type 0 where
  pub same : n ≡ character_length lead
  pub some : 1 ≤ n

-- the bits of the character's number in its lead byte: those after the leading ones and a zero
unfoldable pub lead_bits : ℕ → ℕ
lead_bits b = b % 2 ^ (7 - leading_ones b)

-- n bytes follow that begin with a one and a zero
unfoldable pub tails_follow : ℕ → Bytes → Bool
tails_follow zero s = true
tails_follow (suc n) [] = false
tails_follow (suc n) (b ∷ s) = (leb 0x80 b && leb b 0xBF) && tails_follow n s

-- the character's number: x, and six bits more from each of the n bytes that follow
unfoldable pub number_with : ℕ → ℕ → Bytes → ℕ
number_with x zero s = x
number_with x (suc n) [] = x
number_with x (suc n) (b ∷ s) = number_with (x * 64 + b % 64) n s

-- the least number that needs n bytes, since only shortest forms are right
abbrev pub least_of : ℕ → ℕ
least_of n = pick (eqb n 2) 0x80 (pick (eqb n 3) 0x800 (pick (eqb n 4) 0x10000 0))

abbrev pub is_surrogate : ℕ → Bool
is_surrogate x = leb 0xD800 x && leb x 0xDFFF

unfoldable pub right_number : ℕ → ℕ → Bool
right_number n x = leb (least_of n) x && (leb x 0x10FFFF && not (is_surrogate x))

-- the number of the character that begins with the byte b and goes on in s
abbrev pub number_of : ℕ → Bytes → ℕ
number_of b s = number_with (lead_bits b) (character_length b - 1) s

-- that character is right
unfoldable pub right_character : ℕ → Bytes → Bool
right_character b s =
    leb 1 (character_length b) && (tails_follow (character_length b - 1) s && right_number (character_length b) (number_of b s))

-- the length of the right character at a place, 0 where there is none
abbrev pub length_at : Bytes → ℕ → ℕ
length_at s at = pick (right_character (get_or s at 0) (drop (at + 1) s)) (character_length (get_or s at 0)) 0

-- the right character that begins with the byte b and goes on in s; where it is not right, its size is 0, and its number too
abbrev pub no_character : Character
no_character = record { size = 0; number = 0 }

unfoldable pub character_of : ℕ → Bytes → Character
character_of b s = pick (right_character b s) (record { size = character_length b; number = number_of b s }) no_character

-- the character at a place
unfoldable pub character_at : Bytes → ℕ → Character
character_at s at = pick (ltb at (length s)) (character_of (get_or s at 0) (drop (at + 1) s)) no_character

-- right characters follow each other to the end, after k bytes of one that was judged with its lead byte
unfoldable pub utf8_from : ℕ → Bytes → Bool
utf8_from k [] = true
utf8_from (suc k) (b ∷ s) = utf8_from k s
utf8_from zero (b ∷ s) = right_character b s && utf8_from (character_length b - 1) s

-- the bytes are UTF-8
unfoldable pub utf8 : Bytes → Bool
utf8 s = utf8_from 0 s
