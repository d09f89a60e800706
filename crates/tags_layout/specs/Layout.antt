-- The layout of a comment header (RFC 7845, 5.2; RULES.md, 5): "OpusTags", the vendor after its length, the number of comments,
-- then each comment after its length, and trailing bytes that nobody looks at. Lengths and the number are of 4 bytes. Places
-- are counted from the start of the packet; what passes its end is read as far as it goes. Assumes nothing.
use Rattle.std.specs.Prelude.{ℕ, zero, suc, ◌+◌, Bool, true, ◌&&◌, List, [], ◌∷◌, leb, length, take, drop}
use Rattle.octets.specs.Octets.{Bytes, begins}
use Rattle.octets.specs.Numbers.{number}
use Rattle.tags_layout.specs.declared.Part.{Part}

-- "OpusTags"
abbrev pub signature : Bytes
signature = 0x4f ∷ 0x70 ∷ 0x75 ∷ 0x73 ∷ 0x54 ∷ 0x61 ∷ 0x67 ∷ 0x73 ∷ []

-- how long a packet with an empty vendor and no comment is
abbrev pub empty_size : ℕ
empty_size = 16

-- ---- one text after its length

-- where the text lies whose length is at this place
abbrev pub part_at : Bytes → ℕ → Part
part_at b at = record { start = at + 4; size = number 4 b at }

-- the place after it
abbrev pub next_place : Bytes → ℕ → ℕ
next_place b at = at + 4 + number 4 b at

-- its length and all of its bytes are there
unfoldable pub fits_at : Bytes → ℕ → Bool
fits_at b at = leb (at + 4) (length b) && leb (next_place b at) (length b)

-- the bytes of a part
abbrev pub bytes_of : Bytes → Part → Bytes
bytes_of b p = take p.size (drop p.start b)

-- ---- n texts, the first one's length at this place

unfoldable pub all_fit : Bytes → ℕ → ℕ → Bool
all_fit b zero at = true
all_fit b (suc n) at = fits_at b at && all_fit b n (next_place b at)

unfoldable pub texts_from : Bytes → ℕ → ℕ → List Bytes
texts_from b zero at = []
texts_from b (suc n) at = bytes_of b (part_at b at) ∷ texts_from b n (next_place b at)

-- the place after them
unfoldable pub place_after : Bytes → ℕ → ℕ → ℕ
place_after b zero at = at
place_after b (suc n) at = place_after b n (next_place b at)

-- ---- the packet

-- the place of the vendor's length, and that of its first byte
abbrev pub vendor_place : ℕ
vendor_place = 8

abbrev pub vendor_start : ℕ
vendor_start = 12

abbrev pub vendor_part : Bytes → Part
vendor_part b = part_at b vendor_place

-- the place of the number of comments
abbrev pub count_place : Bytes → ℕ
count_place b = next_place b vendor_place

abbrev pub count_of : Bytes → ℕ
count_of b = number 4 b (count_place b)

-- the place of the length of the first comment
abbrev pub first_place : Bytes → ℕ
first_place b = count_place b + 4

-- the place of the length of comment i
abbrev pub comment_place : Bytes → ℕ → ℕ
comment_place b i = place_after b i (first_place b)

-- nothing passes the end
unfoldable pub is_laid_out : Bytes → Bool
is_laid_out b =
    begins signature b
    && (fits_at b vendor_place && (leb (first_place b) (length b) && all_fit b (count_of b) (first_place b)))

-- the value of a packet
pub record Tags : Type 0 where
  pub vendor : Bytes
  pub comments : List Bytes
  pub trailing : Bytes

unfoldable pub tags_of : Bytes → Tags
tags_of b = record {
  vendor = bytes_of b (vendor_part b);
  comments = texts_from b (count_of b) (first_place b);
  trailing = drop (comment_place b (count_of b)) b;
}
