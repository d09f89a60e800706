-- When the comments of a comment header are right (RFC 7845, 5.2 and 5.2.1; RULES.md, refusals 14 and 23). The reader and
-- the writer share this. Assumes nothing.
use Rattle.std.specs.Prelude.{ℕ, ◌+◌, Bool, true, ◌&&◌, List, [], ◌∷◌, leb}
use Rattle.octets.specs.Pick.{pick}
use Rattle.octets.specs.Octets.{Bytes}
use Rattle.tags_comment.specs.Names.{right_comment, is_named}

-- "R128_TRACK_GAIN"
abbrev pub track_gain : Bytes
track_gain =
    0x52 ∷ 0x31 ∷ 0x32 ∷ 0x38 ∷ 0x5f ∷ 0x54 ∷ 0x52 ∷ 0x41 ∷ 0x43 ∷ 0x4b ∷ 0x5f ∷ 0x47 ∷ 0x41 ∷ 0x49 ∷ 0x4e ∷ []

-- "R128_ALBUM_GAIN"
abbrev pub album_gain : Bytes
album_gain =
    0x52 ∷ 0x31 ∷ 0x32 ∷ 0x38 ∷ 0x5f ∷ 0x41 ∷ 0x4c ∷ 0x42 ∷ 0x55 ∷ 0x4d ∷ 0x5f ∷ 0x47 ∷ 0x41 ∷ 0x49 ∷ 0x4e ∷ []

unfoldable pub all_right : List Bytes → Bool
all_right [] = true
all_right (c ∷ cs) = right_comment c && all_right cs

-- how many comments have the name n
unfoldable pub occurrences : Bytes → List Bytes → ℕ
occurrences n [] = 0
occurrences n (c ∷ cs) = pick (is_named n c) 1 0 + occurrences n cs

-- each comment is right, and neither gain is there twice
unfoldable pub right_comments : List Bytes → Bool
right_comments cs = all_right cs && (leb (occurrences track_gain cs) 1 && leb (occurrences album_gain cs) 1)
