-- The lines that name the texts of a comment header (RULES.md, 13). Assumes nothing.
use Rattle.std.specs.Prelude.{ℕ, ◌≤◌, Bool, ◌||◌, [], ◌∷◌, ◌++◌, ℤ, length}
use Rattle.octets.specs.Pick.{pick}
use Rattle.octets.specs.Octets.{Bytes}
use Rattle.refusal.specs.Told.{Told, gives, refuses}
use Rattle.text_put.specs.Marks.{line_feed}
use Rattle.text_put.specs.Writing.{Laid}
use Rattle.text_escape.specs.Escape.{escaped}
use Rattle.text_gain.specs.Numbers.{decibels_end}
use Rattle.tags_comment.specs.Names.{is_named}
use Rattle.tags_comment.specs.Gain.{comment_gain}
use Rattle.tags_rules.specs.Right.{track_gain, album_gain}

-- "comment "
abbrev pub comment_is : Bytes
comment_is = 99 ∷ 111 ∷ 109 ∷ 109 ∷ 101 ∷ 110 ∷ 116 ∷ 32 ∷ []

-- a text after its name, escaped
unfoldable pub text_line : Bytes → Bytes → Bytes → Bytes
text_line name text end = name ++ escaped text ++ end

abbrev pub is_gain : Bytes → Bool
is_gain c = is_named track_gain c || is_named album_gain c

abbrev pub gain_end : Told ℤ → Bytes
gain_end (gives g) = decibels_end g
gain_end (refuses n) = line_feed

-- what ends the line of a comment: after a gain that is right, its decibels
unfoldable pub comment_end : Bytes → Bytes
comment_end c = pick (is_gain c) (gain_end (comment_gain c)) line_feed

-- how many bytes that is at most
abbrev pub end_most : ℕ
end_most = 35

-- that end, laid at the front of a buffer: the answer r, and the buffer from d at entry to `out` at exit
pub record EndLaid (d c : Bytes) (r : ℕ) (out : Bytes) : Type 0 where
  pub laid : Laid d 0 (comment_end c) r out
  pub short : length (comment_end c) ≤ end_most

-- the line of a comment
abbrev pub comment_line : Bytes → Bytes
comment_line c = text_line comment_is c (comment_end c)
