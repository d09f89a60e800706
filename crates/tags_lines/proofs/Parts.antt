-- The parts of each line, laid one after the other. Assumes nothing.
use mathlib.Core.Path.{◌≡◌, ap, ◌∙◌}
use mathlib.Core.Bool.{true, false}
use mathlib.Core.List.{◌++◌}
use Prim.Native.Nat.{ℕ, ◌+◌}
use lib.ListN.{length, length-append}
use Rattle.octets.specs.Octets.{Bytes}
use Rattle.text_put.specs.Marks.{line_feed}
use Rattle.text_escape.specs.Escape.{escaped}
use Rattle.tags_comment.specs.Gain.{comment_gain}
use Rattle.tags_lines.specs.Lines.{is_gain, text_line, gain_end, comment_end}

-- ---- texts

pub length-text : (name text end : Bytes) → length (text_line name text end) ≡ length name + length (escaped text) + length end
unfolding text_line
length-text name text end = length-append (name ++ escaped text) end ∙ ap (λ (n : ℕ). n + length end) (length-append name (escaped text))

-- ---- the end of a comment's line

pub end-plain : (c : Bytes) → is_gain c ≡ false → comment_end c ≡ line_feed
unfolding comment_end
end-plain c e = rw e

pub end-gain : (c : Bytes) → is_gain c ≡ true → comment_end c ≡ gain_end (comment_gain c)
unfolding comment_end
end-gain c e = rw e
