-- When the texts of a comment header are right (RFC 7845, 5.2; RULES.md, refusals 14 and 23). The reader and the writer
-- share this. Assumes nothing.
use Rattle.std.specs.Prelude.{Bool, ◌&&◌}
use Rattle.octets.specs.Octets.{Bytes}
use Rattle.utf8.specs.Characters.{utf8}
use Rattle.tags_rules.specs.Right.{right_comments}
use Rattle.tags_layout.specs.Layout.{Tags, is_laid_out, tags_of}

unfoldable pub right_tags : Tags → Bool
right_tags t = utf8 t.vendor && right_comments t.comments

-- the bytes are a comment header
unfoldable pub is_tags : Bytes → Bool
is_tags b = is_laid_out b && right_tags (tags_of b)
