-- Reading a comment header and asking for its parts (RULES.md, refusals 14, 20 and 21). The packet is checked first,
-- whatever is asked for. Assumes nothing.
use Rattle.std.specs.Prelude.{ℕ, not, List, [], ◌∷◌, ◌++◌, leb, ℤ, length}
use Rattle.octets.specs.Octets.{Bytes}
use Rattle.refusal.specs.declared.Refusal.TheVariants.{BadTags, NoSuchPart}
use Rattle.refusal.specs.Checks.{Check, ◌when◌, first_of}
use Rattle.refusal.specs.Told.{Told, gives, refuses, decided}
use Rattle.tags_comment.specs.Names.{value_of}
use Rattle.tags_comment.specs.Gain.{gain_of, gain_checks}
use Rattle.tags_layout.specs.declared.Part.{Part}
use Rattle.tags_layout.specs.Layout.{Tags, part_at, bytes_of, vendor_part, count_of, comment_place, tags_of}
use Rattle.tags_reader.specs.Right.{is_tags}

abbrev pub read_checks : Bytes → List Check
read_checks b = BadTags when not (is_tags b) ∷ []

unfoldable pub read_tags : Bytes → Told Tags
read_tags b = decided (first_of (read_checks b)) (tags_of b)

-- how many comments the packet has
abbrev pub comment_count : Tags → ℕ
comment_count t = length t.comments

-- ---- where the vendor and comment i lie

unfoldable pub find_vendor : Bytes → Told Part
find_vendor b = decided (first_of (read_checks b)) (vendor_part b)

abbrev pub find_checks : Bytes → ℕ → List Check
find_checks b i = read_checks b ++ (NoSuchPart when leb (count_of b) i ∷ [])

abbrev pub comment_part : Bytes → ℕ → Part
comment_part b i = part_at b (comment_place b i)

unfoldable pub find_comment : Bytes → ℕ → Told Part
find_comment b i = decided (first_of (find_checks b i)) (comment_part b i)

-- the part of the packet that was found; under a refusal it is empty
abbrev pub part_in : Bytes → Told Part → Bytes
part_in b (gives p) = bytes_of b p
part_in b (refuses n) = []

-- ---- the gain in comment i

abbrev pub comment_of : Bytes → ℕ → Bytes
comment_of b i = bytes_of b (comment_part b i)

unfoldable pub read_gain : Bytes → ℕ → Told ℤ
read_gain b i = decided (first_of (find_checks b i ++ gain_checks (comment_of b i))) (gain_of (value_of (comment_of b i)))
