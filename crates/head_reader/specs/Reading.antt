-- Reading an identification header (RULES.md, refusals 12 and 13). 12 comes before 13, with the bytes of the family and of the
-- counts as they are. Assumes nothing.
use Rattle.std.specs.Prelude.{⊤, Result, Ok, Err, ℕ, ◌≡◌, Bool, not, ◌&&◌, List, [], ◌∷◌, leb, pos, length, get_or, replicate}
use Rattle.octets.specs.Octets.{Bytes, begins}
use Rattle.refusal.specs.declared.Refusal.{Refusal}
use Rattle.refusal.specs.declared.Refusal.TheVariants.{BadHead, BadMapping}
use Rattle.refusal.specs.Checks.{Check, ◌when◌, first_of}
use Rattle.refusal.specs.Told.{Told, gives, refuses, decided}
use Rattle.refusal.specs.Numbers.{number_of}
use Rattle.head_fields.specs.declared.Head.{Head}
use Rattle.head_reader.specs.declared.HeadRead.{HeadRead}
use Rattle.head_reader.specs.Fields.{head_of, matrix_of}
use Rattle.head_fields.specs.Right.{readable_version, right_length, right_mapping}
use Rattle.head_fields.specs.Layout.{signature, version_place, channels_place, family_place, streams_place, coupled_place}
use Rattle.head_fields.specs.Layout.{start_length, head_length, fits_packet}

-- how many bytes the fields of a header with this family, these counts and these channels take
unfoldable pub length_of : Bytes → ℕ
length_of b =
    head_length (get_or b family_place 0) (get_or b streams_place 0) (get_or b coupled_place 0) (get_or b channels_place 0)

-- signature, version and length are right
unfoldable pub is_head : Bytes → Bool
is_head b =
    begins signature b
    && (readable_version (get_or b version_place 0)
    && (leb start_length (length b)
    && (fits_packet (length_of b) && right_length (get_or b version_place 0) (length_of b) (length b))))

abbrev pub read_checks : Bytes → List Check
read_checks b = BadHead when not (is_head b) ∷ BadMapping when not (right_mapping (head_of b)) ∷ []

unfoldable pub read_head : Bytes → Told Head
read_head b = decided (first_of (read_checks b)) (head_of b)

-- the matrix of a header that is read
unfoldable pub read_matrix : Bytes → Told Bytes
read_matrix b = decided (first_of (read_checks b)) (matrix_of b)

-- the record under a refusal
abbrev pub no_head : Head
no_head = record {
  version = 0;
  channels = 0;
  preskip = 0;
  rate = 0;
  gain = pos 0;
  family = 0;
  streams = 0;
  coupled = 0;
  mapping = replicate 255 0;
}

-- what the code's answer tells
abbrev pub told_by : Result ⊤ Refusal → Head → Told Head
told_by (Ok _) h = gives h
told_by (Err r) h = refuses (number_of r)

abbrev pub head_in : Told Head → Head
head_in (gives h) = h
head_in (refuses n) = no_head

-- the code's answer where a check refuses
pub record WasRefused (why : Refusal) (r : HeadRead) : Type 0 where
  pub head : r.head ≡ no_head
  pub verdict : r.verdict ≡ Err why

pub record HeadIs (b : Bytes) (r : HeadRead) : Type 0 where
  pub told : told_by r.verdict r.head ≡ read_head b
  pub head : r.head ≡ head_in (read_head b)
