-- What the private functions need and answer, in the code's words. Assumes nothing.
use Rattle.std.specs.Prelude.{ℕ, ◌+◌, ◌*◌, ◌≤◌, ◌≡◌, Bool, false, ◌&&◌, List, leb, eqb, length}
use Rattle.octets.specs.Octets.{Bytes, total}
use Rattle.limits.specs.Limits.{packet_max}
use Rattle.tags_layout.specs.Layout.{empty_size}
use Rattle.tags_reader.specs.Right.{right_tags}
use Rattle.tags_rules.specs.Code.{right_from}
use Rattle.tags_writer.specs.Writing.{cut_by, given, packet_of}

-- the lengths sum to the text, and the comments are right
unfoldable pub right_lengths : Bytes → List ℕ → Bool
right_lengths text ns = eqb (total ns) (length text) && right_from false false (cut_by ns text)

-- how long the packet is, where the lengths sum to the text
abbrev pub packet_size : Bytes → Bytes → List ℕ → ℕ
packet_size vendor text ns = empty_size + length vendor + length text + 4 * length ns

-- parts so small that their sum cannot wrap
pub record SmallParts (vendor text : Bytes) (ns : List ℕ) : Type 0 where
  pub vendor_small : length vendor ≤ packet_max
  pub text_small : length text ≤ packet_max
  pub count_small : length ns ≤ packet_max

-- a packet of these fields is one that the writer takes
unfoldable pub right_fields : Bytes → Bytes → List ℕ → Bool
right_fields vendor text ns =
    eqb (total ns) (length text) && (leb (length (packet_of vendor text ns)) packet_max && right_tags (given vendor text ns))

-- ---- room in an output d

-- for a text after its length at this place
pub record TextRoom (d : Bytes) (at : ℕ) (t : Bytes) : Type 0 where
  pub small : length t ≤ packet_max
  pub room : at + 4 + length t ≤ length d

-- for the comments of these lengths from this place on
pub record CommentsRoom (d : Bytes) (start : ℕ) (text : Bytes) (ns : List ℕ) : Type 0 where
  pub sum : total ns ≡ length text
  pub small : length text ≤ packet_max
  pub room : start + 4 * length ns + length text ≤ length d

-- for the packet
pub record PacketRoom (d vendor text : Bytes) (ns : List ℕ) : Type 0 where
  pub sum : total ns ≡ length text
  pub small : packet_size vendor text ns ≤ packet_max
  pub room : packet_size vendor text ns ≤ length d
