-- What is proved of written comment headers, in addition to the contracts. Assumes nothing.
use Rattle.std.specs.Prelude.{ℕ, ◌-◌, ◌≤◌, ◌≡◌, List, [], ◌∷◌, ◌++◌, map, length, take}
use Rattle.octets.specs.Octets.{Bytes, Octets, copied}
use Rattle.limits.specs.Limits.{packet_max}
use Rattle.refusal.specs.Told.{gives}
use Rattle.tags_layout.specs.Layout.{Tags}
use Rattle.tags_reader.specs.Reading.{read_tags}
use Rattle.tags_writer.specs.Writing.{given, write_told, write_out}

-- reading what was written gives the same vendor and comments, and no trailing bytes
abbrev pub ReadsBack : Type 0
ReadsBack =
    (vendor text : Bytes) (ns : List ℕ) (out : Bytes) (n : ℕ) → write_told vendor text ns out ≡ gives n
    → read_tags (take n (write_out vendor text ns out)) ≡ gives (given vendor text ns)

-- the comments one after the other, as the writer takes them with the list of their lengths
unfoldable pub joined : List Bytes → Bytes
joined [] = []
joined (c ∷ cs) = c ++ joined cs

-- the vendor and the comments of t, written to the start of `out`, are the first n bytes of b
pub record WroteBytes (b : Bytes) (n : ℕ) (t : Tags) (out : Bytes) : Type 0 where
  pub told : write_told t.vendor (joined t.comments) (map length t.comments) out ≡ gives n
  pub output : write_out t.vendor (joined t.comments) (map length t.comments) out ≡ copied out 0 (take n b)

-- how many bytes of the packet b, which was read as t, come before the trailing ones
abbrev pub size_before : Bytes → Tags → ℕ
size_before b t = length b - length t.trailing

-- writing what was read gives the same bytes up to the trailing ones, where those are no more than a packet may have
abbrev pub WritesBack : Type 0
WritesBack =
    (b out : Bytes) (t : Tags) → Octets b → read_tags b ≡ gives t → size_before b t ≤ packet_max → size_before b t ≤ length out
    → WroteBytes b (size_before b t) t out
