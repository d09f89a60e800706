-- What is proved of identification headers, in addition to the contracts. Assumes nothing.
use Rattle.std.specs.Prelude.{◌≡◌, true, ◌++◌, length, get_or}
use Rattle.octets.specs.Octets.{Bytes, Octets}
use Rattle.refusal.specs.Told.{gives}
use Rattle.head_fields.specs.declared.Head.{Head}
use Rattle.head_fields.specs.Right.{may_extend, right_head}
use Rattle.head_fields.specs.Layout.{version_place}
use Rattle.head_reader.specs.Reading.{length_of, read_head}

-- a record that was read is one that opening part way takes
abbrev pub ReadIsRight : Type 0
ReadIsRight = (b : Bytes) (h : Head) → Octets b → read_head b ≡ gives h → right_head h ≡ true

-- bytes that may follow the fields reach none of them: two headers that differ only there read alike
abbrev pub ExtraIgnored : Type 0
ExtraIgnored =
    (b x y : Bytes) → may_extend (get_or b version_place 0) ≡ true → length b ≡ length_of b → read_head (b ++ x) ≡ read_head (b ++ y)
