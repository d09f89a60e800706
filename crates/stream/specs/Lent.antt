-- The memory that is lent to a feeding: a carry buffer and four lists (RULES.md, 1, refusal 1). Assumes nothing.
use Rattle.std.specs.Prelude.{ℕ, Bool, ◌||◌, List, ltb, length}
use denote.Ref.{MutBor}
use denote.Triple.Both.{Both}
use Rattle.octets.specs.Octets.{Bytes}
use Rattle.limits.specs.Limits.{packet_max, list_max}

-- the carry buffer, and the lists of end stamps, lengths, kept counts and frames
pub record Lent : Type 0 where
  pub carry : Bytes
  pub ends : List ℕ
  pub lengths : List ℕ
  pub kept : List ℕ
  pub frames : List ℕ

abbrev pub lent_of : Bytes → List ℕ → List ℕ → List ℕ → List ℕ → Lent
lent_of carry ends lengths kept frames =
    record { carry = carry; ends = ends; lengths = lengths; kept = kept; frames = frames }

-- the same lists with another carry buffer
abbrev pub with_carry : Lent → Bytes → Lent
with_carry m carry = lent_of carry m.ends m.lengths m.kept m.frames

-- ---- in the contract of a function

-- a slice that a function is lent, at entry and at exit
abbrev pub Slice : Type 0
Slice = Both (MutBor (List ℕ)) (MutBor (List ℕ))

abbrev pub at_entry : Slice → Slice → Slice → Slice → Slice → Lent
at_entry carry ends lengths kept frames =
    lent_of carry.entry.now ends.entry.now lengths.entry.now kept.entry.now frames.entry.now

abbrev pub at_exit : Slice → Slice → Slice → Slice → Slice → Lent
at_exit carry ends lengths kept frames =
    lent_of carry.exit.now ends.exit.now lengths.exit.now kept.exit.now frames.exit.now

-- ---- 1, by the lengths of what is lent

abbrev pub short_carry : ℕ → Bool
short_carry carry = ltb carry packet_max

abbrev pub short_lists : ℕ → ℕ → ℕ → ℕ → Bool
short_lists ends lengths kept frames =
    ltb ends list_max || (ltb lengths list_max || (ltb kept list_max || ltb frames list_max))

abbrev pub short_by : ℕ → ℕ → ℕ → ℕ → ℕ → Bool
short_by carry ends lengths kept frames = short_carry carry || short_lists ends lengths kept frames

-- 1
unfoldable pub is_short : Lent → Bool
is_short m =
    short_by (length m.carry) (length m.ends) (length m.lengths) (length m.kept) (length m.frames)
