-- Building the index of a stream in a buffer into a list of records (RULES.md, 15). Assumes nothing.
use Rattle.std.specs.Prelude.{ℕ, ◌≡◌, ◌++◌, ltb, length, drop}
use Rattle.octets.specs.Pick.{pick}
use Rattle.octets.specs.Octets.{Bytes}
use Rattle.refusal.specs.declared.Refusal.TheVariants.{ShortOutput}
use Rattle.refusal.specs.Numbers.{number_of}
use Rattle.refusal.specs.Told.{Told, gives, refuses}
use Rattle.stream.specs.Readings.{Readings}
use Rattle.recording.specs.Pages.{pages_of}
use Rattle.recording.specs.Judging.{Judgement, whole, refused, judge_buffer}
use Rattle.index_search.specs.Index.{Index}
use Rattle.index_walk.specs.Records.{index_of}

-- n records: how many they are, or 22 where they do not fit a list of `room` records
abbrev pub fitting : ℕ → ℕ → Told ℕ
fitting n room = pick (ltb room n) (refuses (number_of ShortOutput)) (gives n)

-- the number that refuses the stream; else how many records it has, where they fit
abbrev pub built_by : Judgement → Index → ℕ → Told ℕ
built_by (refused n page) ix room = refuses n
built_by (whole pages packets) ix room = fitting (length ix) room

unfoldable pub build : Readings → Bytes → ℕ → Told ℕ
build R b room = built_by (judge_buffer R b) (index_of (pages_of b)) room

-- the list at the end: the records in its first places, or all as it was
abbrev pub stored_by : Told ℕ → Index → Index → Index
stored_by (gives n) ix old = ix ++ drop n old
stored_by (refuses n) ix old = old

-- the contract of building: b is the stream, t is told, and the list goes from `old` to `new`
pub record Builds (R : Readings) (b : Bytes) (t : Told ℕ) (old new : Index) : Type 0 where
  pub told : t ≡ build R b (length old)
  pub records : new ≡ stored_by (build R b (length old)) (index_of (pages_of b)) old
