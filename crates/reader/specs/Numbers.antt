-- A reader in sixteen numbers (RULES.md, 14): what opening part way and feeding answer, and the numbers at the end. Assumes
-- nothing.
use Rattle.stream.specs.declared.Counts.{Counts}
use Rattle.std.specs.Prelude.{⊤, Result, Ok, Err, ℕ, ◌≡◌, List}
use Rattle.refusal.specs.declared.Refusal.{Refusal}
use Rattle.octets.specs.Octets.{Bytes}
use Rattle.refusal.specs.Numbers.{number_of}
use Rattle.refusal.specs.Told.{Told, gives, refuses}
use Rattle.stream.specs.declared.Counts.{Counts}
use Rattle.stream.specs.Lent.{Lent}
use Rattle.stream.specs.Readings.{Readings}
use Rattle.stream.specs.Feed.{Reader, Taken, Fed, FedIs, feed}
use Rattle.feed_numbers.specs.Numbers.{numbers_of, reader_from}

-- ---- opening part way

-- the numbers at the end: those of the reader, or what they were
abbrev pub numbers_opened : Told Reader → List ℕ → List ℕ
numbers_opened (gives r) old = numbers_of r
numbers_opened (refuses n) old = old

-- what the answer tells, the numbers being `new` at the end
abbrev pub told_opened_in : Result ⊤ Refusal → List ℕ → Told Reader
told_opened_in (Ok _) new = gives (reader_from new)
told_opened_in (Err why) new = refuses (number_of why)

-- the answer r, and the numbers from `old` to `new`: they represent the reader that was opened
pub record StateOpenedIs (f : Told Reader) (r : Result ⊤ Refusal) (old new : List ℕ) : Type 0 where
  pub told : told_opened_in r new ≡ f
  pub numbers : new ≡ numbers_opened f old

-- ---- feeding

-- what the answer tells, the numbers being `new` at the end
abbrev pub told_in : Result Counts Refusal → List ℕ → Told Taken
told_in (Ok counts) new = gives (record { reader = reader_from new; counts = counts })
told_in (Err why) new = refuses (number_of why)

-- the numbers at the end: those of the next reader, or what they were
abbrev pub numbers_after : Told Taken → List ℕ → List ℕ
numbers_after (gives t) old = numbers_of t.reader
numbers_after (refuses n) old = old

-- the answer r, the numbers from `old` to `new`, and the lent memory at the end are those of f; the numbers represent the
-- next reader
pub record StateFedIs (f : Fed) (r : Result Counts Refusal) (old new : List ℕ) (after : Lent) : Type 0 where
  pub fed : FedIs f (told_in r new) after
  pub numbers : new ≡ numbers_after f.told old

-- the contract of feeding a reader that is sixteen numbers
abbrev pub StateFeeds : Readings → List ℕ → Bytes → Lent → Result Counts Refusal → List ℕ → Lent → Type 0
StateFeeds R old page before r new after = StateFedIs (feed R (reader_from old) before page) r old new after
