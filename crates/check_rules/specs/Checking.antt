-- Checking a stream in a buffer, the findings to two lists (RULES.md, 18): the number of the stream, then 22. Assumes nothing.
use Rattle.std.specs.Prelude.{ℕ, min, ◌≡◌, List, map, ◌++◌, ltb, length, drop}
use Rattle.octets.specs.Pick.{pick}
use Rattle.octets.specs.Octets.{Bytes}
use Rattle.refusal.specs.declared.Refusal.TheVariants.{ShortOutput}
use Rattle.refusal.specs.Numbers.{number_of}
use Rattle.refusal.specs.Told.{Told, gives, refuses, retold}
use Rattle.stream.specs.Readings.{Readings}
use Rattle.recording.specs.Pages.{pages_of}
use Rattle.recording.specs.Judging.{Judgement, whole, refused, judge_buffer}
use Rattle.check_rules.specs.Findings.{Finding, findings}

-- these findings, where lists of `room` places hold them
abbrev pub fitting : List Finding → ℕ → Told (List Finding)
fitting fs room = pick (ltb room (length fs)) (refuses (number_of ShortOutput)) (gives fs)

abbrev pub checked_by : Judgement → Readings → Bytes → ℕ → Told (List Finding)
checked_by (refused n page) R b room = refuses n
checked_by (whole pages packets) R b room = fitting (findings R (pages_of b)) room

-- the findings on the stream in the buffer b, or a refusal; the shorter list has `room` places
unfoldable pub checked : Readings → Bytes → ℕ → Told (List Finding)
checked R b room = checked_by (judge_buffer R b) R b room

-- a list at the end: a field of the findings in its first places, or all as it was
abbrev pub listed_by : (Finding → ℕ) → Told (List Finding) → List ℕ → List ℕ
listed_by field (gives fs) old = map field fs ++ drop (length fs) old
listed_by field (refuses n) old = old

-- the contract of checking b: t is told, and the lists of kinds and pages go from their entries to their exits
pub record Checks (R : Readings) (b : Bytes) (t : Told ℕ) (kinds kindsEnd pages pagesEnd : List ℕ) : Type 0 where
  pub told : t ≡ retold length (checked R b (min (length kinds) (length pages)))
  pub kind : kindsEnd ≡ listed_by (λ (f : Finding). f.kind) (checked R b (min (length kinds) (length pages))) kinds
  pub page : pagesEnd ≡ listed_by (λ (f : Finding). f.page) (checked R b (min (length kinds) (length pages))) pages
