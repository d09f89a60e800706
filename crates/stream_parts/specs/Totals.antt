-- The totals of a stream of which the last part was fed to another reader (RULES.md, 19): those of the reader r before that part,
-- and what the other one gained, from o to its end e. Totals are modulo 2^64. Assumes nothing.
use Rattle.std.specs.Prelude.{◌≡◌, ℕ, ◌+◌, ◌-◌, ◌%◌, ◌^◌, ◌<◌, List, set, slice_index, slice_set}
use Rattle.stream.specs.declared.Tally.{Tally}
use Rattle.stream.specs.Feed.{added}

-- what a total gained
abbrev pub gained : ℕ → ℕ → ℕ
gained o e = (e + (2 ^ 64 - o)) % 2 ^ 64

abbrev pub whole_total : ℕ → ℕ → ℕ → ℕ
whole_total r o e = added r (gained o e)

abbrev pub whole_tally : Tally → Tally → Tally → Tally
whole_tally r o e = record {
  skip = e.skip;
  kept = whole_total r.kept o.kept e.kept;
  skipped = whole_total r.skipped o.skipped e.skipped;
  trimmed = whole_total r.trimmed o.trimmed e.trimmed;
  hole = whole_total r.hole o.hole e.hole;
}

-- each total is below 2^64
pub record TotalsFit (t : Tally) : Type 0 where
  pub kept : t.kept < 2 ^ 64
  pub skipped : t.skipped < 2 ^ 64
  pub trimmed : t.trimmed < 2 ^ 64
  pub hole : t.hole < 2 ^ 64

-- ---- of readers in sixteen numbers

-- number i of the whole
abbrev pub number_after : List ℕ → List ℕ → List ℕ → ℕ → ℕ
number_after r o e i = whole_total (slice_index r i) (slice_index o i) (slice_index e i)

-- numbers 10 to 13 of e are rewritten
unfoldable pub totals_after : List ℕ → List ℕ → List ℕ → List ℕ
totals_after r o e =
    set
    (slice_set (slice_set (slice_set e 10 (number_after r o e 10)) 11 (number_after r o e 11)) 12 (number_after r o e 12))
    13 (number_after r o e 13)
