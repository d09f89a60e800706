-- What is proved of the old clock, in addition to the contracts (RULES.md, 10). Assumes nothing.
use Rattle.std.specs.Prelude.{ℕ, ◌+◌, ◌≤◌, ◌≡◌, true, false, List, [], ◌∷◌, replicate}
use Rattle.std.specs.Float.Ieee.Exact.{HasValue}
use Rattle.octets.specs.Octets.{total}
use Rattle.old_clock.specs.declared.Clock.{Clock}
use Rattle.old_clock.specs.Clock.{start_clock, right_lengths, most_count, after}

-- the f32 reading is the whole number n itself, with nothing rounded away
abbrev pub Reads : Clock → ℕ → Type 0
Reads c n = HasValue c.reading false n 1

-- the count is exact: the sum of the lengths
abbrev pub CountsAll : Type 0
CountsAll = (c : Clock) (lengths : List ℕ) → right_lengths lengths ≡ true → c.count + total lengths ≤ most_count
    → (after c lengths).count ≡ c.count + total lengths

-- from the start, after any lengths at all (those that are refused leave the record)
abbrev pub ReadsTrue : Type 0
ReadsTrue = (lengths : List ℕ) → (after start_clock lengths).count ≤ 134217728
    → Reads (after start_clock lengths) (after start_clock lengths).count

-- the first wrong reading: 8 too small
abbrev pub ReadsWrong : Type 0
ReadsWrong = (c : Clock) → c.count + 120 ≤ most_count → Reads c 134217840 → Reads (after c (120 ∷ [])) 134217952

-- from 2 ^ 31 on, packets of 120 samples do not change the reading
abbrev pub StandsStill : Type 0
StandsStill = (c : Clock) → Reads c 2147483648 → (packets : ℕ) → Reads (after c (replicate packets 120)) 2147483648
