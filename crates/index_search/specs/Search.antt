-- A search on plain numbers (RULES.md, 15): which place it looks at next, and what it is once it was told the granule position
-- there. The search for the first fall goes from place to place, the other by halving, and one loop serves both.
-- Assumes nothing.
use Rattle.std.specs.Prelude.{ℕ, zero, suc, ◌+◌, ◌-◌, ◌/◌, min, Bool, true, false, List, ltb, leb, get_or}
use Rattle.std.proofs.Math.Option.{Option, none, some}
use Rattle.octets.specs.Pick.{pick}
use Rattle.index_search.specs.declared.Search.{Search}
use Rattle.index_search.specs.Index.{pre_roll, Answer, found_by, unless}

abbrev pub is_going : Search → Bool
is_going s = ltb s.low s.high

-- how many places remain
abbrev pub left : Search → ℕ
left s = s.high - s.low

unfoldable pub place_of : Search → ℕ
place_of s = pick s.halves (s.low + (s.high - s.low) / 2) s.low

-- ---- a step

-- one more probe, and no more than 64 bits hold
abbrev pub one_more : ℕ → ℕ
one_more n = min (n + 1) 18446744073709551615

-- at a fall, or after the place
unfoldable pub scanned : Search → ℕ → Search
scanned s g =
    pick (ltb g s.number) (record { low = s.low; high = s.low; number = s.number; probes = s.probes; halves = false })
    (record { low = s.low + 1; high = s.high; number = g; probes = s.probes; halves = false })

-- after the place, or before it
unfoldable pub halved : Search → ℕ → Search
halved s g =
    pick (leb g s.number)
    (record { low = place_of s + 1; high = s.high; number = s.number; probes = one_more s.probes; halves = true })
    (record { low = s.low; high = place_of s; number = s.number; probes = one_more s.probes; halves = true })

unfoldable pub step_of : Search → ℕ → Search
step_of s g = pick (is_going s) (pick s.halves (halved s g) (scanned s g)) s

-- ---- all steps

-- at most n
unfoldable pub steps : ℕ → List ℕ → Search → Search
steps zero gs s = s
steps (suc n) gs s = pick (is_going s) (steps n gs (step_of s (get_or gs (place_of s) 0))) s

-- each step leaves fewer places
unfoldable pub finish : List ℕ → Search → Search
finish gs s = steps (left s) gs s

-- ---- how a search begins, and what its end says

abbrev pub scanning_of : ℕ → Search
scanning_of n = record { low = 0; high = n; number = 0; probes = 0; halves = false }

abbrev pub fall_of : Search → ℕ → Option ℕ
fall_of s n = pick (ltb s.low n) (some s.low) none

abbrev pub halving_by : ℕ → ℕ → Search
halving_by n limit = record { low = 0; high = n; number = limit; probes = 0; halves = true }

-- no place is looked at where there is a fall, or the target is below the pre-roll
unfoldable pub halving_of : Option ℕ → ℕ → ℕ → Search
halving_of (some i) n target = halving_by 0 0
halving_of none n target = pick (ltb target pre_roll) (halving_by 0 0) (halving_by n (target - pre_roll))

abbrev pub answer_of : Option ℕ → Search → Answer
answer_of fall s = unless fall (found_by s.low s.probes)
