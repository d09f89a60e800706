-- The old clock (RULES.md, 10, refusal 30): one record holds an f32 reading and the exact count of samples. Each packet adds
-- its length to both. Assumes nothing.
use Rattle.refusal.specs.declared.Refusal.{Refusal}
use Rattle.std.specs.Prelude.{Result, Ok, Err, ℕ, ◌+◌, ◌-◌, ◌%◌, ◌^◌, Bool, true, false, not, ◌&&◌, List, [], ◌∷◌, ltb, leb, eqb, pos}
use Rattle.std.specs.Float.{fin, binary32}
use Rattle.std.specs.Float.Ieee.{add, of_int}
use Rattle.refusal.specs.declared.Refusal.TheVariants.{ClockRange}
use Rattle.refusal.specs.Checks.{Check, ◌when◌, first_of}
use Rattle.refusal.specs.Told.{Told, gives, refuses, decided}
use Rattle.refusal.specs.Numbers.{number_of}
use Rattle.old_clock.specs.declared.Clock.{Clock}

-- both from 0
abbrev pub start_clock : Clock
start_clock = record { reading = fin false 0 (pos 0); count = 0 }

-- a length in samples that a packet can have: a multiple of 120 from 120 to 5,760
unfoldable pub right_length : ℕ → Bool
right_length n = leb 120 n && (leb n 5760 && eqb (n % 120) 0)

unfoldable pub right_lengths : List ℕ → Bool
right_lengths [] = true
right_lengths (n ∷ ns) = right_length n && right_lengths ns

-- the largest exact count
abbrev pub most_count : ℕ
most_count = 2 ^ 63 - 1

abbrev pub add_checks : Clock → ℕ → List Check
add_checks c n = ClockRange when not (right_length n) ∷ ClockRange when ltb most_count (c.count + n) ∷ []

-- the f32 addition rounds once, to the nearest, at a tie to the even one
abbrev pub advanced : Clock → ℕ → Clock
advanced c n = record { reading = add binary32 c.reading (of_int binary32 (pos n)); count = c.count + n }

unfoldable pub add_samples : Clock → ℕ → Told Clock
add_samples c n = decided (first_of (add_checks c n)) (advanced c n)

-- ---- one packet after another

-- the record after an addition: under a refusal it stays
abbrev pub record_after : Clock → Told Clock → Clock
record_after c (gives d) = d
record_after c (refuses n) = c

-- the record after packets of these lengths
unfoldable pub after : Clock → List ℕ → Clock
after c [] = c
after c (n ∷ ns) = after (record_after c (add_samples c n)) ns
