-- What becomes of each decoded sample (RULES.md, 8; RFC 7845, 4.1 to 4.4). Assumes nothing.
use Rattle.std.specs.Prelude.{ℕ, zero, suc, ◌+◌, Bool, true, false, not, ◌&&◌, ltb}

abbrev pub one : Bool → ℕ
one true = 1
one false = 0

-- how many numbers below n pass the test
unfoldable pub tally : (ℕ → Bool) → ℕ → ℕ
tally test zero = 0
tally test (suc n) = tally test n + one (test n)

-- Sample j, counted from 0, of what begins after position `at`, on a page with the granule g, `skip` samples being still to
-- skip before it. Its own position is at + j + 1. It is trimmed if that is above the granule of a page marked last; else
-- skipped, if fewer than the samples to skip precede it; else kept.
abbrev pub is_trimmed : Bool → ℕ → ℕ → ℕ → Bool
is_trimmed last g at j = last && ltb g (at + suc j)

abbrev pub is_skipped : ℕ → Bool → ℕ → ℕ → ℕ → Bool
is_skipped skip last g at j = not (is_trimmed last g at j) && ltb j skip

abbrev pub is_kept : ℕ → Bool → ℕ → ℕ → ℕ → Bool
is_kept skip last g at j = not (is_trimmed last g at j) && not (ltb j skip)

-- how many of the first d samples are trimmed, skipped and kept; `skip` less d are to skip after them
unfoldable pub trimmed_of : Bool → ℕ → ℕ → ℕ → ℕ
trimmed_of last g at d = tally (is_trimmed last g at) d

unfoldable pub skipped_of : ℕ → Bool → ℕ → ℕ → ℕ → ℕ
skipped_of skip last g at d = tally (is_skipped skip last g at) d

unfoldable pub kept_of : ℕ → Bool → ℕ → ℕ → ℕ → ℕ
kept_of skip last g at d = tally (is_kept skip last g at) d
