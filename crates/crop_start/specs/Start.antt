-- The page at which a crop begins, found by a position (RULES.md, 17): the last at which one may begin and whose first packet
-- starts at or before the position. Assumes nothing.
use Rattle.std.specs.Prelude.{ℕ, zero, suc, ◌-◌, Bool, ◌&&◌, List, [], ◌∷◌, leb, drop}
use Rattle.std.proofs.Math.Option.{Option, none, some}
use Rattle.octets.specs.Pick.{pick}
use Rattle.octets.specs.Octets.{Bytes}
use Rattle.refusal.specs.declared.Refusal.TheVariants.{NoCropStart}
use Rattle.refusal.specs.Numbers.{number_of}
use Rattle.refusal.specs.Told.{Told, gives, refuses}
use Rattle.stream.specs.Readings.{Readings}
use Rattle.stream.specs.Feed.{Entry}
use Rattle.stream.specs.Stream.{Listing, listings}
use Rattle.recording.specs.Pages.{pages_of}
use Rattle.recording.specs.Judging.{Judgement, whole, refused, judge_buffer}
use Rattle.crop_rules.specs.Crop.{is_start}

-- ---- where a page starts

-- where the first of these packets does: its end less its length
abbrev pub first_start : List Entry → ℕ
first_start [] = 0
first_start (e ∷ es) = e.end - e.samples

-- on the first of these pages
abbrev pub start_in : List Listing → ℕ
start_in [] = 0
start_in (l ∷ ls) = first_start l.entries

-- on page k of a stream
unfoldable pub start_of : Readings → List Bytes → ℕ → ℕ
start_of R S k = start_in (drop k (listings R S))

-- ---- the page that is found

-- a crop may begin at page k, and its first packet starts at or before the position
abbrev pub starts_by : Readings → List Bytes → ℕ → ℕ → Bool
starts_by R S position k = is_start S k && leb (start_of R S k) position

-- the last page before page n of which a test holds
unfoldable pub last_before : (ℕ → Bool) → ℕ → Option ℕ
last_before test zero = none
last_before test (suc n) = pick (test n) (some n) (last_before test n)

-- a page, and where it starts
pub record Start : Type 0 where
  pub page : ℕ
  pub position : ℕ

abbrev pub start_at : Readings → List Bytes → Option ℕ → Option Start
start_at R S none = none
start_at R S (some k) = some (record { page = k; position = start_of R S k })

-- of the pages before page n
unfoldable pub best_start : Readings → List Bytes → ℕ → ℕ → Option Start
best_start R S position n = start_at R S (last_before (starts_by R S position) n)

-- ---- what is told

-- 29 where there is none
abbrev pub told_best : Option Start → Told Start
told_best none = refuses (number_of NoCropStart)
told_best (some s) = gives s

abbrev pub start_by : Judgement → Readings → List Bytes → ℕ → ℕ → Told Start
start_by (refused x page) R S last position = refuses x
start_by (whole pages packets) R S last position = told_best (best_start R S position (suc last))

-- the number that refuses the stream; else the best start, of the pages up to page `last`
unfoldable pub start_found : Readings → Bytes → ℕ → ℕ → Told Start
start_found R b last position = start_by (judge_buffer R b) R (pages_of b) last position
