-- The kept pages found (RULES.md, 16). Assumes nothing.
use Rattle.refusal.specs.Told.{told, Told, gives, refuses, decided}
use Rattle.refusal.specs.declared.Refusal.{Refusal}
use Rattle.std.specs.Prelude.{Result, Ok, Err, ◌≡◌, ℕ, ◌/◌, ◌≤◌, Bool, true, List, [], ◌∷◌, length, take, nat_lt}
use Rattle.octets.specs.Octets.{Bytes}
use Rattle.refusal.specs.declared.Refusal.TheVariants.{ShortRoom, HeadersIncomplete}
use Rattle.refusal.specs.Checks.{Check, ◌when◌, first_of}
use Rattle.refusal.specs.Numbers.{number_of}
use Rattle.page_crc.specs.Crc.{page_crc}
use Rattle.stream.specs.State.{in_headers}
use Rattle.stream.specs.Stream.{phase_of}
use Rattle.salvage_rules.specs.Rounds.{pages_out, kept_in}
use Rattle.salvage_rules.specs.Listed.{listed_in}
use Rattle.salvage_list.specs.Collect.{stream_pages}

-- a page has 27 bytes at least: a work list has a place for each page that n bytes can have
abbrev pub is_short_work : ℕ → ℕ → Bool
is_short_work n work = nat_lt work (n / 27)

-- 1, then 24; `work` is the length of the work list
abbrev pub kept_checks : Bytes → ℕ → List Check
kept_checks b work =
    ShortRoom when is_short_work (length b) work
    ∷ HeadersIncomplete when in_headers (phase_of (pages_out (kept_in page_crc b)))
    ∷ []

-- how many places are filled
unfoldable pub find_kept : Bytes → ℕ → Told ℕ
find_kept b work = decided (first_of (kept_checks b work)) (length (stream_pages page_crc b))

-- the pages of the first n places of the work list
abbrev pub KeptAt : Bytes → Result ℕ Refusal → List ℕ → Type 0
KeptAt b (Ok n) work = (n ≤ length work) × (listed_in b (take n work) ≡ kept_in page_crc b)
KeptAt b (Err why) work = Unit {0}

pub record FindsKept (b : Bytes) (r : Result ℕ Refusal) (old work : List ℕ) : Type 0 where
  pub told : told r ≡ find_kept b (length old)
  pub kept : KeptAt b r work
  pub short : is_short_work (length b) (length old) ≡ true → work ≡ old
