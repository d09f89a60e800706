-- The list of pages as the code has it: their places in the buffer, and a number that is no place where a page counts as missing.
-- Assumes nothing.
use Rattle.std.specs.Prelude.{ℕ, suc, ◌-◌, ◌^◌, ◌≤◌, ◌<◌, ◌≡◌, Bool, false, List, [], ◌∷◌, eqb, length, take, drop, get_or}
use Rattle.std.proofs.Math.Option.{Option, none, some}
use Rattle.octets.specs.Pick.{pick}
use Rattle.octets.specs.Octets.{Bytes}
use Rattle.page_end.specs.End.{end_at}
use Rattle.stream.specs.Page.{page_of}
use Rattle.salvage_rules.specs.Good.{Good}

-- the bytes from one place to another, or none
abbrev pub up_to : Bytes → ℕ → Option ℕ → Bytes
up_to b at none = []
up_to b at (some e) = take (e - at) (drop at b)

-- the bytes of the page that starts at this place of the buffer
unfoldable pub bytes_at : Bytes → ℕ → Bytes
bytes_at b at = up_to b at (end_at b at)

abbrev pub good_in : Bytes → ℕ → Good
good_in b at = record { place = at; page = page_of (bytes_at b at) }

-- no place of a buffer
abbrev pub missing_place : ℕ
missing_place = 2 ^ 64 - 1

abbrev pub is_missing : ℕ → Bool
is_missing w = eqb w missing_place

-- the pages of the list
unfoldable pub listed_in : Bytes → List ℕ → List Good
listed_in b [] = []
listed_in b (w ∷ ws) = pick (is_missing w) (listed_in b ws) (good_in b w ∷ listed_in b ws)

-- those before the index `at`, and those from there on
abbrev pub pages_to : Bytes → List ℕ → ℕ → List Good
pages_to b ws at = listed_in b (take at ws)

abbrev pub pages_from : Bytes → List ℕ → ℕ → List Good
pages_from b ws at = listed_in b (drop at ws)

-- the page at the index i is the next one from the index `at` on
pub record NextIs (b : Bytes) (ws : List ℕ) (at i : ℕ) : Type 0 where
  pub fore : at ≤ i
  pub inside : i < length ws
  pub here : is_missing (get_or ws i 0) ≡ false
  pub next : pages_from b ws at ≡ good_in b (get_or ws i 0) ∷ pages_from b ws (suc i)
