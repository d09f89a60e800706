-- What the functions of the pass ask and promise. Assumes nothing.
use Rattle.std.specs.Prelude.{Option, Some, None, ◌≡◌, ℕ, suc, ◌+◌, ◌^◌, ◌<◌, ◌≤◌, Bool, true, false, List, length, slice_index, slice_set}
use Rattle.std.proofs.Math.Option.{some}
use Rattle.octets.specs.Octets.{Bytes}
use Rattle.refusal.specs.declared.Refusal.{Refusal}
use Rattle.page_crc.specs.Crc.{page_crc}
use Rattle.page_reader.specs.Reading.{read_page}
use Rattle.stream.specs.State.{in_headers}
use Rattle.stream.specs.Rules.{verdict}
use Rattle.stream.specs.Feed.{view}
use Rattle.stream.specs.Lent.{Lent, is_short}
use Rattle.stream.specs.Stream.{phase_of}
use Rattle.salvage_search.specs.Search.{is_good}
use Rattle.salvage_rules.specs.Good.{Good}
use Rattle.salvage_rules.specs.Rounds.{pages_out, settled}
use Rattle.salvage_rules.specs.Steps.{next_out}
use Rattle.salvage_rules.specs.Statements.{Each}
use Rattle.salvage_rules.specs.Listed.{missing_place, bytes_at, good_in, listed_in, pages_to, pages_from, NextIs}
use Rattle.salvage_list.specs.declared.Listed.{Listed}
use Rattle.salvage_list.specs.Next.{next_listed, ListedIs}
use Rattle.salvage_kept.specs.declared.Pass.{Pass}
use Rattle.salvage_kept.specs.declared.Run.{Run}
use Rattle.salvage_kept.specs.Code.{R, Holds}

-- every page of the list passes 3 and 4
abbrev pub AllGood : Bytes → List ℕ → Type 0
AllGood b ws = Each (λ (g : Good). is_good (read_page page_crc (bytes_at b g.place)) ≡ true) (listed_in b ws)

-- ---- feeding one page

pub record CanFeed (i : ℕ) (carry keep spare : Bytes) : Type 0 where
  pub index : i + 1 < 2 ^ 64
  pub keeps : length carry ≡ length keep
  pub spares : length carry ≡ length spare

-- the page `next` of the list ws is the next one of the pass
pub record IsNext (b : Bytes) (G : List Good) (ws : List ℕ) (p : Pass) (next : Listed) (m : Lent) (keep : Bytes) : Type 0 where
  pub holds : Holds b G ws p m.carry keep
  pub good : AllGood b ws
  pub is : ListedIs b ws p.now.prior p.now.cut p.now.at next
  pub inside : next.index < length ws
  pub room : is_short m ≡ false

-- the page at the index i, which is the next one, is refused
pub record IsRefused (b : Bytes) (ws : List ℕ) (p : Pass) (i : ℕ) (carry : Bytes) : Type 0 where
  pub why : Refusal
  pub refused : verdict R (view p.now.core carry)
      (next_out (pages_to b ws p.now.at) (good_in b (slice_index ws i)) (pages_from b ws (suc i))) ≡ some why

abbrev pub NextFedIs : Bytes → List Good → List ℕ → Pass → ℕ → Option Pass → Bytes → Bytes → Type 0
NextFedIs b G ws p i (Some q) carry keep = Holds b G ws q carry keep
NextFedIs b G ws p i None carry keep = Holds b G ws p carry keep × IsRefused b ws p i carry

-- the pass is after the index i
abbrev pub Onward : ℕ → Option Pass → Type 0
Onward i (Some q) = q.now.at ≡ suc i
Onward i None = Unit {0}

-- ---- feeding until a page is refused

pub record Ready (b : Bytes) (ws : List ℕ) (m : Lent) (keep spare : Bytes) : Type 0 where
  pub good : AllGood b ws
  pub room : is_short m ≡ false
  pub keeps : length m.carry ≡ length keep
  pub spares : length m.carry ≡ length spare

pub record RunIs (b : Bytes) (ws : List ℕ) (p : Pass) (carry keep : Bytes) (r : Run) (carried kept : Bytes) : Type 0 where
  pub index : r.index ≡ next_listed ws r.pass.now.at
  pub holds : (G : List Good) → Holds b G ws p carry keep → Holds b G ws r.pass carried kept
  pub refused : (G : List Good) → Holds b G ws p carry keep → r.index < length ws
      → IsRefused b ws r.pass r.index carried

-- ---- a refused page goes missing

pub record CanDrop (i : ℕ) (ws : List ℕ) (carry keep : Bytes) : Type 0 where
  pub inside : i < length ws
  pub keeps : length keep ≡ length carry

pub record Drops (b : Bytes) (ws : List ℕ) (p : Pass) (i : ℕ) (carry keep : Bytes) (r : Pass) (list carried : Bytes)
    : Type 0 where
  pub stored : list ≡ slice_set ws i missing_place
  pub holds : (G : List Good) → Holds b G ws p carry keep → NextIs b ws p.now.at i → IsRefused b ws p i carry
      → Holds b G list r carried keep

-- ---- the list is settled

pub record Settles (b : Bytes) (ws list : List ℕ) (due : Bool) : Type 0 where
  pub pages : listed_in b list ≡ settled R (listed_in b ws)
  pub headers : due ≡ in_headers (phase_of (pages_out (listed_in b list)))
