-- What is proved of the list of pages, in addition to the contracts. Assumes nothing.
use Rattle.std.specs.Prelude.{ℕ, suc, ◌*◌, ◌^◌, ◌≤◌, ◌<◌, ◌≡◌, Bool, true, List, [], ◌∷◌, length, get_or, drop}
use Rattle.octets.specs.Octets.{Bytes}
use Rattle.page_reader.specs.Reading.{read_page}
use Rattle.salvage_search.specs.Search.{is_good}
use Rattle.salvage_rules.specs.Good.{Good}
use Rattle.salvage_rules.specs.declared.Prior.{Prior}
use Rattle.salvage_rules.specs.Links.{link_of, link_cut}
use Rattle.salvage_rules.specs.Listed.{bytes_at, good_in, listed_in}
use Rattle.salvage_rules.specs.Statements.{Each, Read}
use Rattle.salvage_list.specs.Collect.{stream_pages, places_of}
use Rattle.salvage_list.specs.Next.{next_listed, known_cut}

-- ---- the next page of a list

-- r is where the pages from `from` on begin, or the list's length
pub record NextIs (b : Bytes) (ws : List ℕ) (from r : ℕ) : Type 0 where
  pub inside : r ≤ length ws
  pub after : from ≤ length ws → from ≤ r
  pub same : listed_in b (drop from ws) ≡ listed_in b (drop r ws)
  pub here : r < length ws → listed_in b (drop r ws) ≡ good_in b (get_or ws r 0) ∷ listed_in b (drop (suc r) ws)
  pub none : length ws ≤ r → listed_in b (drop r ws) ≡ []

abbrev pub NextListed : Type 0
NextListed = (b : Bytes) (ws : List ℕ) (from : ℕ) → NextIs b ws from (next_listed ws from)

-- where what is known of the page before is right, what is told of the page after it is right
abbrev pub KnownIs : Type 0
KnownIs =
    (x : Prior) (known : Bool) (g : Good) (qs : List Good) → known ≡ link_cut x.link (g ∷ qs)
    → known_cut x known (link_of g.page) qs ≡ link_cut (link_of g.page) qs

-- ---- the pages that are collected

-- their places are a list of them, and none of them is missing
abbrev pub CollectedListed : Type 0
CollectedListed =
    (crc : Bytes → ℕ) (b : Bytes) → length b < 2 ^ 64 → listed_in b (places_of (stream_pages crc b)) ≡ stream_pages crc b

-- a page has 27 bytes at least
abbrev pub FewPages : Type 0
FewPages = (crc : Bytes → ℕ) (b : Bytes) → 27 * length (stream_pages crc b) ≤ length b

-- each is a page of the input by 3 and 4
abbrev pub EachRead : Type 0
EachRead = (crc : Bytes → ℕ) (b : Bytes) → Each (Read crc b) (stream_pages crc b)

-- and so are the bytes at its place
abbrev pub EachGood : Type 0
EachGood =
    (crc : Bytes → ℕ) (b : Bytes)
    → Each (λ (g : Good). is_good (read_page crc (bytes_at b g.place)) ≡ true) (stream_pages crc b)
