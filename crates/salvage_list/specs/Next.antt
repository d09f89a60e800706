-- The next page of a list of places, of which some are missing, and what the code knows of it (RULES.md, 16). Assumes nothing.
use Rattle.std.specs.Prelude.{ℕ, suc, min, ◌≡◌, Bool, ◌&&◌, List, [], ◌∷◌, length, get_or, drop}
use Rattle.octets.specs.Pick.{pick}
use Rattle.octets.specs.Octets.{Bytes}
use Rattle.stream.specs.Page.{page_of}
use Rattle.salvage_rules.specs.declared.Link.{Link}
use Rattle.salvage_rules.specs.declared.Prior.{Prior}
use Rattle.salvage_rules.specs.Good.{Good}
use Rattle.salvage_rules.specs.Links.{link_of, follows_link, link_cut, form_of}
use Rattle.salvage_rules.specs.Listed.{bytes_at, is_missing, listed_in}
use Rattle.salvage_list.specs.declared.Listed.{Listed}

-- the first index at which a page is listed, or the end of them; ws is what the list has from the index `at` on
unfoldable pub listed_from : ℕ → List ℕ → ℕ
listed_from at [] = at
listed_from at (w ∷ ws) = pick (is_missing w) (listed_from (suc at) ws) at

-- at or after `from`, which counts as the list's length where it is above it
unfoldable pub next_listed : List ℕ → ℕ → ℕ
next_listed ws from = listed_from (min from (length ws)) (drop from ws)

-- the page of the list ws at this index, or of place 0 past its end
abbrev pub link_at : Bytes → List ℕ → ℕ → Link
link_at b ws index = link_of (page_of (bytes_at b (get_or ws index 0)))

-- the packet that goes on after the page before comes to the page a and goes through it
abbrev pub is_known : Prior → Link → Bool
is_known x a = x.any && (x.link.onward && (follows_link x.link a && a.through))

-- whether the packet that goes on after the page a is cut by a later break, qs being the pages after it; a packet that comes
-- from the page before and goes through a is cut as it was known before
abbrev pub known_cut : Prior → Bool → Link → List Good → Bool
known_cut x known a qs = pick (is_known x a) known (link_cut a qs)

-- r is the next page of the list ws at or after `from`, where `prior` is what is before it, and `known` tells whether the packet
-- that goes on after the page before is cut by a later break
pub record ListedIs (b : Bytes) (ws : List ℕ) (prior : Prior) (known : Bool) (from : ℕ) (r : Listed) : Type 0 where
  pub index : r.index ≡ next_listed ws from
  pub place : r.place ≡ get_or ws r.index 0
  pub link : r.link ≡ link_of (page_of (bytes_at b r.place))
  pub cut : r.cut ≡ known_cut prior known r.link (listed_in b (drop (suc r.index) ws))
  pub form : r.form ≡ form_of prior r.link r.cut
