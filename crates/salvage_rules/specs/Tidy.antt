-- A list of pages tidied: packets that a break cuts are removed, and the pages are numbered from 0 (RULES.md, 16; RFC 3533, 5
-- and 6). Assumes nothing.
use Rattle.std.specs.Prelude.{ℕ, suc, ◌+◌, ◌-◌, ◌%◌, ◌^◌, Bool, true, false, not, ◌&&◌, ◌||◌, List, [], ◌∷◌, ◌++◌, ltb, eqb, take, drop}
use Rattle.octets.specs.Pick.{pick}
use Rattle.octets.specs.Octets.{Bytes, total}
use Rattle.page_layout.specs.declared.PageHeader.{PageHeader}
use Rattle.page_lacing.specs.Lacing.{unfinished}
use Rattle.stream.specs.Page.{Page, page_with, continued, ends}
use Rattle.stream.specs.Packets.{after_first}
use Rattle.salvage_rules.specs.Good.{Good}

-- ---- breaks

-- q follows p by their old numbers; a break lies between neighbours that do not follow each other
unfoldable pub follows : Page → Page → Bool
follows p q = eqb q.header.sequence ((p.header.sequence + 1) % 2 ^ 32)

-- ---- packets over pages

-- the last value is 255; o where there is none
unfoldable pub open_after : Bool → Bytes → Bool
open_after o [] = o
open_after o (v ∷ l) = open_after (not (ltb v 255)) l

-- a packet goes on after the page: the last lacing value is 255, or the page has none and is marked continued
unfoldable pub goes_on : Page → Bool
goes_on p = open_after (continued p) p.lacing

-- the packet that the page continues goes on after it: no packet ends on it
unfoldable pub goes_through : Page → Bool
goes_through p = continued p && not (ends p.lacing)

-- ---- cut packets

-- The packet that goes on after p is cut by a later break: right after p, or it goes through the next page and is cut by a
-- break after that one. qs are the pages after p. There is no break after the last page.
unfoldable pub cut_after : Page → List Good → Bool
cut_after p [] = false
cut_after p (q ∷ qs) = goes_on p && pick (follows p q.page) (goes_through q.page && cut_after q.page qs) true

-- what is before a page: no page, or one, with whether the packet that goes on after it was cut by an earlier break
pub data Before : Type 0 where
  no_page : Before
  page_before : Page → Bool → Before

-- the packet that p continues is cut by an earlier break
abbrev pub cut_before : Before → Page → Bool
cut_before no_page p = false
cut_before (page_before a cut) p = continued p && pick (follows a p) cut true

-- the packet of the leading piece is cut
unfoldable pub leading_cut : Before → Page → List Good → Bool
leading_cut x p qs = cut_before x p || (goes_through p && cut_after p qs)

-- that of the trailing piece is, where it is not the leading one
unfoldable pub trailing_cut : Page → List Good → Bool
trailing_cut p qs = not (goes_through p) && cut_after p qs

-- ---- pieces removed, with their lacing values

-- the values up to the last that ends a packet
unfoldable pub up_to_last : Bytes → Bytes
up_to_last [] = []
up_to_last (v ∷ l) = pick (ends (v ∷ l)) (v ∷ up_to_last l) []

-- the bytes of the piece up to the first value that ends a packet
abbrev pub first_bytes : Bytes → ℕ
first_bytes l = total l - total (after_first l)

abbrev pub without_first : Page → Page
without_first p = page_with p.header (after_first p.lacing) (drop (first_bytes p.lacing) p.body)

abbrev pub without_last : Page → Page
without_last p = page_with p.header (up_to_last p.lacing) (take (total (up_to_last p.lacing)) p.body)

-- a page without values has no piece to remove
abbrev pub first_cut : Bytes → List ℕ
first_cut [] = []
first_cut (v ∷ l) = first_bytes (v ∷ l) ∷ []

-- ---- tidied

pub record Tidied : Type 0 where
  pub old : Good
  pub page : Page
  pub cleared : Bool  -- its continued mark was cleared
  pub cuts : List ℕ  -- the bytes of each removed piece, the leading one first

-- the continued mark is the lowest bit of the flags
abbrev pub renewed : Bool → ℕ → PageHeader → PageHeader
renewed lead n h = record {
  flags = pick lead (h.flags - 1) h.flags;
  granule = h.granule;
  serial = h.serial;
  sequence = n % 2 ^ 32;
}

abbrev pub numbered : Bool → ℕ → Page → Page
numbered lead n p = page_with (renewed lead n p.header) p.lacing p.body

-- without its leading piece, its trailing one, or both
abbrev pub without : Bool → Bool → Page → Page
without lead trail p = pick lead (without_first (pick trail (without_last p) p)) (pick trail (without_last p) p)

unfoldable pub tidy_page : Bool → Bool → ℕ → Good → Tidied
tidy_page lead trail n g = record {
  old = g;
  page = numbered lead n (without lead trail g.page);
  cleared = lead;
  cuts = pick lead (first_cut g.page.lacing) [] ++ pick trail (unfinished g.page.lacing ∷ []) [];
}

-- n pages are before these
unfoldable pub tidy_from : Before → ℕ → List Good → List Tidied
tidy_from x n [] = []
tidy_from x n (g ∷ gs) =
    tidy_page (leading_cut x g.page gs) (trailing_cut g.page gs) n g
    ∷ tidy_from (page_before g.page (cut_before x g.page && goes_through g.page)) (suc n) gs

abbrev pub tidy : List Good → List Tidied
tidy gs = tidy_from no_page 0 gs
