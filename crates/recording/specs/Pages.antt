-- The pages of a buffer (RULES.md, 3 and 15): each ends where the page that starts there would end. Bytes after the last whole
-- page are taken as they are, as one last page. An empty buffer has no page. Assumes nothing.
use Rattle.std.specs.Prelude.{ℕ, zero, suc, List, [], ◌∷◌, length, take, drop}
use Rattle.std.proofs.Math.Option.{Option, none, some}
use Rattle.octets.specs.Octets.{Bytes}
use Rattle.page_end.specs.End.{end_at}

-- bytes that are no whole page
abbrev pub rest_of : Bytes → List Bytes
rest_of [] = []
rest_of (x ∷ b) = (x ∷ b) ∷ []

-- the first page ends at this place of b, or is cut
abbrev pub cut_by : (Bytes → List Bytes) → Bytes → Option ℕ → List Bytes
cut_by later b none = rest_of b
cut_by later b (some e) = take e b ∷ later (drop e b)

-- at most n pages
unfoldable pub pages_in : ℕ → Bytes → List Bytes
pages_in zero b = []
pages_in (suc n) b = cut_by (pages_in n) b (end_at b 0)

-- a page has a byte at least, so that there are no more pages than bytes
unfoldable pub pages_of : Bytes → List Bytes
pages_of b = pages_in (suc (length b)) b
