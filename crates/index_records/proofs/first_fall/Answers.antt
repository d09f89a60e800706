-- `index_records::first_fall` meets its contract: a search from place to place is begun, run to its end, and read. Assumes
-- nothing.
use Rattle.std.proofs.Common.{◌≡◌, ◌∙◌, List, length}
use lib.ListN.{length-map}
use Rattle.index_search.specs.declared.IndexRecord.{IndexRecord}
use Rattle.index_search.specs.declared.Search.{Search}
use Rattle.index_search.specs.Index.{granules_of, first_fall}
use Rattle.index_search.specs.Search.{finish, scanning_of, fall_of}
use Rattle.index_search.proofs.FirstFall.{scan_finds}
use Rattle.index_records.proofs.first_fall.Goals as goal

-- the end of that search is the first fall
found : (l : List IndexRecord) (s t : Search) → s ≡ scanning_of (length l) → t ≡ finish (granules_of l) s
    → fall_of t (length l) ≡ first_fall (granules_of l)
found l s t begun ended = rw (ended, begun) (rw length-map at (scan_finds (granules_of l)))

pub returns : goal.returns
returns c = c.fall_of.ensures ∙ found _ _ _ c.scanning-s.ensures c.run-t.ensures
