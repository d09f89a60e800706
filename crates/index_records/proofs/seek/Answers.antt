-- `index_records::seek` meets its contract: the first fall is found, a search by halving is begun, run to its end, and read.
-- Assumes nothing.
use Rattle.std.proofs.Common.{◌≡◌, ◌∙◌, ◌<◌, ◌^◌, ℕ, List, length, arith}
use lib.ListN.{length-map}
use Rattle.std.proofs.Math.Option.{Option}
use Rattle.index_search.specs.declared.IndexRecord.{IndexRecord}
use Rattle.index_search.specs.declared.Search.{Search}
use Rattle.index_search.specs.Index.{granules_of, first_fall, seek_of}
use Rattle.index_search.specs.Search.{finish, halving_of, answer_of}
use Rattle.index_search.proofs.Seeking.{seeks}
use Rattle.index_records.proofs.seek.Goals as goal

-- the end of that search is the answer
found : (l : List IndexRecord) (target : ℕ) (f : Option ℕ) (s t : Search) → length l < 2 ^ 64 → f ≡ first_fall (granules_of l)
    → s ≡ halving_of f (length l) target → t ≡ finish (granules_of l) s → answer_of f t ≡ seek_of l target
found l target f s t room falls begun ended =
    rw (ended, begun, falls) (rw length-map at (seeks (granules_of l) target (rw length-map room)))

pub returns : goal.returns
returns c = c.answer.ensures ∙ found _ _ _ _ _ (omega arith) c.first_fall-f.ensures c.halving-s.ensures c.run-t.ensures
