-- `index_records::run` meets its contract. The loop's invariant: what is left of the search leads to the same end. Assumes nothing.
use Rattle.std.proofs.Common.{◌-◌, ◌≡◌}
use Rattle.index_search.specs.Index.{granules_of}
use Rattle.index_search.specs.Search.{finish}
use Rattle.index_records.proofs.run.Given as goal

abbrev pub invariant-loop-t : goal.invariant-loop-t
invariant-loop-t l = finish (granules_of l.records) l.t ≡ finish (granules_of l.records) l.fn.s

abbrev pub decreases-loop-t : goal.decreases-loop-t
decreases-loop-t l = l.t.high - l.t.low
