-- `salvage::walk::has_first` meets its contract. Assumes nothing.
use Rattle.std.proofs.Common.{ℕ, ltb, List, length, ap, ◌∙◌, rules}
use Rattle.stream.specs.Page.{page_of}
use Rattle.salvage.proofs.walk.has_first.Goals as goal

pub returns-then-lead : goal.returns-then-lead
unfolding page_of
returns-then-lead c = rw c.if-lead.true (ap (λ (l : List ℕ). ltb 0 (length l)) c.lacing_of.ensures)
