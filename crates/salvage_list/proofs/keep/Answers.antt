-- `salvage_list::keep` meets its contract. Assumes nothing.
use borrow.Author.Rules.{rules}
use Rattle.salvage_list.proofs.keep.Goals as goal

pub returns-then-wanted : goal.returns-then-wanted
returns-then-wanted c =
    let wanted = c.if-wanted.true in
    record { many = rw wanted; stored = rw wanted c.store_at.ensures }
