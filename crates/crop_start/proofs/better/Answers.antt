-- `crop_start::better` meets its contract. Assumes nothing.
use borrow.Author.Rules.{rules}
use Rattle.crop_start.proofs.better.Goals as goal

pub returns-then-holds : goal.returns-then-holds
returns-then-holds c = rw c.if-holds.true
