-- `salvage::is_same` meets its contract. Assumes nothing.
use Rattle.std.proofs.Common.{rules}
use Rattle.salvage.proofs.is_same.Goals as goal

pub returns : goal.returns
returns c = rw (c.if-form.false, c.if-form-2.false)
