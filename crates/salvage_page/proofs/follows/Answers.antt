-- `salvage_page::follows` meets its contract. Assumes nothing.
use Rattle.std.proofs.Common.{rules}
use Rattle.salvage_page.proofs.follows.Goals as goal

pub returns : goal.returns
returns c = rw c.wrapping_add_u32.ensures.value
