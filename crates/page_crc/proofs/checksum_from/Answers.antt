-- `page_crc::checksum_from` meets its contract: with right tables slicing gives the checksum. Assumes nothing.
use mathlib.Core.Path.{◌∙◌}
use native.Mathlib.Omega.{arith}
use Rattle.page_crc.proofs.Slice.{sliced_right}
use Rattle.page_crc.proofs.checksum_from.Goals as goal

pub returns : goal.returns
returns g c =
    c.update.ensures
    ∙ sliced_right _ c.right-tables.ensures c.args.s.now
    (record { below = λ i. (c.type_inv.s i).fits }) c.args.r (omega arith)
