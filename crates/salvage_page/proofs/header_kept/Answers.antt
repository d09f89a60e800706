-- `salvage_page::header_kept` meets its contract. Assumes nothing.
use Rattle.std.proofs.Common.{rules}
use Rattle.salvage_page.proofs.Kept.{renewed_as}
use Rattle.salvage_page.proofs.header_kept.Goals as goal

pub returns : goal.returns
returns c =
    let same = c.header_of-h.ensures in
    renewed_as c.args.form.lead c.args.number (rw same at c.flags_kept.ensures) same c.ranges.number.fits
