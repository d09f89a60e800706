-- `tags_layout::count_of` meets its contract. Assumes nothing.
use mathlib.Core.Path.{ap, ◌∙◌}
use native.Mathlib.Omega.{arith}
use Rattle.octets.specs.Numbers.{number}
use Rattle.tags_layout.proofs.count_of.Goals as goal

pub returns : goal.returns
returns c =
    let b = c.args.b.now in
    c.number32.ensures ∙ ap (number 4 b) (omega (arith, c.vendor_size-vendor.ensures))
