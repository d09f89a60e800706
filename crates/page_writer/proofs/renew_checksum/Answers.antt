-- `page_writer::renew_checksum` meets its contract. Assumes nothing.
use mathlib.Core.Path.{ap, ◌∙◌}
use Prim.Native.Nat.{ℕ}
use Rattle.octets.specs.Octets.{copied}
use Rattle.octets.specs.Numbers.{octets}
use Rattle.page_layout.specs.Places.{checksum_at}
use Rattle.page_writer.specs.Writing.{with_checksum}
use Rattle.page_writer.proofs.renew_checksum.Goals as goal

pub returns : goal.returns
unfolding with_checksum
returns c =
    let page = c.args.page.now in
    c.put32.ensures
    ∙ ap (λ (x : ℕ). copied page checksum_at (octets 4 x)) c.page_checksum-sum.ensures
