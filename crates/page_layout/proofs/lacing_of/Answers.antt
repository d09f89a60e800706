-- `page_layout::lacing_of` meets its contract. Assumes nothing.
use mathlib.Core.Path.{ap, ◌∙◌}
use Prim.Native.Nat.{ℕ}
use lib.ListN.{take, drop}
use Rattle.page_layout.specs.Places.{lacing_at}
use Rattle.page_layout.specs.Page.{lacing_of}
use Rattle.page_layout.proofs.lacing_of.Goals as goal

pub returns : goal.returns
unfolding lacing_of
returns c =
    let page = c.args.page.now in
    c.part_of.ensures ∙ ap (λ (n : ℕ). take n (drop lacing_at page)) c.count_of.ensures.same
