-- `page_layout::body_of` meets its contract. Assumes nothing.
use mathlib.Core.Path.{ap, ◌∙◌}
use Prim.Native.Nat.{ℕ, ◌+◌}
use native.Mathlib.Omega.{arith}
use lib.ListN.{length, drop, length-drop}
use lib.Seq.{take_all}
use Rattle.page_layout.specs.Places.{lacing_at}
use Rattle.page_layout.specs.Page.{body_of}
use Rattle.page_layout.proofs.body_of.Goals as goal

pub returns : goal.returns
unfolding body_of
returns c =
    let page = c.args.page.now in
    let at : ℕ = lacing_at + c.count_of.result in
    c.part_of.ensures
    ∙ take_all (length page) (drop at page) (omega (arith, length-drop at page))
    ∙ ap (λ (n : ℕ). drop (lacing_at + n) page) c.count_of.ensures.same
