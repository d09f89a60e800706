-- `salvage_list::cut_by` meets its contract. Assumes nothing.
use Prim.Native.Nat.{ℕ, suc, ◌+◌}
use mathlib.Core.Path.{◌≡◌, sym, ap, ◌∙◌}
use mathlib.Core.List.{List}
use native.Mathlib.Numerals.{add-one}
use borrow.Author.Rules.{rules}
use lib.ListN.{drop}
use Rattle.salvage_rules.specs.Good.{Good}
use Rattle.salvage_rules.specs.Links.{link_cut}
use Rattle.salvage_rules.specs.Listed.{listed_in}
use Rattle.salvage_list.proofs.Known.{as_known, looked_up}
use Rattle.salvage_list.proofs.cut_by.Goals as goal

pub returns-then-is_known : goal.returns-then-is_known
returns-then-is_known c =
    let a = c.args in
    let later = listed_in a.buffer.now (drop (suc a.index) a.list.now) in
    sym (as_known a.prior a.known a.link later (sym c.is_known.ensures ∙ c.if-is_known.true))

pub returns : goal.returns
returns c =
    let a = c.args in
    let after : ℕ → List Good = λ k. listed_in a.buffer.now (drop k a.list.now) in
    let told : c.is_cut_after.result ≡ link_cut a.link (after (a.index + 1)) = c.is_cut_after.ensures in
    let tested = sym c.is_known.ensures ∙ c.if-is_known.false in
    told
    ∙ (ap (λ (k : ℕ). link_cut a.link (after k)) (add-one a.index)
    ∙ sym (looked_up a.prior a.known a.link (after (suc a.index)) tested))
