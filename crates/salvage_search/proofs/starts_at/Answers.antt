-- `salvage_search::starts_at` meets its contract. Assumes nothing.
use Prim.Native.Nat.{ℕ, ◌+◌, ◌-◌}
use mathlib.Core.Path.{◌≡◌, sym, ap, ◌∙◌}
use native.Mathlib.Omega.{arith}
use borrow.Author.Rules.{rules}
use lib.ListN.{length, drop, get_or, length-drop}
use lib.Seq.{take_all, get_or-drop}
use Rattle.octets.specs.Octets.{Bytes}
use Rattle.page_crc_tables.specs.Table.{entry_in}
use Rattle.page_crc.specs.Sliced.{page_sliced}
use Rattle.salvage_search.specs.Search.{starts_page}
use Rattle.salvage_search.proofs.Starting.{starts_otherwise}
use Rattle.salvage_search.proofs.starts_at.Goals as goal

first : (at : ℕ) (b : Bytes) → get_or (drop at b) 0 0 ≡ get_or b at 0
first at b = let z : at + 0 ≡ at = omega arith in get_or-drop at b 0 0 ∙ ap (λ (k : ℕ). get_or b k 0) z

pub returns-then-buffer-at-ne-FIRST : goal.returns-then-buffer-at-ne-FIRST
returns-then-buffer-at-ne-FIRST c =
    let a = c.args in
    sym (starts_otherwise _ (drop a.at a.buffer.now) (λ e. c.if-buffer-at-ne-FIRST.true (sym (first a.at a.buffer.now) ∙ e)))

pub returns : goal.returns
returns c =
    let a = c.args in
    let b : Bytes = a.buffer.now in
    c.starts_page.ensures
    ∙ ap (starts_page (page_sliced (entry_in a.tables.now))) (take_all (length b - a.at) (drop a.at b) (omega (arith, length-drop a.at b)))
