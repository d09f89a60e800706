-- `index_walk::step` meets its contract. Assumes nothing.
use Rattle.std.proofs.Common.{◌≡◌, ℕ, ◌+◌, ◌%◌, ◌^◌, Bool, true, false, sym, ◌∙◌}
use Rattle.index_search.specs.declared.IndexRecord.{IndexRecord}
use Rattle.index_walk.specs.declared.Due.{Due}
use Rattle.index_walk.specs.declared.Walk.{Walk}
use Rattle.index_walk.specs.Walk.{due_after, is_recorded, nowhere, stepped_to}
use Rattle.index_walk.proofs.step.Goals as goal

-- a page with a record, and one with none
module _ (w : Walk) (end : ℕ) (done : Bool) (made : IndexRecord) (due : Due) (next : due ≡ due_after w.due done) where
  recorded : (count : ℕ) → count ≡ (w.count + 1) % 2 ^ 64 → is_recorded w.due done ≡ true
      → record { at = end; due = due; count = count; slot = w.count; made = made } ≡ stepped_to w end done made
  recorded count e is = rw (next, e, is)

  passed : is_recorded w.due done ≡ false → record { at = end; due = due; count = w.count; slot = nowhere; made = made } ≡ stepped_to w end done made
  passed is = rw (next, is)

pub returns-then-is_recorded : goal.returns-then-is_recorded
returns-then-is_recorded c =
    let a = c.args in
    recorded a.w a.end a.done a.made c.due_after.result c.due_after.ensures c.wrapping_add_usize.result c.wrapping_add_usize.ensures.value
    (sym c.is_recorded.ensures ∙ c.if-is_recorded.true)

pub returns : goal.returns
returns c =
    let a = c.args in
    passed a.w a.end a.done a.made c.due_after-2.result c.due_after-2.ensures (sym c.is_recorded.ensures ∙ c.if-is_recorded.false)
