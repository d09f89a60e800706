-- `list_lines::lacks_entry` meets its contract: no entry's line is longer than the longest. Assumes nothing.
use mathlib.Core.Path.{sym, ap, ◌∙◌}
use Prim.Native.Nat.{ℕ, ◌+◌}
use native.Mathlib.Omega.{arith}
use borrow.Author.Tests.{ltb-false, le-ltb}
use lib.Dec.{ltb}
use lib.ListN.{length}
use Rattle.octets.proofs.Tests.{failed}
use Rattle.list_lines.specs.Lines.{longest, entry_line}
use Rattle.list_lines.proofs.Lines.{length-entry, entry-most}
use Rattle.list_lines.proofs.lacks_entry.Goals as goal

pub is_short-requires : goal.is_short-requires
is_short-requires c = tt

pub returns-then-not-is_short : goal.returns-then-not-is_short
returns-then-not-is_short c =
    let a = c.args in
    let room = ltb-false a.len (a.at + longest) (failed c.is_short.ensures c.if-not-is_short.true) in
    let size =
    entry-most a.end a.samples a.frames a.kept
    c.ranges.end.fits c.ranges.samples.fits c.ranges.frames.fits c.ranges.kept.fits in
    sym (le-ltb a.len (a.at + length (entry_line a.end a.samples a.frames a.kept)) (omega arith))

pub digits_of-requires : goal.digits_of-requires
digits_of-requires c = tt

pub digits_of-requires-2 : goal.digits_of-requires-2
digits_of-requires-2 c = tt

pub overflow_add-digits_of : goal.overflow_add-digits_of
overflow_add-digits_of c = omega arith

pub digits_of-requires-3 : goal.digits_of-requires-3
digits_of-requires-3 c = tt

pub overflow_add-digits_of-2 : goal.overflow_add-digits_of-2
overflow_add-digits_of-2 c = omega arith

pub digits_of-requires-4 : goal.digits_of-requires-4
digits_of-requires-4 c = tt

pub overflow_add-digits_of-3 : goal.overflow_add-digits_of-3
overflow_add-digits_of-3 c = omega arith

pub overflow_add-digits_of-4 : goal.overflow_add-digits_of-4
overflow_add-digits_of-4 c = omega arith

pub is_short-requires-2 : goal.is_short-requires-2
is_short-requires-2 c = tt

pub returns : goal.returns
returns c =
    let a = c.args in
    c.is_short-2.ensures ∙ ap (λ (n : ℕ). ltb a.len (a.at + n)) (omega (arith, length-entry a.end a.samples a.frames a.kept))
