-- `head_fields::right_fields` meets its contract. Assumes nothing.
use mathlib.Core.Path.{sym}
use native.Mathlib.Omega.{arith}
use borrow.Author.Rules.{rules}
use Rattle.octets.proofs.Tests.{failed, held}
use Rattle.head_fields.proofs.Checks.{wrong-mapping, wrong-plain, wrong_unused, size_decides}
use Rattle.head_fields.proofs.right_fields.Goals as goal
use Rattle.head_fields.proofs.right_fields.Goals.{Else-not-right_mapping, Else-not-right_plain}

pub returns-then-not-right_mapping : goal.returns-then-not-right_mapping
returns-then-not-right_mapping c = sym (wrong-mapping c.args.h (failed c.right_mapping.ensures c.if-not-right_mapping.true))

pub returns-then-not-right_plain : goal.returns-then-not-right_plain
returns-then-not-right_plain c =
    sym (wrong-plain c.args.h (held c.right_mapping.ensures c.if-not-right_mapping.false) (failed c.right_plain.ensures c.if-not-right_plain.true))

pub slice_bounds-all_zero-count : goal.slice_bounds-all_zero-count
slice_bounds-all_zero-count c = omega (arith, c.index_count-used.ensures.most)

pub returns-then-not-all_zero : goal.returns-then-not-all_zero
returns-then-not-all_zero c =
    sym
    (wrong_unused c.args.h (held c.right_mapping.ensures c.if-not-right_mapping.false) (held c.right_plain.ensures c.if-not-right_plain.false)
    c.index_count-used.ensures.same (search rules) (failed c.all_zero.ensures c.if-not-all_zero.true))

pub returns : goal.returns
returns c =
    sym
    (size_decides c.args.h (held c.right_mapping.ensures c.if-not-right_mapping.false) (held c.right_plain.ensures c.if-not-right_plain.false)
    c.index_count-used.ensures.same (search rules) (held c.all_zero.ensures c.if-not-all_zero.false) c.head_length.ensures)
