-- `salvage::walk::walk_on` meets its contract. Assumes nothing.
use Rattle.std.proofs.Common.{add-one, arith, rules}
use Rattle.salvage.specs.Columns.{line_count}
use Rattle.salvage.proofs.Columns.{line-most}
use Rattle.salvage.proofs.walk.walk_on.Goals as goal

pub size_of-size-requires : goal.size_of-size-requires
size_of-size-requires c = c.requires.one

pub overflow_add-result : goal.overflow_add-result
overflow_add-result c = omega (arith, c.requires.index)

pub overflow_add-result-2 : goal.overflow_add-result-2
overflow_add-result-2 c = omega (arith, c.requires.end)

pub overflow_add-result-3 : goal.overflow_add-result-3
overflow_add-result-3 c =
    omega (arith, c.size_of-size.ensures, c.requires.bytes)

pub overflow_add-result-4 : goal.overflow_add-result-4
overflow_add-result-4 c =
    let d = c.args.c in
    omega (arith, c.lines_of.ensures, c.requires.lines, line-most d.skip, line-most d.renumbered, line-most d.cleared, line-most d.lead, line-most d.trail)

pub returns : goal.returns
returns c =
    let a = c.args in
    rw (c.size_of-size.ensures, c.next_prior.ensures, c.wrapping_add_u32.ensures.value, c.lines_of.ensures, add-one a.next.index)
