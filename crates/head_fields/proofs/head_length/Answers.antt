-- `head_fields::head_length` meets its contract. Assumes nothing.
use Prim.Native.Nat.{◌≤◌}
use native.Mathlib.Omega.{arith}
use Rattle.octets.proofs.Tests.{failed, held}
use Rattle.head_families.proofs.Lengths.{matrix-most}
use Rattle.head_fields.proofs.head_length.Goals as goal

-- the sum is that of three small numbers
small : (c : goal.After-matrix_length) → c.matrix_length.result ≤ 260100
small c =
    let a = c.args in
    let most = matrix-most a.family a.streams a.coupled a.channels (omega arith) (omega arith) (omega arith) in
    omega (arith, most, c.matrix_length.ensures)

pub returns-then-not-has_counts : goal.returns-then-not-has_counts
returns-then-not-has_counts c = rw (failed c.has_counts.ensures c.if-not-has_counts.true)

pub overflow_add-result : goal.overflow_add-result
overflow_add-result c = omega (arith, small c)

pub overflow_add-result-2 : goal.overflow_add-result-2
overflow_add-result-2 c = omega (arith, small c)

pub returns : goal.returns
returns c =
    rw (held c.has_counts.ensures c.if-not-has_counts.false)
    (omega (arith, c.matrix_length.ensures, c.index_count-indices.ensures.same))
