-- `head_families::matrix_length` meets its contract. Assumes nothing.
use mathlib.Core.Path.{sym}
use Prim.Native.Nat.{◌+◌, ◌*◌, ◌≤◌}
use native.Mathlib.Omega.{arith}
use Rattle.octets.proofs.Tests.{failed, held}
use Rattle.head_families.proofs.Lengths.{no_matrix, with_matrix, entries-most}
use Rattle.head_families.proofs.matrix_length.Goals as goal

few : (c : goal.After-wide-3) → (c.wide.result + c.wide-2.result) * c.wide-3.result ≤ 130050
few c = entries-most (c.wide.result + c.wide-2.result) c.wide-3.result (omega arith) c.wide-3.ensures.most

pub returns-then-not-has_matrix : goal.returns-then-not-has_matrix
returns-then-not-has_matrix c =
    let a = c.args in
    sym (no_matrix a.family a.streams a.coupled a.channels (failed c.has_matrix.ensures c.if-not-has_matrix.true))

pub overflow_mul-result : goal.overflow_mul-result
overflow_mul-result c = omega (arith, few c)

pub overflow_mul-result-2 : goal.overflow_mul-result-2
overflow_mul-result-2 c = omega (arith, few c)

pub returns : goal.returns
returns c =
    let a = c.args in
    let matrix = held c.has_matrix.ensures c.if-not-has_matrix.false in
    with_matrix a.family a.streams a.coupled a.channels matrix (omega arith) c.wide-3.ensures.same
