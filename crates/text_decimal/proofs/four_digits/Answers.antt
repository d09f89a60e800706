-- `text_decimal::four_digits` meets its contract. Assumes nothing.
use native.Mathlib.Omega.{arith}
use Rattle.text_decimal.proofs.Words.{tens, four_right}
use Rattle.text_decimal.proofs.four_digits.Goals as goal

pub overflow_mul-pairs : goal.overflow_mul-pairs
overflow_mul-pairs c = omega arith

pub overflow_add-pairs : goal.overflow_add-pairs
overflow_add-pairs c = omega arith

pub overflow_mul-scaled : goal.overflow_mul-scaled
overflow_mul-scaled c = omega arith

pub overflow_mul-tens : goal.overflow_mul-tens
overflow_mul-tens c = omega arith

pub overflow_add-tens : goal.overflow_add-tens
overflow_add-tens c = omega arith

pub overflow_add-result : goal.overflow_add-result
overflow_add-result c = omega arith

pub overflow_mul-result : goal.overflow_mul-result
overflow_mul-result c = omega arith

pub overflow_sub-result : goal.overflow_sub-result
overflow_sub-result c = omega (arith, tens c.args.x c.requires)

pub overflow_mul-result-2 : goal.overflow_mul-result-2
overflow_mul-result-2 c = omega arith

pub overflow_add-result-2 : goal.overflow_add-result-2
overflow_add-result-2 c = omega arith

pub returns : goal.returns
returns c = four_right c.args.x c.requires
