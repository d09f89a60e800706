-- `page_crc::met` meets its contract: the register's top is below 256, as the byte is. Assumes nothing.
use mathlib.Core.Path.{ap}
use Prim.Native.Nat.{ℕ, ◌+◌, ◌/◌, ◌^◌, ◌<◌}
use native.Mathlib.Omega.{arith}
use lib.Bits.{bit_xor, xor_lt}
use lib.ListN.{get_or}
use Rattle.page_crc.proofs.met.Goals as goal
use Rattle.page_crc.proofs.met.Lts as lts
use Rattle.page_crc.proofs.met.Tie as tie

abbrev Start : Type 0
Start = lts.Start tie.the-claims tie.handed_pre tie.handed_post

module _ (c : goal.After-shared_slice_known-2-1) where
  abbrev start : Start
  start = c.before.before.before.before

  abbrev found : ℕ
  found = get_or start.args.s.now (start.args.at + start.args.k) 0

  found_lt : found < 2 ^ 8
  found_lt = (c.shared_slice_known-2-1.given (start.args.at + start.args.k)).fits

  met_lt : bit_xor (c.shifted.result / 2 ^ 24) found < 2 ^ 8
  met_lt = xor_lt 8 (c.shifted.result / 2 ^ 24) found (omega arith) found_lt

pub overflow_cast-b : goal.overflow_cast-b
overflow_cast-b c = omega (arith, found_lt c)

pub overflow_cast-result : goal.overflow_cast-result
overflow_cast-result c = omega (arith, met_lt c)

pub returns : goal.returns
returns c = record { byte = ap (λ (w : ℕ). bit_xor (w / 2 ^ 24) (found c)) c.shifted.ensures; below = met_lt c }
