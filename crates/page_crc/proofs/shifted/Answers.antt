-- `page_crc::shifted` meets its contract: an arm while some of the register is left, and one for when it has all gone.
-- Assumes nothing.
use mathlib.Core.Path.{◌≡◌, sym, ap, ◌∙◌}
use Prim.Native.Nat.{ℕ, ◌+◌, ◌-◌}
use native.Mathlib.Omega.{arith}
use Rattle.page_crc.specs.Sliced.{moved}
use Rattle.page_crc.proofs.Turns.{moved_out}
use Rattle.page_crc.proofs.shifted.Goals as goal

pub returns-in-0 : goal.returns-in-0
unfolding moved
returns-in-0 c = let e : c.args.k ≡ 0 = omega arith in rw e

pub returns-in-1 : goal.returns-in-1
unfolding moved
returns-in-1 c = let e : c.args.k ≡ 1 = omega arith in rw e

pub returns-in-2 : goal.returns-in-2
unfolding moved
returns-in-2 c = let e : c.args.k ≡ 2 = omega arith in rw e

pub returns-in-3 : goal.returns-in-3
unfolding moved
returns-in-3 c = let e : c.args.k ≡ 3 = omega arith in rw e

pub returns-in_default : goal.returns-in_default
returns-in_default c =
    let k : ℕ = c.args.k in
    let e : k ≡ 4 + (k - 4) = omega arith in
    sym (ap (moved c.args.x) e ∙ moved_out (k - 4) c.args.x (omega arith))
