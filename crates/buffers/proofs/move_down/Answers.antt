-- `buffers::move_down` meets its contract: a byte goes to no place above its own. Assumes nothing.
use mathlib.Core.Path.{◌≡◌, refl, sym, subst}
use Prim.Native.Nat.{ℕ, ◌+◌, ◌-◌}
use native.Mathlib.Omega.{arith}
use lib.ListN.{set, get_or}
use Rattle.buffers.proofs.Moving.{Moving, moving_on}
use Rattle.buffers.proofs.move_down.Goals as goal

pub loop-i-init : goal.loop-i-init
loop-i-init c =
    let none : c.args.from - c.args.from ≡ 0 = omega arith in
    rw none (record { bytes = refl }, omega arith)

pub loop-i-preserved : goal.loop-i-preserved
loop-i-preserved c =
    let a = c.args in
    let l = c.loop-i in
    let n : ℕ = l.i - a.from in
    let here : l.i ≡ a.from + n = omega arith in
    let next : l.i + 1 - a.from ≡ n + 1 = omega arith in
    let m = moving_on l.invariant.0 (omega arith) in
    rw next (subst (λ (k : ℕ). Moving a.buffer.now a.from (set l.buffer n (get_or l.buffer k 0)) (n + 1)) (sym here) m, omega arith)

pub returns : goal.returns
returns c =
    let l = c.loop-i in
    let all : c.saturating_sub.result ≡ l.i - c.args.from = omega arith in
    record { count = omega arith; bytes = rw (← all) at l.invariant.0.bytes }
