-- `feed_header::longer` meets its contract. Assumes nothing.
use mathlib.Core.Path.{◌≡◌}
use Prim.Native.Nat.{◌+◌, ◌≤◌}
use native.Mathlib.Omega.{arith}
use Rattle.stream.specs.declared.Pending.TheVariants.{Nothing, Held}
use Rattle.limits.specs.Limits.{packet_max}
use Rattle.feed_header.proofs.longer.Goals as goal

pub overflow_add-result : goal.overflow_add-result
overflow_add-result c =
    let q : c.args.pending ≡ Held c.in-Held.k = cc in
    let small : c.in-Held.k + c.args.n ≤ packet_max = rw q at c.requires in
    omega arith

pub returns-in-Nothing : goal.returns-in-Nothing
returns-in-Nothing c = let q : c.args.pending ≡ Nothing = cc in rw q

pub returns-in-Held : goal.returns-in-Held
returns-in-Held c = let q : c.args.pending ≡ Held c.in-Held.k = cc in rw q
