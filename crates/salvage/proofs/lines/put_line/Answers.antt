-- `salvage::lines::put_line` meets its contract. Assumes nothing.
use Rattle.std.proofs.Common.{refl, arith, rules}
use Rattle.salvage.proofs.lines.put_line.Goals as goal

pub returns-then-told : goal.returns-then-told
returns-then-told c =
    rw c.if-told.true
    (record {
      next = refl;
      most = omega arith;
      stored = record { whats = c.store_at.ensures; spots = c.store_at-then-told.ensures; counts = c.store_at-then-told-2.ensures };
    })

pub returns : goal.returns
returns c = rw c.if-told.false (record { next = omega arith; most = omega arith; stored = record { whats = refl; spots = refl; counts = refl } })
