-- `tags_replaygain::any_from` meets its contract. The loop's invariant: what is left of the comments decides. Assumes nothing.
use Prim.Native.Nat.{◌-◌}
use Rattle.tags_replaygain.proofs.Comments.{Left}
use Rattle.tags_replaygain.proofs.any_from.Given as goal

abbrev pub invariant-loop-i : goal.invariant-loop-i
invariant-loop-i l = Left l.b l.n l.start l._i l.at
