-- `feed_memory::append` meets its contract. Assumes nothing.
use mathlib.Core.Path.{◌≡◌}
use Rattle.stream.specs.declared.Phase.TheVariants.{Comment}
use Rattle.stream.specs.declared.Pending.TheVariants.{Nothing, Held}
use Rattle.feed_memory.proofs.append.Goals as goal

pub returns-in-Comment : goal.returns-in-Comment
returns-in-Comment c =
    let a = c.args in
    let q : a.pending ≡ Nothing = cc in
    let w : a.phase ≡ Comment = cc in
    rw (q, w) c.copy_at.ensures

pub returns-in-Held : goal.returns-in-Held
returns-in-Held c =
    let q : c.args.pending ≡ Held c.in-Held.n = cc in
    rw q c.copy_at-in-Held.ensures
