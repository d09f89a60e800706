-- `feed_lacing::scan_page` meets its contract. Assumes nothing.
use mathlib.Core.Path.{◌≡◌, ap, ◌∙◌}
use native.Mathlib.Omega.{arith}
use lib.ListN.{length-drop}
use lib.Seq.{take_all}
use Rattle.stream.specs.declared.Pending.TheVariants.{Nothing, Held, Dropped}
use Rattle.feed_lacing.specs.Scan.{scan_of}
use Rattle.feed_lacing.proofs.scan_page.Goals as goal

pub returns-in-Nothing : goal.returns-in-Nothing
returns-in-Nothing c =
    let q : c.args.pending ≡ Nothing = cc in rw q c.scan_new.ensures

pub returns-in-Held : goal.returns-in-Held
returns-in-Held c =
    let q : c.args.pending ≡ Held c.in-Held.n = cc in
    rw q c.scan_from.ensures

pub returns-in-Dropped : goal.returns-in-Dropped
returns-in-Dropped c =
    let q : c.args.pending ≡ Dropped = cc in
    rw q (c.scan_from-in-Dropped.ensures
    ∙ ap (scan_of 0) (take_all _ _ (omega (arith, length-drop c.after_first-from.result c.args.lacing.now)) ∙ c.after_first-from.ensures.values))
