-- `feed_lacing::is_long` meets its contract. Assumes nothing.
use mathlib.Core.Path.{◌≡◌}
use native.Mathlib.Omega.{arith}
use Rattle.stream.specs.Feed.{carried_in}
use Rattle.stream.specs.Packets.{is_long}
use Rattle.feed_lacing.proofs.Scanning.{none_is_long}
use Rattle.feed_lacing.proofs.is_long.Goals as goal

pub returns : goal.returns
returns c carry =
    let long : c.is_none.result ≡ is_long (carried_in c.args.pending carry) c.args.lacing.now =
    none_is_long c.args.pending c.args.lacing.now carry c.scan_page.result c.is_none.result c.scan_page.ensures c.is_none.ensures in
    grind (arith, long)
