-- `feed_audio::times::list_same` meets its contract: `Listing.antt` has a turn. Assumes nothing.
use lib.ListN.{replicate}
use Rattle.stream.specs.Feed.{entries}
use Rattle.feed_audio.specs.Code.{measures_in}
use Rattle.feed_audio.proofs.Listing.{Listing}
use Rattle.feed_audio.proofs.times.list_same.Given as goal

abbrev pub invariant-loop-i : goal.invariant-loop-i
invariant-loop-i l = Listing l.skip l.last l.g (entries l.skip l.last l.g l.from (measures_in (replicate l.n l.m))) (replicate l.n l.m) l.n
    l.initial.ends l.initial.lengths l.initial.kept l.initial.frames l.ends l.lengths l.kept l.frames l.at l.left l.i
