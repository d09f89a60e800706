-- `feed_audio::times::counts_of` meets its contract: each sample is kept, skipped or trimmed. Assumes nothing.
use Prim.Native.Nat.{◌+◌, ◌-◌}
use mathlib.Core.Path.{◌≡◌}
use native.Mathlib.Omega.{arith}
use Rattle.granule.specs.Samples.{skipped_of}
use Rattle.granule.proofs.Counting.{samples_shared}
use Rattle.feed_audio.proofs.times.counts_of.Goals as goal

-- kept, skipped and trimmed make all
shared : (c : goal.After-kept-kept)
    → c.kept-kept.result + skipped_of c.args.skip c.args.last c.args.g c.args.place.from c.args.d + c.args.place.trimmed ≡ c.args.d
shared c =
    let a = c.args in
    rw (c.kept-kept.ensures, c.requires) (samples_shared a.skip a.last a.g a.place.from a.d)

pub overflow_sub-result : goal.overflow_sub-result
overflow_sub-result c = omega (arith, shared c)

pub overflow_sub-result-2 : goal.overflow_sub-result-2
overflow_sub-result-2 c = omega (arith, shared c.before)

pub returns : goal.returns
returns c =
    let a = c.args in
    let all = shared c.before in
    let e : a.d - c.kept-kept.result - a.place.trimmed ≡ skipped_of a.skip a.last a.g a.place.from a.d = omega arith in
    rw (e, c.kept-kept.ensures, c.requires)
