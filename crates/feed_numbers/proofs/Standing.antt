-- A reader's numbers represent the reader. Assumes nothing.
use Prim.Native.Nat.{◌%◌, ◌<◌}
use mathlib.Core.Path.{◌≡◌, refl}
use native.Mathlib.Omega.{arith}
use Rattle.granule.specs.declared.Position.{Position}
use Rattle.granule.specs.declared.Position.TheVariants.{Unset, Joined, At}
use Rattle.stream.specs.declared.Phase.{Phase}
use Rattle.stream.specs.declared.Phase.TheVariants.{First, Comment, Audio, Opened, Ended}
use Rattle.stream.specs.declared.Pending.{Pending}
use Rattle.stream.specs.declared.Pending.TheVariants.{Nothing, Held, Dropped}
use Rattle.stream.specs.declared.Core.{Core}
use Rattle.stream.specs.declared.Tally.{Tally}
use Rattle.stream.specs.Feed.{reader_of}
use Rattle.stream.specs.Feedings.{held_of}
use Rattle.feed_numbers.specs.Numbers.{phase_number, pending_number, position_number, granule_in, numbers_of, StandFor, phase_from, pending_from, position_from, reader_from}

phase-back : (ph : Phase) → phase_from (phase_number ph) ≡ ph
unfolding phase_from
phase-back First = refl
phase-back Comment = refl
phase-back Audio = refl
phase-back Opened = refl
phase-back Ended = refl

pending-back : (k : Pending) → pending_from (pending_number k) (held_of k) ≡ k
unfolding pending_from
pending-back Nothing = refl
pending-back (Held n) = refl
pending-back Dropped = refl

position-back : (x : Position) → position_from (position_number x) (granule_in x) ≡ x
unfolding position_from
position-back Unset = refl
position-back Joined = refl
position-back (At g) = refl

pub stands : (k : Core) (n : Tally)
    → k.serial < 4294967296 → k.next < 4294967296 → k.streams < 256 → k.preskip < 65536 → n.skip < 65536
    → StandFor (numbers_of (reader_of k n)) (reader_of k n)
unfolding numbers_of reader_from
stands k n a b c d e =
    let u : k.serial % 4294967296 ≡ k.serial = omega arith in
    let v : k.next % 4294967296 ≡ k.next = omega arith in
    let w : k.streams % 256 ≡ k.streams = omega arith in
    let y : k.preskip % 65536 ≡ k.preskip = omega arith in
    let z : n.skip % 65536 ≡ n.skip = omega arith in
    record { numbers = refl; back = rw (phase-back k.phase, pending-back k.pending, position-back k.position, u, v, w, y, z) }
