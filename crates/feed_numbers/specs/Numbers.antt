-- A reader as sixteen numbers, for callers that can hold numbers only (RULES.md, 14). Any sixteen numbers represent a reader:
-- an unknown phase is Ended, an unknown unfinished packet is dropped, and an unknown position is a granule position. A number
-- that its field's width cannot hold counts modulo that width. Assumes nothing.
use Rattle.std.specs.Prelude.{ℕ, ◌%◌, ◌≡◌, List, [], ◌∷◌, eqb, get_or}
use Rattle.octets.specs.Pick.{pick}
use Rattle.granule.specs.declared.Position.{Position}
use Rattle.granule.specs.declared.Position.TheVariants.{Unset, Joined, At}
use Rattle.stream.specs.declared.Phase.{Phase}
use Rattle.stream.specs.declared.Phase.TheVariants.{First, Comment, Audio, Opened, Ended}
use Rattle.stream.specs.declared.Pending.{Pending}
use Rattle.stream.specs.declared.Pending.TheVariants.{Nothing, Held, Dropped}
use Rattle.stream.specs.Feed.{Reader}
use Rattle.stream.specs.Feedings.{held_of}

abbrev pub phase_number : Phase → ℕ
phase_number First = 0
phase_number Comment = 1
phase_number Audio = 2
phase_number Opened = 3
phase_number Ended = 4

abbrev pub pending_number : Pending → ℕ
pending_number Nothing = 0
pending_number (Held n) = 1
pending_number Dropped = 2

abbrev pub position_number : Position → ℕ
position_number Unset = 0
position_number Joined = 1
position_number (At g) = 2

abbrev pub granule_in : Position → ℕ
granule_in Unset = 0
granule_in Joined = 0
granule_in (At g) = g

-- the sixteen numbers: phase, unfinished packet, held bytes, position, granule, serial, sequence due, streams, pre-skip, samples
-- still to skip, the totals of kept, skipped and trimmed samples and of holes, and two zeros
unfoldable pub numbers_of : Reader → List ℕ
numbers_of r =
    phase_number r.core.phase ∷ pending_number r.core.pending ∷ held_of r.core.pending
    ∷ position_number r.core.position ∷ granule_in r.core.position ∷ r.core.serial ∷ r.core.next
    ∷ r.core.streams ∷ r.core.preskip ∷ r.tally.skip
    ∷ r.tally.kept ∷ r.tally.skipped ∷ r.tally.trimmed ∷ r.tally.hole ∷ 0 ∷ 0 ∷ []

-- ---- and back

unfoldable pub phase_from : ℕ → Phase
phase_from n = pick (eqb n 0) First (pick (eqb n 1) Comment (pick (eqb n 2) Audio (pick (eqb n 3) Opened Ended)))

unfoldable pub pending_from : ℕ → ℕ → Pending
pending_from n held = pick (eqb n 0) Nothing (pick (eqb n 1) (Held held) Dropped)

unfoldable pub position_from : ℕ → ℕ → Position
position_from n g = pick (eqb n 0) Unset (pick (eqb n 1) Joined (At g))

unfoldable pub reader_from : List ℕ → Reader
reader_from l = record {
  core = record {
    phase = phase_from (get_or l 0 0);
    pending = pending_from (get_or l 1 0) (get_or l 2 0);
    position = position_from (get_or l 3 0) (get_or l 4 0);
    serial = get_or l 5 0 % 4294967296;
    next = get_or l 6 0 % 4294967296;
    streams = get_or l 7 0 % 256;
    preskip = get_or l 8 0 % 65536;
  };
  tally = record {
    skip = get_or l 9 0 % 65536;
    kept = get_or l 10 0;
    skipped = get_or l 11 0;
    trimmed = get_or l 12 0;
    hole = get_or l 13 0;
  };
}

-- numbers that were made of a reader, and represent it
pub record StandFor (l : List ℕ) (r : Reader) : Type 0 where
  pub numbers : l ≡ numbers_of r
  pub back : reader_from l ≡ r
