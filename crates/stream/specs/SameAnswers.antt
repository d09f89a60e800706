-- Congruence of all that a feeding tells. Two readers have equal cores, each has its own lent memory, and the carry buffers
-- agree up to the held count. They are told the same number, stamps, lengths and frames, and where their tallies are equal the
-- same of everything. They stay so. Assumes nothing.
use Rattle.std.specs.Prelude.{ℕ, ◌≡◌, true, List, [], ◌∷◌, map, take}
use Rattle.octets.specs.Octets.{Bytes}
use Rattle.refusal.specs.declared.Refusal.TheVariants.{ShortRoom}
use Rattle.refusal.specs.Numbers.{number_of}
use Rattle.refusal.specs.Told.{Told, refuses, retold}
use Rattle.stream.specs.Readings.{Readings}
use Rattle.stream.specs.Rules.{Stamp}
use Rattle.stream.specs.Feed.{Reader, Entry, stamp_of, Taken, Fed, feed}
use Rattle.stream.specs.Lent.{Lent, is_short}
use Rattle.stream.specs.Feedings.{Feeding, feed_in, reader_after, finally, held_of, carry_left, HandedOn}

-- ---- what is told

-- all of it: the next reader and the page's record, or a number; and the entries
pub record Answer : Type 0 where
  pub told : Told Taken
  pub entries : List Entry

abbrev pub answer : Fed → Answer
answer f = record { told = f.told; entries = f.entries }

-- what the samples still to skip have no part in: the stamps, lengths and frames, and the page's record but for what is kept and
-- skipped; or a number
pub record Timing : Type 0 where
  pub stamps : List Stamp
  pub packets : ℕ
  pub samples : ℕ
  pub trimmed : ℕ
  pub hole : ℕ

abbrev pub timing : Fed → Told Timing
timing f = retold (λ (t : Taken). record {
  stamps = map stamp_of f.entries;
  packets = t.counts.packets;
  samples = t.counts.samples;
  trimmed = t.counts.trimmed;
  hole = t.counts.hole;
}) f.told

-- without the room asked it is 1 and nothing else, whatever the reader and the bytes
abbrev pub ShortTold : Type 0
ShortTold =
    (R : Readings) (r : Reader) (m : Lent) (b : Bytes) → is_short m ≡ true
    → feed R r m b ≡ record { told = refuses (number_of ShortRoom); entries = []; lent = m }

-- ---- one feeding

-- equal cores, and carry buffers c and d that agree up to the held count; past it they are free
pub record CoresAgree (r s : Reader) (c d : Bytes) : Type 0 where
  pub core : s.core ≡ r.core
  pub held : take (held_of r.core.pending) d ≡ take (held_of r.core.pending) c

-- both have the room asked, or neither has
abbrev pub SameRoom : Lent → Lent → Type 0
SameRoom m e = is_short e ≡ is_short m

abbrev pub feeding : Bytes → Lent → Feeding
feeding b m = record { bytes = b; lent = m }

pub record TimedAlike (R : Readings) (r s : Reader) (f g : Feeding) : Type 0 where
  pub told : timing (feed_in R s g) ≡ timing (feed_in R r f)
  pub equal : CoresAgree (reader_after R r f) (reader_after R s g) (feed_in R r f).lent.carry (feed_in R s g).lent.carry

abbrev pub SameTiming : Type 0
SameTiming =
    (R : Readings) (r s : Reader) (m e : Lent) (b : Bytes) → SameRoom m e → CoresAgree r s m.carry e.carry
    → TimedAlike R r s (feeding b m) (feeding b e)

-- the next readers are in the answers
pub record AnsweredAlike (R : Readings) (r s : Reader) (f g : Feeding) : Type 0 where
  pub answer : answer (feed_in R s g) ≡ answer (feed_in R r f)
  pub equal : CoresAgree (reader_after R r f) (reader_after R s g) (feed_in R r f).lent.carry (feed_in R s g).lent.carry
  pub tally : (reader_after R s g).tally ≡ (reader_after R r f).tally

abbrev pub SameAnswer : Type 0
SameAnswer =
    (R : Readings) (r s : Reader) (m e : Lent) (b : Bytes) → SameRoom m e → CoresAgree r s m.carry e.carry
    → s.tally ≡ r.tally → AnsweredAlike R r s (feeding b m) (feeding b e)

-- ---- lists of feedings: the same bytes to both, each with its own lent memory

pub record Twice : Type 0 where
  pub bytes : Bytes
  pub one : Lent
  pub other : Lent

abbrev pub ones : List Twice → List Feeding
ones = map (λ (t : Twice). feeding t.bytes t.one)

abbrev pub others : List Twice → List Feeding
others = map (λ (t : Twice). feeding t.bytes t.other)

unfoldable pub SameRooms : List Twice → Type 0
SameRooms [] = Unit {0}
SameRooms (t ∷ ts) = SameRoom t.one t.other × SameRooms ts

-- what each feeding tells
unfoldable pub answers : Readings → Reader → List Feeding → List Answer
answers R r [] = []
answers R r (f ∷ fs) = answer (feed_in R r f) ∷ answers R (reader_after R r f) fs

unfoldable pub timings : Readings → Reader → List Feeding → List (Told Timing)
timings R r [] = []
timings R r (f ∷ fs) = timing (feed_in R r f) ∷ timings R (reader_after R r f) fs

-- c and d were left in the carry buffers before these feedings
pub record TimedAll (R : Readings) (r s : Reader) (c d : Bytes) (F G : List Feeding) : Type 0 where
  pub told : timings R s G ≡ timings R r F
  pub equal : CoresAgree (finally R r F) (finally R s G) (carry_left R r c F) (carry_left R s d G)

abbrev pub SameTimings : Type 0
SameTimings =
    (R : Readings) (r s : Reader) (c d : Bytes) (ts : List Twice)
    → HandedOn R r c (ones ts) → HandedOn R s d (others ts) → SameRooms ts → CoresAgree r s c d
    → TimedAll R r s c d (ones ts) (others ts)

pub record AnsweredAll (R : Readings) (r s : Reader) (c d : Bytes) (F G : List Feeding) : Type 0 where
  pub told : answers R s G ≡ answers R r F
  pub equal : CoresAgree (finally R r F) (finally R s G) (carry_left R r c F) (carry_left R s d G)
  pub tally : (finally R s G).tally ≡ (finally R r F).tally

abbrev pub SameAnswers : Type 0
SameAnswers =
    (R : Readings) (r s : Reader) (c d : Bytes) (ts : List Twice)
    → HandedOn R r c (ones ts) → HandedOn R s d (others ts) → SameRooms ts → CoresAgree r s c d → s.tally ≡ r.tally
    → AnsweredAll R r s c d (ones ts) (others ts)
