-- What is proved of runs, in addition to the contract. Assumes nothing.
use Rattle.std.specs.Prelude.{ℕ, ◌<◌, ◌≡◌, true, List, [], ◌++◌, map, length, take, replicate}
use Rattle.std.proofs.Math.Option.{none}
use Rattle.octets.specs.Octets.{Bytes, Octets}
use Rattle.stream.specs.Readings.{Readings}
use Rattle.stream.specs.Feed.{Reader, start, Entry}
use Rattle.stream.specs.Lent.{Lent}
use Rattle.stream.specs.Feedings.{Feeding, finally, held_of, carry_left, HandedOn, stream, bytes_of}
use Rattle.stream.specs.Statements.{Determined}
use Rattle.page_end.specs.End.{end_at}
use Rattle.feed_pages.specs.Run.{is_full, cut, full, Ended, runs, started, feed_pages, Inside}
use Rattle.feed_pages.specs.Feedings.{run_feedings, numbers_of, last_number, together, entries_of}

-- a run never stops for lack of turns: more of them change nothing
abbrev pub EnoughTurns : Type 0
EnoughTurns =
    (R : Readings) (r : Reader) (m : Lent) (b : Bytes) → Octets b → (n : ℕ) → length b < n
    → runs n R b (started r) m ≡ feed_pages R r m b

-- a run stays within its buffer and its lists
abbrev pub RunFits : Type 0
RunFits =
    (R : Readings) (r : Reader) (m : Lent) (b : Bytes) → Octets b
    → Inside (feed_pages R r m b).reached b (feed_pages R r m b).lent

-- ---- a run is a list of feedings

-- F is what the run e fed of the buffer b to the reader r, m being lent. Each feeding gets the carry buffer as the last left
-- it. Each but a last one is accepted. The pages accepted, and the packets that they list, are those of the run.
pub record RunIs (R : Readings) (r : Reader) (m : Lent) (b : Bytes) (e : Ended) (F : List Feeding) : Type 0 where
  pub handed : HandedOn R r m.carry F
  pub reader : finally R r F ≡ e.reached.reader
  pub carry : carry_left R r m.carry F ≡ e.lent.carry
  pub pages : length (stream R r F) ≡ e.reached.pages
  pub bytes : together (bytes_of (stream R r F)) ≡ take e.reached.bytes b
  pub packets : length (entries_of (stream R r F)) ≡ e.reached.packets
  pub ends : take e.reached.packets e.lent.ends ≡ map (λ (n : Entry). n.end) (entries_of (stream R r F))
  pub lengths : take e.reached.packets e.lent.lengths ≡ map (λ (n : Entry). n.samples) (entries_of (stream R r F))
  pub kept : take e.reached.packets e.lent.kept ≡ map (λ (n : Entry). n.kept) (entries_of (stream R r F))
  pub frames : take e.reached.packets e.lent.frames ≡ map (λ (n : Entry). n.frames) (entries_of (stream R r F))
  pub numbers : numbers_of R r F ≡ replicate e.reached.pages none ++ last_number e.why
  pub when_cut : e.why ≡ cut → end_at b e.reached.bytes ≡ none
  pub when_full : e.why ≡ full → is_full e.reached.packets e.lent ≡ true

abbrev pub RunFeeds : Type 0
RunFeeds =
    (R : Readings) (r : Reader) (m : Lent) (b : Bytes) → Octets b
    → RunIs R r m b (feed_pages R r m b) (run_feedings R r m b)

-- ---- of what was left before the first feeding the held bytes alone count, and none of a reader just started

-- `old` and `new` agree up to the held count
pub record HandedAlike (R : Readings) (r : Reader) (old new : Bytes) (F : List Feeding) : Type 0 where
  pub handed : HandedOn R r new F
  pub carry : take (held_of (finally R r F).core.pending) (carry_left R r new F)
      ≡ take (held_of (finally R r F).core.pending) (carry_left R r old F)

abbrev pub HeldCounts : Type 0
HeldCounts =
    (R : Readings) (F : List Feeding) (r : Reader) (old new : Bytes) → HandedOn R r old F
    → take (held_of r.core.pending) old ≡ take (held_of r.core.pending) new → HandedAlike R r old new F

-- A run from a reader just started: its feedings are such as T1, T3 and T4 ask for. The reader and the carry buffer at its
-- end are those that the accepted pages alone determine.
pub record StartedIs (R : Readings) (e : Ended) (F : List Feeding) : Type 0 where
  pub handed : HandedOn R start [] F
  pub state : Determined R (stream R start F) e.reached.reader e.lent.carry

abbrev pub StartedRun : Type 0
StartedRun =
    (R : Readings) (m : Lent) (b : Bytes) → Octets b → StartedIs R (feed_pages R start m b) (run_feedings R start m b)
