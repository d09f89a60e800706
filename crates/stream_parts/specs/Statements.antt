-- What is proved of a stream that is fed in parts, in addition to the contracts (RULES.md, 19). Assumes nothing.
use Rattle.std.specs.Prelude.{◌≡◌, ℕ, Bool, true, false, List, [], ◌∷◌, ◌++◌, map, length}
use Rattle.octets.specs.Octets.{Bytes, Octets}
use Rattle.stream.specs.declared.Phase.TheVariants.{Audio}
use Rattle.stream.specs.Page.{page_of, completes, last}
use Rattle.stream.specs.Readings.{Readings, readings}
use Rattle.stream.specs.Feed.{Reader, start, open_at}
use Rattle.stream.specs.Lent.{Lent, is_short}
use Rattle.stream.specs.Stream.{head_of}
use Rattle.stream.specs.Feedings.{Feeding, finally, carry_left, HandedOn, stream, bytes_of}
use Rattle.stream.specs.SameAnswers.{Twice, ones, others, SameRooms}
use Rattle.feed_numbers.specs.Numbers.{numbers_of, reader_from}
use Rattle.feed_pages.specs.Run.{Ended, past, feed_pages}
use Rattle.feed_pages.specs.Feedings.{numbers_of as refusalsOf}
use Rattle.stream_parts.specs.Agree.{Agree, agreeing}
use Rattle.stream_parts.specs.Totals.{whole_tally, TotalsFit, totals_after}
use Rattle.stream_parts.specs.Runs.{both}

-- ---- sixteen numbers

-- numbers that are found to agree are those of readers that agree
abbrev pub AgreeingAgree : Type 0
AgreeingAgree =
    (a b : List ℕ) (c d : Bytes) → agreeing a c b d ≡ true → Agree (reader_from a) (reader_from b) c d

-- all but the totals stays, and the totals are those of the whole
pub record AfterIs (r o e : List ℕ) : Type 0 where
  pub core : (reader_from (totals_after r o e)).core ≡ (reader_from e).core
  pub tally : (reader_from (totals_after r o e)).tally
      ≡ whole_tally (reader_from r).tally (reader_from o).tally (reader_from e).tally
  pub size : length (totals_after r o e) ≡ length e

abbrev pub TotalsRewritten : Type 0
TotalsRewritten = (r o e : List ℕ) → length e ≡ 16 → AfterIs r o e

-- ---- (a) readers that agree are told alike from there on: the same bytes are fed to both, each with its own lent memory

-- F to r and G to o: the same feedings are refused, by the same numbers; the pages accepted are the same, and so is all that is
-- told of them; the readers agree at the end, and the totals of r follow from those of o
pub record ToldAlike (R : Readings) (r o : Reader) (c d : Bytes) (F G : List Feeding) : Type 0 where
  pub refusals : refusalsOf R o G ≡ refusalsOf R r F
  pub pages : stream R o G ≡ stream R r F
  pub agree : Agree (finally R r F) (finally R o G) (carry_left R r c F) (carry_left R o d G)
  pub totals : (finally R r F).tally ≡ whole_tally r.tally o.tally (finally R o G).tally

-- c and d were left in the carry buffers before these feedings
abbrev pub AgreeingTold : Type 0
AgreeingTold =
    (R : Readings) (r o : Reader) (c d : Bytes) (ts : List Twice)
    → HandedOn R r c (ones ts) → HandedOn R o d (others ts) → SameRooms ts → Agree r o c d
    → TotalsFit r.tally → TotalsFit o.tally → ToldAlike R r o c d (ones ts) (others ts)

-- ---- (b) a run over two buffers joined is the run over the first and then that over the second, where the first took all of it

abbrev pub RunsJoin : Type 0
RunsJoin =
    (crc : Bytes → ℕ) (r : Reader) (m : Lent) (b c : Bytes) → Octets (b ++ c)
    → (e : Ended) → feed_pages (readings crc) r m b ≡ e → e.reached.bytes ≡ length b
    → feed_pages (readings crc) r m (b ++ c)
    ≡ both e (feed_pages (readings crc) e.reached.reader (past e.reached.packets e.lent) c)

-- ---- (c) a reader opened at a page agrees with the full one after the first page that completes a packet

abbrev pub pages_of : List Twice → List Bytes
pages_of = map (λ (t : Twice). t.bytes)

-- none of these pages has a lacing value below 255, so that none completes a packet
unfoldable pub NoneCompletes : List Twice → Type 0
NoneCompletes [] = Unit {0}
NoneCompletes (t ∷ ts) = (completes (page_of t.bytes) ≡ false) × NoneCompletes ts

unfoldable pub OthersHaveRoom : List Twice → Type 0
OthersHaveRoom [] = Unit {0}
OthersHaveRoom (t ∷ ts) = (is_short t.other ≡ false) × OthersHaveRoom ts

-- the reader opened with the header of the stream that F made
abbrev pub opened_after : Readings → List Feeding → Reader
opened_after R F = open_at (head_of R (bytes_of (stream R start F)))

-- F was fed to a reader just started, which is then past both headers. The pages ts, and m after them, are fed to it, and to a
-- reader that is opened there. The first reader accepts all of them. m is the first of them that completes a packet; it is not
-- marked last, and after it nothing is left to skip.
pub record PartBegins (R : Readings) (F : List Feeding) (ts : List Twice) (m : Twice) : Type 0 where
  pub full : HandedOn R start [] (F ++ ones (ts ++ m ∷ []))
  pub opened : HandedOn R (opened_after R F) [] (others (ts ++ m ∷ []))
  pub room : OthersHaveRoom (ts ++ m ∷ [])
  pub audio : (finally R start F).core.phase ≡ Audio
  pub accepted : bytes_of (stream R (finally R start F) (ones (ts ++ m ∷ []))) ≡ pages_of (ts ++ m ∷ [])
  pub before : NoneCompletes ts
  pub completes : completes (page_of m.bytes) ≡ true
  pub goes : last (page_of m.bytes) ≡ false
  pub skipped : (finally R start (F ++ ones (ts ++ m ∷ []))).tally.skip ≡ 0

-- the reader o accepts the pages too, and its numbers and carry buffer are found to agree with those of r
pub record PartJoins (R : Readings) (F : List Feeding) (ts : List Twice) (m : Twice) : Type 0 where
  pub accepts : bytes_of (stream R (opened_after R F) (others (ts ++ m ∷ []))) ≡ pages_of (ts ++ m ∷ [])
  pub agrees : agreeing
      (numbers_of (finally R start (F ++ ones (ts ++ m ∷ [])))) (carry_left R start [] (F ++ ones (ts ++ m ∷ [])))
      (numbers_of (finally R (opened_after R F) (others (ts ++ m ∷ []))))
      (carry_left R (opened_after R F) [] (others (ts ++ m ∷ [])))
      ≡ true

abbrev pub OpenedJoins : Type 0
OpenedJoins =
    (R : Readings) (F : List Feeding) (ts : List Twice) (m : Twice) → PartBegins R F ts m → PartJoins R F ts m
