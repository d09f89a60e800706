-- What starting, opening part way and feeding return to C and leave in their outputs, a reader being sixteen numbers (RULES.md,
-- 14). On a refusal every output stays, but for the carry buffer, which is as the rules of feeding say, and for the outputs of a
-- run, which tell of the pages accepted before the refusal. Assumes nothing.
use Rattle.std.specs.Prelude.{ℕ, ◌≡◌, List, [], ◌∷◌, eqb, get_or}
use Rattle.std.proofs.Math.Option.{Option, none, some}
use Rattle.octets.specs.Pick.{pick}
use Rattle.octets.specs.Octets.{Bytes}
use Rattle.refusal.specs.declared.Refusal.TheVariants.{UnfitFields}
use Rattle.refusal.specs.Numbers.{number_of}
use Rattle.refusal.specs.Told.{Told, gives, refuses, retold}
use Rattle.page_crc.specs.Crc.{page_crc}
use Rattle.stream.specs.declared.Counts.{Counts}
use Rattle.stream.specs.Readings.{readings}
use Rattle.stream.specs.Feed.{Reader, open_part_way, Taken, Fed, Feeds, feed}
use Rattle.stream.specs.Lent.{Lent}
use Rattle.feed_numbers.specs.Numbers.{numbers_of, reader_from}
use Rattle.feed_pages.specs.Run.{Why, refused, cut, full, Ended}
use Rattle.feed_pages.specs.State.{numbers_reached}
use Rattle.head_numbers.specs.Numbers.{fitting, head_from}
use Rattle.embulgri.specs.Answers.{stored}

-- ---- opening part way

-- 23, also of a number that its field's width cannot hold; or a reader
unfoldable pub open_told : List ℕ → Bytes → Told Reader
open_told f m = pick (fitting f) (open_part_way (head_from f m)) (refuses (number_of UnfitFields))

-- what a returned number tells, the state being `new`
abbrev pub told_opened : ℕ → List ℕ → Told Reader
told_opened n new = pick (eqb n 0) (gives (reader_from new)) (refuses n)

-- the returned number, and the state from `old` to `new`: it represents the reader that was opened
pub record OpenedIn (f : List ℕ) (m : Bytes) (number : ℕ) (old new : List ℕ) : Type 0 where
  pub opens : told_opened number new ≡ open_told f m
  pub state : new ≡ stored (retold numbers_of (open_told f m)) old

-- ---- feeding

-- packets listed, their samples, how many of these are kept, skipped and trimmed, and the hole before them
abbrev pub page_record : Counts → List ℕ
page_record c = c.packets ∷ c.samples ∷ c.kept ∷ c.skipped ∷ c.trimmed ∷ c.hole ∷ []

abbrev pub counts_from : List ℕ → Counts
counts_from l = record {
  packets = get_or l 0 0;
  samples = get_or l 1 0;
  kept = get_or l 2 0;
  skipped = get_or l 3 0;
  trimmed = get_or l 4 0;
  hole = get_or l 5 0;
}

-- what a returned number tells, the state being `new` and the page's record `out`
abbrev pub told_fed : ℕ → List ℕ → List ℕ → Told Taken
told_fed n new out = pick (eqb n 0) (gives (record { reader = reader_from new; counts = counts_from out })) (refuses n)

-- the reader of these numbers fed with a page
abbrev pub fed_of : List ℕ → Bytes → Lent → Fed
fed_of state page m = feed (readings page_crc) (reader_from state) m page

-- the returned number, the state from `old` to `new`, the lent memory from `before` to `after`, and the page's record from
-- `out` to `end`: the state represents the next reader
pub record FedIn (old : List ℕ) (page : Bytes) (before : Lent) (number : ℕ) (new : List ℕ) (after : Lent)
    (out end : List ℕ) : Type 0 where
  pub feeds : Feeds (readings page_crc) (reader_from old) page before (told_fed number new end) after
  pub state : new ≡ stored (retold (λ (t : Taken). numbers_of t.reader) (fed_of old page before).told) old
  pub counts : end ≡ stored (retold (λ (t : Taken). page_record t.counts) (fed_of old page before).told) out

-- ---- the pages of a buffer

-- no page ends at place 0
abbrev pub end_number : Option ℕ → ℕ
end_number none = 0
end_number (some e) = e

-- 0: the next page is not whole in the bytes; 1: fewer than 255 places are left for it; 2: it is refused
abbrev pub why_number : Why → ℕ
why_number cut = 0
why_number full = 1
why_number (refused n) = 2

-- 0 where no page is refused
abbrev pub refusal_number : Why → ℕ
refusal_number cut = 0
refusal_number full = 0
refusal_number (refused n) = n

-- bytes taken, pages accepted, packets listed, and why it stopped
abbrev pub run_record : Ended → List ℕ
run_record e = e.reached.bytes ∷ e.reached.pages ∷ e.reached.packets ∷ why_number e.why ∷ []

-- the returned number, the state from `old` to `new`, and the lent memory and the run's record at the end are those of the run e;
-- the state represents the reader reached
pub record PagesIn (e : Ended) (number : ℕ) (old new : List ℕ) (after : Lent) (out : List ℕ) : Type 0 where
  pub refusal : number ≡ refusal_number e.why
  pub counts : out ≡ run_record e
  pub state : new ≡ numbers_reached e.reached.pages e.reached.reader old
  pub reader : reader_from new ≡ e.reached.reader
  pub lent : after ≡ e.lent
