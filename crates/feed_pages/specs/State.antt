-- A run with a reader in sixteen numbers (RULES.md, 14). Assumes nothing.
use Rattle.std.specs.Prelude.{ℕ, ◌≡◌, List, eqb}
use Rattle.octets.specs.Pick.{pick}
use Rattle.octets.specs.Octets.{Bytes}
use Rattle.page_crc.specs.Crc.{page_crc}
use Rattle.stream.specs.Readings.{readings}
use Rattle.stream.specs.Feed.{Reader}
use Rattle.stream.specs.Lent.{Lent}
use Rattle.feed_numbers.specs.Numbers.{numbers_of, reader_from}
use Rattle.feed_pages.specs.declared.StatePagesFed.{StatePagesFed}
use Rattle.feed_pages.specs.Run.{Ended, feed_pages}
use Rattle.feed_pages.specs.Answers.{told_stop}

-- the numbers after so many pages: those of the reader r, or what they were after none
unfoldable pub numbers_reached : ℕ → Reader → List ℕ → List ℕ
numbers_reached pages r old = pick (eqb pages 0) old (numbers_of r)

-- the pages of b fed to the reader of these numbers
abbrev pub run_from : List ℕ → Lent → Bytes → Ended
run_from old m b = feed_pages (readings page_crc) (reader_from old) m b

-- the answer r, the numbers from `old` to `new`, and the lent memory at the end are those of the run e; the numbers represent
-- the reader reached
pub record StateRun (e : Ended) (r : StatePagesFed) (old new : List ℕ) (after : Lent) : Type 0 where
  pub bytes : r.bytes ≡ e.reached.bytes
  pub pages : r.pages ≡ e.reached.pages
  pub packets : r.packets ≡ e.reached.packets
  pub why : told_stop r.stop ≡ e.why
  pub lent : after ≡ e.lent
  pub numbers : new ≡ numbers_reached e.reached.pages e.reached.reader old
  pub reader : reader_from new ≡ e.reached.reader
