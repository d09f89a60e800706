-- A run that accepts no page leaves its reader; what a run with a reader in sixteen numbers answers. Assumes nothing.
use Prim.Native.Nat.{ℕ, zero, suc, ◌≤◌}
use mathlib.Core.Path.{◌≡◌, refl, sym, ap, ◌∙◌}
use mathlib.Core.List.{List}
use native.Mathlib.Omega.{arith}
use Rattle.octets.specs.Octets.{Bytes, Octets}
use Rattle.page_crc.specs.Crc.{page_crc}
use Rattle.stream.specs.Readings.{Readings, readings}
use Rattle.stream.specs.Feed.{Reader as Known}
use Rattle.stream.specs.Lent.{Lent}
use Rattle.feed_numbers.specs.Numbers.{reader_from}
use Rattle.reader.specs.declared.Reader.{Reader}
use Rattle.reader.specs.Answers.{known_as}
use Rattle.feed_pages.specs.declared.PagesFed.{PagesFed}
use Rattle.feed_pages.specs.Run.{Reached, Turn, goes, stops, turn, Ended, follow, runs, started, feed_pages, Inside}
use Rattle.feed_pages.specs.Answers.{told_run}
use Rattle.feed_pages.specs.State.{numbers_reached, run_from, StateRun}
use Rattle.feed_pages.proofs.Turns.{turn-onward}
use Rattle.feed_pages.proofs.Runs.{begun}

-- from a to e: no fewer pages, and with as many the same reader
record Risen (a e : Reached) : Type 0 where
  pages : a.pages ≤ e.pages
  reader : e.pages ≡ a.pages → e.reader ≡ a.reader

module _ (R : Readings) (b : Bytes) (o : Octets b) where
  rises : (n : ℕ) (a : Reached) (m : Lent) → Inside a b m → Risen a (runs n R b a m).reached
  unfolding runs
  rises zero a m f = record { pages = omega arith; reader = λ same. refl }
  rises (suc n) a m f = by (rises n) (turn R b a m) refl
    where
      by : ((c : Reached) (l : Lent) → Inside c b l → Risen c (runs n R b c l).reached) → (t : Turn) → turn R b a m ≡ t
          → Risen a (follow (runs n R b) a t).reached
      by later (goes next l) e =
          let on = turn-onward R b o a m f e in
          let more = (later next l on.fits).pages in
          record { pages = omega (arith, on.page, more); reader = λ same. absurd (omega (arith, on.page, more, same)) }
      by later (stops why l) e = record { pages = omega arith; reader = λ same. refl }

  unmoved : (r : Known) (m : Lent) → (feed_pages R r m b).reached.pages ≡ 0 → (feed_pages R r m b).reached.reader ≡ r
  unfolding feed_pages
  unmoved r m none = (rises (suc _) (started r) m (begun r b m)).reader none

pub state_run : (old new : List ℕ) (m after : Lent) (b : Bytes) → Octets b → (r : Reader) (fed : PagesFed) → known_as r ≡ reader_from old
    → told_run fed after ≡ feed_pages (readings page_crc) (known_as r) m b
    → new ≡ numbers_reached fed.progress.pages (known_as fed.progress.reader) old
    → ((fed.progress.pages ≡ 0 → reader_from old ≡ known_as fed.progress.reader) → reader_from new ≡ known_as fed.progress.reader)
    → StateRun (run_from old m b)
    (record { bytes = fed.progress.bytes; pages = fed.progress.pages; packets = fed.progress.packets; stop = fed.stop }) old new after
state_run old new m after b o r fed is told numbers back =
    let e : told_run fed after ≡ run_from old m b = rw is at told in
    let same : known_as fed.progress.reader ≡ (run_from old m b).reached.reader = ap (λ (z : Ended). z.reached.reader) e in
    let count : fed.progress.pages ≡ (run_from old m b).reached.pages = ap (λ (z : Ended). z.reached.pages) e in
    record {
      bytes = ap (λ (z : Ended). z.reached.bytes) e;
      pages = count;
      packets = ap (λ (z : Ended). z.reached.packets) e;
      why = ap (λ (z : Ended). z.why) e;
      lent = ap (λ (z : Ended). z.lent) e;
      numbers = numbers ∙ ap (λ (z : Ended). numbers_reached z.reached.pages z.reached.reader old) e;
      reader = back (λ none. sym (same ∙ unmoved (readings page_crc) b o (reader_from old) m (sym count ∙ none))) ∙ same;
    }
