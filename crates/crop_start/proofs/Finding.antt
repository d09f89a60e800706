-- The walk from its first page to its end, and what is told. Assumes nothing.
use Prim.Native.Nat.{ℕ, suc, ◌+◌, ◌-◌, ◌≤◌}
use mathlib.Core.Path.{◌≡◌, refl, sym, ap, subst, ◌∙◌}
use mathlib.Core.Bool.{false}
use mathlib.Core.List.{[]}
use mathlib.Core.Option.{none}
use native.Mathlib.Omega.{arith}
use lib.ListN.{length}
use Rattle.octets.specs.Octets.{Bytes}
use Rattle.refusal.specs.Told.{refuses}
use Rattle.page_crc.specs.Crc.{page_crc}
use Rattle.stream.specs.Readings.{Readings, readings}
use Rattle.stream.specs.Feed.{Reader as Known, start}
use Rattle.reader.specs.declared.Reader.{Reader}
use Rattle.reader.specs.Answers.{known_as}
use Rattle.recording.specs.Pages.{pages_of}
use Rattle.recording.specs.Judging.{whole, refused, first_refused, fresh, judge_buffer}
use Rattle.recording.specs.Statements.{After}
use Rattle.recording.proofs.Walking.{walk_begins}
use Rattle.recording_pages.proofs.Places.{at_first, at_end_lem}
use Rattle.std.specs.Prelude.{Option, Some, None, ok_or}
use Rattle.refusal.specs.declared.Refusal.TheVariants.{NoCropStart}
use Rattle.crop_start.specs.declared.CropStart.{CropStart}
use Rattle.crop_start.specs.declared.Walk.{Walk}
use Rattle.crop_start.specs.Start.{best_start, told_best, start_found}
use Rattle.crop_start.specs.Code.{told_start, best_as, Walked}
use Rattle.crop_start.proofs.Starts.{best-first, best-past}

abbrev R : Readings
R = readings page_crc

-- before any page
pub walk_begun : (b : Bytes) (position : ℕ) (r : Reader) (carry : Bytes) → first_refused R fresh 0 (pages_of b) ≡ none → known_as r ≡ start
    → Walked b position (record { reader = r; page = 0; at = 0; best = None }) carry
walk_begun b position r carry ok e =
    let first = at_first b in
    record {
      accepted = ok;
      begins = first.begins;
      place = first.place;
      few = first.few;
      after = subst (λ (k : Known). After R [] k carry) (sym e) (walk_begins R carry);
      best = sym (best-first R (pages_of b) position);
    }

-- at the end of the stream b, of the pages before page n
pub best-at_end : (b : Bytes) (position : ℕ) (w : Walk) (carry : Bytes) (n : ℕ) → Walked b position w carry → length b ≤ w.at → w.page ≤ n
    → best_as w.best ≡ best_start R (pages_of b) position n
best-at_end b position w carry n u h few =
    let all : n - w.page + w.page ≡ n = omega arith in
    let past = best-past R (pages_of b) position w.page (n - w.page)
    (at_end_lem b w.page w.at (record { begins = u.begins; place = u.place; few = u.few }) h) in
    u.best ∙ sym past ∙ ap (best_start R (pages_of b) position) all

-- ---- what is told

-- the best page, or 29
pub start_told : (best : Option CropStart) → told_start (ok_or best NoCropStart) ≡ told_best (best_as best)
start_told (Some s) = refl
start_told None = refl

module _ (b : Bytes) (last position : ℕ) where
  pub found-whole : (pages packets : ℕ) (best : Option CropStart) → judge_buffer R b ≡ whole pages packets → best_as best ≡ best_start R (pages_of b) position (last + 1)
      → told_best (best_as best) ≡ start_found R b last position
  unfolding start_found
  found-whole pages packets best j e =
      let one : last + 1 ≡ suc last = omega arith in
      ap told_best (e ∙ ap (best_start R (pages_of b) position) one) ∙ rw j

  pub found-refused : (n k : ℕ) → judge_buffer R b ≡ refused n k → refuses n ≡ start_found R b last position
  unfolding start_found
  found-refused n k j = rw j
