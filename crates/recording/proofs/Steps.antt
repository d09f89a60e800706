-- A step of judging: one run of pages, and what it leads to. Assumes nothing.
use Rattle.std.specs.Prelude.{Result, Ok, Err}
use Prim.Native.Nat.{ℕ, suc, ◌+◌, ◌-◌, ◌<◌}
use mathlib.Core.Path.{◌≡◌, refl, sym, ap, ap₂, subst, ◌∙◌}
use mathlib.Core.Bool.{false}
use mathlib.Core.List.{[], ◌∷◌}
use native.Mathlib.Omega.{arith}
use borrow.Author.Tests.{lt-ltb}
use lib.ListN.{length, take, drop, length-drop}
use lib.Seq.{take_all, drop-drop}
use Rattle.octets.specs.Octets.{Bytes}
use Rattle.stream.specs.Readings.{Readings, readings}
use Rattle.stream.specs.Feed.{Reader, view, start}
use Rattle.stream.specs.Lent.{Lent, short_carry, is_short}
use Rattle.stream.proofs.Pieces.{or_right}
use Rattle.reader.specs.declared.Reader.{Reader as Reading}
use Rattle.reader.specs.Answers.{known_as}
use Rattle.feed_pages.specs.declared.Stop.{Stop}
use Rattle.feed_pages.specs.declared.Stop.TheVariants.{Refused as Stopped, Cut, Full}
use Rattle.feed_pages.specs.declared.PagesFed.{PagesFed}
use Rattle.feed_pages.specs.Run.{is_full, Ended, started, feed_pages}
use Rattle.feed_pages.specs.Answers.{reached, told_stop, told_run}
use Rattle.recording.specs.declared.Accepted.{Accepted}
use Rattle.recording.specs.declared.Whole.{Whole}
use Rattle.recording.specs.declared.RefusedAt.{RefusedAt}
use Rattle.std.specs.declared.ops.ControlFlow.{ControlFlow}
use Rattle.std.specs.declared.ops.ControlFlow.TheVariants.{Continue, Break}
use Rattle.recording.specs.Pages.{pages_of}
use Rattle.recording.specs.Judging.{judge_buffer}
use Rattle.recording.specs.Code.{judge_from}
use Rattle.recording.specs.Answers.{told_judged, at_end, judge_after, Step, Next, goes, next_as, with_run, next_by, next_of, SumsFit, judge_next, Within, Ready, Onward, StepIs}
use Rattle.recording.proofs.Judging.{from-fresh}
use Rattle.recording.proofs.Runs.{at_cut, left, stopped, Judges, run_judges}

-- by how many bytes are left
by_length : (r : Reader) (rest : Bytes) (k n : ℕ) → at_cut r rest k n ≡ at_end r (length rest) k n
by_length r [] k n = refl
by_length r (x ∷ rest) k n = rw (lt-ltb 0 (suc (length rest)) (omega arith))

-- no place is filled yet
places : (m : Lent) → is_short m ≡ false → is_full 0 m ≡ false
unfolding is_full is_short
places m e =
    let x : length m.ends - 0 ≡ length m.ends = omega arith in
    let y : length m.lengths - 0 ≡ length m.lengths = omega arith in
    let z : length m.kept - 0 ≡ length m.kept = omega arith in
    let w : length m.frames - 0 ≡ length m.frames = omega arith in
    rw (x, y, z, w) (or_right (short_carry (length m.carry)) _ e)

-- m is lent to the run f in the buffer b after the pages a, and is `end` at its end
module _ (crc : Bytes → ℕ) (b : Bytes) (a : Accepted) (m end : Lent) (f : PagesFed) (ready : Ready b a m)
    (is : told_run f end ≡ feed_pages (readings crc) (known_as a.reader) m (take (length b - a.bytes) (drop a.bytes b))) where
  abbrev R : Readings
  R = readings crc

  abbrev part : Bytes
  part = drop a.bytes b

  judges : Judges crc part a.pages a.packets (started (known_as a.reader)) m (told_run f end)
  judges =
      let all : take (length b - a.bytes) (drop a.bytes b) ≡ part = take_all (length b - a.bytes) (drop a.bytes b) (omega (arith, length-drop a.bytes b)) in
      subst (λ (z : Ended). Judges crc part a.pages a.packets (started (known_as a.reader)) m z)
      (sym (is ∙ ap (feed_pages R (known_as a.reader) m) all)) (run_judges crc part a.pages a.packets (known_as a.reader) m ready.room)

  pub sums-fit : SumsFit a (length b) f
  sums-fit =
      let j = judges in
      let w = ready.within in
      record {
        bytes = omega (arith, j.inside, w.bytes, length-drop a.bytes b);
        pages = omega (arith, j.inside, j.pages, w.bytes, w.pages, length-drop a.bytes b);
        packets = omega (arith, j.inside, j.packets, w.bytes, w.packets, length-drop a.bytes b);
      }

  next-left : (w : Stop) → f.stop ≡ w → judge_next R b (next_by w (with_run a f) (length b)) end.carry ≡ stopped crc part a.pages a.packets (reached f.progress) (told_stop w) end
  next-left (Stopped why) e = refl
  next-left Cut e =
      let gone : length (drop f.progress.bytes part) ≡ length b - (a.bytes + f.progress.bytes) = omega (arith, length-drop f.progress.bytes part, length-drop a.bytes b) in
      ap (λ (n : ℕ). at_end (known_as f.progress.reader) n (a.pages + f.progress.pages) (a.packets + f.progress.packets)) (sym gone)
      ∙ sym (by_length (known_as f.progress.reader) (drop f.progress.bytes part) (a.pages + f.progress.pages) (a.packets + f.progress.packets))
  next-left Full e =
      ap (λ (d : Bytes). judge_from R (view (known_as f.progress.reader).core end.carry) (a.pages + f.progress.pages) (a.packets + f.progress.packets) (pages_of d))
      (sym (drop-drop f.progress.bytes a.bytes b))

  next-onward : (w : Stop) → f.stop ≡ w → Onward b a (next_by w (with_run a f) (length b))
  next-onward (Stopped why) e = tt
  next-onward Cut e = tt
  next-onward Full e =
      let j = judges in
      let s = sums-fit in
      let moved = j.moved (places m ready.room) (ap told_stop e) in
      (omega (arith, moved), record { bytes = s.bytes; pages = omega (arith, j.pages, ready.within.pages); packets = omega (arith, j.packets, ready.within.packets) })

  begun : left crc part a.pages a.packets (started (known_as a.reader)) m ≡ judge_after R b a m.carry
  begun =
      let i : a.pages + 0 ≡ a.pages = omega arith in
      let j : a.packets + 0 ≡ a.packets = omega arith in
      ap₂ (λ (x y : ℕ). judge_from R (view (known_as a.reader).core m.carry) x y (pages_of part)) i j

  pub step_is : (r : Step) → next_as r ≡ next_of a (length b) f → StepIs R b a m.carry end.carry r
  unfolding next_of
  step_is r e = record {
    same = ap (λ (x : Next). judge_next R b x end.carry) e ∙ next-left f.stop refl ∙ sym judges.same ∙ begun;
    onward = subst (Onward b a) (sym e) (next-onward f.stop refl);
  }

-- ---- the steps one after the other

module _ (R : Readings) (b : Bytes) (a : Accepted) (old new : Bytes) {r : Step} (is : StepIs R b a old new r) where
  pub step_on : {d : Accepted} → r ≡ Continue d → (judge_after R b d new ≡ judge_after R b a old) × (a.bytes < d.bytes) × Within b d
  step_on {d} e =
      let n : next_as r ≡ goes d = ap next_as e in
      let o : Onward b a (goes d) = subst (Onward b a) n is.onward in
      (sym (ap (λ (x : Next). judge_next R b x new) n) ∙ is.same, o.0, o.1)

  pub step_ends : {j : Result Whole RefusedAt} → r ≡ Break j → told_judged j ≡ judge_after R b a old
  step_ends {j} e = sym (ap (λ (x : Next). judge_next R b x new) (ap next_as e)) ∙ is.same

pub from_start : (R : Readings) (b carry : Bytes) (r : Reading) → known_as r ≡ start
    → judge_after R b (record { reader = r; bytes = 0; pages = 0; packets = 0 }) carry ≡ judge_buffer R b
from_start R b carry r e = ap (λ (k : Reader). judge_from R (view k.core carry) 0 0 (pages_of b)) e ∙ from-fresh R (pages_of b)
