-- A run that goes on stays within its buffer and its lists. Assumes nothing.
use Prim.Native.Nat.{ℕ, suc, ◌+◌, ◌-◌, ◌≤◌, ◌<◌}
use mathlib.Core.Path.{◌≡◌, refl, sym, ap}
use mathlib.Core.Bool.{Bool, true, false}
use mathlib.Core.List.{List, ◌++◌, map}
use mathlib.Core.Option.{Option, none, some}
use native.Mathlib.Omega.{arith}
use lib.ListN.{length, take, drop, length-take, length-append, length-map}
use Rattle.octets.specs.Pick.{pick}
use Rattle.octets.specs.Octets.{Bytes, Octets}
use Rattle.octets.proofs.Parts.{octets-take, octets-drop}
use Rattle.refusal.specs.Told.{Told, gives, refuses}
use Rattle.stream.specs.Readings.{Readings}
use Rattle.stream.specs.Feed.{Entry, Taken, Fed, feed}
use Rattle.stream.specs.Lent.{Lent}
use Rattle.stream.specs.Statements.{HasFirst, Shows}
use Rattle.stream.proofs.Lists.{accepted-shows}
use Rattle.page_end.specs.End.{end_at}
use Rattle.page_end.proofs.Ends.{end-inside}
use Rattle.feed_pages.specs.Run.{is_full, past, whole, Reached, Why, goes, stops, full, after, turn_to, turn, runs, Inside}

-- stopping is not going on
stops-goes : {A : Type 0} {why : Why} {m n : Lent} {a : Reached} → stops why m ≡ goes a n → A
stops-goes e = let z : ◌≡◌ {A = ℕ} 0 1 = cc in absurd (omega arith)

-- n places filled, and those that an accepted page filled after them
places : (n : ℕ) (l end : List ℕ) (field : Entry → ℕ) (es : List Entry) (old : List ℕ) → n ≤ length l → HasFirst old end (map field es)
    → n + length es ≤ length (take n l ++ end)
places n l end field es old h is =
    let k = ap length is.first in
    omega (arith, k, length-map es field, length-take (length (map field es)) end, length-append (take n l) end, length-take n l)

-- a turn from a to `next`, with the lent memory n at its end
pub record Onward (a : Reached) (b : Bytes) (next : Reached) (n : Lent) : Type 0 where
  pub fits : Inside next b n
  pub moves : a.bytes < next.bytes
  pub page : next.pages ≡ a.pages + 1

module _ (R : Readings) (b : Bytes) (o : Octets b) (a : Reached) (m : Lent) (fits : Inside a b m) where
  -- the page that ends at e
  abbrev page : ℕ → Bytes
  page e = take (e - a.bytes) (drop a.bytes b)

  abbrev fed : ℕ → Fed
  fed e = feed R a.reader (past a.packets m) (page e)

  pub shows : (e : ℕ) (t : Taken) → (fed e).told ≡ gives t → Shows (past a.packets m) (fed e).lent (fed e).entries t.counts
  shows e t g = accepted-shows R a.reader (past a.packets m) (page e) t (octets-take (e - a.bytes) (drop a.bytes b) (octets-drop a.bytes b o)) g

  pub after-goes : (e : ℕ) (t : Taken) → (fed e).told ≡ gives t → end_at b a.bytes ≡ some e → {next : Reached} {n : Lent}
      → after a e (gives t) (whole a.packets m (fed e).lent) ≡ goes next n → Onward a b next n
  after-goes e t g h {next} {n} q =
      let there = end-inside b a.bytes e h in
      let is = shows e t g in
      let x = places a.packets m.ends (fed e).lent.ends (λ (n : Entry). n.end) (fed e).entries (drop a.packets m.ends) fits.ends is.ends in
      let y = places a.packets m.lengths (fed e).lent.lengths (λ (n : Entry). n.samples) (fed e).entries (drop a.packets m.lengths) fits.lengths is.lengths in
      let z = places a.packets m.kept (fed e).lent.kept (λ (n : Entry). n.kept) (fed e).entries (drop a.packets m.kept) fits.kept is.kept in
      let w = places a.packets m.frames (fed e).lent.frames (λ (n : Entry). n.frames) (fed e).entries (drop a.packets m.frames) fits.frames is.frames in
      let few = fits.few in
      let i : e ≡ next.bytes = cc in
      let j : a.pages + 1 ≡ next.pages = cc in
      let k : a.packets + t.counts.packets ≡ next.packets = cc in
      let l : whole a.packets m (fed e).lent ≡ n = cc in
      rw (← i, ← j, ← k, ← l, is.packets)
      (record { fits = record { bytes = there.within; few = omega (arith, there.after); ends = x; lengths = y; kept = z; frames = w }; moves = there.after; page = refl })

  pub turn-onward : {next : Reached} {n : Lent} → turn R b a m ≡ goes next n → Onward a b next n
  unfolding turn
  turn-onward {next} {n} q = by (is_full a.packets m) (end_at b a.bytes) refl q
    where
      fed-goes : (e : ℕ) → end_at b a.bytes ≡ some e → (t : Told Taken) → (fed e).told ≡ t → after a e t (whole a.packets m (fed e).lent) ≡ goes next n → Onward a b next n
      fed-goes e h (gives t) g k = after-goes e t g h k
      fed-goes e h (refuses t) g k = stops-goes k

      by : (x : Bool) (y : Option ℕ) → end_at b a.bytes ≡ y → pick x (stops full m) (turn_to R b a m y) ≡ goes next n → Onward a b next n
      by true y h k = stops-goes k
      by false none h k = stops-goes k
      by false (some e) h k = fed-goes e h (fed e).told refl k

  -- the places filled stay where a turn stops
  stays : (n : ℕ) (l end : List ℕ) → n ≤ length l → n ≤ length (take n l ++ end)
  stays n l end h = omega (arith, length-append (take n l) end, length-take n l)

  pub turn-stops : {why : Why} {n : Lent} → turn R b a m ≡ stops why n → Inside a b n
  unfolding turn
  turn-stops {why} {n} q = by (is_full a.packets m) (end_at b a.bytes) q
    where
      fed-stops : (e : ℕ) (t : Told Taken) → after a e t (whole a.packets m (fed e).lent) ≡ stops why n → Inside a b n
      fed-stops e (gives t) k = stops-goes (sym k)
      fed-stops e (refuses t) k =
          let l : whole a.packets m (fed e).lent ≡ n = cc in
          rw (← l) (record {
            bytes = fits.bytes;
            few = fits.few;
            ends = stays a.packets m.ends (fed e).lent.ends fits.ends;
            lengths = stays a.packets m.lengths (fed e).lent.lengths fits.lengths;
            kept = stays a.packets m.kept (fed e).lent.kept fits.kept;
            frames = stays a.packets m.frames (fed e).lent.frames fits.frames;
          })

      by : (x : Bool) (y : Option ℕ) → pick x (stops full m) (turn_to R b a m y) ≡ stops why n → Inside a b n
      by true y k = let l : m ≡ n = cc in rw (← l) fits
      by false none k = let l : m ≡ n = cc in rw (← l) fits
      by false (some e) k = fed-stops e (fed e).told k

-- one turn off the front of a run
module _ (R : Readings) (b : Bytes) (a : Reached) (m : Lent) (k : ℕ) where
  pub run_goes : {next : Reached} {n : Lent} → goes next n ≡ turn R b a m → runs (suc k) R b a m ≡ runs k R b next n
  unfolding runs
  run_goes e = rw (← e)

  pub run_stops : {why : Why} {n : Lent} → stops why n ≡ turn R b a m → runs (suc k) R b a m ≡ record { reached = a; why = why; lent = n }
  unfolding runs
  run_stops e = rw (← e)
