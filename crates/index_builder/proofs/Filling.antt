-- The laws of filling: one turn of the loop, its end, and the list that is left. Assumes nothing.
use Prim.Native.Nat.{ℕ, ◌+◌, ◌^◌, ◌≤◌, ◌<◌}
use mathlib.Core.Path.{◌≡◌, refl, ◌∙◌}
use mathlib.Core.Bool.{Bool, true, false}
use mathlib.Core.List.{◌++◌}
use native.Mathlib.Omega.{arith}
use native.Mathlib.Numerals.{add-one}
use borrow.Author.Tests.{ltb-false}
use lib.Dec.{ltb}
use lib.ListN.{length, set, drop}
use lib.Seq.{set_out, sets, length-sets, sets-eq}
use Rattle.octets.specs.Octets.{Bytes}
use Rattle.refusal.specs.Told.{Told}
use Rattle.stream.specs.Readings.{Readings}
use Rattle.recording.specs.Pages.{pages_of}
use Rattle.recording.specs.Judging.{Judgement, whole, refused, judge_buffer}
use Rattle.index_search.specs.Index.{Index}
use Rattle.index_walk.specs.declared.Due.TheVariants.{Head}
use Rattle.index_walk.specs.declared.Walk.{Walk}
use Rattle.index_walk.specs.Records.{index_of}
use Rattle.index_walk.specs.Walk.{nowhere, next_of, begun_at, index_from}
use Rattle.index_walk.proofs.Walking.{left_at, nothing_left, all_left, Turned, makes, passes, moves, turned}
use Rattle.index_builder.specs.Building.{built_by, build, stored_by, Builds}
use Rattle.index_builder.specs.Filling.{filled_from, start_of}

-- ---- the loop

-- w is a walk over b, and with what it has left the list l becomes `end`
pub record Filling (b : Bytes) (end : Index) (w : Walk) (l : Index) : Type 0 where
  pub few : w.count ≤ w.at
  pub same : sets l w.count (left_at b w) ≡ end

pub filling_begins : (b : Bytes) (from : ℕ) (l : Index) → Filling b (filled_from b from l) (begun_at from) l
unfolding filled_from
filling_begins b from l = record { few = omega arith; same = refl }

pub filling_goes_on : (b : Bytes) (end : Index) (w : Walk) (l : Index) → w.at < length b → length b < 2 ^ 64 → length l < 2 ^ 63
    → Filling b end w l → Filling b end (next_of b w) (set l (next_of b w).slot (next_of b w).made)
filling_goes_on b end w l more fits short g = by (turned b w more fits g.few)
  where
    by : Turned b w → Filling b end (next_of b w) (set l (next_of b w).slot (next_of b w).made)
    by (makes slot count left) = record {
      few = omega (arith, g.few, moves b w more);
      same = rw (slot, count, add-one) (rw left at g.same);
    }
    by (passes slot count left) = record {
      few = omega (arith, g.few, moves b w more);
      same = rw (slot, count, set_out l nowhere (next_of b w).made (omega arith), ← left) g.same;
    }

pub filling_ends : (b : Bytes) (end : Index) (w : Walk) (l : Index) → length b ≤ w.at → Filling b end w l → l ≡ end
filling_ends b end w l h g = rw (nothing_left b w h) at g.same

-- ---- the list that is left

pub filled_length : (b : Bytes) (from : ℕ) (l : Index) → length (filled_from b from l) ≡ length l
unfolding filled_from
filled_length b from l = length-sets l 0 (index_from Head from (pages_of (drop from b)))

filled_at_end : (b : Bytes) (l : Index) → filled_from b (length b) l ≡ l
unfolding filled_from
filled_at_end b l = rw (nothing_left b (begun_at (length b)) (omega arith))

filled_at_start : (b : Bytes) (l : Index) → length (index_of (pages_of b)) ≤ length l
    → filled_from b 0 l ≡ index_of (pages_of b) ++ drop (length (index_of (pages_of b))) l
unfolding filled_from
filled_at_start b l h =
    let n : 0 + length (index_of (pages_of b)) ≡ length (index_of (pages_of b)) = omega arith in
    rw (all_left b) (sets-eq (index_of (pages_of b)) l 0 (omega arith) ∙ rw n)

filled_by : (b : Bytes) (l : Index) (j : Judgement) (t : Told ℕ) → t ≡ built_by j (index_of (pages_of b)) (length l)
    → filled_from b (start_of t (length b)) l ≡ stored_by t (index_of (pages_of b)) l
filled_by b l (refused n page) t e = rw e (filled_at_end b l)
filled_by b l (whole pages packets) t e = by (ltb (length l) (length (index_of (pages_of b)))) refl
  where
    by : (short : Bool) → ltb (length l) (length (index_of (pages_of b))) ≡ short
        → filled_from b (start_of t (length b)) l ≡ stored_by t (index_of (pages_of b)) l
    by true q = rw (e, q) (filled_at_end b l)
    by false q = rw (e, q) (filled_at_start b l (ltb-false (length l) (length (index_of (pages_of b))) q))

-- what building tells, and the list that it leaves
pub builds : (R : Readings) (b : Bytes) (l : Index) (t : Told ℕ) → t ≡ build R b (length l)
    → Builds R b t l (filled_from b (start_of t (length b)) l)
unfolding build
builds R b l t e = record { told = e; records = rw (← e) (filled_by b l (judge_buffer R b) t e) }
