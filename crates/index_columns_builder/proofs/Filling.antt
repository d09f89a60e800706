-- The laws of filling three lists: one turn of the loop, and its end. Assumes nothing.
use Prim.Native.Nat.{ℕ, ◌^◌, ◌≤◌, ◌<◌}
use mathlib.Core.Path.{◌≡◌, refl, ap, ◌∙◌}
use mathlib.Core.List.{List, map}
use native.Mathlib.Omega.{arith}
use native.Mathlib.Numerals.{add-one}
use lib.ListN.{length, set, length-set}
use lib.Seq.{set_out, sets}
use Rattle.octets.specs.Octets.{Bytes}
use Rattle.recording.specs.Pages.{pages_of}
use Rattle.index_search.specs.declared.IndexRecord.{IndexRecord}
use Rattle.index_walk.specs.declared.Walk.{Walk}
use Rattle.index_walk.specs.Records.{index_of}
use Rattle.index_walk.specs.Walk.{nowhere, next_of, begun_at}
use Rattle.index_walk.proofs.Walking.{left_at, nothing_left, all_left, Turned, makes, passes, turned, Counts, counts_on_lem}
use Rattle.index_columns_builder.specs.Building.{granule_in, place_in, sequence_in, field_filled}

-- ---- one list

-- with what the walk w over b has left, the list l becomes what `old` is filled to
pub record Filling (field : IndexRecord → ℕ) (b : Bytes) (old : List ℕ) (w : Walk) (l : List ℕ) : Type 0 where
  pub long : length l ≡ length old
  pub same : sets l w.count (map field (left_at b w)) ≡ field_filled field b old

module _ (field : IndexRecord → ℕ) (b : Bytes) (old : List ℕ) where
  begins : Filling field b old (begun_at 0) old
  unfolding field_filled
  begins = record { long = refl; same = rw (all_left b) }

  module _ (w : Walk) (l : List ℕ) where
    turns : Turned b w → length old < 2 ^ 64 → Filling field b old w l
        → Filling field b old (next_of b w) (set l (next_of b w).slot (field (next_of b w).made))
    turns (makes slot count left) short g = record {
      long = length-set l _ _ ∙ g.long;
      same = rw (slot, count, add-one) (rw left at g.same);
    }
    turns (passes slot count left) short g = record {
      long = length-set l _ _ ∙ g.long;
      same = rw (slot, count, set_out l nowhere (field (next_of b w).made) (omega (arith, g.long)), ← left) g.same;
    }

    pub ends : length b ≤ w.at → Filling field b old w l → l ≡ field_filled field b old
    ends h g = rw (nothing_left b w h) at g.same

-- how many records there are
pub counted : (b : Bytes) (n : ℕ) (w : Walk) → length b ≤ w.at → Counts b n w → w.count ≡ n
counted b n w h g = omega (arith, g.sum, ap length (nothing_left b w h))

-- ---- the three lists

-- w is a walk over b that counts its records, and each list is on its way
pub record Filled (b : Bytes) (gs₀ ps₀ ss₀ : List ℕ) (w : Walk) (gs ps ss : List ℕ) : Type 0 where
  pub counts : Counts b (length (index_of (pages_of b))) w
  pub granules : Filling granule_in b gs₀ w gs
  pub places : Filling place_in b ps₀ w ps
  pub sequences : Filling sequence_in b ss₀ w ss

module _ (b : Bytes) (gs₀ ps₀ ss₀ : List ℕ) where
  pub filled_begins : {w : Walk} → w ≡ begun_at 0 → Filled b gs₀ ps₀ ss₀ w gs₀ ps₀ ss₀
  filled_begins e =
      rw e
      (record {
        counts = record { inside = omega arith; few = omega arith; sum = rw (all_left b) (omega arith) };
        granules = begins granule_in b gs₀;
        places = begins place_in b ps₀;
        sequences = begins sequence_in b ss₀;
      })

  module _ (w : Walk) (gs ps ss : List ℕ) where
    pub filled_goes_on : {v : Walk} {gs' ps' ss' : List ℕ} → v ≡ next_of b w → w.at < length b → length b < 2 ^ 64
        → length gs₀ < 2 ^ 64 → length ps₀ < 2 ^ 64 → length ss₀ < 2 ^ 64
        → gs' ≡ set gs v.slot v.made.granule → ps' ≡ set ps v.slot v.made.place
        → ss' ≡ set ss v.slot v.made.sequence → Filled b gs₀ ps₀ ss₀ w gs ps ss → Filled b gs₀ ps₀ ss₀ v gs' ps' ss'
    filled_goes_on e more fits x y z p q r g =
        let turn = turned b w more fits g.counts.few in
        rw (p, q, r, e)
        (record {
          counts = counts_on_lem b (length (index_of (pages_of b))) w more fits g.counts;
          granules = turns granule_in b gs₀ w gs turn x g.granules;
          places = turns place_in b ps₀ w ps turn y g.places;
          sequences = turns sequence_in b ss₀ w ss turn z g.sequences;
        })
