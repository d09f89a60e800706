-- The best page at which a crop may begin, page by page. Assumes nothing.
use Prim.Native.Nat.{ℕ, zero, suc, ◌+◌, ◌≤◌}
use mathlib.Core.Path.{◌≡◌, refl, sym, ap, ◌∙◌}
use mathlib.Core.Bool.{Bool, true, false, ◌&&◌}
use mathlib.Core.List.{List, [], ◌∷◌}
use mathlib.Core.Option.{none, some}
use native.Mathlib.Omega.{arith}
use lib.Dec.{leb}
use lib.ListN.{drop}
use Rattle.octets.specs.Pick.{pick}
use Rattle.octets.specs.Octets.{Bytes}
use Rattle.stream.specs.Readings.{Readings}
use Rattle.recording.proofs.Passing.{empty_cons}
use Rattle.recording_pages.specs.Places.{header_count}
use Rattle.crop_rules.specs.Crop.{is_start}
use Rattle.crop_start.specs.Start.{start_of, starts_by, last_before, start_at, best_start}
use Rattle.crop_start.specs.Code.{may_start}

-- no page past the last
drop_past : (T : List Bytes) (k n : ℕ) → drop k T ≡ [] → k ≤ n → drop n T ≡ []
drop_past [] k zero e h = refl
drop_past [] k (suc n) e h = refl
drop_past (b ∷ T) zero n e h = empty_cons (sym e)
drop_past (b ∷ T) (suc k) zero e h = absurd (omega arith)
drop_past (b ∷ T) (suc k) (suc n) e h = drop_past T k n e (omega arith)

module _ (R : Readings) (S : List Bytes) (position : ℕ) where
  -- before any page
  pub best-first : best_start R S position 0 ≡ none
  unfolding best_start last_before
  best-first = refl

  -- one page more
  pub best-next : (k : ℕ) → best_start R S position (suc k) ≡ pick (starts_by R S position k) (some (record { page = k; position = start_of R S k })) (best_start R S position k)
  unfolding best_start last_before
  best-next k = by (starts_by R S position k)
    where
      by : (t : Bool) → start_at R S (pick t (some k) (last_before (starts_by R S position) k)) ≡ pick t (some (record { page = k; position = start_of R S k })) (start_at R S (last_before (starts_by R S position) k))
      by true = refl
      by false = refl

  -- whether page k is one
  pub starts-here : (k : ℕ) (p : Bytes) (later : List Bytes) → drop k S ≡ p ∷ later → starts_by R S position k ≡ may_start p (header_count S) k (start_of R S k) position
  unfolding is_start
  starts-here k p later e = rw e

  none_here : (k : ℕ) → drop k S ≡ [] → starts_by R S position k ≡ false
  unfolding is_start
  none_here k e = rw e (by (leb (header_count S) k))
    where
      by : (t : Bool) → ((t && false) && leb (start_of R S k) position) ≡ false
      by true = refl
      by false = refl

  -- pages past the last change nothing
  pub best-past : (k j : ℕ) → drop k S ≡ [] → best_start R S position (j + k) ≡ best_start R S position k
  best-past k zero e = let z : 0 + k ≡ k = omega arith in ap (best_start R S position) z
  best-past k (suc j) e =
      let z : suc j + k ≡ suc (j + k) = omega arith in
      ap (best_start R S position) z ∙ best-next (j + k) ∙ rw (none_here (j + k) (drop_past S k (j + k) e (omega arith))) (best-past k j e)
