-- What is proved of seeking, in addition to the contract. Assumes nothing.
use Rattle.std.specs.Prelude.{ℕ, zero, suc, ◌-◌, ◌/◌, ◌≤◌, ◌<◌, ◌≡◌, List, eqb, length, get_or}
use Rattle.std.proofs.Math.Option.{none, some}
use Rattle.octets.specs.Pick.{pick}
use Rattle.refusal.specs.declared.Refusal.TheVariants.{FallingGranule}
use Rattle.refusal.specs.Numbers.{number_of}
use Rattle.index_search.specs.Index.{pre_roll, first_fall, Answer, at_record, at_begin, refused, seek_in}

-- ---- the answer is the last record at or before the target less the pre-roll, or the begin

-- the place i has a granule position at or before the limit, and each after it is past the limit
pub record LastUpTo (gs : List ℕ) (limit i : ℕ) : Type 0 where
  pub there : i < length gs
  pub early : get_or gs i 0 ≤ limit
  pub later : (j : ℕ) → i < j → j < length gs → limit < get_or gs j 0

-- what an answer says of the granule positions
abbrev pub Means : List ℕ → ℕ → Answer → Type 0
Means gs target (at_record i probes) = (pre_roll ≤ target) × LastUpTo gs (target - pre_roll) i
Means gs target (at_begin probes) = (j : ℕ) → pre_roll ≤ target → j < length gs → target - pre_roll < get_or gs j 0
Means gs target (refused n i) = first_fall gs ≡ some i

abbrev pub AnswerMeans : Type 0
AnswerMeans = (gs : List ℕ) (target : ℕ) → Means gs target (seek_in gs target)

-- 26 is given where a granule position is below the one before it, and nowhere else
abbrev pub FallRefused : Type 0
FallRefused =
    (gs : List ℕ) (target i : ℕ) → first_fall gs ≡ some i → seek_in gs target ≡ refused (number_of FallingGranule) i

-- the first place is never one
pub record FallsAt (gs : List ℕ) (i : ℕ) : Type 0 where
  pub there : i < length gs
  pub after : 0 < i
  pub falls : get_or gs i 0 < get_or gs (i - 1) 0
  pub first : (j : ℕ) → suc j < i → get_or gs j 0 ≤ get_or gs (suc j) 0

abbrev pub FirstFallIs : Type 0
FirstFallIs = (gs : List ℕ) (i : ℕ) → first_fall gs ≡ some i → FallsAt gs i

abbrev pub NoFallIs : Type 0
NoFallIs = (gs : List ℕ) → first_fall gs ≡ none → (j : ℕ) → suc j < length gs → get_or gs j 0 ≤ get_or gs (suc j) 0

-- ---- the probes are few

-- how many binary digits a number has; at most k, and the number itself is always enough
unfoldable pub digits_by : ℕ → ℕ → ℕ
digits_by zero n = 0
digits_by (suc k) n = pick (eqb n 0) 0 (suc (digits_by k (n / 2)))

abbrev pub digits : ℕ → ℕ
digits n = digits_by n n

abbrev pub probes_in : Answer → ℕ
probes_in (at_record i probes) = probes
probes_in (at_begin probes) = probes
probes_in (refused n i) = 0

abbrev pub FewProbes : Type 0
FewProbes = (gs : List ℕ) (target : ℕ) → probes_in (seek_in gs target) ≤ digits (length gs)

abbrev pub NoProbes : Type 0
NoProbes = (gs : List ℕ) (target : ℕ) → target < pre_roll → probes_in (seek_in gs target) ≡ 0
