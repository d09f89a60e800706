-- What the end of a search by halving answers, by cases. Assumes nothing.
use mathlib.Core.Path.{◌≡◌, refl, ap}
use Prim.Native.Nat.{ℕ, zero, suc, ◌-◌, ◌<◌, ◌≤◌}
use native.Mathlib.Omega.{arith}
use Rattle.index_search.specs.Index.{at_record, at_begin, found_by}

pub found_some : (n probes : ℕ) → 0 < n → at_record (n - 1) probes ≡ found_by n probes
found_some zero probes h = absurd (omega arith)
found_some (suc n) probes h = ap (λ (k : ℕ). at_record k probes) (let e : suc n - 1 ≡ n = omega arith in e)

pub found_none : (n probes : ℕ) → n ≤ 0 → at_begin probes ≡ found_by n probes
found_none zero probes h = refl
found_none (suc n) probes h = absurd (omega arith)
