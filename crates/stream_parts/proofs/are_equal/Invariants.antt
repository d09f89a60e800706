-- `stream_parts::are_equal` meets its contract. The loop's invariant: the numbers from i on decide. Assumes nothing.
use Rattle.std.proofs.Common.{◌≡◌, ℕ, zero, suc, ◌+◌, ◌-◌, ◌<◌, ◌≤◌, Bool, true, false, ◌&&◌, eqb, List, length, get_or, sym, refl, ap, ◌∙◌, arith, eq-eqb, ne_eqb}
use Rattle.stream_parts.specs.Agree.{equal_at, compared}
use Rattle.stream_parts.proofs.are_equal.Given as goal

-- n numbers from number i on are equal
unfoldable pub equal_from : ℕ → ℕ → List ℕ → List ℕ → Bool
equal_from zero i a b = true
equal_from (suc n) i a b = eqb (get_or a i 0) (get_or b i 0) && equal_from n (i + 1) a b

-- how many are compared
abbrev pub many : ℕ
many = length compared

abbrev pub invariant-loop-i : goal.invariant-loop-i
invariant-loop-i l = (equal_from (many - l.i) l.i l.a l.b ≡ equal_at compared l.a l.b) × (l.i ≤ many)

abbrev pub decreases-loop-i : goal.decreases-loop-i
decreases-loop-i l = many - l.i
