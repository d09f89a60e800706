-- What salvage returns to C and leaves in its outputs (RULES.md, 16). Assumes nothing.
use Rattle.std.specs.Prelude.{ℕ, min, ◌≡◌, List, [], ◌∷◌, eqb, length, get_or}
use Rattle.octets.specs.Pick.{pick}
use Rattle.octets.specs.Octets.{Bytes}
use Rattle.refusal.specs.Told.{Told, gives, refuses}
use Rattle.stream.specs.Lent.{Slice}
use Rattle.salvage.specs.Salvaging.{Amounts, amounts, Salvages}

-- what a returned number tells, the counts being `new`
abbrev pub told_counts : ℕ → List ℕ → Told Amounts
told_counts n new = pick (eqb n 0) (gives (amounts (get_or new 0 0) (get_or new 1 0))) (refuses n)

-- the counts at the end: a refusal changes none
abbrev pub counts_after : Told Amounts → List ℕ → List ℕ
counts_after (gives a) old = a.bytes ∷ a.lines ∷ []
counts_after (refuses n) old = old

-- the returned number, all that is lent, and the counts from `old` to `new`
pub record SalvagedIn (b : Bytes) (number : ℕ) (work out what places sizes : Slice) (old new : List ℕ) : Type 0 where
  pub salvages : Salvages b (told_counts number new) work out what places sizes
  pub counts : new ≡ counts_after (told_counts number new) old
