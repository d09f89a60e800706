-- Salvage for C, by what the library promises. Assumes nothing.
use Rattle.std.specs.Prelude.{Result, Ok, Err}
use Prim.Native.Nat.{ℕ}
use mathlib.Core.Path.{◌≡◌, refl, sym, ap, subst, ◌∙◌}
use mathlib.Core.List.{List, [], ◌∷◌}
use Rattle.octets.specs.Octets.{Bytes}
use Rattle.refusal.specs.declared.Refusal.{Refusal}
use Rattle.refusal.specs.Numbers.{number_of}
use Rattle.refusal.specs.Told.{Told}
use Rattle.refusal.proofs.Numbers.{numbers_positive}
use Rattle.stream.specs.Lent.{Slice}
use Rattle.salvage.specs.declared.Salvaged.{Salvaged}
use Rattle.salvage.specs.Salvaging.{Amounts, told_salvaged, Salvages}
use Rattle.embulgri.specs.Saving.{told_counts, counts_after}

-- the same contract, by what the answer tells
pub salvaged_as : (b : Bytes) (work out what places sizes : Slice) (r : Result Salvaged Refusal) → Salvages b (told_salvaged r) work out what places sizes
    → {t : Told Amounts} → told_salvaged r ≡ t → Salvages b t work out what places sizes
salvaged_as b work out what places sizes r is e = subst (λ (t : Told Amounts). Salvages b t work out what places sizes) e is

pub written-told : {r : Result Salvaged Refusal} (n lines : ℕ) → r ≡ (Ok (record { bytes = n; lines = lines })) → told_salvaged r ≡ told_counts 0 (n ∷ lines ∷ [])
written-told n lines e = ap told_salvaged e

pub refused-told : {r : Result Salvaged Refusal} {number : ℕ} (old : List ℕ) (why : Refusal) → r ≡ Err why → number ≡ number_of why
    → told_salvaged r ≡ told_counts number old
refused-told old why e n = ap told_salvaged e ∙ rw (n, numbers_positive why)

pub counts_stay : {number : ℕ} (old : List ℕ) (why : Refusal) → number ≡ number_of why → old ≡ counts_after (told_counts number old) old
counts_stay old why n = rw (n, numbers_positive why)
