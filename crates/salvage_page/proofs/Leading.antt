-- The leading piece, by the first value that ends a packet. Assumes nothing.
use Rattle.std.proofs.Common.{ℕ, zero, suc, ◌+◌, ◌≡◌, ◌<◌, ◌≤◌, [], ◌∷◌, length, drop, refl, subst, add-one, arith, lt-ltb, le-ltb}
use Rattle.std.specs.Prelude.{Option, Some, None}
use Rattle.std.specs.List.{HoldsAt, AllWithin}
use Rattle.std.specs.Option.{MatchOption}
use Rattle.octets.specs.Octets.{Bytes}
use Rattle.stream.specs.Packets.{after_first}
use Rattle.salvage_page.specs.Tidied.{LeadValues}

-- what `position` answers of the first value that ends a packet
abbrev pub FirstEnd : Bytes → Option ℕ → Type 0
FirstEnd l r = MatchOption r (AllWithin (λ v. 255 ≤ v) l 0 (length l)) (λ i. (i < length l) × HoldsAt (λ v. v < 255) l i × AllWithin (λ v. 255 ≤ v) l 0 i)

-- the leading piece, by that
abbrev pub lead_by : Bytes → Option ℕ → ℕ
lead_by l (Some i) = i + 1
lead_by l None = length l

after-at : (l : Bytes) (i : ℕ) → i < length l → HoldsAt (λ v. v < 255) l i → AllWithin (λ v. 255 ≤ v) l 0 i → drop (suc i) l ≡ after_first l
unfolding after_first
after-at [] i h there before = absurd (omega arith)
after-at (v ∷ l) zero h there before = rw (lt-ltb v 255 (there 0))
after-at (v ∷ l) (suc i) h there before =
    rw (le-ltb v 255 (before 0 0 (omega arith) (omega arith)))
    (after-at l i (omega arith) there (λ k d a b. before (suc k) d (omega arith) (omega arith)))

after-none : (l : Bytes) → AllWithin (λ v. 255 ≤ v) l 0 (length l) → drop (length l) l ≡ after_first l
unfolding after_first
after-none [] before = refl
after-none (v ∷ l) before =
    rw (le-ltb v 255 (before 0 0 (omega arith) (omega arith)))
    (after-none l (λ k d a b. before (suc k) d (omega arith) (omega arith)))

lead_is : (l : Bytes) (r : Option ℕ) → FirstEnd l r → LeadValues l (lead_by l r)
lead_is l (Some i) f = record { values = rw (add-one) (after-at l i f.0 f.1 f.2); inside = omega (arith, f.0) }
lead_is l None f = record { values = after-none l f; inside = omega arith }

pub lead_of : (l : Bytes) {r s : Option ℕ} → r ≡ s → FirstEnd l r → LeadValues l (lead_by l s)
lead_of l {r} {s} e f = lead_is l s (subst (λ (o : Option ℕ). FirstEnd l o) e f)
