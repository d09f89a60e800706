-- The samples of a packet, one by one and in closed form. Assumes nothing.
use Prim.Native.Nat.{ℕ, zero, suc, ◌+◌, ◌-◌, ◌≤◌, ◌<◌, min}
use mathlib.Core.Path.{◌≡◌, refl, ap, ap₂, ◌∙◌}
use mathlib.Core.Bool.{Bool, true, false, not, ◌&&◌}
use native.Mathlib.Omega.{arith}
use borrow.Author.Tests.{ltb-true, ltb-false, lt-ltb, le-ltb}
use lib.Dec.{ltb}
use Rattle.granule.specs.Samples.{one, tally, is_trimmed, is_skipped, is_kept, trimmed_of, skipped_of, kept_of}
use Rattle.granule.specs.Statements.{SamplesShared, SamplesInParts, ClosedForms}
use Rattle.granule.proofs.Tallies.{tally-same, tally-parts, tally-three, tally-none}

one_of_three : (t s : Bool) → one (not t && not s) + one (not t && s) + one t ≡ 1
one_of_three true s = refl
one_of_three false true = refl
one_of_three false false = refl

pub samples_shared : SamplesShared
unfolding kept_of skipped_of trimmed_of
samples_shared skip last g at d =
    tally-three (is_kept skip last g at) (is_skipped skip last g at) (is_trimmed last g at)
    (λ (j : ℕ). one_of_three (is_trimmed last g at j) (ltb j skip)) d

-- samples still to skip after d others
pub skip-after : (skip d j : ℕ) → ltb (d + j) skip ≡ ltb j (skip - d)
skip-after skip d j = by (ltb j (skip - d)) refl
  where
    by : (b : Bool) → ltb j (skip - d) ≡ b → ltb (d + j) skip ≡ b
    by true e = lt-ltb (d + j) skip (let h : j < skip - d = ltb-true j (skip - d) e in omega arith)
    by false e = le-ltb (d + j) skip (let h : skip - d ≤ j = ltb-false j (skip - d) e in omega arith)

next_place : (at d j : ℕ) → at + suc (d + j) ≡ at + d + suc j
next_place at d j = omega arith

pub samples_in-parts : SamplesInParts
unfolding kept_of trimmed_of
samples_in-parts skip last g at d e = record {
  kept = tally-parts (is_kept skip last g at) d e
      ∙ ap (λ (n : ℕ). tally (is_kept skip last g at) d + n)
      (tally-same (λ (j : ℕ). is_kept skip last g at (d + j)) (is_kept (skip - d) last g (at + d))
      (λ (j : ℕ). ap₂ (λ (m : ℕ) (b : Bool). not (last && ltb g m) && not b) (next_place at d j) (skip-after skip d j)) e);
  trimmed = tally-parts (is_trimmed last g at) d e
      ∙ ap (λ (n : ℕ). tally (is_trimmed last g at) d + n)
      (tally-same (λ (j : ℕ). is_trimmed last g at (d + j)) (is_trimmed last g (at + d))
      (λ (j : ℕ). ap (λ (m : ℕ). last && ltb g m) (next_place at d j)) e);
}

-- ---- closed forms: one more sample

whole-turn : (skip n : ℕ) (b : Bool) → ltb n skip ≡ b → (n - min skip n) + one (not b) ≡ suc n - min skip (suc n)
whole-turn skip n true p = let h : n < skip = ltb-true n skip p in omega arith
whole-turn skip n false p = let h : skip ≤ n = ltb-false n skip p in omega arith

kept_whole : (d skip g at : ℕ) → kept_of skip false g at d ≡ d - min skip d
unfolding kept_of tally
kept_whole zero skip g at = omega arith
kept_whole (suc n) skip g at =
    ap (λ (k : ℕ). k + one (not (ltb n skip))) (kept_whole n skip g at) ∙ whole-turn skip n (ltb n skip) refl

-- `room` samples are not trimmed
module _ (room skip n : ℕ) where
  past : room ≤ n → (min room n - min skip n) + 0 ≡ min room (suc n) - min skip (suc n)
  past q = omega arith

  within : skip ≤ n → n < room → (min room n - min skip n) + 1 ≡ min room (suc n) - min skip (suc n)
  within p q = omega arith

  still_skipping : n < skip → (min room n - min skip n) + 0 ≡ min room (suc n) - min skip (suc n)
  still_skipping p = omega arith

cut-turn : (skip g at n : ℕ) (a b : Bool) → ltb g (at + suc n) ≡ a → ltb n skip ≡ b
    → (min (g - at) n - min skip n) + one (not a && not b) ≡ min (g - at) (suc n) - min skip (suc n)
cut-turn skip g at n true b p q = past (g - at) skip n (let h : g < at + suc n = ltb-true g (at + suc n) p in omega arith)
cut-turn skip g at n false true p q = still_skipping (g - at) skip n (ltb-true n skip q)
cut-turn skip g at n false false p q =
    within (g - at) skip n (ltb-false n skip q) (let h : at + suc n ≤ g = ltb-false g (at + suc n) p in omega arith)

kept-cut : (d skip g at : ℕ) → kept_of skip true g at d ≡ min (g - at) d - min skip d
unfolding kept_of tally
kept-cut zero skip g at = omega arith
kept-cut (suc n) skip g at =
    ap (λ (k : ℕ). k + one (is_kept skip true g at n)) (kept-cut n skip g at)
    ∙ cut-turn skip g at n (ltb g (at + suc n)) (ltb n skip) refl refl

trimmed-turn : (g at n : ℕ) (b : Bool) → ltb g (at + suc n) ≡ b → (n - (g - at)) + one b ≡ suc n - (g - at)
trimmed-turn g at n true p = let h : g < at + suc n = ltb-true g (at + suc n) p in omega arith
trimmed-turn g at n false p = let h : at + suc n ≤ g = ltb-false g (at + suc n) p in omega arith

trimmed-cut : (d g at : ℕ) → trimmed_of true g at d ≡ d - (g - at)
unfolding trimmed_of tally
trimmed-cut zero g at = omega arith
trimmed-cut (suc n) g at =
    ap (λ (k : ℕ). k + one (ltb g (at + suc n))) (trimmed-cut n g at) ∙ trimmed-turn g at n (ltb g (at + suc n)) refl

pub closed_forms : ClosedForms
unfolding trimmed_of
closed_forms skip g at d =
    record { whole = kept_whole d skip g at; cut = kept-cut d skip g at; uncut = tally-none d; trimmed = trimmed-cut d g at }
