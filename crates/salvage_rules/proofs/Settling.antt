-- Rounds end: each makes the list shorter by a page. Assumes nothing.
use Prim.Native.Nat.{ℕ, zero, suc, ◌+◌, ◌≤◌, ◌<◌}
use mathlib.Core.Path.{◌≡◌, refl, ap}
use mathlib.Core.List.{List, [], ◌∷◌, map}
use mathlib.Core.Option.{Option, none, some}
use native.Mathlib.Omega.{arith}
use lib.ListN.{length, length-append, length-take, length-drop}
use Rattle.octets.specs.Octets.{Bytes}
use Rattle.refusal.specs.declared.Refusal.{Refusal}
use Rattle.page_end.proofs.Ends.{none-some}
use Rattle.stream.specs.Readings.{Readings}
use Rattle.stream.specs.State.{State}
use Rattle.stream.specs.Rules.{verdict, after}
use Rattle.recording.specs.Judging.{RefusedPage, unless, first_refused, fresh}
use Rattle.salvage_rules.specs.Good.{Good}
use Rattle.salvage_rules.specs.Tidy.{Before, no_page, tidy_from}
use Rattle.salvage_rules.specs.Rounds.{page_out, pages_out, refused_in, missing, round_by, rounds, settled}
use Rattle.salvage_rules.specs.Statements.{SettledAccepted, MoreRounds, AcceptedSettled}

-- ---- a refused page is one of the list

within : (R : Readings) (s : State) (k : ℕ) (S : List Bytes) (x : RefusedPage) → first_refused R s k S ≡ some x → x.page < k + length S
unfolding first_refused
within R s k [] x e = none-some e
within R s k (b ∷ bs) x e = by (verdict R s b) e (within R (after R s b) (suc k) bs x)
  where
    by : (v : Option Refusal) → unless v k (first_refused R (after R s b) (suc k) bs) ≡ some x
        → (first_refused R (after R s b) (suc k) bs ≡ some x → x.page < suc k + length bs) → x.page < k + length (b ∷ bs)
    by none q later = let h = later q in omega arith
    by (some n) q later = let h : k ≡ x.page = cc in omega arith

as_many : (n : ℕ) (x : Before) (gs : List Good) → length (map page_out (tidy_from x n gs)) ≡ length gs
unfolding tidy_from
as_many n x [] = refl
as_many n x (g ∷ gs) = ap suc (as_many (suc n) _ gs)

module _ (R : Readings) (gs : List Good) (x : RefusedPage) (e : refused_in R gs ≡ some x) where
  in_list : x.page < length gs
  unfolding refused_in pages_out
  in_list = let h = within R fresh 0 (pages_out gs) x e in omega (arith, as_many 0 no_page gs)

  pub shorter : length (missing x.page gs) + 1 ≡ length gs
  shorter = simp (length-append, length-take, length-drop) (let h = in_list in omega arith)

-- ---- rounds

module _ (R : Readings) where
  none_empty : refused_in R [] ≡ none
  unfolding refused_in pages_out tidy_from first_refused
  none_empty = refl

  -- as many rounds as pages are enough
  pub no_more : (n m : ℕ) (gs : List Good) → length gs ≤ n → n ≤ m → rounds R m gs ≡ rounds R n gs
  unfolding rounds
  no_more zero zero gs h l = refl
  no_more zero (suc m) [] h l = rw none_empty
  no_more zero (suc m) (g ∷ gs) h l = absurd (omega arith)
  no_more (suc n) zero gs h l = absurd (omega arith)
  no_more (suc n) (suc m) gs h l = by (refused_in R gs) refl (λ (ks : List Good) w. no_more n m ks w (omega arith))
    where
      by : (v : Option RefusedPage) → refused_in R gs ≡ v → ((ks : List Good) → length ks ≤ n → rounds R m ks ≡ rounds R n ks)
          → round_by (rounds R m) gs v ≡ round_by (rounds R n) gs v
      by none e later = refl
      by (some x) e later = later (missing x.page gs) (omega (arith, shorter R gs x e))

  accepted-after : (n : ℕ) (gs : List Good) → length gs ≤ n → refused_in R (rounds R n gs) ≡ none
  unfolding rounds
  accepted-after zero [] h = none_empty
  accepted-after zero (g ∷ gs) h = absurd (omega arith)
  accepted-after (suc n) gs h = by (refused_in R gs) refl (λ (ks : List Good) w. accepted-after n ks w)
    where
      by : (v : Option RefusedPage) → refused_in R gs ≡ v → ((ks : List Good) → length ks ≤ n → refused_in R (rounds R n ks) ≡ none)
          → refused_in R (round_by (rounds R n) gs v) ≡ none
      by none e later = e
      by (some x) e later = later (missing x.page gs) (omega (arith, shorter R gs x e))

pub settled-accepted : SettledAccepted
unfolding settled
settled-accepted R gs = accepted-after R (length gs) gs (omega arith)

pub more-rounds : MoreRounds
unfolding settled
more-rounds R gs n h = no_more R (length gs) n gs (omega arith) h

pub accepted-settled : AcceptedSettled
unfolding settled rounds
accepted-settled R gs e = by (length gs)
  where
    by : (n : ℕ) → rounds R n gs ≡ gs
    by zero = refl
    by (suc n) = rw e
