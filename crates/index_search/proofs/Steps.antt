-- Laws of a search: each step leaves fewer places, and all steps are one step and all steps from there. Assumes nothing.
use mathlib.Core.Path.{◌≡◌, refl, sym, ◌∙◌}
use mathlib.Core.Bool.{Bool, true, false}
use mathlib.Core.List.{List}
use Prim.Native.Nat.{ℕ, zero, suc, ◌+◌, ◌-◌, ◌/◌, ◌<◌, ◌≤◌}
use native.Mathlib.Omega.{arith}
use borrow.Author.Tests.{lt-ltb, le-ltb, ltb-true, ltb-false}
use lib.Dec.{ltb, leb}
use lib.ListN.{get_or}
use Rattle.index_search.specs.declared.Search.{Search}
use Rattle.octets.specs.Pick.{pick}
use Rattle.index_search.specs.Search.{is_going, left, place_of, scanned, halved, step_of, steps, finish}

picked : (b : Bool) (l h : ℕ) → l < h → (l ≤ pick b (l + (h - l) / 2) l) × (pick b (l + (h - l) / 2) l < h)
picked true l h g = (omega arith, omega arith)
picked false l h g = (omega arith, omega arith)

pub place-within : (s : Search) → s.low < s.high → place_of s < s.high
unfolding place_of
place-within s g = (picked s.halves s.low s.high g).1

place-from : (s : Search) → s.low < s.high → s.low ≤ place_of s
unfolding place_of
place-from s g = (picked s.halves s.low s.high g).0

-- ---- each step leaves fewer places
left-pick : (b : Bool) (x y : Search) (n : ℕ) → left x < n → left y < n → left (pick b x y) < n
left-pick true x y n p q = p
left-pick false x y n p q = q

pub less : (s : Search) (g : ℕ) → s.low < s.high → left (step_of s g) < left s
unfolding step_of scanned halved
less s g h =
    let within : place_of s < s.high = place-within s h in
    let from : s.low ≤ place_of s = place-from s h in
    rw (lt-ltb s.low s.high h)
    (left-pick s.halves _ _ (left s) (left-pick (leb g s.number) _ _ (left s) (omega arith) (omega arith)) (left-pick (ltb g s.number) _ _ (left s) (omega arith) (omega arith)))

-- ---- all steps
pub steps-done : (n : ℕ) (gs : List ℕ) (s : Search) → s.high ≤ s.low → steps n gs s ≡ s
unfolding steps
steps-done zero gs s h = refl
steps-done (suc n) gs s h = rw (le-ltb s.low s.high h)

pub steps_go : (n : ℕ) (gs : List ℕ) (s : Search) → s.low < s.high → steps (suc n) gs s ≡ steps n gs (step_of s (get_or gs (place_of s) 0))
unfolding steps
steps_go n gs s h = rw (lt-ltb s.low s.high h)

enough_by : (b : Bool) (n m : ℕ) (gs : List ℕ) (s : Search) → ((z : Search) → left z ≤ n → left z ≤ m → steps n gs z ≡ steps m gs z)
    → left s ≤ suc n → left s ≤ suc m → is_going s ≡ b → steps (suc n) gs s ≡ steps (suc m) gs s
enough_by true n m gs s same p q e =
    let on : s.low < s.high = ltb-true s.low s.high e in
    let fewer : left (step_of s (get_or gs (place_of s) 0)) < left s = less s (get_or gs (place_of s) 0) on in
    steps_go n gs s on ∙ same (step_of s (get_or gs (place_of s) 0)) (omega arith) (omega arith) ∙ sym (steps_go m gs s on)
enough_by false n m gs s same p q e =
    let off : s.high ≤ s.low = ltb-false s.low s.high e in
    steps-done (suc n) gs s off ∙ sym (steps-done (suc m) gs s off)

enough : (n m : ℕ) (gs : List ℕ) (s : Search) → left s ≤ n → left s ≤ m → steps n gs s ≡ steps m gs s
enough zero m gs s p q = steps-done zero gs s (omega arith) ∙ sym (steps-done m gs s (omega arith))
enough (suc n) zero gs s p q = steps-done (suc n) gs s (omega arith) ∙ sym (steps-done zero gs s (omega arith))
enough (suc n) (suc m) gs s p q = enough_by (is_going s) n m gs s (enough n m gs) p q refl

pub finish-done : (gs : List ℕ) (s : Search) → s.high ≤ s.low → finish gs s ≡ s
unfolding finish
finish-done gs s h = steps-done (left s) gs s h

pub finish_go : (gs : List ℕ) (s : Search) → s.low < s.high → finish gs s ≡ finish gs (step_of s (get_or gs (place_of s) 0))
unfolding finish
finish_go gs s h =
    let next = step_of s (get_or gs (place_of s) 0) in
    let fewer : left (step_of s (get_or gs (place_of s) 0)) < left s = less s (get_or gs (place_of s) 0) h in
    enough (left s) (suc (left s)) gs s (omega arith) (omega arith) ∙ steps_go (left s) gs s h ∙ enough (left s) (left (step_of s (get_or gs (place_of s) 0))) gs (step_of s (get_or gs (place_of s) 0)) (omega arith) (omega arith)
