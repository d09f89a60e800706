-- The list of pages in parts, and without a page. Assumes nothing.
use Prim.Native.Nat.{ℕ, suc, ◌+◌, ◌-◌, ◌≤◌, ◌<◌}
use mathlib.Core.Path.{◌≡◌, refl, sym, ap, ap₂, ◌∙◌}
use mathlib.Core.Bool.{Bool, true, false}
use mathlib.Core.List.{List, [], ◌∷◌, ◌++◌, append_assoc, append-nil, append_cancel_left, append_cancel_right}
use native.Mathlib.Omega.{arith}
use lib.ListN.{length, take, drop, get_or, set, take-append-drop, length-append}
use lib.Seq.{take-take, take-add, take-suc, take-suc-set, take-set-le, drop-set-lt, drop-cons}
use Rattle.octets.specs.Pick.{pick}
use Rattle.octets.specs.Octets.{Bytes}
use Rattle.salvage_rules.specs.Good.{Good}
use Rattle.salvage_rules.specs.Listed.{missing_place, is_missing, good_in, listed_in, pages_to, pages_from, NextIs}

pub listed-append : (b : Bytes) (xs ys : List ℕ) → listed_in b (xs ++ ys) ≡ listed_in b xs ++ listed_in b ys
unfolding listed_in
listed-append b [] ys = refl
listed-append b (x ∷ xs) ys = by (is_missing x) (listed-append b xs ys)
  where
    by : (t : Bool) → listed_in b (xs ++ ys) ≡ listed_in b xs ++ listed_in b ys
        → pick t (listed_in b (xs ++ ys)) (good_in b x ∷ listed_in b (xs ++ ys)) ≡ pick t (listed_in b xs) (good_in b x ∷ listed_in b xs) ++ listed_in b ys
    by true e = e
    by false e = ap (λ (l : List Good). good_in b x ∷ l) e

-- a list in two parts
pub parted : (b : Bytes) (n : ℕ) (ws : List ℕ) → listed_in b ws ≡ listed_in b (take n ws) ++ listed_in b (drop n ws)
parted b n ws = ap (listed_in b) (sym (take-append-drop n ws)) ∙ listed-append b (take n ws) (drop n ws)

-- its first n places, of which j are a part of their own
pub parted_first : (b : Bytes) (j n : ℕ) (ws : List ℕ) → j ≤ n → listed_in b (take n ws) ≡ listed_in b (take j ws) ++ listed_in b (drop j (take n ws))
parted_first b j n ws h = parted b j (take n ws) ∙ ap (λ (l : List ℕ). listed_in b l ++ listed_in b (drop j (take n ws))) (take-take j n ws h)

-- the next page g, at index i, after the first `at` places
module _ (b : Bytes) (ws : List ℕ) (at i : ℕ) (g : Good) (fore : at ≤ i) (inside : i < length ws) (next : listed_in b (drop at ws) ≡ g ∷ listed_in b (drop (suc i) ws)) where
  -- the pages up to it
  pub with_next : listed_in b (take (suc i) ws) ≡ listed_in b (take at ws) ++ (g ∷ [])
  with_next =
      append_cancel_right (listed_in b (take (suc i) ws)) (listed_in b (take at ws) ++ (g ∷ [])) (listed_in b (drop (suc i) ws))
      (sym (parted b (suc i) ws) ∙ parted b at ws ∙ ap (λ (l : List Good). listed_in b (take at ws) ++ l) next
      ∙ sym (append_assoc (listed_in b (take at ws)) (g ∷ []) (listed_in b (drop (suc i) ws))))

  -- the part from j on, where j is not after them
  pub part_more : (j : ℕ) → j ≤ at → listed_in b (drop j (take (suc i) ws)) ≡ listed_in b (drop j (take at ws)) ++ (g ∷ [])
  part_more j h =
      append_cancel_left (listed_in b (take j ws)) (listed_in b (drop j (take (suc i) ws))) (listed_in b (drop j (take at ws)) ++ (g ∷ []))
      (sym (parted_first b j (suc i) ws (omega arith)) ∙ with_next ∙ ap (λ (l : List Good). l ++ (g ∷ [])) (parted_first b j at ws h)
      ∙ append_assoc (listed_in b (take j ws)) (listed_in b (drop j (take at ws))) (g ∷ []))

  pub part_next : listed_in b (drop at (take (suc i) ws)) ≡ g ∷ []
  part_next =
      append_cancel_left (listed_in b (take at ws)) (listed_in b (drop at (take (suc i) ws))) (g ∷ [])
      (sym (parted_first b at (suc i) ws (omega arith)) ∙ with_next)

  -- ---- the list without it

  abbrev without : List ℕ
  without = set ws i missing_place

  -- the place itself is that of g
  pub at_place : is_missing (get_or ws i 0) ≡ false → good_in b (get_or ws i 0) ≡ g → listed_in b (take i ws) ≡ listed_in b (take at ws)
  unfolding listed_in
  at_place m e =
      let one : listed_in b (get_or ws i 0 ∷ []) ≡ g ∷ [] = rw m (ap (λ (x : Good). x ∷ []) e) in
      append_cancel_right (listed_in b (take i ws)) (listed_in b (take at ws)) (g ∷ [])
      (ap (λ (l : List Good). listed_in b (take i ws) ++ l) (sym one) ∙ sym (listed-append b (take i ws) (get_or ws i 0 ∷ []))
      ∙ ap (listed_in b) (sym (take-suc ws i 0 inside)) ∙ with_next)

  -- all pages but g
  pub all_without : listed_in b (take i ws) ≡ listed_in b (take at ws) → listed_in b without ≡ listed_in b (take at ws) ++ listed_in b (drop (suc i) ws)
  unfolding listed_in
  all_without e =
      parted b (suc i) without
      ∙ ap₂ (λ (x y : List ℕ). listed_in b x ++ listed_in b y) (take-suc-set ws i missing_place inside) (drop-set-lt (suc i) ws i missing_place (omega arith))
      ∙ ap (λ (l : List Good). l ++ listed_in b (drop (suc i) ws)) (listed-append b (take i ws) (missing_place ∷ []) ∙ append-nil (listed_in b (take i ws)) ∙ e)

  -- the pages before the place j stay, and those from there on are those up to `at` and those after g
  pub before-without : (j : ℕ) → j ≤ i → listed_in b (take j without) ≡ listed_in b (take j ws)
  before-without j h = ap (listed_in b) (take-set-le j ws i missing_place h)

  pub after-without : listed_in b (take i ws) ≡ listed_in b (take at ws) → (j : ℕ) → j ≤ at
      → listed_in b (drop j without) ≡ listed_in b (drop j (take at ws)) ++ listed_in b (drop (suc i) ws)
  after-without e j h =
      append_cancel_left (listed_in b (take j ws)) (listed_in b (drop j without)) (listed_in b (drop j (take at ws)) ++ listed_in b (drop (suc i) ws))
      (ap (λ (l : List Good). l ++ listed_in b (drop j without)) (sym (before-without j (omega arith))) ∙ sym (parted b j without) ∙ all_without e
      ∙ ap (λ (l : List Good). l ++ listed_in b (drop (suc i) ws)) (parted_first b j at ws h)
      ∙ append_assoc (listed_in b (take j ws)) (listed_in b (drop j (take at ws))) (listed_in b (drop (suc i) ws)))

-- ---- the next page, by its record

module _ {b : Bytes} {ws : List ℕ} {at i : ℕ} (n : NextIs b ws at i) where
  abbrev page : Good
  page = good_in b (get_or ws i 0)

  pub up_to-place : listed_in b (take i ws) ≡ pages_to b ws at
  up_to-place = at_place b ws at i page n.fore n.inside n.next n.here refl

  -- without it the list has one page less
  pub fewer : length (listed_in b (set ws i missing_place)) < length (listed_in b ws)
  fewer =
      let x : length (listed_in b (set ws i missing_place)) ≡ length (pages_to b ws at) + length (pages_from b ws (suc i)) =
      ap length (all_without b ws at i page n.fore n.inside n.next up_to-place) ∙ length-append (pages_to b ws at) (pages_from b ws (suc i)) in
      let y : length (listed_in b ws) ≡ length (pages_to b ws at) + suc (length (pages_from b ws (suc i))) =
      ap length (parted b at ws ∙ ap (λ (l : List Good). pages_to b ws at ++ l) n.next) ∙ length-append (pages_to b ws at) (page ∷ pages_from b ws (suc i)) in
      omega arith

-- a page that is listed is not missing
pub not-missing : (b : Bytes) (ws : List ℕ) (i : ℕ) → i < length ws → pages_from b ws i ≡ good_in b (get_or ws i 0) ∷ pages_from b ws (suc i)
    → is_missing (get_or ws i 0) ≡ false
unfolding listed_in
not-missing b ws i h e = by (is_missing (get_or ws i 0)) refl (ap length (ap (listed_in b) (sym (drop-cons ws i 0 h)) ∙ e))
  where
    by : (t : Bool) → is_missing (get_or ws i 0) ≡ t
        → length (pick t (pages_from b ws (suc i)) (good_in b (get_or ws i 0) ∷ pages_from b ws (suc i))) ≡ suc (length (pages_from b ws (suc i)))
        → is_missing (get_or ws i 0) ≡ false
    by true q l = absurd (omega arith)
    by false q l = q
