-- Comments cut from a text by their lengths: one turn of a loop over the lengths. Assumes nothing.
use mathlib.Core.Path.{◌≡◌, refl, ap, ap₂, ◌∙◌}
use mathlib.Core.Bool.{Bool, true, false, ◌&&◌}
use mathlib.Core.List.{List, ◌∷◌}
use Prim.Native.Nat.{ℕ, ◌+◌, ◌-◌, ◌≤◌, ◌<◌}
use native.Mathlib.Numerals.{add-one}
use native.Mathlib.Omega.{arith}
use borrow.Author.Tests.{eq-eqb, ne_eqb, eqb-true, eqb-false}
use lib.Dec.{eqb}
use lib.ListN.{length, get_or, take, drop, drop_of_length-le}
use lib.Seq.{drop-cons, drop-drop}
use Rattle.octets.specs.Octets.{Bytes, total}
use Rattle.tags_writer.specs.Writing.{cut_by}
use Rattle.tags_rules.specs.Code.{wrong, seen, judged, right_from}
use Rattle.tags_writer.specs.Code.{right_lengths}
use Rattle.tags_rules.proofs.Counting.{and-false}

-- ---- a comment that was judged

module _ (c : Bytes) (t a : Bool) (cs : List Bytes) where
  pub wrong_decides : judged c t a ≡ wrong → right_from t a (c ∷ cs) ≡ false
  unfolding right_from
  wrong_decides h = rw h

  pub seen_decides : (t' a' : Bool) → judged c t a ≡ seen t' a' → right_from t a (c ∷ cs) ≡ right_from t' a' cs
  unfolding right_from
  seen_decides t' a' h = rw h

-- ---- one length off the list

module _ (text : Bytes) (ns : List ℕ) (at i : ℕ) (more : i < length ns) where
  -- its length, and its bytes
  abbrev n : ℕ
  n = get_or ns i 0

  abbrev c : Bytes
  c = take n (drop at text)

  pub sum_step : total (drop i ns) ≡ n + total (drop (i + 1) ns)
  unfolding total
  sum_step = rw (add-one i, drop-cons ns i 0 more)

  pub cut_step : cut_by (drop i ns) (drop at text) ≡ c ∷ cut_by (drop (i + 1) ns) (drop (at + n) text)
  unfolding cut_by
  cut_step = rw (add-one i, drop-cons ns i 0 more, drop-drop n at text)

-- the lengths from i on sum to the text from a place on, and their comments are right
abbrev pub rest_right : Bytes → List ℕ → ℕ → Bool → Bool → ℕ → Bool
rest_right text ns at t a i = eqb (total (drop i ns)) (length text - at) && right_from t a (cut_by (drop i ns) (drop at text))

module _ (text : Bytes) (ns : List ℕ) (at : ℕ) (t a : Bool) (i : ℕ) (more : i < length ns) where
  pub too_long : length text - at < get_or ns i 0 → rest_right text ns at t a i ≡ false
  too_long h = rw (ne_eqb (total (drop i ns)) (length text - at) (λ e. omega (arith, sum_step text ns at i more)))

  pub comment-wrong : judged (take (get_or ns i 0) (drop at text)) t a ≡ wrong → rest_right text ns at t a i ≡ false
  comment-wrong e =
      rw (cut_step text ns at i more, wrong_decides (take (get_or ns i 0) (drop at text)) t a (cut_by (drop (i + 1) ns) (drop (at + get_or ns i 0) text)) e)
      (and-false (eqb (total (drop i ns)) (length text - at)))

  pub comment_right : (t' a' : Bool) → get_or ns i 0 ≤ length text - at → judged (take (get_or ns i 0) (drop at text)) t a ≡ seen t' a'
      → rest_right text ns at t a i ≡ rest_right text ns (at + get_or ns i 0) t' a' (i + 1)
  comment_right t' a' h e = ap₂ (λ (x y : Bool). x && y) sums (ap (right_from t a) (cut_step text ns at i more) ∙ seen_decides (take (get_or ns i 0) (drop at text)) t a (cut_by (drop (i + 1) ns) (drop (at + get_or ns i 0) text)) t' a' e)
    where
      by : (b : Bool) → eqb (total (drop (i + 1) ns)) (length text - (at + get_or ns i 0)) ≡ b → eqb (total (drop i ns)) (length text - at) ≡ b
      by true q = eq-eqb (total (drop i ns)) (length text - at)
          (omega (arith, sum_step text ns at i more, eqb-true (total (drop (i + 1) ns)) (length text - (at + get_or ns i 0)) q))
      by false q = ne_eqb (total (drop i ns)) (length text - at)
          (λ p. eqb-false (total (drop (i + 1) ns)) (length text - (at + get_or ns i 0)) q (omega (arith, sum_step text ns at i more)))

      sums : eqb (total (drop i ns)) (length text - at) ≡ eqb (total (drop (i + 1) ns)) (length text - (at + get_or ns i 0))
      sums = by (eqb (total (drop (i + 1) ns)) (length text - (at + get_or ns i 0))) refl

pub lengths_begin : (text : Bytes) (ns : List ℕ) → rest_right text ns 0 false false 0 ≡ right_lengths text ns
unfolding right_lengths
lengths_begin text ns =
    let all : length text - 0 ≡ length text = omega arith in
    rw all

pub lengths-done : (text : Bytes) (ns : List ℕ) (at : ℕ) (t a : Bool) (i : ℕ) → length ns ≤ i → at ≤ length text
    → rest_right text ns at t a i ≡ eqb at (length text)
unfolding total cut_by right_from
lengths-done text ns at t a i h inside = rw (drop_of_length-le ns h) (by (eqb at (length text)) refl)
  where
    by : (b : Bool) → eqb at (length text) ≡ b → eqb 0 (length text - at) && true ≡ b
    by true e = rw (eq-eqb 0 (length text - at) (omega (arith, eqb-true at (length text) e)))
    by false e = rw (ne_eqb 0 (length text - at) (λ p. eqb-false at (length text) e (omega arith)))
