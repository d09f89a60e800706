-- The gains that were seen, against the number of times that each occurs. Assumes nothing.
use mathlib.Core.Path.{◌≡◌, refl, sym, ap, ap₂, ◌∙◌}
use mathlib.Core.Bool.{Bool, true, false, not, ◌&&◌, ◌||◌}
use mathlib.Core.List.{List, [], ◌∷◌}
use Prim.Native.Nat.{ℕ, ◌+◌}
use native.Mathlib.Omega.{arith}
use borrow.Author.Tests.{lt-leb}
use lib.Dec.{leb}
use Rattle.octets.specs.Pick.{pick}
use Rattle.octets.specs.Octets.{Bytes}
use Rattle.tags_comment.specs.Names.{right_comment, is_named}
use Rattle.tags_rules.specs.Right.{track_gain, album_gain, all_right, occurrences, right_comments}
use Rattle.tags_rules.specs.Code.{wrong, seen, goes_on, judged, and_later, right_from}
use Rattle.tags_rules.specs.Statements.{JudgingTells}

pub and-false : (t : Bool) → t && false ≡ false
and-false true = refl
and-false false = refl

-- the tests of one comment and of those after it, sorted by what they test
sorted : (r p q s u v : Bool) → (r && (p && q)) && (s && (u && v)) ≡ (r && s) && ((p && u) && (q && v))
sorted false p q s u v = refl
sorted true p q false u v = and-false (p && q)
sorted true false q true u v = refl
sorted true true true true u v = refl
sorted true true false true u v = sym (and-false u)

abbrev one : Bool → ℕ
one t = pick t 1 0

same : (m n : ℕ) → m ≡ n → leb m 1 ≡ leb n 1
same m n e = ap (λ (k : ℕ). leb k 1) e

-- a gain that was seen or not, and n times after the one here
at_most_one : (t x : Bool) (n : ℕ) → not (t && x) && leb (one (t || x) + n) 1 ≡ leb (one t + (one x + n)) 1
at_most_one true true n = sym (lt-leb (1 + (1 + n)) 1 (omega arith))
at_most_one true false n = same (1 + n) (1 + (0 + n)) (omega arith)
at_most_one false true n = same (1 + n) (0 + (1 + n)) (omega arith)
at_most_one false false n = same (0 + n) (0 + (0 + n)) (omega arith)

-- the comments are right, and with what was seen before neither gain is there twice
abbrev right_with : Bool → Bool → List Bytes → Bool
right_with t a cs = all_right cs && (leb (one t + occurrences track_gain cs) 1 && leb (one a + occurrences album_gain cs) 1)

-- one comment off the front, by its test
one-judged : (later : Bool → Bool → Bool) (g x y : Bool) → and_later later (pick g (seen x y) wrong) ≡ (g && later x y)
one-judged later true x y = refl
one-judged later false x y = refl

right_with_lem : (t a : Bool) (cs : List Bytes) → right_from t a cs ≡ right_with t a cs
unfolding right_from judged all_right occurrences
right_with_lem true true [] = refl
right_with_lem true false [] = refl
right_with_lem false true [] = refl
right_with_lem false false [] = refl
right_with_lem t a (c ∷ cs) =
    let x = is_named track_gain c in
    let y = is_named album_gain c in
    one-judged (λ u b. right_from u b cs) (goes_on c t a) (t || x) (a || y)
    ∙ ap (λ (r : Bool). goes_on c t a && r) (right_with_lem (t || x) (a || y) cs)
    ∙ sorted (right_comment c) (not (t && x)) (not (a && y)) (all_right cs)
    (leb (one (t || x) + occurrences track_gain cs) 1) (leb (one (a || y) + occurrences album_gain cs) 1)
    ∙ ap (λ (r : Bool). (right_comment c && all_right cs) && r)
    (ap₂ (λ (p q : Bool). p && q) (at_most_one t x (occurrences track_gain cs)) (at_most_one a y (occurrences album_gain cs)))

pub judging_tells : JudgingTells
unfolding right_comments
judging_tells cs =
    let count : (n : ℕ) → leb (0 + n) 1 ≡ leb n 1 = λ n. same (0 + n) n (omega arith) in
    right_with_lem false false cs
    ∙ ap (λ (r : Bool). all_right cs && r)
    (ap₂ (λ (p q : Bool). p && q) (count (occurrences track_gain cs)) (count (occurrences album_gain cs)))
