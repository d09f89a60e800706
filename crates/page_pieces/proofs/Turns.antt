-- What a turn of `pieces_of` keeps, over plain numbers and lists. Assumes nothing.
use mathlib.Core.Path.{◌≡◌, refl, sym, ap, ◌∙◌}
use mathlib.Core.List.{List, ◌++◌, append_assoc, append-nil}
use Prim.Native.Nat.{ℕ, suc, ◌+◌, ◌*◌, ◌-◌, ◌<◌, ◌≤◌}
use native.Mathlib.Numerals.{add-one}
use native.Mathlib.Omega.{arith}
use borrow.Author.Tests.{lt-ltb, le-ltb}
use lib.ListN.{length, get_or, take, drop, set, replicate, length-set, length-replicate, take-append-drop, drop_of_length-le}
use lib.Seq.{drop-cons, take-suc-set, drop-set-lt, drop-drop, length-take-le}
use Rattle.page_lacing.specs.Lacing.{ended_from, unfinished_from}

-- after i values of l: the first n of `lengths` are those of the packets that ended, and `bytes` belong to the next
pub record Done (l lengths : List ℕ) (n bytes i : ℕ) : Type 0 where
  pub runs : take n lengths ++ ended_from bytes (drop i l) ≡ ended_from 0 l
  pub left : unfinished_from bytes (drop i l) ≡ unfinished_from 0 l
  pub rest : drop n lengths ≡ replicate (255 - n) 0
  pub size : length lengths ≡ 255
  pub few : n ≤ i
  pub within : i ≤ length l
  pub bound : bytes ≤ 255 * i

pub begins : (l : List ℕ) → Done l (replicate 255 0) 0 0 0
begins l = record {
  runs = refl;
  left = refl;
  rest = refl;
  size = length-replicate {A = ℕ} 255 0;
  few = omega arith;
  within = omega arith;
  bound = omega arith;
}

module _ {l lengths : List ℕ} {n bytes i : ℕ} (d : Done l lengths n bytes i) {v : ℕ} (e : v ≡ get_or l i 0) (in_l : i < length l) where
  pub goes_on : 255 ≤ v → v ≤ 255 → Done l lengths n (bytes + v) (i + 1)
  unfolding ended_from unfinished_from
  goes_on h byte = record {
    runs = simp (← add-one i, drop-cons l i 0 in_l, ← e, le-ltb v 255 h) at d.runs;
    left = simp (← add-one i, drop-cons l i 0 in_l, ← e, le-ltb v 255 h) at d.left;
    rest = d.rest;
    size = d.size;
    few = omega arith;
    within = omega arith;
    bound = omega arith;
  }

  pub ends : v < 255 → n < 255 → Done l (set lengths n (bytes + v)) (n + 1) 0 (i + 1)
  unfolding ended_from unfinished_from
  ends h room =
      let in_b : n < length lengths = omega arith in
      let next : 255 - n ≡ suc (255 - (n + 1)) = omega arith in
      let after : drop (n + 1) lengths ≡ replicate (255 - (n + 1)) 0 =
      (sym (drop-drop 1 n lengths) ∙ ap (drop 1) (rw next at d.rest)) in
      record {
        runs = rw (add-one n, add-one i, take-suc-set lengths n (bytes + v) in_b, append_assoc) (rw (drop-cons l i 0 in_l, ← e, lt-ltb v 255 h) at d.runs);
        left = rw (add-one i) (rw (drop-cons l i 0 in_l, ← e, lt-ltb v 255 h) at d.left);
        rest = drop-set-lt (n + 1) lengths n (bytes + v) (omega arith) ∙ after;
        size = length-set lengths n (bytes + v) ∙ d.size;
        few = omega arith;
        within = omega arith;
        bound = omega arith;
      }

-- at the end nothing is left to read
module _ {l lengths : List ℕ} {n bytes i : ℕ} (d : Done l lengths n bytes i) (h : length l ≤ i) (short : length l ≤ 255) where
  all : take n lengths ≡ ended_from 0 l
  unfolding ended_from
  all = sym (append-nil (take n lengths)) ∙ (rw (drop_of_length-le l h) at d.runs)

  pub done-count : n ≡ length (ended_from 0 l)
  done-count = sym (length-take-le n lengths (omega arith)) ∙ ap length all

  pub done-lengths : lengths ≡ ended_from 0 l ++ replicate (255 - length (ended_from 0 l)) 0
  done-lengths = rw (← done-count, ← all, ← d.rest) (sym (take-append-drop n lengths))

  pub done-unfinished : bytes ≡ unfinished_from 0 l
  unfolding unfinished_from
  done-unfinished = rw (drop_of_length-le l h) at d.left
