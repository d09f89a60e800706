-- Numbers compared with their bounds, one after the other. Assumes nothing.
use mathlib.Core.Path.{◌≡◌}
use mathlib.Core.Bool.{false}
use mathlib.Core.List.{List}
use Prim.Native.Nat.{ℕ, ◌+◌, ◌≤◌, ◌<◌}
use native.Mathlib.Nat.{add-zero}
use native.Mathlib.Numerals.{add-one}
use borrow.Author.Tests.{lt-ltb, le-ltb}
use lib.ListN.{length, get_or, drop}
use lib.Seq.{drop-cons, drop-drop, get_or-drop}
use Rattle.head_numbers.specs.Numbers.{all_below}

module _ (ws f : List ℕ) (i : ℕ) (inside : i < length ws) where
  -- the number at i is at the front
  front : get_or (drop i f) 0 0 ≡ get_or f i 0
  front = rw (get_or-drop i f 0 0, add-zero i)

  pub below-stop : get_or ws i 0 ≤ get_or f i 0 → all_below (drop i ws) (drop i f) ≡ false
  unfolding all_below
  below-stop h = rw (drop-cons ws i 0 inside, front, le-ltb (get_or f i 0) (get_or ws i 0) h)

  pub below_next : get_or f i 0 < get_or ws i 0 → all_below (drop (i + 1) ws) (drop (i + 1) f) ≡ all_below (drop i ws) (drop i f)
  unfolding all_below
  below_next h = rw (drop-cons ws i 0 inside, front, lt-ltb (get_or f i 0) (get_or ws i 0) h, drop-drop 1 i f, add-one i)
