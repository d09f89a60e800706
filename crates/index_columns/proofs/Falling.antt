-- The first fall, from a place of the list on, with the granule position before it. Assumes nothing.
use mathlib.Core.Path.{◌≡◌, refl}
use mathlib.Core.List.{List}
use mathlib.Core.Option.{Option, none, some}
use Prim.Native.Nat.{ℕ, ◌+◌, ◌≤◌, ◌<◌}
use native.Mathlib.Numerals.{add-one}
use borrow.Author.Tests.{lt-ltb, le-ltb}
use lib.ListN.{length, get_or, drop, drop_of_length-le}
use lib.Seq.{drop-cons}
use Rattle.index_search.specs.Index.{fall_after, first_fall}

-- among the places from i on
abbrev pub fall_from : List ℕ → ℕ → ℕ → Option ℕ
fall_from gs i before = fall_after i before (drop i gs)

pub all : (gs : List ℕ) → fall_from gs 0 0 ≡ first_fall gs
unfolding first_fall
all gs = refl

pub here : (gs : List ℕ) (i before : ℕ) → i < length gs → get_or gs i 0 < before → fall_from gs i before ≡ some i
unfolding fall_after
here gs i before there below = rw (drop-cons gs i 0 there, lt-ltb (get_or gs i 0) before below)

pub behind : (gs : List ℕ) (i before : ℕ) → i < length gs → before ≤ get_or gs i 0
    → fall_from gs i before ≡ fall_from gs (i + 1) (get_or gs i 0)
unfolding fall_after
behind gs i before there above = rw (drop-cons gs i 0 there, le-ltb (get_or gs i 0) before above, add-one i)

pub nowhere : (gs : List ℕ) (i before : ℕ) → length gs ≤ i → fall_from gs i before ≡ none
unfolding fall_after
nowhere gs i before over = rw (drop_of_length-le gs over)
