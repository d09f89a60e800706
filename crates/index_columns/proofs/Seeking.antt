-- Seeking in three lists, of different lengths and of equal ones. Assumes nothing.
use mathlib.Core.Path.{◌≡◌, ap, ◌∙◌}
use mathlib.Core.Bool.{true, false}
use mathlib.Core.List.{List}
use Prim.Native.Nat.{ℕ}
use lib.ListN.{length}
use Rattle.octets.proofs.Tests.{equal-and}
use borrow.Author.Tests.{eqb-true}
use Rattle.refusal.specs.Checks.{first_of}
use Rattle.refusal.specs.Told.{gives, refuses}
use Rattle.index_search.specs.Index.{Answer, seek_in}
use Rattle.index_columns.specs.Columns.{are_equal, seek_columns}
use Rattle.index_columns.proofs.Layouts.{layouts_back}

module _ (gs ps ss : List ℕ) (target : ℕ) where
  pub unequal : are_equal gs ps ss ≡ false → refuses 22 ≡ seek_columns gs ps ss target
  unfolding seek_columns first_of
  unequal e = rw e

  pub equal : are_equal gs ps ss ≡ true → gives (seek_in gs target) ≡ seek_columns gs ps ss target
  unfolding seek_columns first_of
  equal e =
      let b = equal-and (length gs) (length ps) _ e in
      let c : length gs ≡ length ss = eqb-true (length gs) (length ss) b.1 in
      rw e (ap (λ (l : List ℕ). gives (seek_in l target)) (layouts_back gs ps ss b.0 c).granules)

  pub finds : {a : Answer} → are_equal gs ps ss ≡ true → a ≡ seek_in gs target → gives a ≡ seek_columns gs ps ss target
  finds e h = ap gives h ∙ equal e
