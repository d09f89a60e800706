-- What seeking answers, where there is a fall and where there is none. Assumes nothing.
use mathlib.Core.Path.{◌≡◌}
use mathlib.Core.List.{List}
use mathlib.Core.Option.{none}
use Prim.Native.Nat.{ℕ, ◌-◌}
use lib.Dec.{ltb}
use lib.ListN.{length}
use Rattle.octets.specs.Pick.{pick}
use Rattle.index_search.specs.Index.{pre_roll, first_fall, up_to, probes, at_begin, found_by, seek_in}
use Rattle.index_search.specs.Statements.{FallRefused}

-- 26, whatever the target
pub where_falls : FallRefused
unfolding seek_in
where_falls gs target i falls = rw falls

pub where_none : (gs : List ℕ) (target : ℕ) → first_fall gs ≡ none
    → seek_in gs target
    ≡ pick (ltb target pre_roll) (at_begin 0)
    (found_by (up_to (target - pre_roll) gs) (probes (length gs) (target - pre_roll) gs))
unfolding seek_in
where_none gs target rises = rw rises
