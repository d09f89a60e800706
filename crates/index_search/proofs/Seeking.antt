-- The search for the first fall and the search by halving, each to its end, give what seeking is to answer. Assumes nothing.
use mathlib.Core.Path.{◌≡◌, refl, sym, ◌∙◌}
use mathlib.Core.Bool.{Bool, true, false}
use mathlib.Core.List.{List}
use mathlib.Core.Option.{Option, none, some}
use Prim.Native.Nat.{ℕ, ◌-◌, ◌<◌, ◌^◌}
use native.Mathlib.Nat.{sub-zero}
use native.Mathlib.Omega.{arith}
use lib.Dec.{ltb}
use lib.ListN.{length}
use Rattle.octets.specs.Pick.{pick}
use Rattle.index_search.specs.Index.{pre_roll, first_fall, up_to, probes, at_begin, found_by, seek_in}
use Rattle.index_search.specs.Search.{finish, halving_by, halving_of, answer_of}
use Rattle.index_search.proofs.Steps.{finish-done}
use Rattle.index_search.proofs.UpTo.{counted, within, early}
use Rattle.index_search.proofs.Halves.{ends-all}
use Rattle.index_search.proofs.Answered.{where_falls, where_none}

halves_all : (gs : List ℕ) (limit : ℕ) → first_fall gs ≡ none → length gs < 2 ^ 64
    → finish gs (halving_by (length gs) limit)
    ≡ record { low = up_to limit gs; high = up_to limit gs; number = limit; probes = probes (length gs) limit gs; halves = true }
unfolding finish first_fall
halves_all gs limit e room =
    rw (sub-zero (length gs))
    (ends-all gs limit (up_to limit gs) (counted limit gs) (early 0 0 limit gs e) (omega arith) (within limit gs))

by-target : (short : Bool) (gs : List ℕ) (limit : ℕ) → first_fall gs ≡ none → length gs < 2 ^ 64
    → answer_of none (finish gs (pick short (halving_by 0 0) (halving_by (length gs) limit)))
    ≡ pick short (at_begin 0) (found_by (up_to limit gs) (probes (length gs) limit gs))
by-target true gs limit e room = rw (finish-done gs (halving_by 0 0) (omega arith))
by-target false gs limit e room = rw (halves_all gs limit e room)

by-fall : (fall : Option ℕ) (gs : List ℕ) (target : ℕ) → first_fall gs ≡ fall → length gs < 2 ^ 64
    → answer_of fall (finish gs (halving_of fall (length gs) target)) ≡ seek_in gs target
unfolding halving_of
by-fall (some i) gs target e room = sym (where_falls gs target i e)
by-fall none gs target e room = by-target (ltb target pre_roll) gs (target - pre_roll) e room ∙ sym (where_none gs target e)

pub seeks : (gs : List ℕ) (target : ℕ) → length gs < 2 ^ 64
    → answer_of (first_fall gs) (finish gs (halving_of (first_fall gs) (length gs) target)) ≡ seek_in gs target
seeks gs target room = by-fall (first_fall gs) gs target refl room
