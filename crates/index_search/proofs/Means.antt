-- What seeking answers is the last record at or before the target less the pre-roll, the begin, or the first fall.
-- Assumes nothing.
use mathlib.Core.Path.{◌≡◌, refl}
use mathlib.Core.Bool.{Bool, true, false}
use mathlib.Core.List.{List}
use mathlib.Core.Option.{Option, none, some}
use Prim.Native.Nat.{ℕ, zero, suc, ◌-◌, ◌<◌, ◌≤◌}
use native.Mathlib.Omega.{arith}
use borrow.Author.Tests.{leb-true, leb-false, ltb-true, ltb-false}
use lib.Dec.{ltb, leb}
use lib.ListN.{length, get_or}
use Rattle.octets.specs.Pick.{pick}
use Rattle.index_search.specs.Index.{pre_roll, first_fall, up_to, probes, at_begin, found_by, seek_in}
use Rattle.index_search.specs.Statements.{LastUpTo, Means, AnswerMeans}
use Rattle.index_search.proofs.UpTo.{counted, within, early}
use Rattle.index_search.proofs.Answered.{where_falls, where_none}

-- a place that is not counted is past the limit
later-by : (low : Bool) (gs : List ℕ) (limit j : ℕ) → j < length gs → up_to limit gs ≤ j → leb (get_or gs j 0) limit ≡ low
    → limit < get_or gs j 0
later-by true gs limit j there over t =
    absurd (let h : j < up_to limit gs = counted limit gs j there (leb-true (get_or gs j 0) limit t) in omega arith)
later-by false gs limit j there over t = leb-false (get_or gs j 0) limit t

later : (gs : List ℕ) (limit j : ℕ) → j < length gs → up_to limit gs ≤ j → limit < get_or gs j 0
later gs limit j there over = later-by (leb (get_or gs j 0) limit) gs limit j there over refl

last : (gs : List ℕ) (limit i : ℕ) → first_fall gs ≡ none → up_to limit gs ≡ suc i → LastUpTo gs limit i
unfolding first_fall
last gs limit i e found =
    record {
      there = (let h : up_to limit gs ≤ length gs = within limit gs in omega arith);
      early = early 0 0 limit gs e i (omega arith);
      later = λ j behind there. later gs limit j there (let h : i < j = behind in omega arith);
    }

by_count : (n : ℕ) (gs : List ℕ) (target p : ℕ) → first_fall gs ≡ none → pre_roll ≤ target → up_to (target - pre_roll) gs ≡ n
    → Means gs target (found_by n p)
by_count zero gs target p e enough found = λ j reach there. later gs (target - pre_roll) j there (omega arith)
by_count (suc i) gs target p e enough found = (enough, last gs (target - pre_roll) i e found)

by-target : (short : Bool) (gs : List ℕ) (target p : ℕ) → first_fall gs ≡ none → ltb target pre_roll ≡ short
    → Means gs target (pick short (at_begin 0) (found_by (up_to (target - pre_roll) gs) p))
by-target true gs target p e t =
    λ j reach there. absurd (let h : target < pre_roll = ltb-true target pre_roll t in omega arith)
by-target false gs target p e t = by_count (up_to (target - pre_roll) gs) gs target p e (ltb-false target pre_roll t) refl

by-fall : (fall : Option ℕ) (gs : List ℕ) (target : ℕ) → first_fall gs ≡ fall → Means gs target (seek_in gs target)
by-fall (some i) gs target e = rw (where_falls gs target i e) e
by-fall none gs target e =
    rw (where_none gs target e)
    (by-target (ltb target pre_roll) gs target (probes (length gs) (target - pre_roll) gs) e refl)

pub answer_means : AnswerMeans
answer_means gs target = by-fall (first_fall gs) gs target refl
