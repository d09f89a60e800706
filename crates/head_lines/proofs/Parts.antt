-- The parts of each line, laid one after the other. Assumes nothing.
use mathlib.Core.Path.{◌≡◌, ap, ◌∙◌}
use mathlib.Core.List.{[], ◌∷◌, ◌++◌}
use Prim.Native.Nat.{ℕ, ◌+◌, ◌*◌, ◌≤◌, ◌<◌}
use native.Mathlib.Numerals.{add-one}
use native.Mathlib.Omega.{arith}
use lib.ListN.{length, take, get_or, drop, length-append, drop_of_length-le}
use lib.Seq.{drop-cons}
use Rattle.octets.specs.Octets.{Bytes, Octets}
use Rattle.octets.proofs.Parts.{octets-tail}
use Rattle.text_put.specs.Marks.{space}
use Rattle.text_put.specs.Writing.{Put, Laid}
use Rattle.text_put.proofs.Putting.{put-known, front}
use Rattle.text_decimal.specs.Decimal.{decimal}
use Rattle.text_decimal.proofs.Decimal.{length_most}
use Rattle.head_lines.specs.Lines.{spaced}

-- a line whose end was made in a buffer z
pub put_ended : {d e f z p s : Bytes} {at n r : ℕ} (name : Bytes) → Laid z 0 s n e → length s ≤ length z → p ≡ take n e
    → Put d at (name ++ p) r f → Put d at (name ++ s) r f
put_ended name x room same y = put-known (ap (λ (t : Bytes). name ++ t) (same ∙ front x room)) y

-- ---- the mapping

length-index : (i : ℕ) → i < 256 → length (space ++ decimal i) ≤ 4
length-index i small = omega (arith, length-append space (decimal i), length_most i 2 (omega arith))

pub length-spaced : (s : Bytes) → Octets s → length (spaced s) ≤ 4 * length s
unfolding spaced
length-spaced [] o = omega arith
length-spaced (i ∷ s) o =
    omega (arith, length-append (space ++ decimal i) (spaced s), length-index i (o.below 0), length-spaced s (octets-tail o))

pub next-index : (s : Bytes) (i : ℕ) → i < length s → spaced (drop i s) ≡ (space ++ decimal (get_or s i 0)) ++ spaced (drop (i + 1) s)
unfolding spaced
next-index s i inside =
    let split : drop i s ≡ get_or s i 0 ∷ drop (i + 1) s = rw add-one (drop-cons s i 0 inside) in
    rw split

pub no_index : (s : Bytes) (i : ℕ) → length s ≤ i → spaced (drop i s) ≡ []
unfolding spaced
no_index s i h = rw (drop_of_length-le s h)
