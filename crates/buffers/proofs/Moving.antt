-- A turn of the loop that moves bytes down. Assumes nothing.
use mathlib.Core.Path.{◌≡◌, sym}
use mathlib.Core.List.{[], ◌∷◌, ◌++◌, append_assoc}
use Prim.Native.Nat.{ℕ, suc, ◌+◌, ◌≤◌, ◌<◌}
use native.Mathlib.Numerals.{add-one}
use native.Mathlib.Omega.{arith}
use lib.ListN.{length, set, take, drop, get_or, length-drop}
use lib.Seq.{length-take-le, get_or-append-add, get_or-drop, set_at, take-suc, drop-cons}
use Rattle.octets.specs.Octets.{Bytes}

-- n bytes are moved
pub record Moving (d : Bytes) (from : ℕ) (b : Bytes) (n : ℕ) : Type 0 where
  pub bytes : b ≡ take n (drop from d) ++ drop n d

module _ {d : Bytes} {from : ℕ} {b : Bytes} {n : ℕ} (m : Moving d from b n) where
  abbrev source : Bytes
  source = drop from d

  moved : from + n ≤ length d → length (take n source) ≡ n
  moved h = length-take-le n source (omega (arith, length-drop from d))

  -- the next byte was not written over yet
  next : from + n < length d → get_or b (from + n) 0 ≡ get_or source n 0
  next h =
      let size : length (take n source) ≡ n = moved (omega arith) in
      let i_is : from + n ≡ length (take n source) + from = omega arith in
      let same : n + from ≡ from + n = omega arith in
      rw (m.bytes, i_is, get_or-append-add (take n source) (drop n d) from 0, get_or-drop n d from 0, same) (sym (get_or-drop from d n 0))

  pub moving_on : from + n < length d → Moving d from (set b n (get_or b (from + n) 0)) (n + 1)
  moving_on h =
      let rest : Bytes = drop (suc n) d in
      let v : ℕ = get_or source n 0 in
      let in_d : n < length d = omega arith in
      let in_s : n < length source = omega (arith, length-drop from d) in
      record {
        bytes =
            rw (next h, m.bytes, drop-cons d n 0 in_d, set_at (take n source) (get_or d n 0) rest v n (moved (omega arith)), add-one n, take-suc source n 0 in_s)
            (sym (append_assoc (take n source) (v ∷ []) rest));
      }
