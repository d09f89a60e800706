-- Fields of some bytes, put together again: a number's bytes, or one byte, and what follows them. Assumes nothing.
use mathlib.Core.Path.{◌≡◌, sym}
use mathlib.Core.List.{◌∷◌, ◌++◌}
use Prim.Native.Nat.{ℕ, suc, ◌+◌, ◌^◌, ◌≤◌, ◌<◌}
use native.Mathlib.Omega.{arith}
use lib.ListN.{length, get_or, take, drop, length-drop, take-append-drop}
use lib.Seq.{length-take-le, drop-cons, drop-drop}
use Rattle.octets.specs.Octets.{Bytes, Octets}
use Rattle.octets.specs.Numbers.{value, octets, number}
use Rattle.octets.proofs.Numbers.{octets-value, value-fits}
use Rattle.octets.proofs.Parts.{octets-take, octets-drop}

-- the n bytes from a place on
module _ (n at : ℕ) (b : Bytes) (o : Octets b) (fits : at + n ≤ length b) where
  part_length : length (take n (drop at b)) ≡ n
  part_length = length-take-le n (drop at b) (simp length-drop (omega arith))

  part_octets : Octets (take n (drop at b))
  part_octets = octets-take n (drop at b) (octets-drop at b o)

  pub field_fits : number n b at < 256 ^ n
  unfolding number
  field_fits = rw part_length at (value-fits (take n (drop at b)) part_octets)

  pub field : octets n (number n b at) ++ drop (at + n) b ≡ drop at b
  unfolding number
  field =
      let t : Bytes = take n (drop at b) in
      let same : octets n (value t) ≡ t = rw part_length at (octets-value t part_octets) in
      rw (same, ← drop-drop n at b) (take-append-drop n (drop at b))

pub byte : (at v : ℕ) (b : Bytes) → get_or b at 0 ≡ v → at < length b → v ∷ drop (suc at) b ≡ drop at b
byte at v b e h = rw (← e) (sym (drop-cons b at 0 h))
