-- One lacing value more, shared by every loop over them. Assumes nothing.
use mathlib.Core.Path.{◌≡◌, ◌∙◌}
use mathlib.Core.List.{◌∷◌}
use Prim.Native.Nat.{ℕ, ◌+◌, ◌<◌}
use native.Mathlib.Numerals.{add-one}
use lib.ListN.{length, get_or, drop}
use lib.Seq.{drop-cons}
use Rattle.octets.specs.Octets.{Bytes}

pub next : (l : Bytes) (i v : ℕ) → i < length l → v ≡ get_or l i 0 → drop i l ≡ v ∷ drop (i + 1) l
next l i v h e = drop-cons l i 0 h ∙ rw (← e, add-one)
