-- Lent memory that is the same, part by part. Assumes nothing.
use Prim.Native.Nat.{ℕ}
use mathlib.Core.Path.{◌≡◌}
use mathlib.Core.List.{List}
use Rattle.stream.specs.Lent.{lent_of}

pub same-lent : {c d e f l m k n i j : List ℕ} → c ≡ d → e ≡ f → l ≡ m → k ≡ n → i ≡ j → lent_of c e l k i ≡ lent_of d f m n j
same-lent p q r s t = cc
