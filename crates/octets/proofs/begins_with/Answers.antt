-- `octets::begins_with` meets its contract: `starts_with` compares the same pairs of bytes. Assumes nothing.
use mathlib.Core.Path.{◌≡◌, refl, ap, ◌∙◌}
use mathlib.Core.Bool.{◌&&◌}
use mathlib.Core.List.{[], ◌∷◌}
use native.Mathlib.Omega.{arith}
use lib.Dec.{eqb}
use lib.ListN.{length, take}
use lib.Pointwise.{pointwise}
use Rattle.octets.specs.Octets.{Bytes, begins}
use Rattle.octets.proofs.begins_with.Goals as goal

paired : (p s : Bytes) → pointwise eqb p (take (length p) s) ≡ begins p s
unfolding begins
paired [] s = refl
paired (a ∷ p) [] = refl
paired (a ∷ p) (b ∷ s) = ap (λ (t : _). eqb a b && t) (paired p s)

pub returns : goal.returns
returns c =
    let same : c.starts_with.result ≡ begins c.args.p.now c.args.s.now = c.starts_with.ensures.value ∙ paired c.args.p.now c.args.s.now in
    grind (arith, same)
