-- `text_escape::put_image` meets its contract. Assumes nothing.
use mathlib.Core.Path.{refl}
use Prim.Native.Nat.{◌+◌, ◌≤◌}
use native.Mathlib.Omega.{arith}
use lib.ListN.{length}
use Rattle.text_put.proofs.Laying.{one_store, laid_as}
use Rattle.text_escape.proofs.Escaping.{shown, not-shown}
use Rattle.text_escape.proofs.put_image.Goals as goal

-- there is room for the byte
room : (c : goal.Else-n-eq0) → c.args.at + 1 ≤ length c.args.out.now
room c = rw (shown c.args.n (omega arith)) at c.requires

pub put_escape-requires : goal.put_escape-requires
put_escape-requires c =
    let a = c.args in
    rw (not-shown a.n c.if-n-eq0.true) at c.requires

pub returns-then-n-eq0 : goal.returns-then-n-eq0
returns-then-n-eq0 c =
    rw (not-shown _ c.if-n-eq0.true) c.put_escape.ensures

pub bounds-out-at : goal.bounds-out-at
bounds-out-at c = omega (arith, room c)

pub returns : goal.returns
returns c = rw (shown c.args.n (omega arith)) (laid_as 1 refl refl (one_store _ _ _ (room c)))
