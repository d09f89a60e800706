-- `crop::put_pages` meets its contract. The loop's invariant: what is left makes what all of it makes. Assumes nothing.
use Prim.Native.Nat.{◌-◌}
use native.Mathlib.Omega.{arith}
use borrow.Author.Rules.{rules}
use lib.ListN.{length}
use Rattle.octets.specs.Octets.{Octets}
use Rattle.crop.proofs.Putting.{Puts, puts_begin, puts_end, fits, nearer, turned}
use Rattle.crop.proofs.put_pages.Goals as goal

pub loop-at-init : goal.loop-at-init
loop-at-init c = puts_begin _ _ _ _ _ c.requires

pub slice_bounds-write_back-count : goal.slice_bounds-write_back-count
slice_bounds-write_back-count c = let at = c.loop-at in omega (arith, at.invariant.room)

pub overflow_add-at : goal.overflow_add-at
overflow_add-at c =
    let o : Octets c.args.stream.now = record { below = λ i. (c.shared_slice_known-1.given i).fits } in
    omega (arith, (nearer _ _ _ _ _ _ _ _ c.loop-at.invariant o c.requires.accepted (omega arith) _ c.page_at-page.ensures).1)

pub overflow_add-put : goal.overflow_add-put
overflow_add-put c =
    let o : Octets c.args.stream.now = record { below = λ i. (c.shared_slice_known-1.given i).fits } in
    omega (arith, fits _ _ _ _ _ _ _ _ c.loop-at.invariant o c.requires.accepted (omega arith) _ c.page_at-page.ensures)

pub loop-at-smaller : goal.loop-at-smaller
loop-at-smaller c =
    let o : Octets c.args.stream.now = record { below = λ i. (c.shared_slice_known-1.given i).fits } in
    omega (arith, (nearer _ _ _ _ _ _ _ _ c.loop-at.invariant o c.requires.accepted (omega arith) _ c.page_at-page.ensures).0)

pub loop-at-preserved : goal.loop-at-preserved
loop-at-preserved c =
    let o : Octets c.args.stream.now = record { below = λ i. (c.shared_slice_known-1.given i).fits } in
    turned _ _ _ _ _ _ _ _ c.loop-at.invariant o c.requires.accepted (omega arith) _ c.page_at-page.ensures
    _ _ c.write_back.ensures

pub shape_of-out : goal.shape_of-out
shape_of-out c = c.loop-at.invariant.size

pub returns : goal.returns
returns c = let at = c.loop-at in puts_end _ _ _ _ _ _ _ _ at.invariant (omega arith)
