-- `text_pieces::after` meets its contract. Assumes nothing.
use mathlib.Core.Path.{◌≡◌, refl}
use mathlib.Core.Bool.{Bool, true, false, ◌&&◌}
use borrow.Author.Tests.{lt-ltb, le-ltb}
use Rattle.text_pieces.specs.Pieces.{moved_to}
use Rattle.text_pieces.proofs.after.Goals as goal

and-true : (t : Bool) → t ≡ t && true
and-true true = refl
and-true false = refl

and-false : (t : Bool) → false ≡ t && false
and-false true = refl
and-false false = refl

pub returns-then-next-p : goal.returns-then-next-p
unfolding moved_to
returns-then-next-p c = let p = c.args.p in rw (lt-ltb p.at c.args.next c.if-next-p.true, ← and-true p.whole)

pub returns : goal.returns
unfolding moved_to
returns c = let p = c.args.p in rw (le-ltb p.at c.args.next c.if-next-p.false, ← and-false p.whole)
