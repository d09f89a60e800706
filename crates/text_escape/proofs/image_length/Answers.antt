-- `text_escape::image_length` meets its contract. Assumes nothing.
use mathlib.Core.Path.{refl}
use native.Mathlib.Omega.{arith}
use Rattle.text_escape.proofs.Escaping.{escape_backslash, escape_other, shown, not-shown}
use Rattle.text_escape.proofs.image_length.Goals as goal

pub returns-then-n-gt0 : goal.returns-then-n-gt0
returns-then-n-gt0 c = rw (shown _ c.if-n-gt0.true)

pub returns-then-b-eq92 : goal.returns-then-b-eq92
returns-then-b-eq92 c = rw (not-shown c.args.n (omega arith), escape_backslash _ c.if-b-eq92.true)

pub returns-else-b-eq92 : goal.returns-else-b-eq92
returns-else-b-eq92 c = rw (not-shown c.args.n (omega arith), escape_other _ _ _ c.if-b-eq92.false refl refl)
