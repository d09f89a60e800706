-- `crop_start::may_start` meets its contract. Assumes nothing.
use mathlib.Core.Path.{◌≡◌, refl, sym, ◌∙◌}
use mathlib.Core.Bool.{Bool, true, false, ◌&&◌}
use borrow.Author.Rules.{rules}
use borrow.Author.Tests.{lt-leb, le-leb}
use lib.Dec.{leb}
use Rattle.stream.specs.Page.{page_of}
use Rattle.crop_rules.specs.Crop.{may_begin}
use Rattle.crop_start.proofs.may_start.Goals as goal

never : (s t : Bool) → ((s && t) && false) ≡ false
never true true = refl
never true false = refl
never false t = refl

and-true : (t : Bool) → (t && true) ≡ t
and-true true = refl
and-true false = refl

pub returns-then-number-headers : goal.returns-then-number-headers
returns-then-number-headers c =
    let a = c.args in
    rw (lt-leb a.headers a.number c.if-number-headers.true)

pub returns-then-start-position : goal.returns-then-start-position
returns-then-start-position c =
    let a = c.args in
    rw (lt-leb a.start a.position c.if-start-position.true) (sym (never (leb a.headers a.number) (may_begin (page_of a.page.now))))

pub returns : goal.returns
returns c =
    let a = c.args in
    rw (le-leb a.headers a.number c.if-number-headers.false, le-leb a.start a.position c.if-start-position.false)
    (c.may_begin.ensures ∙ sym (and-true (may_begin (page_of a.page.now))))
