-- `page_size::is_one_page` meets its contract. Assumes nothing.
use mathlib.Core.Path.{sym, ap, ◌∙◌}
use borrow.Author.Rules.{rules}
use lib.Dec.{eqb}
use lib.ListN.{length}
use Rattle.octets.proofs.Tests.{equals, unequal, failed, held}
use Rattle.page_size.proofs.Shapes.{no_capture, other-version, size_decides}
use Rattle.page_size.proofs.is_one_page.Goals as goal

pub returns-then-not-has_capture : goal.returns-then-not-has_capture
returns-then-not-has_capture c =
    let call = c.has_capture in
    sym (no_capture c.args.page.now (failed call.ensures c.if-not-has_capture.true))

pub returns-then-byte_at-ne0 : goal.returns-then-byte_at-ne0
returns-then-byte_at-ne0 c =
    let call = c.has_capture in
    sym
    (other-version c.args.page.now (held call.ensures c.if-not-has_capture.false)
    (unequal c.byte_at.ensures c.if-byte_at-ne0.true))

pub returns : goal.returns
returns c =
    let call = c.has_capture in
    let page = c.args.page.now in
    ap (eqb (length page)) c.size_of.ensures.size
    ∙ sym
    (size_decides page (held call.ensures c.if-not-has_capture.false)
    (equals c.byte_at.ensures c.if-byte_at-ne0.false))
