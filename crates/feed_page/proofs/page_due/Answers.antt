-- `feed_page::page_due` meets its contract: `Pages` has its ways. Assumes nothing.
use Rattle.std.proofs.lemmas.Result.{err_from_is_err_and}
use mathlib.Core.Path.{sym, ap, ◌∙◌}
use Rattle.page_layout.specs.Page.{lacing_of, body_of}
use Rattle.refusal.specs.Told.{told}
use Rattle.feed_page.proofs.Pages.{not_a_page, page-refused, page_awaited}
use Rattle.feed_page.proofs.page_due.Goals as goal

pub returns : goal.returns
returns c =
    λ crc b tally m u.
    page_awaited crc c.args.core tally m b u.room u.going c.in_ok-header.header (sym u.reads ∙ ap told c.in_ok-header.was) c.expected-due.result
    (c.expected-due.ensures m.carry (lacing_of b) (body_of b)) (sym (c.in_ok-check_fields.ensures m.carry (lacing_of b) (body_of b)))

pub returns-in_err-check_fields : goal.returns-in_err-check_fields
returns-in_err-check_fields c =
    let p = err_from_is_err_and c.from_residual-in_err-check_fields.result c.from_residual-in_err-check_fields.ensures.1 in
    rw (p.1, p.2)
    (λ crc b tally m u.
    page-refused crc c.args.core tally m b u.room u.going c.in_ok-header.header (sym u.reads ∙ ap told c.in_ok-header.was) c.expected-due.result
    (c.expected-due.ensures m.carry (lacing_of b) (body_of b)) _
    (sym (c.in_err-check_fields.ensures m.carry (lacing_of b) (body_of b))))

pub returns-in_err-header : goal.returns-in_err-header
returns-in_err-header c =
    let p = err_from_is_err_and c.from_residual.result c.from_residual.ensures.1 in
    rw (p.1, p.2)
    (λ crc b tally m u. not_a_page crc c.args.core tally m b u.room u.going _ (sym (ap told c.in_err-header.was) ∙ u.reads))
