-- `reader::fed_of` meets its contract. Assumes nothing.
use mathlib.Core.Path.{sym, ap}
use Rattle.std.proofs.lemmas.Result.{err_from_is_err_and}
use Rattle.stream.specs.Feed.{told_page}
use Rattle.reader.proofs.fed_of.Goals as goal

pub returns : goal.returns
returns c = sym (ap told_page c.in_ok-page.was)

pub returns-in_err-page : goal.returns-in_err-page
returns-in_err-page c =
    let p = err_from_is_err_and c.from_residual.result c.from_residual.ensures.1 in
    rw (p.1, p.2) (sym (ap told_page c.in_err-page.was))
