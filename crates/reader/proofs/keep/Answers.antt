-- `reader::keep` meets its contract. Assumes nothing.
use Rattle.std.proofs.lemmas.Result.{err_from_is_err_and}
use Rattle.reader.proofs.States.{state-accepted, state-refused}
use Rattle.reader.proofs.keep.Goals as goal

pub returns : goal.returns
returns c =
    λ f after is.
    let page = c.in_ok-page.page in
    state-accepted page.core page.tally page.counts (rw c.in_ok-page.was at is) c.numbers_of.ensures

pub returns-in_err-page : goal.returns-in_err-page
returns-in_err-page c =
    let p = err_from_is_err_and c.from_residual.result c.from_residual.ensures.1 in
    rw (p.1, p.2) (λ f after is. state-refused _ (rw c.in_err-page.was at is))
