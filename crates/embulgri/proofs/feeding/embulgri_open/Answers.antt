-- `embulgri::feeding::embulgri_open` meets its contract. Assumes nothing.
use borrow.Author.Rules.{rules}
use Rattle.octets.proofs.Tests.{failed, held}
use Rattle.embulgri.proofs.Readers.{open_unfit, opened, unopened}
use Rattle.embulgri.proofs.feeding.embulgri_open.Goals as goal

pub returns-then-not-numbers_fit : goal.returns-then-not-numbers_fit
returns-then-not-numbers_fit c =
    let a = c.args in
    rw c.number.ensures
    (open_unfit a.fields.now a.mapping.now a.state.now (failed c.numbers_fit.ensures c.if-not-numbers_fit.true))

pub returns-in-Ok : goal.returns-in-Ok
returns-in-Ok c =
    let a = c.args in
    opened a.fields.now a.mapping.now a.state.now c.head_of.ensures (held c.numbers_fit.ensures c.if-not-numbers_fit.false)
    c.open_state.ensures c.in-Ok.is

pub returns-in-Err : goal.returns-in-Err
returns-in-Err c =
    let a = c.args in
    unopened a.fields.now a.mapping.now a.state.now c.head_of.ensures (held c.numbers_fit.ensures c.if-not-numbers_fit.false)
    c.open_state.ensures c.in-Err.why c.in-Err.is c.number-in-Err.ensures
