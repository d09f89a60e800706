-- `embulgri::index::store_answer` meets its contract. Assumes nothing.
use borrow.Author.Rules.{rules}
use Rattle.embulgri.proofs.Indexes.{at_record_lem, at_begin_lem, falls}
use Rattle.embulgri.proofs.index.store_answer.Goals as goal

pub returns-in-Record : goal.returns-in-Record
returns-in-Record c =
    let a = c.args in
    at_record_lem a.out.now a.place.now c.in-Record.i c.in-Record.probes c.in-Record.is

pub returns-in-Begin : goal.returns-in-Begin
returns-in-Begin c =
    let a = c.args in
    at_begin_lem a.out.now a.place.now c.in-Begin.probes c.in-Begin.is

pub returns-in-Refused : goal.returns-in-Refused
returns-in-Refused c =
    let a = c.args in
    falls a.out.now a.place.now c.in-Refused.why c.in-Refused.i c.in-Refused.is c.number.ensures
