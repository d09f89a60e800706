-- `salvage_list::is_known` meets its contract. Assumes nothing.
use mathlib.Core.Path.{sym}
use borrow.Author.Rules.{rules}
use borrow.Author.Tests.{not-true, not-false}
use Rattle.octets.proofs.Tests.{failed, held}
use Rattle.salvage_list.proofs.Known.{first-page, none-onward, broken, joined}
use Rattle.salvage_list.proofs.is_known.Goals as goal

pub returns-then-not-prior : goal.returns-then-not-prior
returns-then-not-prior c =
    let a = c.args in
    sym (first-page a.prior a.link (not-true _ c.if-not-prior.true))

pub returns-then-not-before : goal.returns-then-not-before
returns-then-not-before c =
    let a = c.args in
    sym (none-onward a.prior a.link (not-false _ c.if-not-prior.false) (not-true _ c.if-not-before.true))

pub returns-then-not-follows : goal.returns-then-not-follows
returns-then-not-follows c =
    let a = c.args in
    sym (broken a.prior a.link (not-false _ c.if-not-prior.false) (not-false _ c.if-not-before.false) (failed c.follows.ensures c.if-not-follows.true))

pub returns : goal.returns
returns c =
    let a = c.args in
    sym (joined a.prior a.link (not-false _ c.if-not-prior.false) (not-false _ c.if-not-before.false) (held c.follows.ensures c.if-not-follows.false))
