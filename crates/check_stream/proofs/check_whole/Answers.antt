-- `check_stream::check_whole` meets its contract. Assumes nothing.
use mathlib.Core.Path.{ap}
use native.Mathlib.Omega.{arith}
use borrow.Author.Rules.{rules}
use Rattle.recording_pages.specs.declared.Place.{Place}
use Rattle.check_stream.proofs.Finding.{short-told, found-told}
use Rattle.check_stream.proofs.check_whole.Goals as goal

pub has_gain-gains-requires : goal.has_gain-gains-requires
has_gain-gains-requires c = record { accepted = c.requires; pages = ap (λ (p : Place). p.page) c.headers_end-headers.ensures }

pub count-requires : goal.count-requires
count-requires c = record { headed = record { accepted = c.requires; pages = ap (λ (p : Place). p.page) c.headers_end-headers.ensures }; tag = c.has_gain-gains.ensures }

pub returns-then-least-count : goal.returns-then-least-count
returns-then-least-count c =
    let a = c.args in
    short-told a.stream.now a.kinds.now a.pages.now c.least.result c.count.result c.least.ensures c.count.ensures (omega arith)

pub find-requires : goal.find-requires
find-requires c = record { headed = record { accepted = c.requires; pages = ap (λ (p : Place). p.page) c.headers_end-headers.ensures }; tag = c.has_gain-gains.ensures }

pub returns : goal.returns
returns c =
    let a = c.args in
    let find = c.find in
    found-told a.stream.now a.kinds.now a.pages.now c.least.result c.count.result c.least.ensures c.count.ensures
    find.new.kinds find.new.pages find.result (omega arith) find.ensures
