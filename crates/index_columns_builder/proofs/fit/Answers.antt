-- Where the pages are no more than the places and two, the records fit. Assumes nothing.
use native.Mathlib.Omega.{arith}
use borrow.Author.Rules.{rules}
use borrow.Author.Tests.{lt-ltb, le-ltb}
use lib.ListN.{length}
use Rattle.recording.specs.Pages.{pages_of}
use Rattle.index_walk.specs.Records.{index_of}
use Rattle.index_columns_builder.proofs.Fitting.{surely_fits}
use Rattle.index_columns_builder.proofs.fit.Goals as goal

pub returns-then-pages-room : goal.returns-then-pages-room
returns-then-pages-room c =
    let args = c.args in
    let n = length (index_of (pages_of args.stream.now)) in
    surely_fits n args.pages args.room c.requires (omega (arith, c.if-pages-room.true))

pub returns-then-pages-room-le2 : goal.returns-then-pages-room-le2
returns-then-pages-room-le2 c =
    let args = c.args in
    let n = length (index_of (pages_of args.stream.now)) in
    surely_fits n args.pages args.room c.requires (omega (arith, c.if-pages-room-le2.true, c.if-pages-room.false))

pub returns-then-room-count : goal.returns-then-room-count
returns-then-room-count c = rw (← c.count.ensures, lt-ltb _ _ c.if-room-count.true)

pub returns : goal.returns
returns c = rw (← c.count.ensures, le-ltb _ _ c.if-room-count.false)
