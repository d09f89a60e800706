-- `salvage_kept::settle` meets its contract: each turn but the last makes the list shorter by a page. Assumes nothing.
use Rattle.std.proofs.Common.{◌≡◌, length, sym, refl, ap, ◌∙◌, ap₂, arith, rules}
use Rattle.stream.specs.Lent.{lent_of}
use Rattle.salvage_rules.specs.Listed.{listed_in}
use Rattle.salvage_kept.specs.Code.{pass_of}
use Rattle.salvage_kept.proofs.Settling.{Goes, goes-begins, goes-ready, goes-ends, can_drop, goes_fewer, goes_on}
use Rattle.salvage_kept.proofs.settle.Goals as goal

pub loop-list-init : goal.loop-list-init
loop-list-init c = goes-begins c.requires (ap₂ pass_of c.begin.ensures c.begin-2.ensures)

pub feed_run-run-requires : goal.feed_run-run-requires
feed_run-run-requires c =
    goes-ready c.requires c.loop-list.invariant

pub shape_of-list-then-index-list : goal.shape_of-list-then-index-list
shape_of-list-then-index-list c = c.loop-list.invariant.long

pub shape_of-carry-then-index-list : goal.shape_of-carry-then-index-list
shape_of-carry-then-index-list c = c.carry-1.given ∙ c.loop-list.invariant.alike.carry

pub shape_of-keep-then-index-list : goal.shape_of-keep-then-index-list
shape_of-keep-then-index-list c = c.keep-1.given ∙ c.loop-list.invariant.alike.keeps

pub shape_of-spare-then-index-list : goal.shape_of-spare-then-index-list
shape_of-spare-then-index-list c = c.spare-1.given ∙ c.loop-list.invariant.alike.spares

pub shape_of-ends-then-index-list : goal.shape_of-ends-then-index-list
shape_of-ends-then-index-list c = c.ends-1.given ∙ c.loop-list.invariant.alike.ends

pub shape_of-lengths-then-index-list : goal.shape_of-lengths-then-index-list
shape_of-lengths-then-index-list c = c.lengths-1.given ∙ c.loop-list.invariant.alike.lengths

pub shape_of-kept-then-index-list : goal.shape_of-kept-then-index-list
shape_of-kept-then-index-list c = c.kept-1.given ∙ c.loop-list.invariant.alike.kept

pub shape_of-frames-then-index-list : goal.shape_of-frames-then-index-list
shape_of-frames-then-index-list c = c.frames-1.given ∙ c.loop-list.invariant.alike.frames

pub returns-then-index-list : goal.returns-then-index-list
returns-then-index-list c =
    goes-ends c.requires c.loop-list.invariant c.feed_run-run.ensures c.if-index-list.true c.in_headers.ensures

pub without-pass-requires : goal.without-pass-requires
without-pass-requires c =
    can_drop c.requires c.loop-list.invariant c.feed_run-run.ensures (omega (arith, c.if-index-list.false))
    c.keep-1.given c.carry-1.given

pub loop-list-smaller : goal.loop-list-smaller
loop-list-smaller c =
    goes_fewer c.requires c.loop-list.invariant c.feed_run-run.ensures (omega (arith, c.if-index-list.false)) c.without-pass.ensures

pub loop-list-preserved : goal.loop-list-preserved
loop-list-preserved c =
    goes_on c.requires c.loop-list.invariant c.feed_run-run.ensures (omega (arith, c.if-index-list.false)) c.without-pass.ensures _ _ refl
    (record {
      carry = c.carry-in-loop-list-1.given ∙ c.carry-1.given;
      keeps = c.keep-1.given;
      spares = c.spare-1.given;
      ends = c.ends-1.given;
      lengths = c.lengths-1.given;
      kept = c.kept-1.given;
      frames = c.frames-1.given;
    })
