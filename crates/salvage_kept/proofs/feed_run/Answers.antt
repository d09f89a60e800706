-- `salvage_kept::feed_run` meets its contract. The loop's invariant: the pages so far are fed. Assumes nothing.
use Rattle.std.proofs.Common.{◌≡◌, suc, ◌-◌, ◌^◌, ◌<◌, length, ◌∙◌, subst, arith, rules}
use Rattle.stream.specs.Lent.{lent_of}
use Rattle.salvage_kept.specs.Promises.{Onward}
use Rattle.salvage_kept.proofs.Running.{Ran, ran_not, nearer, run_over, can_feed, run_on, run_refused}
use Rattle.salvage_kept.proofs.feed_run.Goals as goal

pub loop-next-init : goal.loop-next-init
loop-next-init c = ran_not _ _ _ _ _ _

pub shape_of-carry-then-index-list : goal.shape_of-carry-then-index-list
shape_of-carry-then-index-list c = c.loop-next.invariant.alike.carry

pub shape_of-keep-then-index-list : goal.shape_of-keep-then-index-list
shape_of-keep-then-index-list c = c.loop-next.invariant.alike.keeps

pub shape_of-spare-then-index-list : goal.shape_of-spare-then-index-list
shape_of-spare-then-index-list c = c.loop-next.invariant.alike.spares

pub shape_of-ends-then-index-list : goal.shape_of-ends-then-index-list
shape_of-ends-then-index-list c = c.loop-next.invariant.alike.ends

pub shape_of-lengths-then-index-list : goal.shape_of-lengths-then-index-list
shape_of-lengths-then-index-list c = c.loop-next.invariant.alike.lengths

pub shape_of-kept-then-index-list : goal.shape_of-kept-then-index-list
shape_of-kept-then-index-list c = c.loop-next.invariant.alike.kept

pub shape_of-frames-then-index-list : goal.shape_of-frames-then-index-list
shape_of-frames-then-index-list c = c.loop-next.invariant.alike.frames

pub returns-then-index-list : goal.returns-then-index-list
returns-then-index-list c =
    run_over c.requires c.loop-next.invariant c.listed_at-next.ensures c.if-index-list.true

pub feed_next-requires : goal.feed_next-requires
feed_next-requires c =
    can_feed c.requires c.loop-next.invariant c.listed_at-next.ensures (omega (arith, c.if-index-list.false)) (omega arith)

pub loop-next-smaller : goal.loop-next-smaller
loop-next-smaller c =
    let i = c.listed_at-next.result.index in
    let after = c.in-Some.after in
    let past : after.now.at ≡ suc i = subst (Onward i) c.in-Some.is c.feed_next.ensures.onward in
    omega (arith, past, nearer c.args.list.now c.loop-next.pass.now.at i c.listed_at-next.ensures.index (omega (arith, c.if-index-list.false)))

pub loop-next-preserved : goal.loop-next-preserved
loop-next-preserved c =
    run_on c.requires c.loop-next.invariant c.listed_at-next.ensures (omega (arith, c.if-index-list.false)) c.feed_next.result _ _ _
    c.feed_next.ensures.next_fed_is
    (record {
      carry = c.carry-1.given;
      keeps = c.keep-1.given;
      spares = c.spare-1.given;
      ends = c.ends-1.given;
      lengths = c.lengths-1.given;
      kept = c.kept-1.given;
      frames = c.frames-1.given;
    })
    _ c.in-Some.is

pub shape_of-carry-in-None : goal.shape_of-carry-in-None
shape_of-carry-in-None c = c.carry-1.given ∙ c.loop-next.invariant.alike.carry

pub shape_of-keep-in-None : goal.shape_of-keep-in-None
shape_of-keep-in-None c = c.keep-1.given ∙ c.loop-next.invariant.alike.keeps

pub shape_of-spare-in-None : goal.shape_of-spare-in-None
shape_of-spare-in-None c = c.spare-1.given ∙ c.loop-next.invariant.alike.spares

pub shape_of-ends-in-None : goal.shape_of-ends-in-None
shape_of-ends-in-None c = c.ends-1.given ∙ c.loop-next.invariant.alike.ends

pub shape_of-lengths-in-None : goal.shape_of-lengths-in-None
shape_of-lengths-in-None c = c.lengths-1.given ∙ c.loop-next.invariant.alike.lengths

pub shape_of-kept-in-None : goal.shape_of-kept-in-None
shape_of-kept-in-None c = c.kept-1.given ∙ c.loop-next.invariant.alike.kept

pub shape_of-frames-in-None : goal.shape_of-frames-in-None
shape_of-frames-in-None c = c.frames-1.given ∙ c.loop-next.invariant.alike.frames

pub returns-in-None : goal.returns-in-None
returns-in-None c =
    run_refused c.requires c.loop-next.invariant c.listed_at-next.ensures (omega (arith, c.if-index-list.false)) c.feed_next.result
    c.feed_next.new.carry c.feed_next.new.keep c.feed_next.ensures.next_fed_is c.in-None.is
