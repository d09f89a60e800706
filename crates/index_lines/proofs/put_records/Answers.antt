-- `index_lines::put_records` meets its contract. The loop's invariant: i lines are put. Assumes nothing.
use mathlib.Core.Path.{sym, ◌∙◌}
use Prim.Native.Nat.{◌<◌}
use native.Mathlib.Omega.{arith}
use lib.ListN.{length}
use Rattle.index_lines.proofs.Lines.{record-most}
use Rattle.index_lines.proofs.Records.{done-starts, same_size, all_done, no_room, one_more}
use Rattle.index_lines.proofs.put_records.Goals as goal

pub loop-i-init : goal.loop-i-init
loop-i-init c = done-starts _ _ _ _ _

pub shape_of-out-then-is_short : goal.shape_of-out-then-is_short
shape_of-out-then-is_short c = same_size c.loop-i.invariant

pub returns-then-is_short : goal.returns-then-is_short
returns-then-is_short c =
    -- where a turn begins
    let in_granules : c.loop-i.i < length c.args.granules.now = omega (arith, c.least-n.ensures, c.least.ensures, c.loop-i-test.true) in
    let in_places : c.loop-i.i < length c.args.places.now = omega (arith, c.least-n.ensures, c.least.ensures, c.loop-i-test.true) in
    let in_sequences : c.loop-i.i < length c.args.sequences.now = omega (arith, c.least-n.ensures, c.loop-i-test.true) in
    no_room c.loop-i.invariant in_granules in_places in_sequences (sym c.is_short.ensures ∙ c.if-is_short.true)

pub loop-i-preserved : goal.loop-i-preserved
loop-i-preserved c =
    let in_granules : c.loop-i.i < length c.args.granules.now = omega (arith, c.least-n.ensures, c.least.ensures, c.loop-i-test.true) in
    let in_places : c.loop-i.i < length c.args.places.now = omega (arith, c.least-n.ensures, c.least.ensures, c.loop-i-test.true) in
    let in_sequences : c.loop-i.i < length c.args.sequences.now = omega (arith, c.least-n.ensures, c.loop-i-test.true) in
    let i = c.loop-i.i in
    one_more c.loop-i.invariant in_granules in_places in_sequences (sym c.is_short.ensures ∙ c.if-is_short.false)
    (record-most _ _ _ (c.type_inv.granules i).fits (c.type_inv.places i).fits (c.type_inv.sequences i).fits)
    c.put_record-next.ensures

pub shape_of-out : goal.shape_of-out
shape_of-out c = same_size c.loop-i.invariant

pub returns : goal.returns
returns c =
    all_done c.loop-i.invariant (omega (arith, c.least-n.ensures, c.least.ensures, c.loop-i-test.false))
