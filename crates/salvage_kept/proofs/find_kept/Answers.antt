-- `salvage_kept::find_kept` meets its contract: `Finding` has its ways. Assumes nothing.
use Rattle.std.proofs.Common.{◌≡◌, ◌/◌, ◌^◌, ◌<◌, ◌≤◌, ◌++◌, length, drop, arith, length-append, length-drop, length-take, rules}
use Rattle.salvage_kept.proofs.Finding.{found-short, few, all-good, found-due, found-kept}
use Rattle.salvage_kept.proofs.find_kept.Goals as goal

pub returns-then-work-buffer : goal.returns-then-work-buffer
returns-then-work-buffer c = found-short _ _ c.if-work-buffer.true

pub slice_bounds-settle_list-end : goal.slice_bounds-settle_list-end
slice_bounds-settle_list-end c = omega (arith, few c.args.buffer.now c.args.work.now _ c.collect-n.result (omega arith) c.if-work-buffer.false c.collect-n.ensures, c.work-1.given)

pub slice_bounds-settle_list-end-2 : goal.slice_bounds-settle_list-end-2
slice_bounds-settle_list-end-2 c = omega (arith, few c.args.buffer.now c.args.work.now _ c.collect-n.result (omega arith) c.if-work-buffer.false c.collect-n.ensures, c.work-1.given, length-take c.collect-n.result c.collect-n.new.work)

pub settle_list-requires : goal.settle_list-requires
settle_list-requires c =
    let a = c.args in
    all-good a.buffer.now a.work.now _ c.collect-n.result (omega arith) c.if-work-buffer.false c.collect-n.ensures

pub returns-then-settle_list : goal.returns-then-settle_list
returns-then-settle_list c =
    let a = c.args in
    found-due a.buffer.now a.work.now _ c.collect-n.result (omega arith) c.if-work-buffer.false c.collect-n.ensures _ _ c.settle_list.ensures _ c.if-settle_list.true

pub returns : goal.returns
returns c =
    let a = c.args in
    let n = c.collect-n.result in
    let work = c.collect-n.new.work in
    let list = c.settle_list.new.list in
    let same = c.work-2-1.given in
    let long : length work ≡ length a.work.now = c.work-1.given in
    found-kept a.buffer.now a.work.now _ c.collect-n.result (omega arith) c.if-work-buffer.false c.collect-n.ensures _ _ c.settle_list.ensures _ c.if-settle_list.false
    (omega (arith, same, long, few c.args.buffer.now c.args.work.now _ c.collect-n.result (omega arith) c.if-work-buffer.false c.collect-n.ensures, length-append list (drop n work), length-drop n work, length-take n work))
