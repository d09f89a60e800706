-- `head_writer::put_head` meets its contract: the copies follow each other. Assumes nothing.
use mathlib.Core.Path.{◌≡◌, sym, ◌∙◌}
use Prim.Native.Nat.{◌<◌, ◌≤◌}
use native.Mathlib.Omega.{arith}
use borrow.Author.Rules.{rules}
use lib.ListN.{length}
use Rattle.head_writer.proofs.Laying.{put-plain, put-table}
use Rattle.head_writer.proofs.put_head.Goals as goal

-- there are no more indices than places
pub slice_bounds-mapping-end : goal.slice_bounds-mapping-end
slice_bounds-mapping-end c =
    let long : length c.args.h.mapping ≡ 255 = search rules in
    omega (arith, long, c.index_count-used.ensures.most)

pub overflow_add-used : goal.overflow_add-used
overflow_add-used c = omega (arith, c.index_count-used.ensures.most)

pub returns-then-has_counts : goal.returns-then-has_counts
returns-then-has_counts c =
    -- the two counts are bytes, and the mapping has 255 places
    let streams-fit : c.args.h.streams < 256 = search rules in
    let coupled-fit : c.args.h.coupled < 256 = search rules in
    let long : length c.args.h.mapping ≡ 255 = search rules in
    let most : c.index_count-used.result ≤ length c.args.h.mapping = omega (arith, long, c.index_count-used.ensures.most) in
    let h = c.args.h in
    put-table h c.args.matrix.now c.args.out.now c.start_of-start.result c.copy_at.new.d
    c.put8.new.d c.put8-then-has_counts.new.d c.copy_at-then-has_counts.new.d c.copy_at-then-has_counts-2.new.d
    c.index_count-used.result (sym c.has_counts.ensures ∙ c.if-has_counts.true) c.requires
    streams-fit coupled-fit c.index_count-used.ensures.same
    most c.start_of-start.ensures c.copy_at.ensures
    c.put8.ensures c.put8-then-has_counts.ensures c.copy_at-then-has_counts.ensures c.copy_at-then-has_counts-2.ensures

pub returns-else-has_counts : goal.returns-else-has_counts
returns-else-has_counts c =
    put-plain c.args.h c.args.matrix.now c.args.out.now c.start_of-start.result c.copy_at.new.d
    (sym c.has_counts.ensures ∙ c.if-has_counts.false) c.start_of-start.ensures c.copy_at.ensures
