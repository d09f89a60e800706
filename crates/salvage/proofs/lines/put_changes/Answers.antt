-- `salvage::lines::put_changes` meets its contract: five lines, each where it is told. Assumes nothing.
use Rattle.std.proofs.Common.{◌∙◌, arith, rules}
use Rattle.salvage.specs.Salvaging.{what_in, place_in, size_in}
use Rattle.salvage.specs.Columns.{line_if}
use Rattle.salvage.proofs.Columns.{column_five}
use Rattle.salvage.proofs.lines.put_changes.Goals as goal

pub put_line-at-requires-4 : goal.put_line-at-requires-4
put_line-at-requires-4 c =
    omega (arith, c.put_line-at.ensures.most, c.put_line-at-2.ensures.most, c.put_line-at-3.ensures.most, c.requires)

pub put_line-requires : goal.put_line-requires
put_line-requires c =
    omega (arith, c.put_line-at.ensures.most, c.put_line-at-2.ensures.most, c.put_line-at-3.ensures.most, c.put_line-at-4.ensures.most, c.requires)

pub shape_of-what : goal.shape_of-what
shape_of-what c = c.what-5-1.given ∙ c.what-4-1.given ∙ c.what-3-1.given ∙ c.what-2-1.given ∙ c.what-1.given

pub shape_of-places : goal.shape_of-places
shape_of-places c = c.places-5-1.given ∙ c.places-4-1.given ∙ c.places-3-1.given ∙ c.places-2-1.given ∙ c.places-1.given

pub shape_of-sizes : goal.shape_of-sizes
shape_of-sizes c = c.sizes-5-1.given ∙ c.sizes-4-1.given ∙ c.sizes-3-1.given ∙ c.sizes-2-1.given ∙ c.sizes-1.given

pub returns : goal.returns
returns c =
    let a = c.args in
    let A = line_if a.c.skip 0 a.end a.c.gap in
    let B = line_if a.c.renumbered 1 a.place 4 in
    let C = line_if a.c.cleared 2 a.place 1 in
    let D = line_if a.c.lead 3 a.place a.c.first in
    let E = line_if a.c.trail 3 a.place a.c.last in
    let p = c.put_line-at.ensures in
    let q = c.put_line-at-2.ensures in
    let r = c.put_line-at-3.ensures in
    let s = c.put_line-at-4.ensures in
    let t = c.put_line.ensures in
    record {
      whats =
          column_five what_in a.what.now a.at A B C D E p.stored.whats p.next q.stored.whats q.next r.stored.whats r.next
          s.stored.whats s.next t.stored.whats;
      spots =
          column_five place_in a.places.now a.at A B C D E p.stored.spots p.next q.stored.spots q.next r.stored.spots r.next
          s.stored.spots s.next t.stored.spots;
      counts =
          column_five size_in a.sizes.now a.at A B C D E p.stored.counts p.next q.stored.counts q.next r.stored.counts r.next
          s.stored.counts s.next t.stored.counts;
    }
