-- `head_lines::lay_mapping` meets its contract. Assumes nothing.
use Prim.Native.Nat.{◌≤◌}
use native.Mathlib.Omega.{arith}
use lib.ListN.{length, length-append}
use Rattle.text_put.specs.Marks.{line_feed}
use Rattle.text_put.proofs.Putting.{laid_then}
use Rattle.head_lines.specs.Lines.{spaced, mapping_end, mapping_end_most}
use Rattle.head_lines.proofs.Parts.{length-spaced}
use Rattle.head_lines.proofs.lay_mapping.Goals as goal

pub lay_spaced-last-requires : goal.lay_spaced-last-requires
lay_spaced-last-requires c =
    -- the end is short
    let short : length (mapping_end c.args.s.now) ≤ mapping_end_most = omega (arith, c.requires.few, length-append (spaced c.args.s.now) line_feed, length-spaced c.args.s.now (record { below = λ i. (c.type_inv.s i).fits })) in
    omega (arith, short, length-append (spaced c.args.s.now) line_feed, c.requires.room)

pub returns : goal.returns
returns c =
    let short : length (mapping_end c.args.s.now) ≤ mapping_end_most = omega (arith, c.requires.few, length-append (spaced c.args.s.now) line_feed, length-spaced c.args.s.now (record { below = λ i. (c.type_inv.s i).fits })) in
    let most = short in
    let both = length-append (spaced c.args.s.now) line_feed in
    record {
      laid = laid_then c.lay_spaced-last.ensures (omega (arith, c.lay_spaced-last.ensures.place, c.requires.room)) c.put_bytes.ensures;
      short = most;
    }
