-- `head_lines::put_mapping` meets its contract: the end is made in a buffer of its own. Assumes nothing.
use mathlib.Core.Path.{◌≡◌, ap, ◌∙◌}
use mathlib.Core.List.{◌++◌}
use Prim.Native.Nat.{ℕ}
use native.Mathlib.Omega.{arith}
use lib.ListN.{length, take, length-take}
use Rattle.octets.specs.Octets.{Bytes}
use Rattle.text_put.proofs.Putting.{put-known}
use Rattle.head_fields.specs.Layout.{used_count}
use Rattle.head_fields.specs.Right.{used_places}
use Rattle.head_lines.specs.Lines.{mapping_is, mapping_end, mapping_line}
use Rattle.head_lines.proofs.Parts.{put_ended}
use Rattle.head_lines.proofs.put_mapping.Goals as goal

pub lay_mapping-n-requires : goal.lay_mapping-n-requires
lay_mapping-n-requires c =
    -- the part that is used
    let used : c.part_of.result.now ≡ used_places c.args.head = c.part_of.ensures ∙ ap (λ (n : ℕ). take n c.args.head.mapping) c.index_count-used.ensures.same in
    let h = c.args.head in
    let n = c.index_count-used.ensures in
    let size = ap length used ∙ length-take (used_count h) h.mapping in
    record { few = omega (arith, size, n.same, n.most); room = omega arith }

pub returns : goal.returns
unfolding mapping_line
returns c =
    let used : c.part_of.result.now ≡ used_places c.args.head = c.part_of.ensures ∙ ap (λ (n : ℕ). take n c.args.head.mapping) c.index_count-used.ensures.same in
    let end = c.lay_mapping-n.ensures in
    let places = used in
    put-known (ap (λ (s : Bytes). mapping_is ++ mapping_end s) places)
    (put_ended mapping_is end.laid (omega (arith, end.short)) c.part_of-2.ensures c.put_both.ensures)
