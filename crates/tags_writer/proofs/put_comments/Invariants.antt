-- `tags_writer::put_comments` meets its contract. The loop's invariant: what is left to copy makes the whole. Assumes nothing.
use mathlib.Core.Path.{◌≡◌}
use Prim.Native.Nat.{◌+◌, ◌-◌, ◌*◌, ◌≤◌}
use lib.ListN.{length, drop}
use Rattle.octets.specs.Octets.{total, copied}
use Rattle.tags_reader.specs.Packet.{comments_bytes}
use Rattle.tags_writer.specs.Writing.{cut_by}
use Rattle.tags_writer.proofs.put_comments.Given as goal

abbrev pub invariant-loop-length : goal.invariant-loop-length
invariant-loop-length l = (copied l.out l.at (comments_bytes (cut_by (drop l.length-index l.lengths) (drop l.from l.text))) ≡ copied l.initial.out l.start (comments_bytes (cut_by l.lengths l.text)))
    × (total (drop l.length-index l.lengths) ≡ length l.text - l.from) × (l.from ≤ length l.text) × (l.length-index ≤ length l.lengths)
    × (l.at + 4 * (length l.lengths - l.length-index) + (length l.text - l.from) ≤ length l.out) × (length l.out ≡ length l.initial.out)
