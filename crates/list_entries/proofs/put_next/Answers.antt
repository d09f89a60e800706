-- `list_entries::put_next` meets its contract. Assumes nothing.
use Prim.Native.Nat.{◌≤◌}
use lib.ListN.{length}
use Rattle.list_lines.specs.Lines.{entry_line, longest}
use Rattle.list_lines.proofs.Lines.{entry-most}
use Rattle.list_entries.proofs.Following.{ends-within, laid, stands}
use Rattle.list_entries.proofs.put_next.Goals as goal

pub bytes_of-requires : goal.bytes_of-requires
bytes_of-requires c =
    -- the packet's line is no longer than the longest
    let short : let a = c.args in length (entry_line a.end a.samples a.frames a.kept) ≤ longest = let a = c.args in
    entry-most a.end a.samples a.frames a.kept c.ranges.end.fits c.ranges.samples.fits c.ranges.frames.fits c.ranges.kept.fits in
    stands c.requires short c.put_entry-next.ensures

pub returns : goal.returns
returns c =
    let short : let a = c.args in length (entry_line a.end a.samples a.frames a.kept) ≤ longest = let a = c.args in
    entry-most a.end a.samples a.frames a.kept c.ranges.end.fits c.ranges.samples.fits c.ranges.frames.fits c.ranges.kept.fits in
    let line = laid c.requires short c.put_entry-next.ensures in
    record { laid = line; within = ends-within c.requires short line; sound = c.bytes_of.ensures }
