-- `packet_reader::read_packet` meets its contract. Assumes nothing.
use mathlib.Core.Path.{sym, ap, ◌∙◌}
use Rattle.refusal.specs.Told.{told}
use Rattle.packet_reader.proofs.Verdict.{no_streams, too_many_streams, by-streams}
use Rattle.packet_reader.proofs.read_packet.Goals as goal

pub returns-then-streams-eq0 : goal.returns-then-streams-eq0
returns-then-streams-eq0 c = let a = c.args in sym (no_streams a.bytes.now a.streams c.if-streams-eq0.true)

pub returns-then-many : goal.returns-then-many
returns-then-many c = let a = c.args in sym (too_many_streams a.bytes.now a.streams c.if-streams-eq0.false c.if-many.true)

pub returns : goal.returns
returns c =
    let a = c.args in
    ap told c.read_streams.ensures ∙ sym (by-streams a.bytes.now a.streams c.if-streams-eq0.false c.if-many.false)
