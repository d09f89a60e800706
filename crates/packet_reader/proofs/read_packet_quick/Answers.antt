-- `packet_reader::read_packet_quick` meets its contract. Assumes nothing.
use mathlib.Core.Path.{sym, ap, ◌∙◌}
use Prim.Native.Nat.{ℕ}
use lib.Dec.{eqb}
use lib.ListN.{length}
use Rattle.refusal.specs.Told.{gives}
use Rattle.packet_reader.specs.Streams.{read_packet}
use Rattle.packet_reader.specs.Code.{made_of}
use Rattle.packet_reader.proofs.Single.{reads-single}
use Rattle.packet_reader.proofs.read_packet_quick.Goals as goal

pub returns-then-is_single : goal.returns-then-is_single
returns-then-is_single c =
    let a = c.args in
    let told = reads-single a.bytes.now (sym c.is_single.ensures ∙ c.if-is_single.true) in
    let size : ℕ = length a.bytes.now in
    ap gives (c.made_of.ensures ∙ ap (λ (toc : ℕ). made_of toc 1 (eqb size 1)) c.byte_at.ensures)
    ∙ sym told ∙ ap (read_packet a.bytes.now) (sym c.if-streams-eq1.true)
