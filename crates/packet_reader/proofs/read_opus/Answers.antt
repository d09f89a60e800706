-- `packet_reader::read_opus` meets its contract. Assumes nothing.
use mathlib.Core.Path.{ap, ◌∙◌}
use Prim.Native.Nat.{ℕ}
use native.Mathlib.Nat.{lt_of_le_of_lt}
use lib.Dec.{lit<}
use lib.ListN.{drop}
use Rattle.octets.specs.Octets.{Bytes}
use Rattle.packet_frames.specs.Frames.{value}
use Rattle.packet_frames.specs.Packet.{parse}
use Rattle.packet_frames.specs.Code.{ValueIn}
use Rattle.packet_reader.specs.declared.Contents.{Contents}
use Rattle.packet_reader.specs.Code.{made_of}
use Rattle.packet_reader.proofs.Agreement.{unframed, frames-told, frames-within, no_contents_lem, its_contents}
use Rattle.packet_reader.proofs.read_opus.Goals as goal
use Rattle.packet_reader.proofs.read_opus.Goals.{In_ok-framed}

within : (c : In_ok-framed) → let got = c.in_ok-framed.framed in ValueIn c.args.s.now 63 got.count got.next
within c = frames-within c.args.s.now c.packet_frames.ensures c.in_ok-framed.was

pub returns-in_err-framed : goal.returns-in_err-framed
returns-in_err-framed c =
    let a = c.args in
    let none = unframed a.s.now c.packet_frames.ensures c.in_err-framed.was in
    rw c.from_residual.ensures (record { told = no_contents_lem a.s.now (parse a.delimited a.s.now) none; inside = tt })

pub overflow_cast-framed : goal.overflow_cast-framed
overflow_cast-framed c = record { fits = lt_of_le_of_lt (within (goal.at.overflow_cast-framed c).In_ok-framed).most (lit< tt) }

pub made_of-requires : goal.made_of-requires
made_of-requires c = (within (goal.at.made_of-requires c).In_ok-framed).most

pub returns : goal.returns
returns c =
    let a = c.args in
    let s = a.s.now in
    let got = c.in_ok-framed.framed in
    let end : Bytes = drop got.next s in
    record {
      told =
          ap (λ (x : Contents). value x end)
          (c.made_of.ensures ∙ ap (λ (toc : ℕ). made_of toc got.count got.silent) c.byte_at-toc.ensures)
          ∙ its_contents s (parse a.delimited s) _ end (frames-told s c.packet_frames.ensures c.in_ok-framed.was);
      inside = (within (goal.at.returns c).In_ok-framed).inside;
    }
