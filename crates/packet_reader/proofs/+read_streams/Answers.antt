-- `packet_reader::read_streams` meets its contract. Assumes nothing.
use Rattle.std.specs.Prelude.{Some, None, Err}
use mathlib.Core.Path.{◌≡◌, ap, ◌∙◌}
use Prim.Native.Nat.{ℕ, ◌-◌}
use native.Mathlib.Nat.{le_of_eq}
use native.Mathlib.Omega.{arith}
use lib.ListN.{length, drop, length-drop}
use lib.Seq.{take_all}
use Rattle.octets.specs.Octets.{Bytes}
use Rattle.refusal.specs.declared.Refusal.TheVariants.{IllegalPacket}
use Rattle.packet_reader.specs.Code.{joined, agreed}
use Rattle.packet_reader.specs.Streams.{measured_of}
use Rattle.packet_reader.proofs.Agreement.{unread, contents_told, broken-first, only_one, and-later}
use Rattle.packet_reader.proofs.+read_streams.Goals as goal

pub returns-in_err-first : goal.returns-in_err-first
returns-in_err-first t c =
    let a = c.args in
    let none : c.read_opus.result ≡ None = grind arith in
    let why : c.from_residual.result ≡ Err IllegalPacket = grind arith in
    why ∙ broken-first a.s.now a.streams (unread a.s.now c.read_opus.ensures none)

pub returns-then-streams-le1 : goal.returns-then-streams-le1
returns-then-streams-le1 t c =
    let a = c.args in
    let some : c.read_opus.result ≡ Some c.in_ok-first.first = grind arith in
    only_one a.s.now a.streams _ _ c.if-streams-le1.true (contents_told a.s.now c.read_opus.ensures some)

pub returns : goal.returns
returns t c =
    let a = c.args in
    let first = c.in_ok-first.first in
    let n : ℕ = first.next in
    let rest = take_all (length a.s.now - n) (drop n a.s.now) (le_of_eq (length-drop n a.s.now)) in
    let some : c.read_opus.result ≡ Some first = grind arith in
    c.with_first.ensures
    ∙ ap (joined first.contents) (c.read_streams-later.ensures ∙ ap (λ (s : Bytes). agreed (measured_of (a.streams - 1 - 1) s)) rest)
    ∙ and-later a.s.now a.streams first.contents (drop n a.s.now) c.if-streams-le1.false (contents_told a.s.now c.read_opus.ensures some)
