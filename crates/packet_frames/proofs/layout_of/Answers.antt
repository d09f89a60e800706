-- `packet_frames::layout_of` meets its contract: by the code in the first byte. Assumes nothing.
use mathlib.Core.Path.{sym, ap, ◌∙◌}
use native.Mathlib.Omega.{arith}
use lib.ListN.{length}
use Rattle.packet_frames.specs.Code.{plain_of}
use Rattle.packet_frames.proofs.Shapes.{some, nothing, code_0, code_1, code_2, code_3}
use Rattle.packet_frames.proofs.layout_of.Goals as goal

pub returns-then-s-eq0 : goal.returns-then-s-eq0
returns-then-s-eq0 c = let s = c.args.s.now in record { told = sym (nothing (length s) s c.if-s-eq0.true); sound = tt }

pub returns-in-0 : goal.returns-in-0
returns-in-0 c =
    let s = c.args.s.now in
    record {
      told = sym (code_0 (length s) s (some c.if-s-eq0.false) c.in-0.is);
      sound = record { some = omega arith; few = omega arith; padding = omega arith; inside = some c.if-s-eq0.false };
    }

pub returns-in-1 : goal.returns-in-1
returns-in-1 c =
    let s = c.args.s.now in
    record {
      told = sym (code_1 (length s) s (some c.if-s-eq0.false) c.in-1.is);
      sound = record { some = omega arith; few = omega arith; padding = omega arith; inside = some c.if-s-eq0.false };
    }

pub returns-in-2 : goal.returns-in-2
returns-in-2 c =
    let s = c.args.s.now in
    record {
      told = sym (code_2 (length s) s (some c.if-s-eq0.false) c.in-2.is);
      sound = record { some = omega arith; few = omega arith; padding = omega arith; inside = some c.if-s-eq0.false };
    }

pub returns-in_default : goal.returns-in_default
returns-in_default c =
    let s = c.args.s.now in
    let r = c.in_default.in_default-own.rest in
    let counted = c.counted_layout.ensures in
    record {
      told = counted.told ∙ ap (plain_of (length s)) (sym (code_3 (length s) s (some c.if-s-eq0.false) r.0.0.1 r.0.1 r.1));
      sound = counted.sound;
    }
