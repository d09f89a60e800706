-- `octets::copy_at` meets its contract. The loop's invariant: the first j bytes have been copied. Assumes nothing.
use mathlib.Core.Path.{◌≡◌, refl, sym, ap, ◌∙◌}
use Prim.Native.Nat.{◌+◌}
use native.Mathlib.Numerals.{add-one}
use native.Mathlib.Omega.{arith}
use lib.ListN.{length, get_or, set}
use lib.Seq.{paste, paste-zero, paste-suc, length-paste}
use Rattle.octets.proofs.Tests.{is_below, not-below}
use Rattle.octets.proofs.Copying.{copied-fits, copied-short}
use Rattle.octets.proofs.copy_at.Goals as goal

pub returns-then-is_short : goal.returns-then-is_short
returns-then-is_short c =
    let a = c.args in
    sym (copied-short a.d.now a.at a.s.now (is_below c.is_short.ensures c.if-is_short.true))

pub loop-j-init : goal.loop-j-init
loop-j-init c =
    let a = c.args in
    (paste-zero a.d.now a.at a.s.now, refl, not-below c.is_short.ensures c.if-is_short.false)

pub loop-j-preserved : goal.loop-j-preserved
loop-j-preserved c =
    let a = c.args in
    let l = c.loop-j in
    let step : set l.d (a.at + l.j) (get_or a.s.now l.j 0) ≡ paste a.d.now a.at a.s.now (l.j + 1) =
    (rw (l.invariant.0, add-one l.j) (paste-suc a.d.now a.at a.s.now l.j 0 (omega arith) (omega arith))) in
    (step, ap length step ∙ length-paste a.d.now a.at a.s.now (l.j + 1) (omega arith) (omega arith), l.invariant.2)

pub returns : goal.returns
returns c =
    let a = c.args in
    let l = c.loop-j in
    let all : l.j ≡ length a.s.now = omega arith in
    l.invariant.0 ∙ ap (paste a.d.now a.at a.s.now) all ∙ sym (copied-fits a.d.now a.at a.s.now l.invariant.2)
