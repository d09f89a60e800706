-- `old_clock::add` meets its contract. Assumes nothing.
use mathlib.Core.Path.{sym}
use native.Mathlib.Omega.{arith}
use Rattle.octets.proofs.Tests.{failed, held}
use Rattle.old_clock.proofs.Adding.{right_length_lem, wrong-length, past-most, taken}
use Rattle.old_clock.proofs.add.Goals as goal

pub returns-then-not-right_length : goal.returns-then-not-right_length
returns-then-not-right_length c =
    let a = c.args in
    sym (wrong-length a.clock a.samples (failed c.right_length.ensures c.if-not-right_length.true))

pub overflow_sub-samples : goal.overflow_sub-samples
overflow_sub-samples c =
    let right = right_length_lem c.args.samples (held c.right_length.ensures c.if-not-right_length.false) in
    omega arith

pub returns-then-count-samples : goal.returns-then-count-samples
returns-then-count-samples c =
    let a = c.args in
    let e = held c.right_length.ensures c.if-not-right_length.false in
    let right = right_length_lem a.samples e in
    sym (past-most a.clock a.samples (omega arith) e)

pub overflow_cast-step : goal.overflow_cast-step
overflow_cast-step c =
    let right = right_length_lem c.args.samples (held c.right_length.ensures c.if-not-right_length.false) in
    record { fits = omega arith }

pub returns : goal.returns
returns c =
    let a = c.args in
    let e = held c.right_length.ensures c.if-not-right_length.false in
    let right = right_length_lem a.samples e in
    sym (taken a.clock a.samples (omega arith) e)
