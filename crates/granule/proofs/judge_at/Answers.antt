-- `granule::judge_at` meets its contract. Assumes nothing.
use Prim.Native.Nat.{◌+◌, ◌-◌, ◌≤◌, ◌<◌}
use mathlib.Core.Path.{◌≡◌, sym}
use native.Mathlib.Omega.{arith}
use Rattle.granule.proofs.Placing.{below_at, cut_at, short_at, whole_at}
use Rattle.granule.proofs.judge_at.Goals as goal

pub returns-then-g-p : goal.returns-then-g-p
returns-then-g-p c =
    let a = c.args in
    sym (below_at a.p a.preskip a.g a.d a.last c.if-g-p.true)

pub returns-then-last : goal.returns-then-last
returns-then-last c =
    let a = c.args in
    let low : a.p ≤ a.g = c.if-g-p.false in
    let short : a.g < a.p + a.d = (let h : a.g - a.p < a.d = c.if-reach-size.true in omega arith) in
    rw c.if-last.true (sym (cut_at a.p a.preskip a.g a.d low short))

pub returns-then-reach-size : goal.returns-then-reach-size
returns-then-reach-size c =
    let a = c.args in
    let low : a.p ≤ a.g = c.if-g-p.false in
    let short : a.g < a.p + a.d = (let h : a.g - a.p < a.d = c.if-reach-size.true in omega arith) in
    rw c.if-last.false (sym (short_at a.p a.preskip a.g a.d short))

pub returns : goal.returns
returns c =
    let a = c.args in
    let low : a.p ≤ a.g = c.if-g-p.false in
    let room : a.p + a.d ≤ a.g = (let h : a.d ≤ a.g - a.p = c.if-reach-size.false in omega arith) in
    let same : a.g - a.p - a.d ≡ a.g - (a.p + a.d) = omega arith in
    rw same (sym (whole_at a.p a.preskip a.g a.d a.last room))
