-- `tags_reader::walk_by` meets its contract. The loop's invariant: what is left of the walk decides. Assumes nothing.
use Rattle.std.specs.Prelude.{Some}
use mathlib.Core.Path.{sym, ap, ◌∙◌}
use Prim.Native.Nat.{◌+◌, ◌-◌}
use native.Mathlib.Omega.{arith}
use Rattle.tags_reader.specs.Code.{walked}
use Rattle.tags_reader.proofs.Walking.{walked-wrong, walk_begin, walk_more, walk_done}
use Rattle.tags_reader.proofs.walk_by.Goals as goal

pub loop-i-init : goal.loop-i-init
loop-i-init c = let a = c.args in (walk_begin a.b.now a.n (Some a.from), omega arith)

pub step-requires : goal.step-requires
step-requires c = tt

pub returns-in_err-walk : goal.returns-in_err-walk
returns-in_err-walk c =
    let l = c.loop-i in
    let a = c.args in
    let b = a.b.now in
    let stopped = sym c.step.ensures ∙ c.in_err-walk.was in
    rw c.from_residual.ensures
    (sym
    (sym l.invariant.0
    ∙ walk_more b a.n l._i (Some l.walk) c.loop-i-test.true
    ∙ ap (walked b (a.n - (l._i + 1))) stopped
    ∙ walked-wrong b (a.n - (l._i + 1))))

pub loop-i-preserved : goal.loop-i-preserved
loop-i-preserved c =
    let l = c.loop-i in
    let a = c.args in
    let b = a.b.now in
    let stepped = sym c.step.ensures ∙ c.in_ok-walk.was in (
      sym (ap (walked b (a.n - (l._i + 1))) stepped)
          ∙ sym (walk_more b a.n l._i (Some l.walk) c.loop-i-test.true)
          ∙ l.invariant.0,
      omega arith,
    )

pub returns : goal.returns
returns c =
    let l = c.loop-i in
    let a = c.args in
    sym (walk_done a.b.now a.n l._i (Some l.walk) c.loop-i-test.false) ∙ l.invariant.0
