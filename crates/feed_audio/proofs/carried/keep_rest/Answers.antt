-- `feed_audio::carried::keep_rest` meets its contract. Assumes nothing.
use Prim.Native.Nat.{◌-◌}
use native.Mathlib.Omega.{arith}
use borrow.Author.Tests.{eq-eqb, ne_eqb}
use lib.ListN.{length, drop, length-drop}
use lib.Seq.{take_all}
use Rattle.feed_audio.specs.Code.{rest_of}
use Rattle.feed_audio.proofs.carried.keep_rest.Goals as goal

pub returns-then-rest-gt0 : goal.returns-then-rest-gt0
unfolding rest_of
returns-then-rest-gt0 c =
    let a = c.args in
    let at = length a.body.now - a.rest in
    let all = take_all (length a.body.now - at) (drop at a.body.now) (simp length-drop (omega arith)) in
    rw (ne_eqb a.rest 0 (λ z. omega arith)) (rw all at c.copy_at.ensures)

pub returns-else-rest-gt0 : goal.returns-else-rest-gt0
unfolding rest_of
returns-else-rest-gt0 c = rw (eq-eqb c.args.rest 0 (omega arith))
