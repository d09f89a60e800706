-- `tags_replaygain::any_from` meets its contract. The loop's invariant: what is left of the comments decides. Assumes nothing.
use mathlib.Core.Path.{sym, ap, ◌∙◌}
use native.Mathlib.Omega.{arith}
use borrow.Author.Rules.{rules}
use Rattle.tags_replaygain.specs.ReplayGain.{is_replay_gain}
use Rattle.tags_replaygain.proofs.Comments.{left-first, none_left, Turn, turn}
use Rattle.tags_replaygain.proofs.any_from.Goals as goal

pub loop-i-init : goal.loop-i-init
loop-i-init c =
    let a = c.args in
    left-first a.b.now a.n a.start c.requires

pub overflow_add-text : goal.overflow_add-text
overflow_add-text c =
    -- the text that a turn is about
    let in_turn : (let a = c.args in let l = c.loop-i in Turn a.b.now a.n a.start l._i l.at c.number32-size.result) = let l = c.loop-i in
    let a = c.args in
    turn a.b.now a.n a.start l._i l.at c.number32-size.result l.invariant (omega arith) c.number32-size.ensures in
    let w = in_turn.inside in search rules

pub returns-then-is_replaygain : goal.returns-then-is_replaygain
returns-then-is_replaygain c =
    let in_turn : (let a = c.args in let l = c.loop-i in Turn a.b.now a.n a.start l._i l.at c.number32-size.result) = let l = c.loop-i in
    let a = c.args in
    turn a.b.now a.n a.start l._i l.at c.number32-size.result l.invariant (omega arith) c.number32-size.ensures in
    in_turn.found
    (sym (c.is_replaygain.ensures ∙ ap is_replay_gain c.part_of.ensures) ∙ c.if-is_replaygain.true)

pub overflow_add-at : goal.overflow_add-at
overflow_add-at c =
    let in_turn : (let a = c.args in let l = c.loop-i in Turn a.b.now a.n a.start l._i l.at c.number32-size.result) = let l = c.loop-i in
    let a = c.args in
    turn a.b.now a.n a.start l._i l.at c.number32-size.result l.invariant (omega arith) c.number32-size.ensures in
    let w = in_turn.inside in search rules

pub loop-i-preserved : goal.loop-i-preserved
loop-i-preserved c =
    let in_turn : (let a = c.args in let l = c.loop-i in Turn a.b.now a.n a.start l._i l.at c.number32-size.result) = let l = c.loop-i in
    let a = c.args in
    turn a.b.now a.n a.start l._i l.at c.number32-size.result l.invariant (omega arith) c.number32-size.ensures in
    in_turn.goes_on
    (sym (c.is_replaygain.ensures ∙ ap is_replay_gain c.part_of.ensures) ∙ c.if-is_replaygain.false)

pub returns : goal.returns
returns c =
    let l = c.loop-i in
    let a = c.args in
    none_left a.b.now a.n a.start l._i l.at l.invariant (omega arith)
