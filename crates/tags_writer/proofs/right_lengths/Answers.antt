-- `tags_writer::right_lengths` meets its contract. The loop's invariant: what is left decides. Assumes nothing.
use mathlib.Core.Path.{sym, ap, ◌∙◌}
use native.Mathlib.Omega.{arith}
use Rattle.tags_rules.specs.Code.{told_gains}
use Rattle.tags_writer.proofs.Lengths.{too_long, comment-wrong, comment_right, lengths_begin, lengths-done}
use Rattle.tags_writer.proofs.right_lengths.Goals as goal

pub loop-length-init : goal.loop-length-init
loop-length-init c =
    let a = c.args in
    (lengths_begin a.text.now a.lengths.now, omega arith, omega arith)

pub returns-then-text-at : goal.returns-then-text-at
returns-then-text-at c =
    let l = c.loop-length in
    let a = c.args in
    sym (too_long a.text.now a.lengths.now l.at l.gains.track l.gains.album l.length-index c.loop-length-test.true c.if-text-at.true) ∙ l.invariant.0

pub returns-in_default : goal.returns-in_default
returns-in_default c =
    let l = c.loop-length in
    let a = c.args in
    let judge = rw c.part_of-comment.ensures at c.judge.ensures in
    sym
    (comment-wrong a.text.now a.lengths.now l.at l.gains.track l.gains.album l.length-index c.loop-length-test.true
    (sym judge ∙ ap told_gains c.in_default.is))
    ∙ l.invariant.0

pub loop-length-preserved : goal.loop-length-preserved
loop-length-preserved c =
    let got = c.in-Some in
    let l = c.loop-length in
    let a = c.args in
    let judge = rw c.part_of-comment.ensures at c.judge.ensures in (
      sym
          (comment_right a.text.now a.lengths.now l.at l.gains.track l.gains.album l.length-index c.loop-length-test.true got.next.track got.next.album
          c.if-text-at.false (sym judge ∙ ap told_gains got.is))
          ∙ l.invariant.0,
      omega arith,
      omega arith,
    )

pub returns : goal.returns
returns c =
    let l = c.loop-length in
    let a = c.args in
    sym (lengths-done a.text.now a.lengths.now l.at l.gains.track l.gains.album l.length-index c.loop-length-test.false (omega arith))
    ∙ l.invariant.0
