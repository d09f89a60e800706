-- `tags_reader::find_comment` meets its contract. Assumes nothing.
use mathlib.Core.Path.{◌≡◌, sym, ap, ◌∙◌}
use native.Mathlib.Omega.{arith}
use Rattle.std.specs.Prelude.{Some, None, Err}
use Rattle.std.specs.Option.{is_some}
use Rattle.refusal.specs.declared.Refusal.TheVariants.{BadTags}
use Rattle.tags_reader.specs.Right.{is_tags}
use Rattle.tags_reader.specs.Code.{walked, begun}
use Rattle.tags_reader.specs.Reading.{find_comment}
use Rattle.tags_reader.proofs.Finding.{not_found, none-begun, none-there, no_such_comment, end_decides, comment-found}
use Rattle.tags_reader.proofs.find_comment.Goals as goal
use Rattle.tags_reader.proofs.find_comment.Goals.{In_ok-start, After-walk_by-end}

starts : (c : In_ok-start) → Some c.in_ok-start.start ≡ begun c.args.b.now
starts c = let some : c.begin.result ≡ Some c.in_ok-start.start = grind arith in sym some ∙ c.begin.ensures

-- what the walks to comment i and from there to the end gave
module _ (c : After-walk_by-end) where
  start : Some c.in_ok-start.start ≡ begun c.args.b.now
  start = starts (goal.at.After-walk_by-end c).In_ok-start

  here : Some c.in_ok-here.here ≡ walked c.args.b.now c.least-before.result (Some c.in_ok-start.start)
  here = let some : c.walk_by.result ≡ Some c.in_ok-here.here = grind arith in sym some ∙ c.walk_by.ensures

  decides : is_some c.walk_by-end.result ≡ is_tags c.args.b.now
  decides =
      end_decides c.args.b.now c.count_of-n.result c.least-before.result (Some c.in_ok-start.start) (Some c.in_ok-here.here) c.walk_by-end.result
      c.count_of-n.ensures start here c.walk_by-end.ensures (omega (arith, c.least-before.ensures))

pub returns-in_err-start : goal.returns-in_err-start
returns-in_err-start c =
    let a = c.args in
    let b = a.b.now in
    let none : c.begin.result ≡ None = grind arith in
    let why : c.from_residual.result ≡ Err BadTags = grind arith in
    rw why (sym (not_found b (sym (none-begun b (sym none ∙ c.begin.ensures))) a.i))

pub returns-in_err-here : goal.returns-in_err-here
returns-in_err-here c =
    let a = c.args in
    let b = a.b.now in
    let start = starts (goal.at.returns-in_err-here c).In_ok-start in
    let none : c.walk_by.result ≡ None = grind arith in
    let why : c.from_residual-in_err-here.result ≡ Err BadTags = grind arith in
    let wrong = none-there b c.count_of-n.result c.least-before.result (Some c.in_ok-start.start) c.count_of-n.ensures start
    (sym none ∙ c.walk_by.ensures) (omega (arith, c.least-before.ensures)) in
    rw why (sym (not_found b (sym wrong) a.i))

pub returns-then-is_none : goal.returns-then-is_none
returns-then-is_none c =
    let a = c.args in
    sym (not_found a.b.now (sym (decides (goal.at.returns-then-is_none c).After-walk_by-end) ∙ c.if-is_none.ensures) a.i)

pub returns-then-past : goal.returns-then-past
returns-then-past c =
    let a = c.args in
    let right = sym (decides (goal.at.returns-then-past c).After-walk_by-end) ∙ c.if-is_none.ensures in
    sym (no_such_comment a.b.now right a.i (omega (arith, c.count_of-n.ensures, c.if-past.true)))

pub returns : goal.returns
returns c =
    let a = c.args in
    let b = a.b.now in
    let w = (goal.at.returns c).After-walk_by-end in
    let same : c.least-before.result ≡ a.i = omega (arith, c.least-before.ensures, c.if-past.false) in
    let goes = c.if-is_none.ensures in
    c.find_text.ensures
    ∙ comment-found b c.count_of-n.result c.least-before.result (Some c.in_ok-start.start) (Some c.in_ok-here.here) c.walk_by-end.result
    c.count_of-n.ensures (start w) (here w) c.walk_by-end.ensures (omega (arith, same, c.if-past.false)) (sym (decides w) ∙ goes) goes
    ∙ ap (find_comment b) same
