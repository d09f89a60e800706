-- `recording::judge_rest` meets its contract. Assumes nothing.
use mathlib.Core.Path.{sym, ◌∙◌}
use borrow.Author.Rules.{rules}
use borrow.Author.Tests.{lt-ltb, le-ltb}
use Rattle.recording.proofs.judge_rest.Goals as goal

pub returns-then-rest-gt0 : goal.returns-then-rest-gt0
returns-then-rest-gt0 c = rw (lt-ltb _ _ c.if-rest-gt0.true, c.refusal_of_rest.ensures)

pub returns-then-in_headers : goal.returns-then-in_headers
returns-then-in_headers c = rw (le-ltb _ _ c.if-rest-gt0.false, sym c.in_headers.ensures ∙ c.if-in_headers.true)

pub returns : goal.returns
returns c = rw (le-ltb _ _ c.if-rest-gt0.false, sym c.in_headers.ensures ∙ c.if-in_headers.false)
