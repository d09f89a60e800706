-- `feed_pages::feed_next` meets its contract. Assumes nothing.
use Rattle.octets.specs.Given.{given}
use Rattle.std.specs.Prelude.{Option, Some}
use Prim.Native.Nat.{ℕ}
use Rattle.std.proofs.lemmas.Result.{err_from_is_err_and}
use mathlib.Core.Path.{◌≡◌, sym, ap, ◌∙◌}
use native.Mathlib.Omega.{arith}
use lib.ListN.{length}
use Rattle.stream.specs.Lent.{lent_of}
use Rattle.reader.specs.Answers.{told_fed}
use Rattle.feed_pages.specs.Run.{is_full}
use Rattle.octets.specs.Octets.{Bytes}
use Rattle.page_end.specs.End.{end_at}
use Rattle.page_end.specs.Statements.{Inside}
use Rattle.page_end.proofs.Ends.{end-inside}
use Rattle.feed_pages.proofs.Feeding.{turn-full, turn-cut, turn-told, few-packets}
use Rattle.feed_pages.proofs.feed_next.Goals as goal

-- the end of the page is a place of the buffer
inside : (b : Bytes) (at : ℕ) (found : Option ℕ) (end : ℕ) → given found ≡ end_at b at → found ≡ Some end → Inside at end (length b)
inside b at found end e is = end-inside b at end (sym e ∙ ap given is)

pub returns-then-are_lists_short : goal.returns-then-are_lists_short
unfolding is_full
returns-then-are_lists_short c =
    let a = c.args in
    turn-full _ a.buffer.now a.p (lent_of a.carry.now a.ends.now a.lengths.now a.kept.now a.frames.now) (sym c.are_lists_short.ensures ∙ c.if-are_lists_short.true)

pub slice_bounds-feed_with-count : goal.slice_bounds-feed_with-count
slice_bounds-feed_with-count c = omega (arith, (inside c.args.buffer.now c.args.p.bytes _ _ c.end_at.ensures c.in-Some.is).after)

pub slice_bounds-feed_with-start : goal.slice_bounds-feed_with-start
slice_bounds-feed_with-start c =
    let there = inside c.args.buffer.now c.args.p.bytes _ _ c.end_at.ensures c.in-Some.is in
    omega (arith, there.after, there.within)

pub slice_bounds-feed_with-end : goal.slice_bounds-feed_with-end
slice_bounds-feed_with-end c =
    let there = inside c.args.buffer.now c.args.p.bytes _ _ c.end_at.ensures c.in-Some.is in
    omega (arith, there.after, there.within)

pub overflow_add-result : goal.overflow_add-result
overflow_add-result c =
    let few = c.requires.few in
    let small = inside c.args.buffer.now c.args.p.bytes _ _ c.end_at.ensures c.in-Some.is in
    omega (arith, few, small.after, small.within)

pub overflow_add-result-2 : goal.overflow_add-result-2
unfolding is_full
overflow_add-result-2 c =
    let a = c.args in
    let few = few-packets _ a.buffer.now a.p (lent_of a.carry.now a.ends.now a.lengths.now a.kept.now a.frames.now)
    (sym c.are_lists_short.ensures ∙ c.if-are_lists_short.false) c.in-Some.end (sym c.end_at.ensures ∙ ap given c.in-Some.is) c.feed_with.ensures
    (record { below = λ (i : ℕ). (c.shared_slice_known-1.given i).fits }) c.requires (ap told_fed c.in_ok-fed.was) in
    let room = c.requires.ends in
    omega (arith, few, room)

pub returns-in_default : goal.returns-in_default
unfolding is_full
returns-in_default c =
    let a = c.args in
    turn-cut _ a.buffer.now a.p (lent_of a.carry.now a.ends.now a.lengths.now a.kept.now a.frames.now)
    (sym c.are_lists_short.ensures ∙ c.if-are_lists_short.false) (sym c.end_at.ensures ∙ ap given c.in_default.is)

pub returns : goal.returns
unfolding is_full
returns c =
    let a = c.args in
    turn-told _ a.buffer.now a.p (lent_of a.carry.now a.ends.now a.lengths.now a.kept.now a.frames.now)
    (sym c.are_lists_short.ensures ∙ c.if-are_lists_short.false) c.in-Some.end (sym c.end_at.ensures ∙ ap given c.in-Some.is) c.feed_with.ensures
    (ap told_fed c.in_ok-fed.was)

pub returns-in_err-fed : goal.returns-in_err-fed
unfolding is_full
returns-in_err-fed c =
    let a = c.args in
    let p = err_from_is_err_and c.from_residual.result c.from_residual.ensures.1 in
    rw (p.1, p.2)
    (turn-told _ a.buffer.now a.p (lent_of a.carry.now a.ends.now a.lengths.now a.kept.now a.frames.now)
    (sym c.are_lists_short.ensures ∙ c.if-are_lists_short.false) c.in-Some.end (sym c.end_at.ensures ∙ ap given c.in-Some.is) c.feed_with.ensures
    (ap told_fed c.in_err-fed.was))
