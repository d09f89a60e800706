-- `page_size::extent_in` meets its contract. Assumes nothing.
use mathlib.Core.Path.{sym, ap, ◌∙◌}
use Prim.Native.Nat.{ℕ, ◌+◌}
use native.Mathlib.Omega.{arith}
use borrow.Author.Rules.{rules}
use Rattle.octets.proofs.Tests.{failed, held}
use Rattle.page_size.specs.Extent.{ends_at}
use Rattle.page_size.proofs.Extents.{short-header, no_page_lem, short-lacing, ends_at_lem}
use Rattle.page_size.proofs.extent_in.Goals as goal

pub returns-then-short : goal.returns-then-short
returns-then-short c = let a = c.args in sym (short-header a.s.now a.at c.if-short.true)

pub returns-then-not-has_capture : goal.returns-then-not-has_capture
returns-then-not-has_capture c =
    let call = c.has_capture in
    let a = c.args in
    sym (no_page_lem a.s.now a.at c.if-short.false (failed call.ensures c.if-not-has_capture.true))

pub returns-then-s-count_of : goal.returns-then-s-count_of
returns-then-s-count_of c =
    let call = c.has_capture in
    let a = c.args in
    sym
    (short-lacing a.s.now a.at c.if-short.false (held call.ensures c.if-not-has_capture.false)
    (omega (arith, c.count_of.ensures.same)))

pub returns : goal.returns
returns c =
    let call = c.has_capture in
    let a = c.args in
    ap (λ (n : ℕ). ends_at (a.at + n)) c.size_of.ensures.size
    ∙ sym
    (ends_at_lem a.s.now a.at c.if-short.false (held call.ensures c.if-not-has_capture.false)
    (omega (arith, c.count_of.ensures.same)))
