-- `salvage_list::is_cut_after` meets its contract. The loop's invariant: what is told from here on is what is told. Assumes
-- nothing.
use Prim.Native.Nat.{◌-◌}
use mathlib.Core.Path.{◌≡◌, refl, sym, ap, ◌∙◌}
use native.Mathlib.Omega.{arith}
use borrow.Author.Rules.{rules}
use borrow.Author.Tests.{not-true, not-false}
use lib.ListN.{length, drop}
use Rattle.octets.specs.Octets.{Bytes}
use Rattle.octets.proofs.Tests.{failed, held}
use Rattle.stream.specs.Page.{page_of}
use Rattle.salvage_rules.specs.Links.{link_of, link_cut}
use Rattle.salvage_rules.specs.Listed.{listed_in}
use Rattle.salvage_list.specs.Next.{link_at}
use Rattle.salvage_list.proofs.Next.{further}
use Rattle.salvage_list.proofs.Cut.{not-onward, no_next, breaks, ends, goes_on}
use Rattle.salvage_list.proofs.is_cut_after.Goals as goal

pub loop-last-init : goal.loop-last-init
loop-last-init c = refl

pub returns-then-index-list : goal.returns-then-index-list
returns-then-index-list c =
    let a = c.args in
    let l = c.loop-last in
    let called = c.next_listed-index in
    sym (no_next a.buffer.now a.list.now l.last l.at called.result called.ensures c.if-index-list.true) ∙ l.invariant

pub returns-then-not-follows : goal.returns-then-not-follows
returns-then-not-follows c =
    let l = c.loop-last in
    let a = c.args in
    let joined : c.link_of-next.result ≡ link_at a.buffer.now a.list.now c.next_listed-index.result =
    c.link_of-next.ensures ∙ ap (λ (s : Bytes). link_of (page_of s)) c.page_at.ensures in
    sym (breaks a.buffer.now a.list.now l.last l.at c.next_listed-index.result c.next_listed-index.ensures c.link_of-next.result joined c.if-index-list.false c.loop-last-test.true (failed c.follows.ensures c.if-not-follows.true)) ∙ l.invariant

pub returns-then-not-next : goal.returns-then-not-next
returns-then-not-next c =
    let l = c.loop-last in
    let a = c.args in
    let joined : c.link_of-next.result ≡ link_at a.buffer.now a.list.now c.next_listed-index.result =
    c.link_of-next.ensures ∙ ap (λ (s : Bytes). link_of (page_of s)) c.page_at.ensures in
    sym (ends a.buffer.now a.list.now l.last l.at c.next_listed-index.result c.next_listed-index.ensures c.link_of-next.result joined c.if-index-list.false c.loop-last-test.true (held c.follows.ensures c.if-not-follows.false) (not-true _ c.if-not-next.true)) ∙ l.invariant

pub loop-last-smaller : goal.loop-last-smaller
loop-last-smaller c =
    let l = c.loop-last in
    let a = c.args in
    omega (arith, c.if-index-list.false, c.next_listed-index.ensures, further a.list.now l.at (rw c.next_listed-index.ensures at c.if-index-list.false))

pub loop-last-preserved : goal.loop-last-preserved
loop-last-preserved c =
    let l = c.loop-last in
    let a = c.args in
    let joined : c.link_of-next.result ≡ link_at a.buffer.now a.list.now c.next_listed-index.result =
    c.link_of-next.ensures ∙ ap (λ (s : Bytes). link_of (page_of s)) c.page_at.ensures in
    sym (goes_on a.buffer.now a.list.now l.last l.at c.next_listed-index.result c.next_listed-index.ensures c.link_of-next.result joined c.if-index-list.false c.loop-last-test.true (held c.follows.ensures c.if-not-follows.false) (not-false _ c.if-not-next.false)) ∙ l.invariant

pub returns : goal.returns
returns c =
    let l = c.loop-last in
    let a = c.args in
    sym (not-onward l.last (listed_in a.buffer.now (drop l.at a.list.now)) c.loop-last-test.false) ∙ l.invariant
