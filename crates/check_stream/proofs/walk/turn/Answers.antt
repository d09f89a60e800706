-- `check_stream::walk::turn` meets its contract. Assumes nothing.
use Rattle.std.specs.Prelude.{Result, Ok, Err}
use Rattle.refusal.specs.declared.Refusal.{Refusal}
use Prim.Native.Nat.{ℕ}
use mathlib.Core.Path.{subst}
use native.Mathlib.Omega.{arith}
use borrow.Author.Rules.{rules}
use Rattle.octets.specs.Octets.{Bytes}
use Rattle.page_crc.specs.Crc.{page_crc}
use Rattle.stream.specs.Readings.{readings}
use Rattle.stream.specs.Feed.{Feeds}
use Rattle.stream.specs.Lent.{Lent, lent_of}
use Rattle.reader.specs.declared.Fed.{Fed}
use Rattle.reader.specs.Answers.{known_as, told_fed}
use Rattle.check_stream.proofs.Turning.{inside, never_refused, few-packets, turned}
use Rattle.check_stream.proofs.walk.turn.Goals as goal

pub overflow_add-number : goal.overflow_add-number
overflow_add-number c = omega (arith, c.requires.more, c.requires.walked.few)

pub overflow_add-at : goal.overflow_add-at
overflow_add-at c =
    let a = c.args in
    let lent : Lent = lent_of a.carry.now a.ends.now a.lengths.now a.kept.now a.frames.now in
    let left : Lent = (let l = c.feed.new in lent_of l.carry l.ends l.lengths l.kept l.frames) in
    let page : Bytes = c.page_at-page.result.now in
    omega (arith, inside a.stream.now a.headers a.gains a.walk lent left page c.requires c.page_at-page.ensures)

pub last_of-last-requires : goal.last_of-last-requires
last_of-last-requires c =
    let a = c.args in
    let lent : Lent = lent_of a.carry.now a.ends.now a.lengths.now a.kept.now a.frames.now in
    let left : Lent = (let l = c.feed.new in lent_of l.carry l.ends l.lengths l.kept l.frames) in
    let page : Bytes = c.page_at-page.result.now in
    let fed = subst (λ (f : Result Fed Refusal). Feeds (readings page_crc) (known_as a.walk.reader) page lent (told_fed f) left) c.in-Ok.is c.feed.ensures in
    few-packets a.stream.now a.headers a.gains a.walk lent left page c.requires c.page_at-page.ensures
    c.in-Ok.fed.reader c.in-Ok.fed.counts (record { below = λ (i : ℕ). (c.shared_slice_known-1.given i).fits }) fed c.lengths-1.given

pub shape_of-carry-in-Ok : goal.shape_of-carry-in-Ok
shape_of-carry-in-Ok c = c.carry-1.given

pub shape_of-ends-in-Ok : goal.shape_of-ends-in-Ok
shape_of-ends-in-Ok c = c.ends-1.given

pub shape_of-lengths-in-Ok : goal.shape_of-lengths-in-Ok
shape_of-lengths-in-Ok c = c.lengths-1.given

pub shape_of-kept-in-Ok : goal.shape_of-kept-in-Ok
shape_of-kept-in-Ok c = c.kept-1.given

pub returns-in-Ok : goal.returns-in-Ok
returns-in-Ok c =
    let a = c.args in
    let lent : Lent = lent_of a.carry.now a.ends.now a.lengths.now a.kept.now a.frames.now in
    let left : Lent = (let l = c.feed.new in lent_of l.carry l.ends l.lengths l.kept l.frames) in
    let page : Bytes = c.page_at-page.result.now in
    let fed = subst (λ (f : Result Fed Refusal). Feeds (readings page_crc) (known_as a.walk.reader) page lent (told_fed f) left) c.in-Ok.is c.feed.ensures in
    turned a.stream.now a.headers a.gains a.walk lent left page c.requires c.page_at-page.ensures
    c.in-Ok.fed.reader c.in-Ok.fed.counts (record { below = λ (i : ℕ). (c.shared_slice_known-1.given i).fits }) fed c.is_open-pending.result c.last_of-last.result
    c.both-gain.result c.is_ended-ended.result c.found_on-found.result
    (rw c.lacing_of.ensures at c.is_open-pending.ensures) c.last_of-last.ensures c.both-gain.ensures c.is_ended-ended.ensures
    c.found_on-found.ensures

pub returns-in-Err : goal.returns-in-Err
returns-in-Err c =
    let a = c.args in
    let lent : Lent = lent_of a.carry.now a.ends.now a.lengths.now a.kept.now a.frames.now in
    let left : Lent = (let l = c.feed.new in lent_of l.carry l.ends l.lengths l.kept l.frames) in
    let page : Bytes = c.page_at-page.result.now in
    let fed = subst (λ (f : Result Fed Refusal). Feeds (readings page_crc) (known_as a.walk.reader) page lent (told_fed f) left) c.in-Err.is c.feed.ensures in
    absurd (never_refused a.stream.now a.headers a.gains a.walk lent left page c.requires c.page_at-page.ensures _ fed)
