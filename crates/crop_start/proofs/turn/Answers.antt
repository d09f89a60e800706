-- `crop_start::turn` meets its contract. Assumes nothing.
use Rattle.std.specs.Prelude.{Result, Ok, Err}
use Rattle.refusal.specs.declared.Refusal.{Refusal}
use Prim.Native.Nat.{ℕ}
use mathlib.Core.Path.{subst}
use native.Mathlib.Omega.{arith}
use borrow.Author.Rules.{rules}
use Rattle.octets.specs.Octets.{Bytes}
use Rattle.page_crc.specs.Crc.{page_crc}
use Rattle.stream.specs.Readings.{readings}
use Rattle.stream.specs.Feed.{Feeds}
use Rattle.stream.specs.Lent.{Lent, lent_of}
use Rattle.reader.specs.declared.Fed.{Fed}
use Rattle.reader.specs.Answers.{known_as, told_fed}
use Rattle.crop_start.proofs.Turning.{inside, never_refused, turned, room_for_one}
use Rattle.crop_start.proofs.turn.Goals as goal

pub first_start-start-requires : goal.first_start-start-requires
first_start-start-requires c =
    let a = c.args in
    let left = c.feed.new in
    room_for_one (lent_of a.carry.now a.ends.now a.lengths.now a.kept.now a.frames.now) left.ends left.lengths c.requires.room c.ends-1.given c.lengths-1.given

pub overflow_add-result : goal.overflow_add-result
overflow_add-result c = omega (arith, c.requires.more, c.requires.walked.few)

pub overflow_add-result-in-Ok : goal.overflow_add-result-in-Ok
overflow_add-result-in-Ok c =
    let a = c.args in
    let lent : Lent = lent_of a.carry.now a.ends.now a.lengths.now a.kept.now a.frames.now in
    let left : Lent = (let l = c.feed.new in lent_of l.carry l.ends l.lengths l.kept l.frames) in
    omega (arith, inside a.stream.now a.headers a.position a.walk lent left c.page_at-page.result.now c.requires c.page_at-page.ensures)

pub shape_of-carry-in-Ok : goal.shape_of-carry-in-Ok
shape_of-carry-in-Ok c = c.carry-1.given

pub shape_of-ends-in-Ok : goal.shape_of-ends-in-Ok
shape_of-ends-in-Ok c = c.ends-1.given

pub shape_of-lengths-in-Ok : goal.shape_of-lengths-in-Ok
shape_of-lengths-in-Ok c = c.lengths-1.given

pub shape_of-kept-in-Ok : goal.shape_of-kept-in-Ok
shape_of-kept-in-Ok c = c.kept-1.given

pub shape_of-frames-in-Ok : goal.shape_of-frames-in-Ok
shape_of-frames-in-Ok c = c.frames-1.given

pub returns-in-Ok : goal.returns-in-Ok
returns-in-Ok c =
    let a = c.args in
    let lent : Lent = lent_of a.carry.now a.ends.now a.lengths.now a.kept.now a.frames.now in
    let left : Lent = (let l = c.feed.new in lent_of l.carry l.ends l.lengths l.kept l.frames) in
    let page : Bytes = c.page_at-page.result.now in
    let fed = subst (λ (f : Result Fed Refusal). Feeds (readings page_crc) (known_as a.walk.reader) page lent (told_fed f) left) c.in-Ok.is c.feed.ensures in
    turned a.stream.now a.headers a.position a.walk lent left page c.requires c.page_at-page.ensures
    c.in-Ok.fed.reader c.in-Ok.fed.counts (record { below = λ (i : ℕ). (c.shared_slice_known-1.given i).fits }) fed c.first_start-start.result c.may_start-holds.result
    c.better.result c.first_start-start.ensures c.may_start-holds.ensures c.better.ensures

pub returns-in-Err : goal.returns-in-Err
returns-in-Err c =
    let a = c.args in
    let lent : Lent = lent_of a.carry.now a.ends.now a.lengths.now a.kept.now a.frames.now in
    let left : Lent = (let l = c.feed.new in lent_of l.carry l.ends l.lengths l.kept l.frames) in
    let page : Bytes = c.page_at-page.result.now in
    let fed = subst (λ (f : Result Fed Refusal). Feeds (readings page_crc) (known_as a.walk.reader) page lent (told_fed f) left) c.in-Err.is c.feed.ensures in
    absurd (never_refused a.stream.now a.headers a.position a.walk lent left page c.requires c.page_at-page.ensures _ fed)
