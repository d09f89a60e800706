-- `crop::crop_whole` meets its contract. Assumes nothing.
use mathlib.Core.Path.{◌≡◌, refl, sym, ◌∙◌}
use mathlib.Core.Bool.{true}
use native.Mathlib.Omega.{arith}
use borrow.Author.Rules.{rules}
use borrow.Author.Tests.{not-true, not-false}
use lib.Seq.{length-take-le}
use Rattle.octets.specs.Octets.{Octets}
use Rattle.refusal.specs.declared.Refusal.TheVariants.{NoCropStart}
use Rattle.refusal.specs.Numbers.{number_of}
use Rattle.refusal.specs.Told.{refuses}
use Rattle.recording.specs.Pages.{pages_of}
use Rattle.crop_rules.specs.Crop.{is_start}
use Rattle.crop.proofs.Cropping.{crop-told, no_start-told, is-placed, found_inside, found-short, found-room, found-put}
use Rattle.crop.proofs.crop_whole.Goals as goal

pub is_start-requires : goal.is_start-requires
is_start-requires c = is-placed _ _ _ _ c.headers_end-headers.ensures c.place_of-at.ensures

pub returns-then-not-is_start : goal.returns-then-not-is_start
returns-then-not-is_start c =
    let a = c.args in
    crop-told _ _ (refuses (number_of NoCropStart)) a.out.now
    (no_start-told a.stream.now a.page _ (sym c.is_start.ensures ∙ c.if-not-is_start.true))

pub overflow_sub-size : goal.overflow_sub-size
overflow_sub-size c =
    let a = c.args in
    let o : Octets a.stream.now = record { below = λ i. (c.shared_slice_known-1.given i).fits } in
    let is-start : is_start (pages_of a.stream.now) a.page ≡ true =
    sym c.is_start.ensures ∙ c.if-not-is_start.false in
    let found = found_inside a.stream.now a.page _ _ c.headers_end-headers.ensures c.place_of-at.ensures o c.requires is-start in
    found.1

pub overflow_add-size : goal.overflow_add-size
overflow_add-size c =
    let a = c.args in
    let o : Octets a.stream.now = record { below = λ i. (c.shared_slice_known-1.given i).fits } in
    let is-start : is_start (pages_of a.stream.now) a.page ≡ true =
    sym c.is_start.ensures ∙ c.if-not-is_start.false in
    let found = found_inside a.stream.now a.page _ _ c.headers_end-headers.ensures c.place_of-at.ensures o c.requires is-start in
    omega (arith, found.0)

pub returns-then-out-size : goal.returns-then-out-size
returns-then-out-size c =
    let a = c.args in
    let o : Octets a.stream.now = record { below = λ i. (c.shared_slice_known-1.given i).fits } in
    let is-start : is_start (pages_of a.stream.now) a.page ≡ true =
    sym c.is_start.ensures ∙ c.if-not-is_start.false in
    let found = found_inside a.stream.now a.page _ _ c.headers_end-headers.ensures c.place_of-at.ensures o c.requires is-start in
    found-short a.stream.now a.page _ _ c.headers_end-headers.ensures c.place_of-at.ensures o c.requires is-start a.out.now (omega arith)

pub overflow_sub-back : goal.overflow_sub-back
overflow_sub-back c =
    let a = c.args in
    let o : Octets a.stream.now = record { below = λ i. (c.shared_slice_known-1.given i).fits } in
    let is-start : is_start (pages_of a.stream.now) a.page ≡ true =
    sym c.is_start.ensures ∙ c.if-not-is_start.false in
    let found = found_inside a.stream.now a.page _ _ c.headers_end-headers.ensures c.place_of-at.ensures o c.requires is-start in
    found.2

pub slice_bounds-copy_at-end : goal.slice_bounds-copy_at-end
slice_bounds-copy_at-end c =
    let a = c.args in
    let o : Octets a.stream.now = record { below = λ i. (c.shared_slice_known-1.given i).fits } in
    let is-start : is_start (pages_of a.stream.now) a.page ≡ true =
    sym c.is_start.ensures ∙ c.if-not-is_start.false in
    let found = found_inside a.stream.now a.page _ _ c.headers_end-headers.ensures c.place_of-at.ensures o c.requires is-start in
    sym (length-take-le _ a.stream.now found.0)

pub put_pages-requires : goal.put_pages-requires
put_pages-requires c =
    let a = c.args in
    let o : Octets a.stream.now = record { below = λ i. (c.shared_slice_known-1.given i).fits } in
    let is-start : is_start (pages_of a.stream.now) a.page ≡ true =
    sym c.is_start.ensures ∙ c.if-not-is_start.false in
    let found = found_inside a.stream.now a.page _ _ c.headers_end-headers.ensures c.place_of-at.ensures o c.requires is-start in
    found-room a.stream.now a.page _ _ c.headers_end-headers.ensures c.place_of-at.ensures o c.requires is-start a.out.now _ (omega (arith, c.if-out-size.false)) c.copy_at.ensures

pub returns : goal.returns
returns c =
    let a = c.args in
    let o : Octets a.stream.now = record { below = λ i. (c.shared_slice_known-1.given i).fits } in
    let is-start : is_start (pages_of a.stream.now) a.page ≡ true =
    sym c.is_start.ensures ∙ c.if-not-is_start.false in
    let found = found_inside a.stream.now a.page _ _ c.headers_end-headers.ensures c.place_of-at.ensures o c.requires is-start in
    found-put a.stream.now a.page _ _ c.headers_end-headers.ensures c.place_of-at.ensures o c.requires is-start a.out.now _ _ _ (omega (arith, c.if-out-size.false)) refl c.copy_at.ensures c.put_pages.ensures
