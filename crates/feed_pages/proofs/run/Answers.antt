-- `feed_pages::run` meets its contract. The loop's invariant: what is left of the run makes the whole. Assumes nothing.
use Rattle.std.specs.Prelude.{Result, Ok, Err}
use Prim.Native.Nat.{ℕ, suc, ◌-◌}
use mathlib.Core.Path.{◌≡◌, refl, sym, ap, ◌∙◌}
use native.Mathlib.Omega.{arith}
use lib.ListN.{length}
use Rattle.octets.specs.Octets.{Bytes, Octets}
use Rattle.page_crc_tables.specs.Table.{entry_in}
use Rattle.page_crc.specs.Sliced.{page_sliced}
use Rattle.stream.specs.Readings.{Readings, readings}
use Rattle.stream.specs.Lent.{Lent, lent_of}
use Rattle.feed_pages.specs.declared.Progress.{Progress}
use Rattle.feed_pages.specs.declared.Stop.{Stop}
use Rattle.feed_pages.specs.Run.{Reached, goes, turn, Ended, runs, feed_pages, Inside}
use Rattle.feed_pages.specs.Answers.{reached, told_stop, told_turn}
use Rattle.feed_pages.proofs.Turns.{Onward, turn-onward, run_goes, run_stops}
use Rattle.feed_pages.proofs.run.Goals as goal

no_page_yet : (n : ℕ) (R : Readings) (b : Bytes) (a : Reached) (m : Lent) → runs (n - 0) R b a m ≡ runs n R b a m
no_page_yet n R b a m = let all : n - 0 ≡ n = omega arith in rw all

-- where a turn over b has ended, from p on with m lent, and with `end` after it
module _ (R : Readings) (b : Bytes) (o : Octets b) (p : Progress) (m end : Lent) (all : Ended) (turned : Result Progress Stop) (is : told_turn turned end ≡ turn R b (reached p) m)
    (fits : Inside (reached p) b m) (whole : runs (suc (length b) - p.pages) R b (reached p) m ≡ all) where
  -- the pages that are left, this turn's included
  rest : runs (suc (length b - p.pages)) R b (reached p) m ≡ all
  rest =
      let left : suc (length b - p.pages) ≡ suc (length b) - p.pages = omega (arith, fits.few, fits.bytes) in
      ap (λ (k : ℕ). runs k R b (reached p) m) left ∙ whole

  module _ {next : Progress} (q : turned ≡ Ok next) where
    told : goes (reached next) end ≡ turn R b (reached p) m
    told = sym (ap (λ (t : Result Progress Stop). told_turn t end) q) ∙ is

    onward : Onward (reached p) b (reached next) end
    onward = turn-onward R b o (reached p) m fits (sym told)

    rest_on : runs (suc (length b) - next.pages) R b (reached next) end ≡ all
    rest_on =
        let left : suc (length b) - next.pages ≡ length b - p.pages = omega (arith, onward.page) in
        ap (λ (k : ℕ). runs k R b (reached next) end) left ∙ sym (run_goes R b (reached p) m (length b - p.pages) told) ∙ rest

  stopped : {why : Stop} → turned ≡ Err why → record { reached = reached p; why = told_stop why; lent = end } ≡ all
  stopped q = sym (run_stops R b (reached p) m (length b - p.pages) (sym (ap (λ (t : Result Progress Stop). told_turn t end) q) ∙ is)) ∙ rest

pub loop-next-init : goal.loop-next-init
loop-next-init c = (
  no_page_yet _ _ _ _ _,
  record { bytes = omega arith; few = omega arith; ends = omega arith; lengths = omega arith; kept = omega arith; frames = omega arith },
  refl,
  refl,
  refl,
  refl,
  refl,
)

pub feed_next-requires : goal.feed_next-requires
feed_next-requires c = c.loop-next.invariant.1

pub loop-next-smaller : goal.loop-next-smaller
loop-next-smaller c =
    let l = c.loop-next in
    let n = c.feed_next.new in
    let b : Bytes = c.args.buffer.now in
    let R : Readings = readings (page_sliced (entry_in c.args.tables.now)) in
    let o : Octets b = record { below = λ (i : ℕ). (c.shared_slice_known-1.given i).fits } in
    let m : Lent = lent_of l.carry l.ends l.lengths l.kept l.frames in
    let end : Lent = lent_of n.carry n.ends n.lengths n.kept n.frames in
    let on = onward R b o l.progress m end _ _ c.feed_next.ensures l.invariant.1 l.invariant.0 c.in-Ok.is in
    omega (arith, on.moves, on.fits.bytes)

pub loop-next-preserved : goal.loop-next-preserved
loop-next-preserved c =
    let l = c.loop-next in
    let n = c.feed_next.new in
    let b : Bytes = c.args.buffer.now in
    let R : Readings = readings (page_sliced (entry_in c.args.tables.now)) in
    let o : Octets b = record { below = λ (i : ℕ). (c.shared_slice_known-1.given i).fits } in
    let m : Lent = lent_of l.carry l.ends l.lengths l.kept l.frames in
    let end : Lent = lent_of n.carry n.ends n.lengths n.kept n.frames in
    let inv = l.invariant in (
      rest_on R b o l.progress m end _ _ c.feed_next.ensures inv.1 inv.0 c.in-Ok.is,
      (onward R b o l.progress m end _ _ c.feed_next.ensures inv.1 inv.0 c.in-Ok.is).fits,
      c.carry-1.given ∙ inv.2,
      c.ends-1.given ∙ inv.3,
      c.lengths-1.given ∙ inv.4,
      c.kept-1.given ∙ inv.5,
      c.frames-1.given ∙ inv.6,
    )

pub shape_of-carry-in-Err : goal.shape_of-carry-in-Err
shape_of-carry-in-Err c = c.carry-1.given ∙ c.loop-next.invariant.2

pub shape_of-ends-in-Err : goal.shape_of-ends-in-Err
shape_of-ends-in-Err c = c.ends-1.given ∙ c.loop-next.invariant.3

pub shape_of-lengths-in-Err : goal.shape_of-lengths-in-Err
shape_of-lengths-in-Err c = c.lengths-1.given ∙ c.loop-next.invariant.4

pub shape_of-kept-in-Err : goal.shape_of-kept-in-Err
shape_of-kept-in-Err c = c.kept-1.given ∙ c.loop-next.invariant.5

pub shape_of-frames-in-Err : goal.shape_of-frames-in-Err
shape_of-frames-in-Err c = c.frames-1.given ∙ c.loop-next.invariant.6

pub returns-in-Err : goal.returns-in-Err
unfolding feed_pages
returns-in-Err c =
    let l = c.loop-next in
    let n = c.feed_next.new in
    let b : Bytes = c.args.buffer.now in
    let R : Readings = readings (page_sliced (entry_in c.args.tables.now)) in
    let o : Octets b = record { below = λ (i : ℕ). (c.shared_slice_known-1.given i).fits } in
    let m : Lent = lent_of l.carry l.ends l.lengths l.kept l.frames in
    let end : Lent = lent_of n.carry n.ends n.lengths n.kept n.frames in
    stopped R b o l.progress m end _ _ c.feed_next.ensures l.invariant.1 l.invariant.0 c.in-Err.is
