-- `feed_audio::packets::measure_page` meets its contract: `Measuring.antt` has the held packet's cases. Assumes nothing.
use Prim.Native.Nat.{◌<◌}
use mathlib.Core.Path.{◌≡◌, refl, sym, ◌∙◌}
use native.Mathlib.Omega.{arith}
use Rattle.std.proofs.lemmas.Result.{err_from_is_err_and}
use lib.ListN.{length, length-set}
use lib.Seq.{length-take-le}
use Rattle.octets.specs.Octets.{total}
use Rattle.packet_reader.specs.declared.Measure.{Measure}
use Rattle.stream.specs.Packets.{samples_of}
use Rattle.stream.specs.declared.Pending.TheVariants.{Nothing, Held, Dropped}
use Rattle.feed_audio.specs.Code.{measures_in, Packable}
use Rattle.feed_audio.proofs.Measuring.{packable, none_yet, first-sums, first-refused, first-measured}
use Rattle.feed_audio.proofs.packets.measure_page.Goals as goal

pub measure-requires : goal.measure-requires
unfolding total samples_of measures_in
measure-requires c =
    let fit = c.requires in
    record { few = fit.few; within = omega arith; bytes = omega arith; room = omega arith; one = omega arith; adds = refl; small = omega arith }

pub measure-requires-in-Dropped : goal.measure-requires-in-Dropped
unfolding total samples_of measures_in
measure-requires-in-Dropped c =
    let fit = c.requires in
    record { few = fit.few; within = omega arith; bytes = omega arith; room = omega arith; one = omega arith; adds = refl; small = omega arith }

pub overflow_add-whole : goal.overflow_add-whole
overflow_add-whole c =
    let q : c.args.pending ≡ Held c.in-Held.n = c.in-Held.is in
    omega (arith, rw q at c.requires.held)

pub slice_bounds-read_packet-end : goal.slice_bounds-read_packet-end
slice_bounds-read_packet-end c =
    let q : c.args.pending ≡ Held c.in-Held.n = c.in-Held.is in
    sym (length-take-le _ _ (rw q at c.requires.held))

pub packed-requires : goal.packed-requires
packed-requires c = packable _ _ _ (sym c.in_ok-contents-in-Held.ensures)

pub measure-requires-in-Held : goal.measure-requires-in-Held
measure-requires-in-Held c =
    let m : Measure = c.in_ok-contents-in-Held.contents.measure in
    let fit : Packable m = packable _ _ _ (sym c.in_ok-contents-in-Held.ensures) in
    let size : 0 < length c.args.measures.now = omega arith in
    record {
      few = c.requires.few;
      within = c.requires.within;
      bytes = c.requires.rest;
      room = simp length-set (omega arith);
      one = omega arith;
      adds = rw c.packed.ensures (first-sums c.args.measures.now m size fit);
      small = omega (arith, fit.samples);
    }

pub returns-in-Nothing : goal.returns-in-Nothing
unfolding measures_in
returns-in-Nothing c =
    let q : c.args.pending ≡ Nothing = c.in-Nothing.is in
    rw q (none_yet c.measure.ensures)

pub returns-in-Dropped : goal.returns-in-Dropped
unfolding measures_in
returns-in-Dropped c =
    let q : c.args.pending ≡ Dropped = c.in-Dropped.is in
    rw q (none_yet c.measure-in-Dropped.ensures)

pub returns-in_err-contents-in-Held : goal.returns-in_err-contents-in-Held
returns-in_err-contents-in-Held c =
    let q : c.args.pending ≡ Held c.in-Held.n = c.in-Held.is in
    let p = err_from_is_err_and c.from_residual.result c.from_residual.ensures.1 in
    rw (p.1, p.2, q) (first-refused _ _ _ _ (sym c.in_err-contents-in-Held.ensures))

pub returns-in_ok-contents-in-Held : goal.returns-in_ok-contents-in-Held
returns-in_ok-contents-in-Held c =
    let q : c.args.pending ≡ Held c.in-Held.n = c.in-Held.is in
    let size : 0 < length c.args.measures.now = omega (arith, c.requires.room) in
    rw q
    (first-measured _ _ _ c.args.measures.now (sym c.in_ok-contents-in-Held.ensures) size
    (rw c.packed.ensures at c.measure-in-Held.ensures))
