-- `feed_audio::feed_page` meets its contract: `Checking.antt` has 9, 11 and what the two ways past them ask. Assumes nothing.
use Rattle.std.specs.Prelude.{Option, Some, None}
use mathlib.Core.Path.{◌≡◌, sym, ◌∙◌}
use Rattle.stream.specs.Readings.{readings}
use Rattle.feed_audio.proofs.Checking.{too_long_lem, wrong-granule, past_eleven, any_completes, none-completes, piece-fits}
use Rattle.stream.specs.Lent.{Lent, lent_of}
use Rattle.feed_lacing.specs.Scan.{scan_by}
use Rattle.feed_audio.proofs.feed_page.Goals as goal

pub returns-then-wrong_granule : goal.returns-then-wrong_granule
returns-then-wrong_granule c crc =
    let a = c.args in
    let scan : Some c.in-Some.rest ≡ scan_by c.args.core.pending c.args.lacing.now = sym c.in-Some.is ∙ c.scan_page.ensures in
    let lent : Lent = lent_of c.args.carry.now c.args.ends.now c.args.lengths.now c.args.kept.now c.args.frames.now in
    let fp = c.first_piece-first.ensures in
    wrong-granule (readings crc) a.core a.tally a.h a.lacing.now a.body.now lent
    c.requires.audio _ scan (rw fp at (sym c.wrong_granule.ensures ∙ c.if-wrong_granule.true))

pub feed_completing-requires : goal.feed_completing-requires
feed_completing-requires c =
    let a = c.args in
    let scan : Some c.in-Some.rest ≡ scan_by c.args.core.pending c.args.lacing.now = sym c.in-Some.is ∙ c.scan_page.ensures in
    let lent : Lent = lent_of c.args.carry.now c.args.ends.now c.args.lengths.now c.args.kept.now c.args.frames.now in
    let fp = c.first_piece-first.ensures in
    rw fp (any_completes a.core a.h a.lacing.now a.body.now lent c.requires _ scan
    (rw fp at c.if-first.true) (rw fp at (sym c.wrong_granule.ensures ∙ c.if-wrong_granule.false)))

pub returns-then-first : goal.returns-then-first
returns-then-first c crc =
    let a = c.args in
    let scan : Some c.in-Some.rest ≡ scan_by c.args.core.pending c.args.lacing.now = sym c.in-Some.is ∙ c.scan_page.ensures in
    let lent : Lent = lent_of c.args.carry.now c.args.ends.now c.args.lengths.now c.args.kept.now c.args.frames.now in
    let fp = c.first_piece-first.ensures in
    past_eleven (readings crc) a.core a.tally a.h a.lacing.now a.body.now lent
    c.requires.audio _ scan (rw fp at (sym c.wrong_granule.ensures ∙ c.if-wrong_granule.false)) (c.feed_completing.ensures crc)

pub feed_piece-requires : goal.feed_piece-requires
feed_piece-requires c =
    let a = c.args in
    let scan : Some c.in-Some.rest ≡ scan_by c.args.core.pending c.args.lacing.now = sym c.in-Some.is ∙ c.scan_page.ensures in
    let lent : Lent = lent_of c.args.carry.now c.args.ends.now c.args.lengths.now c.args.kept.now c.args.frames.now in
    let fp = c.first_piece-first.ensures in
    let fits = piece-fits a.core a.h a.lacing.now a.body.now lent c.requires _ scan (rw fp at c.if-first.false) in
    rw fp (record { piece = fits.0; fresh = fits.1 })

pub returns-in_default : goal.returns-in_default
returns-in_default c crc =
    let a = c.args in
    let lent : Lent = lent_of c.args.carry.now c.args.ends.now c.args.lengths.now c.args.kept.now c.args.frames.now in
    let fp = c.first_piece-first.ensures in
    too_long_lem (readings crc) a.core a.tally a.h a.lacing.now a.body.now lent
    c.requires.audio (sym c.in_default.is ∙ c.scan_page.ensures)

pub returns : goal.returns
returns c crc =
    let a = c.args in
    let scan : Some c.in-Some.rest ≡ scan_by c.args.core.pending c.args.lacing.now = sym c.in-Some.is ∙ c.scan_page.ensures in
    let lent : Lent = lent_of c.args.carry.now c.args.ends.now c.args.lengths.now c.args.kept.now c.args.frames.now in
    let fp = c.first_piece-first.ensures in
    past_eleven (readings crc) a.core a.tally a.h a.lacing.now a.body.now lent
    c.requires.audio _ scan (rw fp at (sym c.wrong_granule.ensures ∙ c.if-wrong_granule.false))
    (c.feed_piece.ensures crc a.lacing.now lent
    (rw fp (none-completes a.core a.h a.lacing.now a.body.now lent c.requires _ scan
    (rw fp at c.if-first.false))))
