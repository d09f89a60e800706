-- `feed_page::feed_due` meets its contract: `Joining` has its ways. Assumes nothing.
use mathlib.Core.Path.{sym, ◌∙◌}
use Rattle.stream.specs.Lent.{lent_of}
use Rattle.feed_page.proofs.Joining.{by-audio, by-header}
use Rattle.feed_page.proofs.feed_due.Goals as goal

pub returns-then-is_audio : goal.returns-then-is_audio
returns-then-is_audio c =
    λ crc core b w.
    by-audio w.awaits w.room w.lacing w.body w.few c.feed_audio.result _
    (sym c.is_audio.ensures ∙ c.if-is_audio.true) c.of_audio.ensures (c.feed_audio.ensures crc)

pub returns : goal.returns
returns c =
    λ crc core b w.
    let a = c.args in
    by-header w.awaits w.room w.lacing w.body w.few c.feed_header.result _
    (sym c.is_audio.ensures ∙ c.if-is_audio.false) c.of_header.ensures
    (c.feed_header.ensures crc (lent_of a.carry.now a.ends.now a.lengths.now a.kept.now a.frames.now))
