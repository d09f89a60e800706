-- `feed_audio::feed_piece` meets its contract: `Pages.antt` puts the steps together. Assumes nothing.
use mathlib.Core.Path.{ap, ◌∙◌}
use Rattle.stream.specs.declared.Pending.{Pending}
use Rattle.stream.specs.Lent.{with_carry}
use Rattle.feed_audio.specs.Code.{next_core}
use Rattle.feed_audio.proofs.Pages.{piece-page}
use Rattle.feed_audio.proofs.feed_piece.Goals as goal

pub returns : goal.returns
returns c crc l m s =
    let a = c.args in
    rw (c.next_tally.ensures, c.no_counts-counts.ensures) (piece-page crc a.core a.tally a.h l a.body.now (with_carry m a.carry.now) a.bytes a.rest s
    c.append.ensures
    (rw c.fresh.ensures at c.keep_rest.ensures)
    (c.next_core-next.ensures
    ∙ ap (λ (p : Pending). next_core a.core a.h p a.core.position) c.still_pending.ensures))
