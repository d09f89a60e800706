-- `feed_audio::carried::next_core` meets its contract. Assumes nothing.
use mathlib.Core.Path.{◌≡◌}
use Rattle.octets.specs.Pick.{pick}
use Rattle.page_flags.specs.Flags.{is_last_page}
use Rattle.stream.specs.declared.Phase.TheVariants.{Audio, Ended}
use Rattle.feed_audio.proofs.carried.next_core.Goals as goal
use Rattle.feed_audio.proofs.carried.next_core.Goals.{then-is_last_page, else-is_last_page}

pub returns : goal.returns
returns c =
    let a = c.args in
    let ph : c.if-is_last_page.phase ≡ pick (is_last_page a.h.flags) Ended Audio =
    elim c.if-is_last_page.branch [
      | then-is_last_page w ↦ rw (← c.is_last_page.ensures, w.if-is_last_page.true) w.phase-is
      | else-is_last_page w ↦ rw (← c.is_last_page.ensures, w.if-is_last_page.false) w.phase-is
    ] in
    rw (c.next_core.ensures, ph)
