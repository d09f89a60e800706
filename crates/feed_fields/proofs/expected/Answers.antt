-- `feed_fields::expected` meets its contract, phase by phase. Assumes nothing.
use mathlib.Core.Path.{◌≡◌}
use Rattle.stream.specs.declared.Phase.TheVariants.{First, Comment, Audio, Opened, Ended}
use Rattle.stream.specs.Page.{continued}
use Rattle.stream.specs.State.{expecting}
use Rattle.feed_fields.proofs.expected.Goals as goal

pub returns-in-First : goal.returns-in-First
unfolding expecting
returns-in-First c = λ carry lacing body. let q : c.args.core.phase ≡ First = cc in rw q

pub returns-then-is_continued : goal.returns-then-is_continued
unfolding expecting continued
returns-then-is_continued c =
    λ carry lacing body.
    let q : c.args.core.phase ≡ Opened = cc in
    rw (q, ← c.is_continued.ensures, c.if-is_continued.true)

pub returns-else-is_continued : goal.returns-else-is_continued
unfolding expecting continued
returns-else-is_continued c =
    λ carry lacing body.
    let q : c.args.core.phase ≡ Opened = cc in
    rw (q, ← c.is_continued.ensures, c.if-is_continued.false)

pub returns-in-Comment : goal.returns-in-Comment
unfolding expecting
returns-in-Comment c = λ carry lacing body. let q : c.args.core.phase ≡ Comment = cc in rw (c.remade.ensures, q)

pub returns-in-Audio : goal.returns-in-Audio
unfolding expecting
returns-in-Audio c = λ carry lacing body. let q : c.args.core.phase ≡ Audio = cc in rw (c.remade-in-Audio.ensures, q)

pub returns-in-Ended : goal.returns-in-Ended
unfolding expecting
returns-in-Ended c = λ carry lacing body. let q : c.args.core.phase ≡ Ended = cc in rw (c.remade-in-Ended.ensures, q)
