-- `tags_replaygain::has_replaygain` meets its contract. Assumes nothing.
use mathlib.Core.Path.{ap, ◌∙◌}
use Rattle.refusal.specs.Numbers.{number_of}
use Rattle.tags_replaygain.proofs.Comments.{any_from}
use Rattle.tags_replaygain.proofs.Packet.{counted, all-fit, any_decides, no_tags}
use Rattle.tags_replaygain.proofs.has_replaygain.Goals as goal

pub any_from-requires : goal.any_from-requires
any_from-requires c =
    -- the packet was read, and has n comments
    let b = c.args.b.now in
    let n = c.in-Ok.n in
    rw c.first_comment.ensures (all-fit b n (counted b n c.in-Ok.ensures))

pub returns : goal.returns
returns c =
    let b = c.args.b.now in
    let n = c.in-Ok.n in
    c.any_from.ensures ∙ ap (any_from b n) c.first_comment.ensures ∙ any_decides b n (counted b n c.in-Ok.ensures)

pub returns-in_default : goal.returns-in_default
returns-in_default c = no_tags c.args.b.now (number_of c.in_default.field-0) c.in_default.ensures
