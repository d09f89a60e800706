-- `tags_lines::put_comment` meets its contract: the end is made in a buffer of its own. Assumes nothing.
use mathlib.Core.Path.{ap, ◌∙◌}
use Rattle.text_put.proofs.Putting.{put-known, front}
use Rattle.tags_lines.specs.Lines.{comment_is, text_line}
use Rattle.tags_lines.proofs.put_comment.Goals as goal

pub returns : goal.returns
returns c =
    let end = c.lay_end-n.ensures in
    let made = front end.laid end.short in
    put-known (ap (text_line comment_is c.args.c.now) (c.part_of.ensures ∙ made)) c.put_text.ensures
