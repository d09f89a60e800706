-- `tags_writer::put_tags` meets its contract: the copies follow each other. Assumes nothing.
use Rattle.tags_writer.proofs.Laying.{packet-copied}
use Rattle.tags_writer.proofs.put_tags.Goals as goal

pub returns : goal.returns
returns c =
    let a = c.args in
    packet-copied a.vendor.now a.text.now a.lengths.now c.requires.sum a.out.now c.copy_at.new.d
    c.put_text.new.out c.put32.new.d c.put_comments.new.out c.requires.room
    c.copy_at.ensures c.put_text.ensures c.put32.ensures c.put_comments.ensures
