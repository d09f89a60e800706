-- `tags_reader::read_tags` meets its contract. Assumes nothing.
use mathlib.Core.Path.{sym}
use Rattle.octets.proofs.Tests.{failed, held}
use Rattle.tags_reader.proofs.Finding.{not-read, count-read}
use Rattle.tags_reader.proofs.read_tags.Goals as goal

pub returns-then-not-is_tags : goal.returns-then-not-is_tags
returns-then-not-is_tags c = sym (not-read c.args.b.now (failed c.is_tags.ensures c.if-not-is_tags.true))

pub returns : goal.returns
returns c =
    count-read c.args.b.now (held c.is_tags.ensures c.if-not-is_tags.false)
    c.count_of.result c.count_of.ensures
