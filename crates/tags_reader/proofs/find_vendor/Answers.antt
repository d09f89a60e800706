-- `tags_reader::find_vendor` meets its contract. Assumes nothing.
use mathlib.Core.Path.{sym, ◌∙◌}
use Rattle.octets.proofs.Tests.{failed, held}
use Rattle.tags_reader.proofs.Finding.{no_vendor, vendor-found}
use Rattle.tags_reader.proofs.find_vendor.Goals as goal

pub returns-then-not-is_tags : goal.returns-then-not-is_tags
returns-then-not-is_tags c = sym (no_vendor c.args.b.now (failed c.is_tags.ensures c.if-not-is_tags.true))

pub returns : goal.returns
returns c =
    c.find_text.ensures
    ∙ vendor-found c.args.b.now (held c.is_tags.ensures c.if-not-is_tags.false)
