-- `head_reader::read_head` meets its contract: the first check that refuses decides. Assumes nothing.
use mathlib.Core.Path.{sym, ap, ◌∙◌}
use Rattle.refusal.specs.declared.Refusal.TheVariants.{BadHead, BadMapping}
use Rattle.refusal.specs.Told.{gives}
use Rattle.octets.proofs.Tests.{failed, held}
use Rattle.head_fields.specs.Right.{right_mapping}
use Rattle.head_reader.proofs.Answers.{no_head_lem, wrong-mapping, right_header, refused-is, read_is}
use Rattle.head_reader.proofs.read_head.Goals as goal

pub returns-then-not-is_head : goal.returns-then-not-is_head
returns-then-not-is_head c =
    let b = c.args.b.now in
    refused-is b c.refused.result BadHead c.refused.ensures (no_head_lem b (failed c.is_head.ensures c.if-not-is_head.true))

pub returns-then-not-right_mapping : goal.returns-then-not-right_mapping
returns-then-not-right_mapping c =
    let b = c.args.b.now in
    refused-is b c.refused-then-not-right_mapping.result BadMapping c.refused-then-not-right_mapping.ensures
    (wrong-mapping b (held c.is_head.ensures c.if-not-is_head.false)
    (failed (c.right_mapping.ensures ∙ ap right_mapping c.head_of-head.ensures) c.if-not-right_mapping.true))

pub returns : goal.returns
returns c =
    let b = c.args.b.now in
    let right = right_header b (held c.is_head.ensures c.if-not-is_head.false) (held (c.right_mapping.ensures ∙ ap right_mapping c.head_of-head.ensures) c.if-not-right_mapping.false) in
    read_is b c.head_of-head.result (right ∙ ap gives (sym c.head_of-head.ensures))
