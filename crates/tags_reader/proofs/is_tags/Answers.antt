-- `tags_reader::is_tags` meets its contract. Assumes nothing.
use mathlib.Core.Path.{sym, ap, ap₂, ◌∙◌}
use Rattle.std.specs.Prelude.{Option}
use Rattle.std.specs.Option.{is_some}
use Rattle.tags_reader.specs.declared.Walk.{Walk}
use Rattle.tags_reader.specs.Code.{walked}
use Rattle.tags_reader.proofs.Checking.{walk_is_tags}
use Rattle.tags_reader.proofs.Finding.{none-begun}
use Rattle.tags_reader.proofs.is_tags.Goals as goal

pub returns-in_default : goal.returns-in_default
returns-in_default c = none-begun c.args.b.now c.in_default.ensures

pub returns : goal.returns
returns c =
    let b = c.args.b.now in
    c.is_some.ensures
    ∙ ap (λ (w : Option Walk). is_some w)
    (c.walk_by.ensures ∙ ap₂ (walked b) c.count_of-n.ensures (sym c.in-Some.is ∙ c.begin.ensures))
    ∙ walk_is_tags b
