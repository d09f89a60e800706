-- `text_escape::bytes_shown` meets its contract: the character at the place decides, where none began before. Assumes nothing.
use mathlib.Core.Path.{◌≡◌, sym, ◌∙◌}
use mathlib.Core.Bool.{true, false}
use Rattle.text_escape.specs.Hidden.{is_hidden}
use Rattle.text_escape.proofs.Escaping.{shown-before, shown_at}
use Rattle.text_escape.proofs.bytes_shown.Goals as goal

pub returns-then-k-gt0 : goal.returns-then-k-gt0
returns-then-k-gt0 c = sym (shown-before _ _ _ c.if-k-gt0.true)

pub returns-then-is_hidden : goal.returns-then-is_hidden
returns-then-is_hidden c =
    let a = c.args in
    let hides : is_hidden c.find_character-c.result.number ≡ true = sym c.is_hidden.ensures ∙ c.if-is_hidden.true in
    sym (shown_at a.s.now a.at a.k c.find_character-c.result c.requires c.if-k-gt0.false c.find_character-c.ensures ∙ rw hides)

pub returns : goal.returns
returns c =
    let a = c.args in
    let shows : is_hidden c.find_character-c.result.number ≡ false = sym c.is_hidden.ensures ∙ c.if-is_hidden.false in
    sym (shown_at a.s.now a.at a.k c.find_character-c.result c.requires c.if-k-gt0.false c.find_character-c.ensures ∙ rw shows)
