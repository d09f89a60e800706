-- `text_decimal::put_four` meets its contract. Assumes nothing.
use mathlib.Core.Path.{◌∙◌, ap}
use Rattle.octets.specs.Octets.{copied}
use Rattle.text_decimal.proofs.put_four.Goals as goal

pub returns : goal.returns
returns c =
    let a = c.args in
    c.put_word.ensures ∙ ap (copied a.out.now a.at) c.four_digits.ensures
