-- What is proved of the numbers of a header, in addition to the contracts. Assumes nothing.
use Rattle.std.specs.Prelude.{◌≡◌, true}
use Rattle.head_fields.specs.declared.Head.{Head}
use Rattle.head_fields.specs.Widths.{InWidths}
use Rattle.head_numbers.specs.Numbers.{head_numbers, fitting, head_from}

-- the numbers of a header fit, and the header comes back from them
pub record ComesBack (h : Head) : Type 0 where
  pub fit : fitting (head_numbers h) ≡ true
  pub same : head_from (head_numbers h) h.mapping ≡ h

abbrev pub HeadBack : Type 0
HeadBack = (h : Head) → InWidths h → ComesBack h
