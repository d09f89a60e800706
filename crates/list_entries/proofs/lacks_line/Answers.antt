-- `list_entries::lacks_line` meets its contract. Assumes nothing.
use mathlib.Core.Path.{◌≡◌, refl, sym, ◌∙◌}
use mathlib.Core.Bool.{Bool, true, false}
use Prim.Native.Nat.{ℕ, ◌+◌, ◌-◌}
use native.Mathlib.Omega.{arith}
use borrow.Author.Tests.{lt-ltb, le-ltb, ltb-true, ltb-false}
use lib.Dec.{ltb}
use Rattle.list_lines.specs.Lines.{longest}
use Rattle.list_entries.proofs.lacks_line.Goals as goal

-- what is left after `at` decides
left : (len at : ℕ) → ltb len (at + longest) ≡ ltb (len - at) longest
left len at = by (ltb len (at + longest)) refl
  where
    by : (t : Bool) → ltb len (at + longest) ≡ t → t ≡ ltb (len - at) longest
    by true e = sym (lt-ltb (len - at) longest (omega (arith, ltb-true len (at + longest) e)))
    by false e = sym (le-ltb (len - at) longest (omega (arith, ltb-false len (at + longest) e)))

pub returns : goal.returns
returns c = let a = c.args in c.is_short.ensures ∙ left a.len a.at
