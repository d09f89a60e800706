-- Whether a page is one packet's piece and nothing else, by its lacing values (RULES.md, refusal 10). Assumes nothing.
use Rattle.std.specs.Prelude.{Bool, true, false, not, ◌&&◌, ◌||◌, [], ◌∷◌, ltb}
use Rattle.octets.specs.Pick.{pick}
use Rattle.octets.specs.Octets.{Bytes}
use Rattle.stream.specs.declared.Phase.{Phase}
use Rattle.stream.specs.declared.Shape.{Shape}
use Rattle.stream.specs.declared.Shape.TheVariants.{Ends, GoesOn, Other}
use Rattle.stream.specs.State.{is_first, is_comment}

-- a packet has ended, and these values follow
abbrev pub shape_after : Bytes → Shape
shape_after [] = Ends
shape_after (v ∷ l) = Other

-- s where no value is left
unfoldable pub shape_from : Shape → Bytes → Shape
shape_from s [] = s
shape_from s (v ∷ l) = pick (ltb v 255) (shape_after l) (shape_from GoesOn l)

-- no values at all are no piece
unfoldable pub shape_of : Bytes → Shape
shape_of l = shape_from Other l

abbrev pub is_ends : Shape → Bool
is_ends Ends = true
is_ends GoesOn = false
is_ends Other = false

abbrev pub is_other : Shape → Bool
is_other Ends = false
is_other GoesOn = false
is_other Other = true

-- 10: the first page is not one completed packet; a page of the comment packet has anything else, or nothing
abbrev pub wrong_shape : Phase → Shape → Bool
wrong_shape ph s = (is_first ph && not (is_ends s)) || (is_comment ph && is_other s)
