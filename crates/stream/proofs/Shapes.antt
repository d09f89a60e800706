-- What the shape of a page says of its pieces. Assumes nothing.
use mathlib.Core.Path.{◌≡◌, refl, ap, subst}
use mathlib.Core.Bool.{Bool, true, false}
use mathlib.Core.List.{List, [], ◌∷◌}
use mathlib.Core.Option.{Option, none, some}
use Prim.Native.Nat.{ℕ, ◌+◌, ◌<◌, ◌≤◌}
use native.Mathlib.Omega.{arith}
use borrow.Author.Tests.{ne_eqb, ltb-false}
use lib.Dec.{ltb, eqb}
use lib.ListN.{length, take, drop}
use lib.Seq.{take_all}
use Rattle.octets.specs.Pick.{pick}
use Rattle.octets.specs.Octets.{Bytes, total}
use Rattle.page_lacing.specs.Lacing.{unfinished_from, cut_from}
use Rattle.stream.specs.declared.Shape.{Shape}
use Rattle.stream.specs.declared.Shape.TheVariants.{Ends, GoesOn, Other}
use Rattle.stream.specs.Page.{Page, whole_from, rest_from, whole, rest}
use Rattle.stream.specs.Shape.{shape_after, shape_from, shape_of}
use Rattle.stream.proofs.Pieces.{onwards}

-- the pieces of a page of this shape
abbrev pub Says : Shape → List Bytes → Option Bytes → Bytes → Type 0
Says Ends ws r piece = (ws ≡ piece ∷ []) × (r ≡ none)
Says GoesOn ws r piece = (ws ≡ []) × (r ≡ some piece)
Says Other ws r piece = Unit {0}

-- n bytes belong to values already read
abbrev Begun : Shape → ℕ → Type 0
Begun Ends n = ⊥
Begun GoesOn n = 0 < n
Begun Other n = n ≡ 0

none_left : (s : Shape) (n : ℕ) (body : Bytes) → Begun s n → Says s (whole_from n [] body) (rest_from n [] body) (take (n + 0) body)
unfolding cut_from unfinished_from
none_left Ends n body b = absurd b
none_left Other n body b = tt
none_left GoesOn n body b =
    let z : eqb n 0 ≡ false = ne_eqb n 0 (λ k. (omega arith)) in
    let k : n ≡ n + 0 = omega arith in
    (refl, rw z (ap (λ (m : ℕ). some (take m body)) k))

says : (s : Shape) (n : ℕ) (l body : Bytes) → Begun s n
    → Says (shape_from s l) (whole_from n l body) (rest_from n l body) (take (n + total l) body)
unfolding shape_from cut_from unfinished_from total
says s n [] body b = none_left s n body b
says s n (v ∷ l) body b = by (ltb v 255) refl (λ (k : 0 < n + v). says GoesOn (n + v) l body k)
  where
    after : (l' : Bytes)
        → Says (shape_after l') (take (n + v) body ∷ whole_from 0 l' (drop (n + v) body)) (rest_from 0 l' (drop (n + v) body))
        (take (n + (v + total l')) body)
    after [] =
        let all : n + v ≡ n + (v + 0) = omega arith in
        (ap (λ (m : ℕ). take m body ∷ []) all, refl)
    after (w ∷ l') = tt

    by : (t : Bool) → ltb v 255 ≡ t
        → (0 < n + v → Says (shape_from GoesOn l) (whole_from (n + v) l body) (rest_from (n + v) l body) (take (n + v + total l) body))
        → Says (pick t (shape_after l) (shape_from GoesOn l)) (onwards t (n + v) l body).whole
        (pick (eqb (pick t (unfinished_from 0 l) (unfinished_from (n + v) l)) 0) none (some (onwards t (n + v) l body).rest))
        (take (n + (v + total l)) body)
    by true k again = after l
    by false k again =
        let some_read : 255 ≤ v = ltb-false v 255 k in
        let same : n + v + total l ≡ n + (v + total l) = omega arith in
        subst (λ (m : ℕ). Says (shape_from GoesOn l) (whole_from (n + v) l body) (rest_from (n + v) l body) (take m body)) same
        (again (omega arith))

-- the piece is what the lacing values take of the body
pub shape-says : (p : Page) → Says (shape_of p.lacing) (whole p) (rest p) (take (total p.lacing) p.body)
unfolding shape_of whole rest
shape-says p =
    let all : 0 + total p.lacing ≡ total p.lacing = omega arith in
    subst (λ (m : ℕ). Says (shape_of p.lacing) (whole p) (rest p) (take m p.body)) all (says Other 0 p.lacing p.body refl)

-- all of it, on a page that was read
pub whole-body : (p : Page) → total p.lacing ≡ length p.body → take (total p.lacing) p.body ≡ p.body
whole-body p e = take_all (total p.lacing) p.body (omega arith)
