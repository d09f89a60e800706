-- 9 to 11 of a header page, by its shape. Assumes nothing.
use mathlib.Core.Path.{◌≡◌, refl, sym, ◌∙◌}
use mathlib.Core.Bool.{true, false, false≢true, true≢false}
use mathlib.Core.List.{List, [], ◌∷◌}
use mathlib.Core.Option.{Option, none, some}
use lib.ListN.{length}
use Rattle.octets.specs.Pick.{pick}
use Rattle.octets.specs.Octets.{Bytes, total}
use Rattle.refusal.specs.declared.Refusal.TheVariants.{PacketTooLong, HeaderShape, WrongGranule}
use Rattle.refusal.specs.Checks.{first_of}
use Rattle.granule.specs.Judging.{granule_wrong}
use Rattle.stream.specs.declared.Phase.{Phase}
use Rattle.stream.specs.declared.Phase.TheVariants.{First, Comment, Audio, Opened, Ended}
use Rattle.stream.specs.declared.Shape.{Shape}
use Rattle.stream.specs.declared.Shape.TheVariants.{Ends, GoesOn, Other}
use Rattle.stream.specs.Page.{Page, granule_of, completes, whole, rest}
use Rattle.stream.specs.State.{State, in_headers}
use Rattle.stream.specs.Shape.{shape_of, is_ends, is_other, wrong_shape}
use Rattle.stream.specs.Packets.{seen, is_long}
use Rattle.stream.specs.Rules.{granule_most, lacing_checks}
use Rattle.stream.proofs.Pieces.{non_empty, whole-ends, seen-completes}
use Rattle.stream.proofs.Shapes.{Says, shape-says, whole-body}

-- ---- the shape that 10 lets pass

pub is-piece : (ph : Phase) (s : Shape) → in_headers ph ≡ true → wrong_shape ph s ≡ false → is_other s ≡ false
is-piece First Ends i e = refl
is-piece First GoesOn i e = absurd (true≢false e)
is-piece First Other i e = absurd (true≢false e)
is-piece Comment Ends i e = refl
is-piece Comment GoesOn i e = refl
is-piece Comment Other i e = absurd (true≢false e)
is-piece Audio s i e = absurd (false≢true i)
is-piece Opened s i e = absurd (false≢true i)
is-piece Ended s i e = absurd (false≢true i)

pub is_last : (s : Shape) → wrong_shape First s ≡ false → s ≡ Ends
is_last Ends e = refl
is_last GoesOn e = absurd (true≢false e)
is_last Other e = absurd (true≢false e)

pub ends_is : (s : Shape) → is_ends s ≡ true → s ≡ Ends
ends_is Ends e = refl
ends_is GoesOn e = absurd (false≢true e)
ends_is Other e = absurd (false≢true e)

pub goes_on-is : (s : Shape) → is_other s ≡ false → is_ends s ≡ false → s ≡ GoesOn
goes_on-is Ends o e = absurd (true≢false e)
goes_on-is GoesOn o e = refl
goes_on-is Other o e = absurd (true≢false o)

some_end : (s : Shape) (ws : List Bytes) (r : Option Bytes) (piece : Bytes) → Says s ws r piece → is_other s ≡ false → non_empty ws ≡ is_ends s
some_end Ends ws r piece says o = rw says.0
some_end GoesOn ws r piece says o = rw says.0
some_end Other ws r piece says o = absurd (true≢false o)

no_granule-above : (ph : Phase) → in_headers ph ≡ true → granule_most ph ≡ 0
no_granule-above ph e = rw e

-- ---- the page's one piece

module _ (p : Page) (sums : total p.lacing ≡ length p.body) where
  pub says_last : shape_of p.lacing ≡ Ends → (whole p ≡ p.body ∷ []) × (rest p ≡ none)
  says_last e = rw (e, whole-body p sums) at (shape-says p)

  pub says-earlier : shape_of p.lacing ≡ GoesOn → (whole p ≡ []) × (rest p ≡ some p.body)
  says-earlier e = rw (e, whole-body p sums) at (shape-says p)

-- ---- the page p, and the state t that expects it

module _ (t : State) (p : Page) where
  pub done_by_pieces : (seen t p).completes ≡ non_empty (whole p)
  unfolding completes whole
  done_by_pieces = seen-completes t p ∙ sym (whole-ends 0 p.lacing p.body)

  pub done_by_shape : is_other (shape_of p.lacing) ≡ false → (seen t p).completes ≡ is_ends (shape_of p.lacing)
  done_by_shape o = done_by_pieces ∙ some_end (shape_of p.lacing) (whole p) (rest p) _ (shape-says p) o

  pub long-page : is_long t.carried p.lacing ≡ true → first_of (lacing_checks t p (seen t p)) ≡ some PacketTooLong
  unfolding first_of
  long-page e = rw e

  module _ (short : is_long t.carried p.lacing ≡ false) where
    pub wrong-page : wrong_shape t.phase (shape_of p.lacing) ≡ true → first_of (lacing_checks t p (seen t p)) ≡ some HeaderShape
    unfolding first_of
    wrong-page e = rw (short, e)

    pub piece-page : in_headers t.phase ≡ true → wrong_shape t.phase (shape_of p.lacing) ≡ false
        → first_of (lacing_checks t p (seen t p))
        ≡ pick (granule_wrong 0 (is_ends (shape_of p.lacing)) (granule_of p)) (some WrongGranule) none
    unfolding first_of
    piece-page inside e =
        rw (short, e, done_by_shape (is-piece t.phase (shape_of p.lacing) inside e), no_granule-above t.phase inside)
