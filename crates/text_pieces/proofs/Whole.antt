-- All pieces fit exactly where their text does, and then the buffer holds it. Assumes nothing.
use mathlib.Core.Path.{◌≡◌, refl, sym, ap, ◌∙◌}
use mathlib.Core.Bool.{Bool, true, false, ◌&&◌}
use mathlib.Core.List.{List, [], ◌∷◌, ◌++◌}
use Prim.Native.Nat.{ℕ, ◌+◌, ◌≤◌, ◌<◌}
use native.Mathlib.Omega.{arith}
use borrow.Author.Tests.{le-leb, lt-leb, leb-true, leb-false}
use lib.Dec.{leb}
use lib.ListN.{length, length-append}
use lib.Seq.{paste-zero}
use Rattle.octets.specs.Octets.{Bytes, copied}
use Rattle.octets.proofs.Copying.{copied-fits, length-copied, copied-append}
use Rattle.text_put.specs.Writing.{place_after}
use Rattle.text_pieces.specs.Pieces.{Laying, laid, lay_all, begun, joined}
use Rattle.text_pieces.specs.Statements.{AllFit, WholeText}

length-laid : (l : Laying) (s : Bytes) → length (laid l s).buffer ≡ length l.buffer
unfolding laid
length-laid l s = length-copied l.buffer l.place s

-- the place never passes the end
module _ (l : Laying) (s : Bytes) (inside : l.place ≤ length l.buffer) where
  still_inside : (laid l s).place ≤ length (laid l s).buffer
  unfolding laid place_after
  still_inside = by (leb (l.place + length s) (length l.buffer)) refl
    where
      by : (t : Bool) → leb (l.place + length s) (length l.buffer) ≡ t → (laid l s).place ≤ length (laid l s).buffer
      by true e = rw (e, length-laid l s) (leb-true (l.place + length s) (length l.buffer) e)
      by false e = rw (e, length-laid l s) inside

and-and : (a b : Bool) → (a && true) && b ≡ a && b
and-and true b = refl
and-and false b = refl

and_none : (a b : Bool) → (a && false) && b ≡ a && false
and_none true b = refl
and_none false b = refl

and-true : (a : Bool) → a ≡ a && true
and-true true = refl
and-true false = refl

module _ (l : Laying) (s : Bytes) (ss : List Bytes) (inside : l.place ≤ length l.buffer) where
  next : (t : Bool) → leb (l.place + length s) (length l.buffer) ≡ t
      → (laid l s).all && leb ((laid l s).place + length (joined ss)) (length (laid l s).buffer)
      ≡ l.all && leb (l.place + length (s ++ joined ss)) (length l.buffer)
  unfolding laid place_after
  next true e =
      let sum : l.place + length s + length (joined ss) ≡ l.place + length (s ++ joined ss) = rw length-append (omega arith) in
      rw (e, length-copied, sum) (and-and l.all (leb (l.place + length (s ++ joined ss)) (length l.buffer)))
  next false e =
      let past : length l.buffer < l.place + length s = leb-false (l.place + length s) (length l.buffer) e in
      let more : length (s ++ joined ss) ≡ length s + length (joined ss) = length-append s (joined ss) in
      rw (e, lt-leb (l.place + length (s ++ joined ss)) (length l.buffer) (omega arith)) (and_none l.all _)

all_fit-from : (ss : List Bytes) (l : Laying) → l.place ≤ length l.buffer
    → (lay_all l ss).all ≡ l.all && leb (l.place + length (joined ss)) (length l.buffer)
unfolding lay_all joined
all_fit-from [] l inside = rw (le-leb (l.place + 0) (length l.buffer) (omega arith)) (and-true l.all)
all_fit-from (s ∷ ss) l inside =
    all_fit-from ss (laid l s) (still_inside l s inside)
    ∙ next l s ss inside (leb (l.place + length s) (length l.buffer)) refl

pub all-fit : AllFit
all-fit d ss = all_fit-from ss (begun d) (omega arith) ∙ ap (λ (n : ℕ). leb n (length d)) (omega arith)

-- the text t from the place of l on
record FromPlace (l : Laying) (t : Bytes) (ss : List Bytes) : Type 0 where
  place : (lay_all l ss).place ≡ l.place + length t
  buffer : (lay_all l ss).buffer ≡ copied l.buffer l.place t

-- one piece that fits, and the text of the others after it
module _ (l : Laying) (s : Bytes) (ss : List Bytes) (fits : l.place + length s + length (joined ss) ≤ length l.buffer) where
  here : (laid l s).place ≡ l.place + length s
  unfolding laid place_after
  here = rw (le-leb (l.place + length s) (length l.buffer) (omega arith))

  together : copied (laid l s).buffer (laid l s).place (joined ss) ≡ copied l.buffer l.place (s ++ joined ss)
  unfolding laid
  together = copied-append l.buffer l.place s (joined ss) (laid l s).place here (omega (arith, here))

  both-laid : FromPlace (laid l s) (joined ss) ss → FromPlace l (s ++ joined ss) (s ∷ ss)
  unfolding lay_all
  both-laid w = record {
    place = w.place ∙ rw (here, length-append) (omega arith);
    buffer = w.buffer ∙ together;
  }

whole_from : (ss : List Bytes) (l : Laying) → l.place + length (joined ss) ≤ length l.buffer → FromPlace l (joined ss) ss
unfolding lay_all joined
whole_from [] l room = record {
  place = omega arith;
  buffer = paste-zero l.buffer l.place [] ∙ sym (copied-fits l.buffer l.place [] (omega arith));
}
whole_from (s ∷ ss) l room =
    let sum = length-append s (joined ss) in
    let fits : l.place + length s + length (joined ss) ≤ length l.buffer = omega arith in
    let size = length-laid l s in
    both-laid l s ss fits (whole_from ss (laid l s) (omega (arith, here l s ss fits)))

pub whole-text : WholeText
whole-text d ss e =
    let room = leb-true (length (joined ss)) (length d) (sym (all-fit d ss) ∙ e) in
    let w = whole_from ss (begun d) (omega arith) in
    record { place = w.place ∙ omega arith; buffer = w.buffer }
