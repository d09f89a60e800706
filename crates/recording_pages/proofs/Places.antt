-- Where the pages of a buffer begin, one after the other. Assumes nothing.
use Prim.Native.Nat.{ℕ, zero, suc, ◌+◌, ◌≤◌, ◌<◌}
use mathlib.Core.Path.{◌≡◌, refl, sym, ap, subst, ◌∙◌}
use mathlib.Core.Bool.{Bool, true, false}
use mathlib.Core.List.{List, [], ◌∷◌}
use native.Mathlib.Omega.{arith}
use borrow.Author.Tests.{ltb-true, ltb-false}
use lib.Dec.{ltb}
use lib.ListN.{length, drop, length-append, length-drop, drop_of_length-le}
use lib.Seq.{take_all}
use Rattle.octets.specs.Octets.{Bytes}
use Rattle.feed_pages.specs.Feedings.{together}
use Rattle.recording.specs.Pages.{pages_of}
use Rattle.recording.specs.Statements.{Begins}
use Rattle.recording.proofs.Cutting.{pages-together}
use Rattle.recording.proofs.Passing.{empty_cons}
use Rattle.recording.proofs.Places.{next-drop, no_pages}
use Rattle.recording_pages.specs.Places.{page_at, place_of}
use Rattle.recording_pages.proofs.Pages.{Front, front}

-- the first k + 1 of these pages
place-next : (S : List Bytes) (k : ℕ) (p : Bytes) (later : List Bytes) → drop k S ≡ p ∷ later → place_of S (suc k) ≡ place_of S k + length p
unfolding place_of together
place-next [] zero p later e = empty_cons e
place-next [] (suc k) p later e = empty_cons e
place-next (b ∷ S) zero p later e = let same : b ≡ p = cc in rw same (simp length-append (omega arith))
place-next (b ∷ S) (suc k) p later e = let z = place-next S k p later e in simp length-append (omega (arith, z))

-- pages past the last add nothing
pub place-past : (S : List Bytes) (k i : ℕ) → drop k S ≡ [] → k ≤ i → place_of S i ≡ place_of S k
unfolding place_of together
place-past [] zero zero e h = refl
place-past [] zero (suc i) e h = refl
place-past [] (suc k) zero e h = refl
place-past [] (suc k) (suc i) e h = refl
place-past (b ∷ S) zero i e h = empty_cons (sym e)
place-past (b ∷ S) (suc k) zero e h = absurd (omega arith)
place-past (b ∷ S) (suc k) (suc i) e h = let z = place-past S k i e (omega arith) in simp length-append (omega (arith, z))

-- page k of the buffer b begins at a place, or the buffer ends there after k pages
pub record At (b : Bytes) (k at : ℕ) : Type 0 where
  pub begins : Begins b at k
  pub place : at ≡ place_of (pages_of b) k
  pub few : k ≤ at

pub at_first : (b : Bytes) → At b 0 0
unfolding place_of together
at_first b = record { begins = record { inside = omega arith; pages = refl }; place = refl; few = omega arith }

-- at the end no page is left
pub at_end_lem : (b : Bytes) (k at : ℕ) → At b k at → length b ≤ at → drop k (pages_of b) ≡ []
at_end_lem b k at a h = sym a.begins.pages ∙ ap pages_of (drop_of_length-le b h) ∙ no_pages

-- one page on
pub record Next (b : Bytes) (k at : ℕ) : Type 0 where
  pub page : drop k (pages_of b) ≡ page_at b at ∷ drop (k + 1) (pages_of b)
  pub next : At b (k + 1) (at + length (page_at b at))
  pub moves : 0 < length (page_at b at)
  pub inside : at + length (page_at b at) ≤ length b

pub at_next : (b : Bytes) (k at : ℕ) → At b k at → at < length b → Next b k at
at_next b k at a more =
    let f : Front b at = front b at more in
    let here : drop k (pages_of b) ≡ page_at b at ∷ pages_of (drop (at + length (page_at b at)) b) = sym a.begins.pages ∙ f.pages in
    let one : suc k ≡ k + 1 = omega arith in
    let rest : drop (k + 1) (pages_of b) ≡ pages_of (drop (at + length (page_at b at)) b) = rw one at (next-drop (pages_of b) k _ _ here) in
    let place : place_of (pages_of b) (k + 1) ≡ place_of (pages_of b) k + length (page_at b at) = rw one at (place-next (pages_of b) k _ _ here) in
    record {
      page = here ∙ ap (λ (l : List Bytes). page_at b at ∷ l) (sym rest);
      next = record {
        begins = record { inside = f.inside; pages = sym rest };
        place = omega (arith, a.place, place);
        few = omega (arith, a.few, f.moves);
      };
      moves = f.moves;
      inside = f.inside;
    }

-- ---- any page

not_empty : (S : List Bytes) (k : ℕ) → k < length S → drop k S ≡ [] → ⊥
not_empty S k h e = let z : length (drop k S) ≡ 0 = ap length e in omega (arith, length-drop k S)

pub at_page : (b : Bytes) (k : ℕ) → k ≤ length (pages_of b) → At b k (place_of (pages_of b) k)
at_page b zero h = subst (At b 0) (at_first b).place (at_first b)
at_page b (suc k) h =
    let a : At b k (place_of (pages_of b) k) = at_page b k (omega arith) in
    by (ltb (place_of (pages_of b) k) (length b)) refl a
  where
    by : (t : Bool) → ltb (place_of (pages_of b) k) (length b) ≡ t → At b k (place_of (pages_of b) k) → At b (suc k) (place_of (pages_of b) (suc k))
    by true q a =
        let n : At b (k + 1) (place_of (pages_of b) k + length (page_at b (place_of (pages_of b) k))) = (at_next b k (place_of (pages_of b) k) a (ltb-true _ _ q)).next in
        let one : k + 1 ≡ suc k = omega arith in
        rw one at (subst (At b (k + 1)) n.place n)
    by false q a = absurd (not_empty (pages_of b) k (omega arith) (at_end_lem b k (place_of (pages_of b) k) a (ltb-false _ _ q)))

-- past the last page it is the buffer's end
pub past-pages : (b : Bytes) (k : ℕ) → length (pages_of b) ≤ k → place_of (pages_of b) k ≡ length b
unfolding place_of
past-pages b k h = ap (λ (l : List Bytes). length (together l)) (take_all k (pages_of b) h) ∙ ap length (pages-together b)
