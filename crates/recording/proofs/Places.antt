-- The pages of a buffer by their places, for a walk over it. Assumes nothing.
use Prim.Native.Nat.{ℕ, zero, suc, ◌+◌, ◌-◌}
use mathlib.Core.Path.{◌≡◌, refl, sym, ap, subst, ◌∙◌}
use mathlib.Core.Bool.{true≢false}
use mathlib.Core.List.{List, [], ◌∷◌, ◌++◌, append-nil}
use native.Mathlib.Omega.{arith}
use lib.ListN.{length, take, drop, length-drop, take-append-drop}
use lib.Seq.{drop-drop, drop-length}
use Rattle.octets.specs.Octets.{Bytes}
use Rattle.page_size.specs.Size.{is_one_page}
use Rattle.page_end.proofs.Ends.{end-inside, cut_is_no_page}
use Rattle.feed_pages.specs.Feedings.{together}
use Rattle.recording.specs.Pages.{rest_of, pages_of}
use Rattle.recording.specs.Statements.{AllPages, PlaceBegins, PlaceGoesOn, PlaceNotCut, PlaceEnds}
use Rattle.recording.proofs.Cutting.{pages-cut, pages-next, cut-here, ends-here, pages-apart}
use Rattle.recording.proofs.Passing.{accepted-pages}

pub place-begins : PlaceBegins
place-begins b = record { inside = omega arith; pages = refl }

-- without the first one
pub next-drop : (S : List Bytes) (k : ℕ) (p : Bytes) (later : List Bytes) → drop k S ≡ p ∷ later → drop (suc k) S ≡ later
next-drop S k p later e = let one : k + 1 ≡ suc k = omega arith in ap (λ (i : ℕ). drop i S) (sym one) ∙ sym (drop-drop 1 k S) ∙ ap (drop 1) e

pub place-goes_on : PlaceGoesOn
place-goes_on b at k e g q =
    let there = end-inside b at e q in
    let place : at + (e - at) ≡ e = omega (arith, there.after) in
    let rest : drop (e - at) (drop at b) ≡ drop e b = drop-drop (e - at) at b ∙ ap (λ (i : ℕ). drop i b) place in
    let page : drop k (pages_of b) ≡ take (e - at) (drop at b) ∷ pages_of (drop e b) =
    sym g.pages ∙ pages-next (drop at b) (e - at) (ends-here b at g.inside e q) ∙ ap (λ (c : Bytes). take (e - at) (drop at b) ∷ pages_of c) rest in
    record { page = page; next = record { inside = there.within; pages = sym (next-drop (pages_of b) k (take (e - at) (drop at b)) (pages_of (drop e b)) page) } }

all_drop : (S : List Bytes) (k : ℕ) → AllPages S → AllPages (drop k S)
unfolding AllPages
all_drop S zero a = a
all_drop [] (suc k) a = tt
all_drop (b ∷ S) (suc k) a = all_drop S k a.1

pub place_not_cut : PlaceNotCut
unfolding AllPages
place_not_cut crc b at k ok g more q = by (drop at b) refl
  where
    left : AllPages (rest_of (drop at b))
    left =
        subst AllPages (sym g.pages ∙ pages-cut (drop at b) (cut-here b at g.inside q))
        (all_drop (pages_of b) k (accepted-pages crc (pages_of b) ok))

    by : (c : Bytes) → drop at b ≡ c → ⊥
    by [] e = (let l = ap length e in (let n : length (drop at b) ≡ length b - at = length-drop at b in omega arith))
    by (x ∷ c) e =
        let one : AllPages (rest_of (x ∷ c)) = subst (λ (l : Bytes). AllPages (rest_of l)) e left in
        true≢false (sym one.0 ∙ sym (ap is_one_page e) ∙ cut_is_no_page b at q)

pub no_pages : pages_of [] ≡ []
unfolding together AllPages
no_pages = pages-apart [] tt

pub place-ends : PlaceEnds
place-ends b k g =
    let none_left : drop k (pages_of b) ≡ [] = sym g.pages ∙ ap pages_of (drop-length b) ∙ no_pages in
    sym (append-nil (take k (pages_of b))) ∙ ap (λ (l : List Bytes). take k (pages_of b) ++ l) (sym none_left) ∙ take-append-drop k (pages_of b)
