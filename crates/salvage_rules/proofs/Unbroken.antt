-- Pages that follow one another, numbered from 0, are tidy. Assumes nothing.
use Prim.Native.Nat.{ℕ, suc, ◌+◌, ◌%◌, ◌^◌}
use mathlib.Core.Path.{◌≡◌, refl, ap}
use mathlib.Core.Bool.{Bool, true, false, not, ◌&&◌}
use mathlib.Core.List.{List, [], ◌∷◌, map}
use native.Mathlib.Omega.{arith}
use borrow.Author.Tests.{eq-eqb}
use Rattle.stream.specs.Page.{Page, continued}
use Rattle.salvage_rules.specs.Good.{Good}
use Rattle.salvage_rules.specs.Tidy.{follows, goes_through, cut_after, Before, no_page, page_before, cut_before, leading_cut, trailing_cut, Tidied, tidy_page, tidy_from}
use Rattle.salvage_rules.specs.Statements.{Numbered, as_it_is, UnbrokenStays}

-- ---- tests

and-false : (a : Bool) → a && false ≡ false
and-false true = refl
and-false false = refl

-- ---- no break, no cut

next-number : (p q : Page) (n : ℕ) → p.header.sequence ≡ n % 2 ^ 32 → q.header.sequence ≡ suc n % 2 ^ 32 → follows p q ≡ true
unfolding follows
next-number p q n e f = eq-eqb q.header.sequence ((p.header.sequence + 1) % 2 ^ 32) (omega arith)

none_after : (p : Page) (n : ℕ) (gs : List Good) → p.header.sequence ≡ n % 2 ^ 32 → Numbered (suc n) gs → cut_after p gs ≡ false
unfolding cut_after Numbered
none_after p n [] e N = refl
none_after p n (q ∷ qs) e N =
    let later : cut_after q.page qs ≡ false = none_after q.page (suc n) qs N.0 N.1 in
    simp (next-number p q.page n e N.0, later, and-false)

-- nothing is cut before a page numbered n
abbrev Uncut : Before → ℕ → Type 0
Uncut x n = (p : Page) → p.header.sequence ≡ n % 2 ^ 32 → cut_before x p ≡ false

goes_on : (n : ℕ) (g : Good) → g.page.header.sequence ≡ n % 2 ^ 32 → Uncut (page_before g.page false) (suc n)
goes_on n g e q f = rw (next-number g.page q n e f) (and-false (continued q))

same-page : (n : ℕ) (g : Good) → g.page.header.sequence ≡ n % 2 ^ 32 → tidy_page false false n g ≡ as_it_is g
unfolding tidy_page
same-page n g e = rw (← e)

stays : (x : Before) (n : ℕ) (gs : List Good) → Uncut x n → Numbered n gs → tidy_from x n gs ≡ map as_it_is gs
unfolding tidy_from leading_cut trailing_cut Numbered
stays x n [] uncut N = refl
stays x n (g ∷ gs) uncut N =
    let e = N.0 in
    rw (
      uncut g.page e,
      none_after g.page n gs e N.1,
      and-false (goes_through g.page),
      and-false (not (goes_through g.page)),
      same-page n g e,
    )
    (ap (λ (l : List Tidied). as_it_is g ∷ l) (stays (page_before g.page false) (suc n) gs (goes_on n g e) N.1))

pub unbroken_stays : UnbrokenStays
unbroken_stays gs N = stays no_page 0 gs (λ (p : Page) e. refl) N
