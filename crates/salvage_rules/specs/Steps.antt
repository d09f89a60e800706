-- A list tidied in two parts, for code that goes page by page: of the second part, one truth value decides how the first is
-- tidied; of the first, the page before it decides how the second is tidied. Assumes nothing.
use Rattle.std.specs.Prelude.{ℕ, suc, ◌+◌, ◌≡◌, Bool, false, true, not, ◌&&◌, ◌||◌, List, [], ◌∷◌, ◌++◌, map, length, take}
use Rattle.std.proofs.Math.Option.{none, some}
use Rattle.octets.specs.Pick.{pick}
use Rattle.octets.specs.Octets.{Bytes}
use Rattle.refusal.specs.declared.Refusal.{Refusal}
use Rattle.stream.specs.Page.{Page}
use Rattle.stream.specs.Readings.{Readings}
use Rattle.stream.specs.State.{State}
use Rattle.stream.specs.Rules.{verdict, after}
use Rattle.recording.specs.Judging.{first_refused, fresh}
use Rattle.salvage_rules.specs.Good.{Good}
use Rattle.salvage_rules.specs.Tidy.{follows, goes_on, goes_through, cut_after, Before, no_page, page_before, cut_before}
use Rattle.salvage_rules.specs.Tidy.{leading_cut, trailing_cut, Tidied, tidy_page, tidy_from}
use Rattle.salvage_rules.specs.Rounds.{page_out, rounds}

-- `cut_after`, where t tells whether the packet that goes on after the last page is cut
unfoldable pub cut_end : Bool → Page → List Good → Bool
cut_end t p [] = goes_on p && t
cut_end t p (q ∷ qs) = goes_on p && pick (follows p q.page) (goes_through q.page && cut_end t q.page qs) true

-- what is before the page after g
abbrev pub past : Before → Good → Before
past x g = page_before g.page (cut_before x g.page && goes_through g.page)

unfoldable pub past_all : Before → List Good → Before
past_all x [] = x
past_all x (g ∷ gs) = past_all (past x g) gs

-- the first part
unfoldable pub tidy_with : Before → ℕ → Bool → List Good → List Tidied
tidy_with x n t [] = []
tidy_with x n t (g ∷ gs) =
    tidy_page
    (cut_before x g.page || (goes_through g.page && cut_end t g.page gs))
    (not (goes_through g.page) && cut_end t g.page gs)
    n g
    ∷ tidy_with (past x g) (suc n) t gs

-- the packet that goes on after the last page of A is cut by a later break, the pages of B being after it
unfoldable pub bit_of : List Good → List Good → Bool
bit_of [] B = false
bit_of (g ∷ []) B = cut_after g.page B
bit_of (g ∷ (h ∷ A)) B = bit_of (h ∷ A) B

-- it alone decides how the first part is tidied
abbrev pub OneBit : Type 0
OneBit =
    (x : Before) (n : ℕ) (A B : List Good)
    → tidy_from x n (A ++ B) ≡ tidy_with x n (bit_of A B) A ++ tidy_from (past_all x A) (n + length A) B

-- it changes no page before g, where the packet that goes on after g begins on g
abbrev pub BitShows : Type 0
BitShows =
    (x : Before) (n : ℕ) (t u : Bool) (A : List Good) (g : Good) (C : List Good) → goes_through g.page ≡ false
    → take (length A) (tidy_with x n t (A ++ (g ∷ C))) ≡ take (length A) (tidy_with x n u (A ++ (g ∷ C)))

-- ---- one page after the other

-- the state after these pages
unfoldable pub state_after : Readings → State → List Bytes → State
state_after R s [] = s
state_after R s (b ∷ bs) = state_after R (after R s b) bs

-- the pages of A as they come out, those of B being after them
abbrev pub first_out : List Good → List Good → List Bytes
first_out A B = map page_out (tidy_with no_page 0 (bit_of A B) A)

-- the page after A, as it comes out
abbrev pub next_out : List Good → Good → List Good → Bytes
next_out A g B = page_out (tidy_page (leading_cut (past_all no_page A) g.page B) (trailing_cut g.page B) (0 + length A) g)

-- where the pages of A are accepted and the next one is refused, a round drops that one
abbrev pub RoundDrops : Type 0
RoundDrops =
    (R : Readings) (n : ℕ) (A : List Good) (g : Good) (B : List Good) (r : Refusal)
    → first_refused R fresh 0 (first_out A (g ∷ B)) ≡ none
    → verdict R (state_after R fresh (first_out A (g ∷ B))) (next_out A g B) ≡ some r
    → rounds R (suc n) (A ++ (g ∷ B)) ≡ rounds R n (A ++ B)
