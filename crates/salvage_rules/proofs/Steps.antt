-- A list tidied in two parts, and a round that drops the first page refused. Assumes nothing.
use Prim.Native.Nat.{ℕ, suc, ◌+◌}
use mathlib.Core.Path.{◌≡◌, refl, sym, ap, ◌∙◌}
use mathlib.Core.Bool.{Bool, true, false, not, ◌&&◌, ◌||◌}
use mathlib.Core.List.{List, [], ◌∷◌, ◌++◌, map}
use mathlib.Core.Option.{none, some}
use native.Mathlib.Omega.{arith}
use lib.ListN.{length}
use Rattle.octets.specs.Pick.{pick}
use Rattle.octets.specs.Octets.{Bytes}
use Rattle.refusal.specs.declared.Refusal.{Refusal}
use Rattle.refusal.specs.Numbers.{number_of}
use Rattle.stream.specs.Page.{Page}
use Rattle.stream.specs.Readings.{Readings}
use Rattle.stream.specs.State.{State}
use Rattle.stream.specs.Rules.{verdict, after}
use Rattle.recording.specs.Judging.{first_refused, fresh}
use Rattle.recording.proofs.Passing.{first}
use Rattle.salvage_rules.specs.Good.{Good}
use Rattle.salvage_rules.specs.Tidy.{follows, goes_on, goes_through, cut_after, Before, no_page, cut_before, leading_cut, trailing_cut, Tidied, tidy_page, tidy_from}
use Rattle.salvage_rules.specs.Rounds.{page_out, pages_out, refused_in, missing, rounds, round_by}
use Rattle.salvage_rules.specs.Steps.{cut_end, past, past_all, tidy_with, bit_of, OneBit, BitShows, state_after, first_out, next_out, RoundDrops}

-- ---- one bit

again : (g : Good) (B : List Good) → cut_after g.page B ≡ goes_on g.page && cut_after g.page B
unfolding cut_after
again g [] = by (goes_on g.page)
  where
    by : (h : Bool) → false ≡ h && false
    by true = refl
    by false = refl
again g (q ∷ B) = by (goes_on g.page) _
  where
    by : (h k : Bool) → h && k ≡ h && (h && k)
    by true k = refl
    by false k = refl

one_end : (g : Good) (A B : List Good) → cut_after g.page (A ++ B) ≡ cut_end (bit_of (g ∷ A) B) g.page A
unfolding cut_end bit_of cut_after
one_end g [] B = again g B
one_end g (q ∷ A) B =
    ap (λ (t : Bool). goes_on g.page && pick (follows g.page q.page) (goes_through q.page && t) true) (one_end q A B)

-- a page more in front
bit-more : (g : Good) (A B : List Good) (x : Before) (n : ℕ) → tidy_with x n (bit_of (g ∷ A) B) A ≡ tidy_with x n (bit_of A B) A
unfolding bit_of tidy_with
bit-more g [] B x n = refl
bit-more g (h ∷ A) B x n = refl

pub one_bit : OneBit
unfolding tidy_from tidy_with past_all leading_cut trailing_cut
one_bit x n [] B = let z : n ≡ n + 0 = omega arith in ap (λ (k : ℕ). tidy_from x k B) z
one_bit x n (g ∷ A) B =
    let z : suc n + length A ≡ n + suc (length A) = omega arith in
    rw (one_end g A B)
    (ap (λ (l : List Tidied). tidy_page (cut_before x g.page || (goes_through g.page && cut_end (bit_of (g ∷ A) B) g.page A)) (not (goes_through g.page) && cut_end (bit_of (g ∷ A) B) g.page A) n g ∷ l)
    (one_bit (past x g) (suc n) A B
    ∙ ap (λ (l : List Tidied). l ++ tidy_from (past_all (past x g) A) (suc n + length A) B) (sym (bit-more g A B (past x g) (suc n)))
    ∙ ap (λ (k : ℕ). tidy_with (past x g) (suc n) (bit_of (g ∷ A) B) A ++ tidy_from (past_all (past x g) A) k B) z))

-- ---- where it shows

same_end : (t u : Bool) (p : Page) (A : List Good) (g : Good) (C : List Good) → goes_through g.page ≡ false
    → cut_end t p (A ++ (g ∷ C)) ≡ cut_end u p (A ++ (g ∷ C))
unfolding cut_end
same_end t u p [] g C e = rw e
same_end t u p (q ∷ A) g C e =
    ap (λ (v : Bool). goes_on p && pick (follows p q.page) (goes_through q.page && v) true) (same_end t u q.page A g C e)

pub bit-shows : BitShows
unfolding tidy_with
bit-shows x n t u [] g C e = refl
bit-shows x n t u (a ∷ A) g C e =
    rw (same_end t u a.page A g C e)
    (ap (λ (l : List Tidied). tidy_page (cut_before x a.page || (goes_through a.page && cut_end u a.page (A ++ (g ∷ C)))) (not (goes_through a.page) && cut_end u a.page (A ++ (g ∷ C))) n a ∷ l) (bit-shows (past x a) (suc n) t u A g C e))

-- ---- a round

after-accepted : (R : Readings) (P : List Bytes) (b : Bytes) (later : List Bytes) (s : State) (k : ℕ) (r : Refusal)
    → first_refused R s k P ≡ none → verdict R (state_after R s P) b ≡ some r
    → first_refused R s k (P ++ (b ∷ later)) ≡ some (record { number = number_of r; page = k + length P })
unfolding first_refused state_after
after-accepted R [] b later s k r e v = let z : k ≡ k + 0 = omega arith in rw v (ap (λ (i : ℕ). some (record { number = number_of r; page = i })) z)
after-accepted R (p ∷ P) b later s k r e v =
    let f = first R s k p P e in
    let z : suc k + length P ≡ k + suc (length P) = omega arith in
    rw f.passes
    (after-accepted R P b later (after R s p) (suc k) r f.later v ∙ ap (λ (i : ℕ). some (record { number = number_of r; page = i })) z)

pub map_out : (A B : List Tidied) → map page_out (A ++ B) ≡ map page_out A ++ map page_out B
map_out [] B = refl
map_out (a ∷ A) B = ap (λ (l : List Bytes). page_out a ∷ l) (map_out A B)

pub as_many : (x : Before) (n : ℕ) (t : Bool) (A : List Good) → length (map page_out (tidy_with x n t A)) ≡ length A
unfolding tidy_with
as_many x n t [] = refl
as_many x n t (g ∷ A) = ap suc (as_many (past x g) (suc n) t A)

left_out : (A : List Good) (g : Good) (B : List Good) → missing (length A) (A ++ (g ∷ B)) ≡ A ++ B
left_out [] g B = refl
left_out (a ∷ A) g B = ap (λ (l : List Good). a ∷ l) (left_out A g B)

-- the pages of all: those of A, the one after them, and the others
pub in_two : (A : List Good) (g : Good) (B : List Good)
    → (later : List Bytes) × (pages_out (A ++ (g ∷ B)) ≡ first_out A (g ∷ B) ++ (next_out A g B ∷ later))
unfolding pages_out tidy_from
in_two A g B = (
  map page_out (tidy_from (past (past_all no_page A) g) (suc (0 + length A)) B),
  ap (map page_out) (one_bit no_page 0 A (g ∷ B)) ∙ map_out (tidy_with no_page 0 (bit_of A (g ∷ B)) A) _,
)

module _ (R : Readings) (A : List Good) (g : Good) (B : List Good) (r : Refusal) (e : first_refused R fresh 0 (first_out A (g ∷ B)) ≡ none)
    (v : verdict R (state_after R fresh (first_out A (g ∷ B))) (next_out A g B) ≡ some r) where
  refused-there : refused_in R (A ++ (g ∷ B)) ≡ some (record { number = number_of r; page = length A })
  unfolding refused_in
  refused-there =
      let z : 0 + length (first_out A (g ∷ B)) ≡ length A = omega (arith, as_many no_page 0 (bit_of A (g ∷ B)) A) in
      ap (first_refused R fresh 0) (in_two A g B).1
      ∙ after-accepted R (first_out A (g ∷ B)) (next_out A g B) (in_two A g B).0 fresh 0 r e v
      ∙ ap (λ (i : ℕ). some (record { number = number_of r; page = i })) z

pub round_drops : RoundDrops
unfolding rounds
round_drops R n A g B r e v =
    ap (round_by (rounds R n) (A ++ (g ∷ B))) (refused-there R A g B r e v) ∙ ap (rounds R n) (left_out A g B)
