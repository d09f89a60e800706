-- How the pages of a list in two parts come out, and the state after them. Assumes nothing.
use Rattle.std.proofs.Common.{◌≡◌, ℕ, suc, ◌+◌, Bool, true, false, ◌&&◌, List, [], ◌∷◌, ◌++◌, map, length, take, sym, refl, ap, ◌∙◌, ap₂, inl, inr, append_assoc, append-nil, add-one, arith, length-append}
use mathlib.Core.Option.{none, some}
use lib.Seq.{take-append_seam, take-append-add}
use Rattle.octets.specs.Pick.{pick}
use Rattle.octets.specs.Octets.{Bytes}
use Rattle.stream.specs.Readings.{Readings}
use Rattle.stream.specs.State.{State}
use Rattle.stream.specs.Rules.{verdict, after}
use Rattle.recording.specs.Judging.{first_refused, fresh}
use Rattle.recording.proofs.Passing.{first}
use Rattle.salvage_rules.specs.Good.{Good}
use Rattle.salvage_rules.specs.Tidy.{follows, goes_on, goes_through, cut_after, no_page, Tidied, tidy_from, tidy}
use Rattle.salvage_rules.specs.Rounds.{page_out, pages_out}
use Rattle.salvage_rules.specs.Steps.{past, past_all, tidy_with, bit_of, state_after, first_out, next_out}
use Rattle.salvage_rules.proofs.Steps.{one_bit, map_out, as_many, in_two}
use Rattle.salvage_kept.specs.Pass.{Stable, Begins}

-- ---- what comes out of the first part

-- the first pages of all
first-all : (K B : List Good) → first_out K B ≡ take (length K) (pages_out (K ++ B))
unfolding pages_out
first-all K B =
    let out : List Bytes = first_out K B in
    let later : List Bytes = map page_out (tidy_from (past_all no_page K) (0 + length K) B) in
    let all : map page_out (tidy (K ++ B)) ≡ out ++ later =
    ap (map page_out) (one_bit no_page 0 K B) ∙ map_out (tidy_with no_page 0 (bit_of K B) K) _ in
    let n : length out ≡ length K = as_many no_page 0 (bit_of K B) K in
    sym (take-append_seam out later) ∙ ap₂ take n (sym all)

-- with the next page
pub first_more : (K : List Good) (g : Good) (B : List Good) → first_out (K ++ (g ∷ [])) B ≡ first_out K (g ∷ B) ++ (next_out K g B ∷ [])
first_more K g B =
    let out : List Bytes = first_out K (g ∷ B) in
    let two = in_two K g B in
    let n : length (K ++ (g ∷ [])) ≡ length out + 1 = simp length-append (omega (arith, as_many no_page 0 (bit_of K (g ∷ B)) K)) in
    first-all (K ++ (g ∷ [])) B ∙ ap (λ (l : List Good). take (length (K ++ (g ∷ []))) (pages_out l)) (append_assoc K (g ∷ []) B)
    ∙ ap₂ take n two.1 ∙ take-append-add out (next_out K g B ∷ two.0) 1

-- of all pages
pub first-whole : (K : List Good) → first_out K [] ≡ pages_out K
unfolding pages_out tidy_from
first-whole K =
    let kept : List Tidied = tidy_with no_page 0 (bit_of K []) K in
    ap (map page_out) (sym (append-nil kept) ∙ sym (one_bit no_page 0 K []) ∙ ap tidy (append-nil K))

-- ---- the bit

pub bit-last : (K : List Good) (g : Good) (B : List Good) → bit_of (K ++ (g ∷ [])) B ≡ cut_after g.page B
unfolding bit_of
bit-last [] g B = refl
bit-last (a ∷ []) g B = refl
bit-last (a ∷ (b ∷ K)) g B = bit-last (b ∷ K) g B

-- where a packet ends on the next page, what is after that decides nothing
bit-same : (J : List Good) (g : Good) (X Y : List Good) → goes_through g.page ≡ false → bit_of J (g ∷ X) ≡ bit_of J (g ∷ Y)
unfolding bit_of cut_after
bit-same [] g X Y e = refl
bit-same (a ∷ []) g X Y e = rw e
bit-same (a ∷ (b ∷ J)) g X Y e = bit-same (b ∷ J) g X Y e

pub stable-bit : (J C X Y : List Good) → Stable J C → bit_of J (C ++ X) ≡ bit_of J (C ++ Y)
unfolding bit_of
stable-bit J C X Y (inl e) = rw e
stable-bit J C X Y (inr w) = rw w.parts (bit-same J w.first (w.later ++ X) (w.later ++ Y) w.ends)

-- ---- the state

pub state-more : (R : Readings) (s : State) (P : List Bytes) (b : Bytes) → state_after R s (P ++ (b ∷ [])) ≡ after R (state_after R s P) b
unfolding state_after
state-more R s [] b = refl
state-more R s (p ∷ P) b = state-more R (after R s p) P b

pub accepted-more : (R : Readings) (s : State) (k : ℕ) (P : List Bytes) (b : Bytes) → first_refused R s k P ≡ none
    → verdict R (state_after R s P) b ≡ none → first_refused R s k (P ++ (b ∷ [])) ≡ none
unfolding first_refused state_after
accepted-more R s k [] b e v = rw v
accepted-more R s k (p ∷ P) b e v =
    let f = first R s k p P e in
    rw f.passes (accepted-more R (after R s p) (suc k) P b f.later v)
