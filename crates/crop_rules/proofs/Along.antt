-- Pages fed from a state, and the same pages renumbered from the state shifted alike. Assumes nothing.
use Prim.Native.Nat.{ℕ, suc, ◌^◌, ◌<◌}
use mathlib.Core.Path.{◌≡◌, refl, ap, ap₂, ◌∙◌}
use mathlib.Core.Bool.{false}
use mathlib.Core.List.{List, [], ◌∷◌, map}
use mathlib.Core.Option.{none}
use native.Mathlib.Omega.{arith}
use Rattle.octets.specs.Octets.{Bytes}
use Rattle.stream.specs.Page.{page_of, last}
use Rattle.stream.specs.State.{State, is_first, expecting}
use Rattle.stream.specs.Packets.{seen}
use Rattle.stream.specs.Rules.{Stamp, next_on, verdict, after, stamped}
use Rattle.stream.specs.Statements.{state_shifted}
use Rattle.stream.proofs.Shift.{Shifted, shifted_step}
use Rattle.stream.proofs.Unskipped.{never_first}
use Rattle.stream.proofs.Joining.{after_all}
use Rattle.recording.specs.Judging.{first_refused}
use Rattle.recording.proofs.Passing.{first}
use Rattle.crop_rules.specs.Crop.{renumbered}
use Rattle.crop_rules.proofs.Renumbered.{R, shifted-bytes}
use Rattle.crop_rules.proofs.Sound.{Sound, AllSound}

-- the stamps of accepted pages
unfoldable pub stamps_all : State → List Bytes → List (List Stamp)
stamps_all s [] = []
stamps_all s (b ∷ bs) = stamped R s b ∷ stamps_all (after R s b) bs

-- ---- one page

-- a state past its first page
pub record Past (s : State) : Type 0 where
  pub going : is_first s.phase ≡ false
  pub small : s.next < 2 ^ 32

pub past_after : (s : State) (b : Bytes) → Past (after R s b)
unfolding after next_on
past_after s b =
    let t : State = expecting s (page_of b) in
    record { going = never_first t.phase (seen t (page_of b)).completes (last (page_of b)); small = omega arith }

-- the page renumbered is judged alike, has the same stamps, and leads to the state shifted alike
pub record Moves (n : ℕ) (s : State) (b : Bytes) : Type 0 where
  pub judged : verdict R (state_shifted n s) (renumbered n b) ≡ verdict R s b
  pub stamps : stamped R (state_shifted n s) (renumbered n b) ≡ stamped R s b
  pub follows : after R (state_shifted n s) (renumbered n b) ≡ state_shifted n (after R s b)

pub moves : (n : ℕ) (s : State) (b : Bytes) → Sound b → Past s → Moves n s b
unfolding verdict stamped after
moves n s b g p =
    let k : Shifted R n b (renumbered n b) (expecting s (page_of b)) (expecting (state_shifted n s) (page_of (renumbered n b))) =
    shifted_step R n b (renumbered n b) (shifted-bytes n b g.octets g.good) s p.going p.small in
    record { judged = k.judged; stamps = k.lists; follows = k.follows }

-- ---- one after the other

pub record Along (n : ℕ) (s : State) (i : ℕ) (bs : List Bytes) : Type 0 where
  pub accepted : first_refused R (state_shifted n s) i (map (renumbered n) bs) ≡ none
  pub stamps : stamps_all (state_shifted n s) (map (renumbered n) bs) ≡ stamps_all s bs
  pub end : after_all R (state_shifted n s) (map (renumbered n) bs) ≡ state_shifted n (after_all R s bs)

pub along : (n : ℕ) (s : State) (i j : ℕ) (bs : List Bytes) → AllSound bs → Past s → first_refused R s j bs ≡ none → Along n s i bs
unfolding AllSound first_refused stamps_all after_all
along n s i j [] g p e = record { accepted = refl; stamps = refl; end = refl }
along n s i j (b ∷ bs) g p e =
    let f = first R s j b bs e in
    let m : Moves n s b = moves n s b g.0 p in
    let k : Along n (after R s b) (suc i) bs = along n (after R s b) (suc i) (suc j) bs g.1 (past_after s b) f.later in
    record {
      accepted = rw (m.judged, f.passes, m.follows) k.accepted;
      stamps =
          ap₂ (λ (a : List Stamp) (l : List (List Stamp)). a ∷ l) m.stamps
          (ap (λ (t : State). stamps_all t (map (renumbered n) bs)) m.follows ∙ k.stamps);
      end = ap (λ (t : State). after_all R t (map (renumbered n) bs)) m.follows ∙ k.end;
    }
