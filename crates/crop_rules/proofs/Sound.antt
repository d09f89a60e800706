-- The pages of a stream of bytes, each of which passes 3 and 4. Assumes nothing.
use Prim.Native.Nat.{ℕ, zero, suc}
use mathlib.Core.Path.{◌≡◌, refl, sym, subst}
use mathlib.Core.List.{List, [], ◌∷◌, ◌++◌, map}
use mathlib.Core.Option.{none}
use native.Mathlib.Omega.{arith}
use lib.ListN.{length, drop, length-append}
use lib.Seq.{take-append_seam, drop-append_seam}
use Rattle.octets.specs.Octets.{Bytes, Octets}
use Rattle.octets.proofs.Parts.{octets-take, octets-drop}
use Rattle.feed_pages.specs.Feedings.{together}
use Rattle.recording.specs.Pages.{pages_of}
use Rattle.recording.specs.Judging.{first_refused, fresh}
use Rattle.recording.specs.Statements.{Good, AllGood}
use Rattle.recording.proofs.Cutting.{pages-together}
use Rattle.recording.proofs.Passing.{all-good}
use Rattle.crop_rules.specs.Crop.{renumbered}
use Rattle.crop_rules.proofs.Renumbered.{R, same_size}

pub record Sound (b : Bytes) : Type 0 where
  pub octets : Octets b
  pub good : Good R b

unfoldable pub AllSound : List Bytes → Type 0
AllSound [] = Unit {0}
AllSound (b ∷ bs) = Sound b × AllSound bs

all_sound : (S : List Bytes) → Octets (together S) → AllGood R S → AllSound S
unfolding together AllGood AllSound
all_sound [] o g = tt
all_sound (b ∷ bs) o g =
    let front : Octets b = subst Octets (take-append_seam b (together bs)) (octets-take (length b) (b ++ together bs) o) in
    let rest : Octets (together bs) = subst Octets (drop-append_seam b (together bs)) (octets-drop (length b) (b ++ together bs) o) in
    (record { octets = front; good = g.0 }, all_sound bs rest g.1)

-- of an accepted stream in a buffer
pub sound-pages : (b : Bytes) → Octets b → first_refused R fresh 0 (pages_of b) ≡ none → AllSound (pages_of b)
sound-pages b o ok = all_sound (pages_of b) (subst Octets (sym (pages-together b)) o) (all-good R (pages_of b) fresh 0 ok)

pub sound-drop : (k : ℕ) (S : List Bytes) → AllSound S → AllSound (drop k S)
unfolding AllSound
sound-drop zero S g = g
sound-drop (suc k) [] g = g
sound-drop (suc k) (b ∷ bs) g = sound-drop k bs g.1

-- the first of them, and those after it
pub sound-both : (b : Bytes) (bs : List Bytes) → AllSound (b ∷ bs) → Sound b × AllSound bs
unfolding AllSound
sound-both b bs g = g

-- renumbered they are as long
pub same_sizes : (n : ℕ) (S : List Bytes) → AllSound S → length (together (map (renumbered n) S)) ≡ length (together S)
unfolding together AllSound
same_sizes n [] g = refl
same_sizes n (p ∷ S) g =
    simp length-append (omega (arith, same_sizes n S g.1, same_size n p g.0.octets g.0.good))
