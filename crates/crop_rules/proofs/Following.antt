-- Pages added to a stream and to its crop are told alike. Assumes nothing.
use Prim.Native.Nat.{ℕ, ◌^◌, ◌<◌}
use mathlib.Core.Path.{◌≡◌, refl, sym, ap, subst, ◌∙◌}
use mathlib.Core.Bool.{false, true≢false}
use mathlib.Core.List.{List, [], ◌∷◌}
use mathlib.Core.Option.{none}
use native.Mathlib.Omega.{arith}
use Rattle.octets.specs.Octets.{Bytes}
use Rattle.stream.specs.declared.Phase.{Phase}
use Rattle.stream.specs.declared.Phase.TheVariants.{First, Comment, Audio, Opened, Ended}
use Rattle.stream.specs.State.{is_first, in_headers}
use Rattle.stream.specs.Feed.{Reader, start}
use Rattle.stream.specs.Feedings.{Feeding, finally, carry_left, HandedOn}
use Rattle.stream.specs.Statements.{state_shifted, view_of}
use Rattle.stream.specs.Stream.{phase_of}
use Rattle.stream.specs.Entering.{Pair, tells}
use Rattle.stream.specs.Entering as Entering
use Rattle.stream.proofs.Joining.{after_all}
use Rattle.stream.proofs.Runs.{runs}
use Rattle.stream.proofs.EnteringAll.{stays-alike}
use Rattle.recording.specs.Pages.{pages_of}
use Rattle.recording.specs.Judging.{first_refused, fresh}
use Rattle.recording.specs.Feedings.{Feeds}
use Rattle.recording.specs.Statements.{After}
use Rattle.recording.proofs.Streams.{bytes-shown, after-all}
use Rattle.crop_rules.specs.Crop.{renumbered, shift_of, crop_pages}
use Rattle.crop_rules.specs.Statements.{Added, ones, others, CropFollows}
use Rattle.crop_rules.proofs.Renumbered.{R, shifted-bytes}
use Rattle.crop_rules.proofs.Cropped.{Given, given}

-- what is added, in pairs
pairs : (n : ℕ) → List Added → List (Pair R n)
pairs n [] = []
pairs n (x ∷ xs) = record {
  one = record { bytes = x.bytes; lent = x.one };
  other = record { bytes = renumbered n x.bytes; lent = x.other };
  pages = shifted-bytes n x.bytes x.octets x.good;
  room = x.room;
} ∷ pairs n xs

pairs_ones : (n : ℕ) (xs : List Added) → Entering.ones R n (pairs n xs) ≡ ones xs
unfolding pairs
pairs_ones n [] = refl
pairs_ones n (x ∷ xs) = ap (λ (l : List Feeding). record { bytes = x.bytes; lent = x.one } ∷ l) (pairs_ones n xs)

pairs_others : (n : ℕ) (xs : List Added) → Entering.others R n (pairs n xs) ≡ others n xs
unfolding pairs
pairs_others n [] = refl
pairs_others n (x ∷ xs) = ap (λ (l : List Feeding). record { bytes = renumbered n x.bytes; lent = x.other } ∷ l) (pairs_others n xs)

-- the reader after an accepted stream
module _ (S : List Bytes) (F : List Feeding) (ok : first_refused R fresh 0 S ≡ none) (fed : Feeds R S F) where
  pub view-after : view_of (finally R start F) (carry_left R start [] F) ≡ after_all R fresh S
  view-after = (runs R F start [] fed.handed).state ∙ ap (after_all R fresh) (bytes-shown R S F ok fed)

  ends : After R S (finally R start F) (carry_left R start [] F)
  ends = after-all R S F ok fed

not_first : (ph : Phase) → in_headers ph ≡ false → is_first ph ≡ false
not_first First e = absurd (true≢false e)
not_first Comment e = refl
not_first Audio e = refl
not_first Opened e = refl
not_first Ended e = refl

pub crop-follows : CropFollows
crop-follows b k F G xs c t =
    let S : List Bytes = pages_of b in
    let g : Given b k = given b k c in
    let n : ℕ = shift_of S k in
    let r : Reader = finally R start F in
    let s : Reader = finally R start G in
    let left : Bytes = carry_left R start [] F in
    let other : Bytes = carry_left R start [] G in
    let e : After R S r left = ends S F g.accepted t.stream in
    let same : view_of s other ≡ state_shifted n (view_of r left) =
    view-after (crop_pages S k) G g.crop-accepted t.crop ∙ g.ends ∙ ap (state_shifted n) (sym (view-after S F g.accepted t.stream)) in
    let small : r.core.next < 2 ^ 32 = rw e.sequence (omega arith) in
    let going : is_first r.core.phase ≡ false = ap is_first e.phase ∙ not_first (phase_of S) g.headed in
    ap (tells R s) (sym (pairs_others n xs))
    ∙ (stays-alike R n r s left other (pairs n xs) (subst (HandedOn R r left) (sym (pairs_ones n xs)) t.one)
    (subst (HandedOn R s other) (sym (pairs_others n xs)) t.other) going small same).told
    ∙ ap (tells R r) (pairs_ones n xs)
