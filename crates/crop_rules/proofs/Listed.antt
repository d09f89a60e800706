-- Accepted pages one after the other: the state after some of them, and the stamps that their listings have. Assumes nothing.
use Prim.Native.Nat.{ℕ, zero, suc, ◌+◌, ◌-◌}
use mathlib.Core.Path.{◌≡◌, refl, sym, ap, ap₂, ◌∙◌}
use mathlib.Core.List.{List, [], ◌∷◌, ◌++◌, map}
use mathlib.Core.Option.{none}
use native.Mathlib.Omega.{arith}
use lib.ListN.{take, drop}
use Rattle.octets.specs.Octets.{Bytes}
use Rattle.stream.specs.Page.{last}
use Rattle.stream.specs.State.{nothing, State}
use Rattle.stream.specs.Rules.{Stamp, after, stamped, stamps_on}
use Rattle.stream.specs.Feed.{start, entries_on, stamp_of}
use Rattle.stream.specs.Stream.{Listing, listings, phase_of}
use Rattle.stream.specs.Feedings.{Feeding, finally, carry_left, Shown, stream, bytes_of, stamps_of}
use Rattle.stream.proofs.Step.{entries-stamps}
use Rattle.stream.proofs.Joining.{after_all}
use Rattle.stream.proofs.Runs.{Lists, skip_in, Ran, runs}
use Rattle.recording.specs.Judging.{first_refused, fresh}
use Rattle.recording.proofs.Passing.{first}
use Rattle.recording.proofs.Streams.{bytes-shown, all_listed, after-all, some-feedings, some-feed}
use Rattle.crop_rules.specs.Statements.{stamps_in, stamps_from}
use Rattle.crop_rules.proofs.Renumbered.{R}
use Rattle.crop_rules.proofs.Along.{stamps_all}

-- ---- the state after some pages and then others

take_none : (n : ℕ) → take {A = Bytes} n [] ≡ []
take_none zero = refl
take_none (suc n) = refl

pub take-both : (i j : ℕ) (l : List Bytes) → take i l ++ take j (drop i l) ≡ take (i + j) l
take-both zero j l = let z : j ≡ 0 + j = omega arith in ap (λ (m : ℕ). take m l) z
take-both (suc i) j [] = take_none j ∙ sym (take_none (suc i + j))
take-both (suc i) j (x ∷ l) =
    let z : suc (i + j) ≡ suc i + j = omega arith in
    ap (λ (m : List Bytes). x ∷ m) (take-both i j l) ∙ ap (λ (m : ℕ). take m (x ∷ l)) z

pub after-append : (A B : List Bytes) (s : State) → after_all R s (A ++ B) ≡ after_all R (after_all R s A) B
unfolding after_all
after-append [] B s = refl
after-append (a ∷ A) B s = after-append A B (after R s a)

-- pages from the kth on are accepted after those before it
pub later-accepted : (k : ℕ) (S : List Bytes) (s : State) (j : ℕ) → first_refused R s j S ≡ none
    → first_refused R (after_all R s (take k S)) (j + k) (drop k S) ≡ none
unfolding first_refused after_all
later-accepted zero S s j e = let z : j + 0 ≡ j = omega arith in rw z e
later-accepted (suc k) [] s j e = refl
later-accepted (suc k) (b ∷ bs) s j e =
    let z : j + suc k ≡ suc j + k = omega arith in
    rw z (later-accepted k bs (after R s b) (suc j) (first R s j b bs e).later)

-- their stamps are the last of all stamps
stamps-drop : (k : ℕ) (S : List Bytes) (s : State) → drop k (stamps_all s S) ≡ stamps_all (after_all R s (take k S)) (drop k S)
unfolding stamps_all after_all
stamps-drop zero S s = refl
stamps-drop (suc k) [] s = refl
stamps-drop (suc k) (b ∷ bs) s = stamps-drop k bs (after R s b)

-- ---- the listings of an accepted stream have those stamps

stamps-lists : (X : List Shown) (s : State) (skip : ℕ) → Lists R s skip X → map stamps_of X ≡ stamps_all s (bytes_of X)
unfolding stamps_all stamped stamps_on entries_on
stamps-lists [] s skip f = refl
stamps-lists (x ∷ xs) s skip f =
    ap₂ (λ (a : List Stamp) (l : List (List Stamp)). a ∷ l)
    (ap (λ (l : Listing). map stamp_of l.entries) f.1 ∙ entries-stamps _ _ _ _ _)
    (stamps-lists xs (after R s x.bytes) (skip_in R skip s x.bytes) f.2)

stamps-shown : (X : List Shown) → map stamps_of X ≡ map stamps_in (map (λ (x : Shown). x.listing) X)
stamps-shown [] = refl
stamps-shown (x ∷ xs) = ap (λ (l : List (List Stamp)). stamps_of x ∷ l) (stamps-shown xs)

map-drop : (k : ℕ) (ls : List Listing) → map stamps_in (drop k ls) ≡ drop k (map stamps_in ls)
map-drop zero ls = refl
map-drop (suc k) [] = refl
map-drop (suc k) (l ∷ ls) = map-drop k ls

module _ (S : List Bytes) (ok : first_refused R fresh 0 S ≡ none) where
  abbrev F : List Feeding
  F = some-feedings R S

  ran : Ran R fresh 0 (stream R start F) (finally R start F) (carry_left R start [] F)
  ran = runs R F start [] (some-feed R S).handed

  shown : bytes_of (stream R start F) ≡ S
  shown = bytes-shown R S F ok (some-feed R S)

  pub phase-after : (after_all R fresh S).phase ≡ phase_of S
  phase-after =
      ap (λ (l : List Bytes). (after_all R fresh l).phase) (sym shown) ∙ sym (ap (λ (s : State). s.phase) ran.state)
      ∙ (after-all R S F ok (some-feed R S)).phase

  all-stamps : map stamps_in (listings R S) ≡ stamps_all fresh S
  all-stamps =
      ap (map stamps_in) (sym (all_listed R S F ok (some-feed R S))) ∙ sym (stamps-shown (stream R start F))
      ∙ stamps-lists (stream R start F) fresh 0 ran.lists ∙ ap (stamps_all fresh) shown

  pub stamps_are : (k : ℕ) → stamps_from k S ≡ stamps_all (after_all R fresh (take k S)) (drop k S)
  stamps_are k = map-drop k (listings R S) ∙ ap (drop k) all-stamps ∙ stamps-drop k S fresh
