-- Pages that are all accepted: each is a page, the first of them are accepted too, and those after them from the state that
-- they leave. Assumes nothing.
use Prim.Native.Nat.{ℕ, zero, suc, ◌+◌}
use mathlib.Core.Path.{◌≡◌, refl, ap, ◌∙◌}
use mathlib.Core.List.{List, [], ◌∷◌, ◌++◌}
use mathlib.Core.Option.{Option, none, some}
use native.Mathlib.Omega.{arith}
use borrow.Author.Tests.{not-false}
use lib.ListN.{length, take, drop}
use Rattle.octets.specs.Octets.{Bytes}
use Rattle.refusal.specs.declared.Refusal.{Refusal}
use Rattle.stream.specs.Page.{page_of}
use Rattle.stream.specs.Readings.{Readings, readings}
use Rattle.stream.specs.State.{State, expecting}
use Rattle.stream.specs.Packets.{seen}
use Rattle.stream.specs.Rules.{verdict, after}
use Rattle.stream.proofs.Passed.{shaped}
use Rattle.stream.proofs.Joining.{after_all}
use Rattle.recording.specs.Judging.{unless, first_refused, fresh}
use Rattle.recording.specs.Statements.{AllPages, Good, AllGood, AcceptedPages, AcceptedPrefix}

pub some-none : {A X : Type 0} {x : X} → some x ≡ none → A
some-none e = let z : ◌≡◌ {A = ℕ} 0 1 = cc in absurd (omega arith)

pub empty_cons : {A X : Type 0} {x : X} {l : List X} → ◌≡◌ {A = List X} [] (x ∷ l) → A
empty_cons e = let z : ◌≡◌ {A = ℕ} 0 1 = cc in absurd (omega arith)

-- the first page passes, and so do those after it
pub record First (R : Readings) (s : State) (k : ℕ) (b : Bytes) (bs : List Bytes) : Type 0 where
  pub passes : verdict R s b ≡ none
  pub later : first_refused R (after R s b) (suc k) bs ≡ none

pub first : (R : Readings) (s : State) (k : ℕ) (b : Bytes) (bs : List Bytes) → first_refused R s k (b ∷ bs) ≡ none → First R s k b bs
unfolding first_refused
first R s k b bs e = by (verdict R s b) refl e
  where
    by : (v : Option Refusal) → verdict R s b ≡ v → unless v k (first_refused R (after R s b) (suc k) bs) ≡ none → First R s k b bs
    by none p q = record { passes = p; later = q }
    by (some n) p q = some-none q

pub one-good : (R : Readings) (s : State) (b : Bytes) → verdict R s b ≡ none → Good R b
unfolding verdict
one-good R s b e =
    let p = shaped R (expecting s (page_of b)) b (seen (expecting s (page_of b)) (page_of b)) e in
    record { page = not-false (R.is_page b) p.page; checksummed = not-false (R.is_checksummed b) p.checksum }

pub all-good : (R : Readings) (S : List Bytes) (s : State) (k : ℕ) → first_refused R s k S ≡ none → AllGood R S
unfolding AllGood
all-good R [] s k e = tt
all-good R (b ∷ bs) s k e =
    let f = first R s k b bs e in
    (one-good R s b f.passes, all-good R bs (after R s b) (suc k) f.later)

good-pages : (crc : Bytes → ℕ) (S : List Bytes) → AllGood (readings crc) S → AllPages S
unfolding AllGood AllPages readings
good-pages crc [] g = tt
good-pages crc (b ∷ bs) g = (g.0.page, good-pages crc bs g.1)

pub accepted-pages : AcceptedPages
accepted-pages crc S e = good-pages crc S (all-good (readings crc) S fresh 0 e)

prefix : (R : Readings) (S : List Bytes) (s : State) (k j : ℕ) → first_refused R s k S ≡ none → first_refused R s k (take j S) ≡ none
unfolding first_refused
prefix R S s k zero e = refl
prefix R [] s k (suc j) e = refl
prefix R (b ∷ bs) s k (suc j) e =
    let f = first R s k b bs e in
    rw f.passes (prefix R bs (after R s b) (suc k) j f.later)

pub accepted_prefix : AcceptedPrefix
accepted_prefix R S k e = prefix R S fresh 0 k e

-- pages after accepted ones
pub accepted-append : (R : Readings) (A B : List Bytes) (s : State) (k : ℕ) → first_refused R s k A ≡ none
    → first_refused R s k (A ++ B) ≡ first_refused R (after_all R s A) (k + length A) B
unfolding first_refused after_all
accepted-append R [] B s k e = let z : k ≡ k + 0 = omega arith in ap (λ (i : ℕ). first_refused R s i B) z
accepted-append R (a ∷ A) B s k e =
    let f = first R s k a A e in
    let z : suc k + length A ≡ k + suc (length A) = omega arith in
    rw f.passes (accepted-append R A B (after R s a) (suc k) f.later ∙ ap (λ (i : ℕ). first_refused R (after_all R (after R s a) A) i B) z)

-- the page after the first j
pub next_passes : (R : Readings) (S : List Bytes) (s : State) (k j : ℕ) (b : Bytes) (later : List Bytes) → first_refused R s k S ≡ none
    → drop j S ≡ b ∷ later → verdict R (after_all R s (take j S)) b ≡ none
unfolding after_all
next_passes R [] s k zero b later e q = empty_cons q
next_passes R [] s k (suc j) b later e q = empty_cons q
next_passes R (a ∷ S) s k zero b later e q = let same : a ≡ b = cc in rw (← same) (first R s k a S e).passes
next_passes R (a ∷ S) s k (suc j) b later e q = next_passes R S (after R s a) (suc k) j b later (first R s k a S e).later q
