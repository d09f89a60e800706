-- A second walk over an accepted stream, page by page: each feeding tells the listing of its page. Assumes nothing.
use Prim.Native.Nat.{ℕ, zero, suc}
use mathlib.Core.Path.{◌≡◌, refl, sym, ap, ap₂, subst, ◌∙◌}
use mathlib.Core.Bool.{false}
use mathlib.Core.List.{List, [], ◌∷◌}
use mathlib.Core.Option.{Option, none}
use lib.ListN.{take, drop}
use Rattle.octets.specs.Octets.{Bytes}
use Rattle.refusal.specs.declared.Refusal.{Refusal}
use Rattle.granule.specs.declared.Position.{Position}
use Rattle.stream.specs.declared.Phase.{Phase}
use Rattle.stream.specs.Page.{page_of}
use Rattle.stream.specs.Readings.{Readings}
use Rattle.stream.specs.State.{Carried, State}
use Rattle.stream.specs.Rules.{verdict, after}
use Rattle.stream.specs.Feed.{Reader, view, start, Fed, fed_by, feed, core_of, tally_on}
use Rattle.stream.specs.Lent.{Lent, is_short}
use Rattle.stream.specs.Stream.{Listing, listings}
use Rattle.stream.specs.Feedings.{Feeding, reader_by, finally, carry_left, Shown, stream, bytes_of}
use Rattle.stream.proofs.Step.{expected, saw, feeds, state_by, stepped}
use Rattle.stream.proofs.Joining.{after_all}
use Rattle.stream.proofs.Runs.{listing_on, skip_in, Lists, skip_all, Ran, runs}
use Rattle.recording.specs.Judging.{first_refused, fresh}
use Rattle.recording.specs.Feedings.{shown_as}
use Rattle.recording.specs.Statements.{After, Walked, WalkBegins, WalkGoesOn}
use Rattle.recording.proofs.Passing.{empty_cons, next_passes, accepted_prefix}
use Rattle.recording.proofs.Streams.{bytes-shown, shows-all, after-all, some-feedings, some-feed}

-- ---- the state after some pages, and what they determine

abbrev state_with : Phase → Carried → Position → ℕ → ℕ → ℕ → ℕ → State
state_with phase carried position serial next streams preskip = record {
  phase = phase;
  carried = carried;
  position = position;
  serial = serial;
  next = next;
  streams = streams;
  preskip = preskip;
}

same-state : {a b : Phase} {c d : Carried} {e f : Position} {g h i j k l m n : ℕ} → a ≡ b → c ≡ d → e ≡ f → g ≡ h → i ≡ j → k ≡ l → m ≡ n
    → state_with a c e g i k m ≡ state_with b d f h j l n
same-state p q r s t u v = rw (p, q, r, s, t, u, v)

module _ (R : Readings) (S : List Bytes) (none-refused : first_refused R fresh 0 S ≡ none) where
  abbrev F : List Feeding
  F = some-feedings R S

  abbrev X : List Shown
  X = stream R start F

  abbrev end : Reader
  end = finally R start F

  abbrev there : Bytes
  there = carry_left R start [] F

  ran : Ran R fresh 0 X end there
  ran = runs R F start [] (some-feed R S).handed

  shown : bytes_of X ≡ S
  shown = bytes-shown R S F none-refused (some-feed R S)

  ends : After R S end there
  ends = after-all R S F none-refused (some-feed R S)

  state : view end.core there ≡ after_all R fresh S
  state = ran.state ∙ ap (after_all R fresh) shown

  skips : end.tally.skip ≡ skip_all R fresh 0 S
  skips = ran.skips ∙ ap (skip_all R fresh 0) shown

  module _ (r : Reader) (left : Bytes) where
    after-state : After R S r left → view r.core left ≡ after_all R fresh S
    after-state a =
        let e = ends in
        same-state (a.phase ∙ sym e.phase) (a.unfinished ∙ sym e.unfinished) (a.position ∙ sym e.position) (a.serial ∙ sym e.serial)
        (a.sequence ∙ sym e.sequence) (a.streams ∙ sym e.streams) (a.preskip ∙ sym e.preskip)
        ∙ state

    after-skip : After R S r left → r.tally.skip ≡ skip_all R fresh 0 S
    after-skip a = a.skip ∙ sym ends.skip ∙ skips

    by_state : view r.core left ≡ after_all R fresh S → r.tally.skip ≡ skip_all R fresh 0 S → After R S r left
    by_state s k =
        let e : view r.core left ≡ view end.core there = s ∙ sym state in
        let a = ends in
        record {
          phase = ap (λ (x : State). x.phase) e ∙ a.phase;
          unfinished = ap (λ (x : State). x.carried) e ∙ a.unfinished;
          position = ap (λ (x : State). x.position) e ∙ a.position;
          serial = ap (λ (x : State). x.serial) e ∙ a.serial;
          sequence = ap (λ (x : State). x.next) e ∙ a.sequence;
          streams = ap (λ (x : State). x.streams) e ∙ a.streams;
          preskip = ap (λ (x : State). x.preskip) e ∙ a.preskip;
          skip = k ∙ sym skips ∙ a.skip;
        }

-- ---- one page more

one_more : (R : Readings) (S : List Bytes) (s : State) (k : ℕ) (b : Bytes) (later : List Bytes) → drop k S ≡ b ∷ later
    → after_all R s (take (suc k) S) ≡ after R (after_all R s (take k S)) b
unfolding after_all
one_more R [] s zero b later e = empty_cons e
one_more R [] s (suc k) b later e = empty_cons e
one_more R (a ∷ S) s zero b later e = let same : a ≡ b = cc in ap (after R s) same
one_more R (a ∷ S) s (suc k) b later e = one_more R S (after R s a) k b later e

one-skip : (R : Readings) (S : List Bytes) (s : State) (skip k : ℕ) (b : Bytes) (later : List Bytes) → drop k S ≡ b ∷ later
    → skip_all R s skip (take (suc k) S) ≡ skip_in R (skip_all R s skip (take k S)) (after_all R s (take k S)) b
unfolding after_all skip_all
one-skip R [] s skip zero b later e = empty_cons e
one-skip R [] s skip (suc k) b later e = empty_cons e
one-skip R (a ∷ S) s skip zero b later e = let same : a ≡ b = cc in ap (skip_in R skip s) same
one-skip R (a ∷ S) s skip (suc k) b later e = one-skip R S (after R s a) (skip_in R skip s a) k b later e

lists_at : (R : Readings) (X : List Shown) (s : State) (skip k : ℕ) (x : Shown) (later : List Shown) → Lists R s skip X → drop k X ≡ x ∷ later
    → x.listing ≡ listing_on R (skip_all R s skip (take k (bytes_of X))) (after_all R s (take k (bytes_of X))) x.bytes
unfolding after_all skip_all
lists_at R [] s skip zero x later l e = empty_cons e
lists_at R [] s skip (suc k) x later l e = empty_cons e
lists_at R (y ∷ X) s skip zero x later l e = let same : y ≡ x = cc in subst (λ (z : Shown). z.listing ≡ listing_on R skip s z.bytes) same l.1
lists_at R (y ∷ X) s skip (suc k) x later l e = lists_at R X (after R s y.bytes) (skip_in R skip s y.bytes) k x later l.2 e

shown-drop : (k : ℕ) (S : List Bytes) (ls : List Listing) → drop k (shown_as S ls) ≡ shown_as (drop k S) (drop k ls)
unfolding shown_as
shown-drop zero S ls = refl
shown-drop (suc k) [] ls = refl
shown-drop (suc k) (b ∷ S) [] = by (drop k S)
  where
    by : (T : List Bytes) → [] ≡ shown_as T []
    by [] = refl
    by (c ∷ T) = refl
shown-drop (suc k) (b ∷ S) (l ∷ ls) = shown-drop k S ls

-- ---- the walk

pub walk_begins : WalkBegins
unfolding after_all skip_all first_refused
walk_begins R carry = by_state R [] refl start carry refl refl

module _ (R : Readings) (S : List Bytes) (k : ℕ) (b : Bytes) (later : List Bytes) (r : Reader) (m : Lent) (ok : first_refused R fresh 0 S ≡ none)
    (here : drop k S ≡ b ∷ later) (a : After R (take k S) r m.carry) (room : is_short m ≡ false) where
  abbrev s : State
  s = view r.core m.carry

  abbrev fed : Option Refusal → Fed
  fed v = fed_by v R r m (expected r m.carry b) (page_of b) (saw r m.carry b)

  now : s ≡ after_all R fresh (take k S)
  now = after-state R (take k S) (accepted_prefix R S k ok) r m.carry a

  skip-now : r.tally.skip ≡ skip_all R fresh 0 (take k S)
  skip-now = after-skip R (take k S) (accepted_prefix R S k ok) r m.carry a

  passes : verdict R s b ≡ none
  passes = ap (λ (x : State). verdict R x b) now ∙ next_passes R S fresh 0 k b later ok here

  is-fed : feed R r m b ≡ fed none
  is-fed = feeds R r m b room ∙ ap fed passes

  next-state : view (reader_by (fed none).told r).core (fed none).lent.carry ≡ after_all R fresh (take (suc k) S)
  next-state =
      ap (λ (g : Fed). view (reader_by g.told r).core g.lent.carry) (sym is-fed)
      ∙ (stepped R r m b room).view
      ∙ ap (λ (v : Option Refusal). state_by v s (after R s b)) passes
      ∙ ap (λ (x : State). after R x b) now
      ∙ sym (one_more R S fresh k b later here)

  listed : (l : Listing) (ls : List Listing) → drop k (listings R S) ≡ l ∷ ls → l ≡ listing_on R r.tally.skip s b
  unfolding shown_as
  listed l ls e =
      let x : Shown = record { bytes = b; listing = l } in
      let at : drop k (X R S ok) ≡ x ∷ shown_as later ls =
      ap (drop k) (shows-all R S (some-feedings R S) ok (some-feed R S)) ∙ shown-drop k S (listings R S) ∙ ap₂ shown_as here e in
      lists_at R (X R S ok) fresh 0 k x (shown_as later ls) (ran R S ok).lists at
      ∙ ap (λ (B : List Bytes). listing_on R (skip_all R fresh 0 (take k B)) (after_all R fresh (take k B)) b) (shown R S ok)
      ∙ ap₂ (λ (i : ℕ) (u : State). listing_on R i u b) (sym skip-now) (sym now)

  walked : Walked R S k (fed none)
  unfolding after tally_on
  walked = record {
    next = record {
      reader = record { core = core_of (after R s b); tally = tally_on R r.tally (expected r m.carry b) (page_of b) (saw r m.carry b) };
      counts = (listing_on R r.tally.skip s b).counts;
    };
    told = refl;
    after = by_state R (take (suc k) S) (accepted_prefix R S (suc k) ok) (reader_by (fed none).told r) (fed none).lent.carry next-state
        (ap₂ (λ (i : ℕ) (u : State). skip_in R i u b) skip-now now ∙ sym (one-skip R S fresh 0 k b later here));
    listing = listed;
  }

pub walk_goes_on : WalkGoesOn
walk_goes_on R S k b later r m ok here a room =
    subst (Walked R S k) (sym (is-fed R S k b later r m ok here a room)) (walked R S k b later r m ok here a room)
