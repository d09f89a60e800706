-- Feedings with room accept what the state that decides accepts, up to the first page that it refuses. Assumes nothing.
use Prim.Native.Nat.{ℕ, suc, ◌-◌, ◌≤◌, ◌<◌}
use mathlib.Core.Path.{◌≡◌, refl, sym, ap, subst, ◌∙◌}
use mathlib.Core.Bool.{Bool, false}
use mathlib.Core.List.{List, [], ◌∷◌}
use mathlib.Core.Option.{Option, none, some}
use native.Mathlib.Omega.{arith}
use lib.ListN.{length, take, drop}
use Rattle.octets.specs.Pick.{pick}
use Rattle.octets.specs.Octets.{Bytes}
use Rattle.refusal.specs.declared.Refusal.{Refusal}
use Rattle.refusal.specs.Numbers.{number_of}
use Rattle.refusal.specs.Told.{refuses}
use Rattle.stream.specs.Readings.{Readings}
use Rattle.stream.specs.State.{State}
use Rattle.stream.specs.Rules.{verdict, after}
use Rattle.stream.specs.Feed.{Reader, view, Fed}
use Rattle.stream.specs.Lent.{is_short}
use Rattle.stream.specs.Feedings.{Feeding, feed_in, reader_after, finally, left_in, HandedOn, Shown, show_as, stream, bytes_of}
use Rattle.stream.proofs.Step.{state_by}
use Rattle.stream.proofs.Runs.{fed_at, Turn, turn}
use Rattle.recording.specs.Judging.{RefusedPage, unless, first_refused}
use Rattle.recording.specs.Feedings.{Roomy, pages_fed}
use Rattle.recording.proofs.Passing.{some-none}

-- ---- one feeding with room, its carry buffer handed on

module _ (R : Readings) (r : Reader) (old : Bytes) (f : Feeding) (room : is_short f.lent ≡ false) (k : Turn R r old f) where
  abbrev s : State
  s = view r.core old

  abbrev b : Bytes
  b = f.bytes

  module _ (v : Option Refusal) (e : verdict R s b ≡ v) where
    is-fed : feed_in R r f ≡ fed_at v R r f.lent s b
    is-fed = k.feeds ∙ ap (λ (w : Option Refusal). fed_at w R r f.lent s b) e

    next-state : view (reader_after R r f).core (left_in R r f old) ≡ state_by v s (after R s b)
    next-state =
        ap (λ (t : Bool). view (reader_after R r f).core (pick t old (feed_in R r f).lent.carry)) room
        ∙ k.steps.view ∙ ap (λ (w : Option Refusal). state_by w s (after R s b)) e

  -- accepted: it is shown
  shown : verdict R s b ≡ none → (later : List Shown) → bytes_of (show_as (feed_in R r f).told (feed_in R r f).entries b later) ≡ b ∷ bytes_of later
  shown e later = ap (λ (g : Fed). bytes_of (show_as g.told g.entries b later)) (is-fed none e)

  -- refused, by this number
  told_no : (n : Refusal) → verdict R s b ≡ some n → (feed_in R r f).told ≡ refuses (number_of n)
  told_no n e = ap (λ (g : Fed). g.told) (is-fed (some n) e)

-- ---- all accepted

pub all_shown : (R : Readings) (F : List Feeding) (r : Reader) (old : Bytes) (k : ℕ) → HandedOn R r old F → Roomy F
    → first_refused R (view r.core old) k (pages_fed F) ≡ none → bytes_of (stream R r F) ≡ pages_fed F
unfolding HandedOn Roomy first_refused stream
all_shown R [] r old k h room e = refl
all_shown R (f ∷ fs) r old k h room e = by (verdict R (view r.core old) f.bytes) refl e (all_shown R fs (reader_after R r f) (left_in R r f old) (suc k) h.1 room.1)
  where
    one : Turn R r old f
    one = turn R r old f room.0 (h.0 room.0)

    by : (v : Option Refusal) → verdict R (view r.core old) f.bytes ≡ v
        → unless v k (first_refused R (after R (view r.core old) f.bytes) (suc k) (pages_fed fs)) ≡ none
        → (first_refused R (view (reader_after R r f).core (left_in R r f old)) (suc k) (pages_fed fs) ≡ none → bytes_of (stream R (reader_after R r f) fs) ≡ pages_fed fs)
        → bytes_of (stream R r (f ∷ fs)) ≡ pages_fed (f ∷ fs)
    by none v q later =
        shown R r old f room.0 one v (stream R (reader_after R r f) fs)
        ∙ ap (λ (l : List Bytes). f.bytes ∷ l) (later (ap (λ (u : State). first_refused R u (suc k) (pages_fed fs)) (next-state R r old f room.0 one none v) ∙ q))
    by (some n) v q later = some-none q

-- ---- the first refusal

-- j feedings are accepted, and the one after them is refused by n
pub record Stops (R : Readings) (r : Reader) (F : List Feeding) (n j : ℕ) : Type 0 where
  pub there : j < length F
  pub before : bytes_of (stream R r (take j F)) ≡ take j (pages_fed F)
  pub told : (f : Feeding) (later : List Feeding) → drop j F ≡ f ∷ later → (feed_in R (finally R r (take j F)) f).told ≡ refuses n

pub first_stops : (R : Readings) (F : List Feeding) (r : Reader) (old : Bytes) (k : ℕ) (x : RefusedPage) → HandedOn R r old F → Roomy F
    → first_refused R (view r.core old) k (pages_fed F) ≡ some x → (k ≤ x.page) × Stops R r F x.number (x.page - k)
unfolding HandedOn Roomy first_refused stream finally
first_stops R [] r old k x h room e = some-none (sym e)
first_stops R (f ∷ fs) r old k x h room e = by (verdict R (view r.core old) f.bytes) refl e (first_stops R fs (reader_after R r f) (left_in R r f old) (suc k) x h.1 room.1)
  where
    one : Turn R r old f
    one = turn R r old f room.0 (h.0 room.0)

    on : (j : ℕ) → verdict R (view r.core old) f.bytes ≡ none → Stops R (reader_after R r f) fs x.number j → Stops R r (f ∷ fs) x.number (suc j)
    on j v s = record {
      there = omega (arith, s.there);
      before = shown R r old f room.0 one v (stream R (reader_after R r f) (take j fs)) ∙ ap (λ (l : List Bytes). f.bytes ∷ l) s.before;
      told = s.told;
    }

    by : (v : Option Refusal) → verdict R (view r.core old) f.bytes ≡ v
        → unless v k (first_refused R (after R (view r.core old) f.bytes) (suc k) (pages_fed fs)) ≡ some x
        → (first_refused R (view (reader_after R r f).core (left_in R r f old)) (suc k) (pages_fed fs) ≡ some x → (suc k ≤ x.page) × Stops R (reader_after R r f) fs x.number (x.page - suc k))
        → (k ≤ x.page) × Stops R r (f ∷ fs) x.number (x.page - k)
    by none v q later =
        let l = later (ap (λ (u : State). first_refused R u (suc k) (pages_fed fs)) (next-state R r old f room.0 one none v) ∙ q) in
        let low : suc k ≤ x.page = l.0 in
        let j : suc (x.page - suc k) ≡ x.page - k = omega arith in
        (omega arith, subst (Stops R r (f ∷ fs) x.number) j (on (x.page - suc k) v l.1))
    by (some n) v q later =
        let number : number_of n ≡ x.number = cc in
        let page : k ≡ x.page = cc in
        let j : 0 ≡ x.page - k = omega arith in (
          omega arith,
          subst (Stops R r (f ∷ fs) x.number) j (record {
            there = omega arith;
            before = refl;
            told = λ g later same. (let first : f ≡ g = cc in subst (λ (h : Feeding). (feed_in R r h).told ≡ refuses x.number) first (told_no R r old f room.0 one n v ∙ ap refuses number));
          }),
        )
