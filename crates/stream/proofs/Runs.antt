-- Lists of feedings as runs of the state that decides: refused feedings change nothing. Assumes nothing.
use Prim.Native.Nat.{ℕ}
use mathlib.Core.Path.{◌≡◌, refl, sym, ap, ap₂, subst, ◌∙◌}
use mathlib.Core.Bool.{Bool, true, false, ◌||◌, false≢true, true≢false}
use mathlib.Core.List.{List, [], ◌∷◌}
use mathlib.Core.Option.{Option, none, some}
use lib.Dec.{T}
use lib.ListN.{take}
use Rattle.octets.specs.Pick.{pick}
use Rattle.octets.specs.Octets.{Bytes}
use Rattle.refusal.specs.declared.Refusal.{Refusal}
use Rattle.refusal.specs.Told.{Told}
use Rattle.stream.specs.declared.Core.{Core}
use Rattle.stream.specs.Page.{page_of}
use Rattle.stream.specs.Readings.{Readings}
use Rattle.stream.specs.State.{Carried, State, expecting}
use Rattle.stream.specs.Packets.{seen}
use Rattle.stream.specs.Rules.{Stamp, verdict, after}
use Rattle.stream.specs.Feed.{Reader, view, entries_on, counts_on, skip_on, tally_on, Fed, fed_by}
use Rattle.stream.specs.Lent.{Lent, is_short}
use Rattle.stream.specs.Stream.{Listing}
use Rattle.stream.specs.Feedings.{Feeding, feed_in, reader_by, reader_after, finally, held_of, left_in, carry_left, HandedOn, Shown, show_as, stream, bytes_of, Marked, all_of, marked, RoomAtMarks, is_refused, OthersRefused, tell, told_at_marks}
use Rattle.stream.proofs.Step.{take-held, feeds, feeds-short, state_by, Stepped, stepped}
use Rattle.stream.proofs.Joining.{after_all, told_all, after_told}

-- ---- one feeding, on the state s

abbrev pub fed_at : Option Refusal → Readings → Reader → Lent → State → Bytes → Fed
fed_at v R r m s b = fed_by v R r m (expecting s (page_of b)) (page_of b) (seen (expecting s (page_of b)) (page_of b))

seeing : Core → Carried → State
seeing k x = record { phase = k.phase; carried = x; position = k.position; serial = k.serial; next = k.next; streams = k.streams; preskip = k.preskip }

-- it has room, and its carry buffer agrees with `old` up to the held count
pub record Turn (R : Readings) (r : Reader) (old : Bytes) (f : Feeding) : Type 0 where
  pub feeds : feed_in R r f ≡ fed_at (verdict R (view r.core old) f.bytes) R r f.lent (view r.core old) f.bytes
  pub steps : Stepped R r (view r.core old) f.bytes (verdict R (view r.core old) f.bytes) (feed_in R r f)

pub turn : (R : Readings) (r : Reader) (old : Bytes) (f : Feeding) → is_short f.lent ≡ false
    → take (held_of r.core.pending) f.lent.carry ≡ take (held_of r.core.pending) old → Turn R r old f
unfolding seeing
turn R r old f room agrees =
    let e : view r.core f.lent.carry ≡ view r.core old = ap (seeing r.core) (take-held r.core.pending f.lent.carry old agrees) in
    record {
      feeds = feeds R r f.lent f.bytes room ∙ ap (λ (s : State). fed_at (verdict R s f.bytes) R r f.lent s f.bytes) e;
      steps = subst (λ (s : State). Stepped R r s f.bytes (verdict R s f.bytes) (feed_in R r f)) e (stepped R r f.lent f.bytes room);
    }

-- ---- the first reader: the stream is accepted page by page, as if nothing else had been fed; skip: samples still to skip

abbrev pub listing_on : Readings → ℕ → State → Bytes → Listing
listing_on R skip s b = record {
  entries = entries_on R skip (expecting s (page_of b)) (page_of b) (seen (expecting s (page_of b)) (page_of b));
  counts = counts_on R skip (expecting s (page_of b)) (page_of b) (seen (expecting s (page_of b)) (page_of b));
}

abbrev pub skip_in : Readings → ℕ → State → Bytes → ℕ
skip_in R skip s b = skip_on R skip (expecting s (page_of b)) (page_of b) (seen (expecting s (page_of b)) (page_of b))

abbrev pub Lists : Readings → State → ℕ → List Shown → Type 0
Lists R s skip [] = Unit {0}
Lists R s skip (x ∷ xs) =
    (verdict R s x.bytes ≡ none) × (x.listing ≡ listing_on R skip s x.bytes) × Lists R (after R s x.bytes) (skip_in R skip s x.bytes) xs

unfoldable pub skip_all : Readings → State → ℕ → List Bytes → ℕ
skip_all R s skip [] = skip
skip_all R s skip (b ∷ bs) = skip_all R (after R s b) (skip_in R skip s b) bs

-- what is shown of a run
pub record Ran (R : Readings) (s : State) (skip : ℕ) (S : List Shown) (r : Reader) (left : Bytes) : Type 0 where
  pub lists : Lists R s skip S
  pub state : view r.core left ≡ after_all R s (bytes_of S)
  pub skips : r.tally.skip ≡ skip_all R s skip (bytes_of S)

-- one more feeding with the answer g, from the state s: u is the state after it, l what is left at the end
abbrev Ran-on : Readings → Reader → State → State → Bytes → List Feeding → Bytes → Fed → Type 0
Ran-on R r s u b fs l g =
    Ran R u (reader_by g.told r).tally.skip (stream R (reader_by g.told r) fs) (finally R (reader_by g.told r) fs) l
    → Ran R s r.tally.skip (show_as g.told g.entries b (stream R (reader_by g.told r) fs)) (finally R (reader_by g.told r) fs) l

ran_on : (R : Readings) (r : Reader) (m : Lent) (s : State) (b : Bytes) (fs : List Feeding) (l : Bytes) (v : Option Refusal) → verdict R s b ≡ v
    → Ran-on R r s (state_by v s (after R s b)) b fs l (fed_at v R r m s b)
unfolding after_all skip_all skip_on tally_on
ran_on R r m s b fs l none e k = record { lists = (e, refl, k.lists); state = k.state; skips = k.skips }
ran_on R r m s b fs l (some n) e k = k

pub runs : (R : Readings) (fs : List Feeding) (r : Reader) (old : Bytes) → HandedOn R r old fs
    → Ran R (view r.core old) r.tally.skip (stream R r fs) (finally R r fs) (carry_left R r old fs)
unfolding HandedOn stream finally carry_left after_all skip_all
runs R [] r old h = record { lists = tt; state = refl; skips = refl }
runs R (f ∷ fs) r old h = by (is_short f.lent) refl h.0 (runs R fs (reader_after R r f) (left_in R r f old) h.1)
  where
    by : (t : Bool) → is_short f.lent ≡ t → (t ≡ false → take (held_of r.core.pending) f.lent.carry ≡ take (held_of r.core.pending) old)
        → Ran-on R r (view r.core old) (view (reader_after R r f).core (pick t old (feed_in R r f).lent.carry)) f.bytes fs
        (carry_left R (reader_after R r f) (left_in R r f old) fs) (feed_in R r f)
    by true e agrees =
        subst (λ (g : Fed). Ran-on R r (view r.core old) (view (reader_by g.told r).core old) f.bytes fs
        (carry_left R (reader_after R r f) (left_in R r f old) fs) g)
        (sym (feeds-short R r f.lent f.bytes e)) (λ k. k)
    by false e agrees =
        let s : State = view r.core old in
        let l : Bytes = carry_left R (reader_after R r f) (left_in R r f old) fs in
        let k : Turn R r old f = turn R r old f e (agrees refl) in
        subst (λ (u : State). Ran-on R r s u f.bytes fs l (feed_in R r f)) (sym k.steps.view)
        (subst (λ (g : Fed). Ran-on R r s (state_by (verdict R s f.bytes) s (after R s f.bytes)) f.bytes fs l g) (sym k.feeds)
        (ran_on R r f.lent s f.bytes fs l (verdict R s f.bytes) refl))

-- ---- the second reader: what is told at the marks is told of the marked pages alone

is_true : (b : Bool) → T b → b ≡ true
is_true true t = refl
is_true false t = absurd t

-- a refused feeding leaves the state
refused-state : (R : Readings) (r : Reader) (m : Lent) (s : State) (b : Bytes) (v : Option Refusal) → is_refused (fed_at v R r m s b).told ≡ true
    → state_by v s (after R s b) ≡ s
refused-state R r m s b none e = absurd (false≢true e)
refused-state R r m s b (some n) e = refl

-- of a marked list, from the state s: what is told at the marks, and the view at the end
pub record Second (R : Readings) (s : State) (ms : List Marked) (r : Reader) (old : Bytes) : Type 0 where
  pub told : told_at_marks R r ms ≡ told_all R s (marked ms)
  pub state : view (finally R r (all_of ms)).core (carry_left R r old (all_of ms)) ≡ after_told R s (marked ms)

module _ (R : Readings) (m : Marked) (ms : List Marked) (r : Reader) (old : Bytes) where
  abbrev now : State
  now = view r.core old

  abbrev fed : Fed
  fed = feed_in R r m.fed

  abbrev gone : Reader
  gone = reader_after R r m.fed

  abbrev left : Bytes
  left = left_in R r m.fed old

  -- what is to be shown, t being the mark
  record More (t : Bool) : Type 0 where
    told : pick t (tell fed ∷ told_at_marks R gone ms) (told_at_marks R gone ms) ≡ told_all R now (pick t (m.fed.bytes ∷ marked ms) (marked ms))
    state : view (finally R gone (all_of ms)).core (carry_left R gone left (all_of ms))
        ≡ after_told R now (pick t (m.fed.bytes ∷ marked ms) (marked ms))

  abbrev Step : Type 0
  Step = Second R (view gone.core left) ms gone left

  -- it leaves the state
  passed_over : view gone.core left ≡ now → Step → More false
  passed_over e k = record {
    told = k.told ∙ ap (λ (s : State). told_all R s (marked ms)) e;
    state = k.state ∙ ap (λ (s : State). after_told R s (marked ms)) e;
  }

  -- it has no room
  short-stays : is_short m.fed.lent ≡ true → view gone.core left ≡ now
  short-stays e =
      ap (λ (g : Fed). view (reader_by g.told r).core (pick (is_short m.fed.lent) old g.lent.carry))
      (feeds-short R r m.fed.lent m.fed.bytes e)
      ∙ ap (λ (t : Bool). view r.core (pick t old m.fed.lent.carry)) e

  -- it has room
  room-steps : is_short m.fed.lent ≡ false → (k : Turn R r old m.fed)
      → view gone.core left ≡ state_by (verdict R now m.fed.bytes) now (after R now m.fed.bytes)
  room-steps e k = ap (λ (t : Bool). view gone.core (pick t old fed.lent.carry)) e ∙ k.steps.view

  refused-stays : is_short m.fed.lent ≡ false → Turn R r old m.fed → is_refused fed.told ≡ true → view gone.core left ≡ now
  refused-stays e k h =
      room-steps e k
      ∙ refused-state R r m.fed.lent now m.fed.bytes (verdict R now m.fed.bytes)
      (sym (ap (λ (g : Fed). is_refused g.told) k.feeds) ∙ h)

  marked-steps : is_short m.fed.lent ≡ false → Turn R r old m.fed → Step → More true
  marked-steps e k n = record {
    told = ap₂ (λ (a : Told (List Stamp)) (l : List (Told (List Stamp))). a ∷ l) k.steps.told
        (n.told ∙ ap (λ (s : State). told_all R s (marked ms)) (room-steps e k));
    state = n.state ∙ ap (λ (s : State). after_told R s (marked ms)) (room-steps e k);
  }

  more : (t b : Bool) → is_short m.fed.lent ≡ b
      → (b ≡ false → take (held_of r.core.pending) m.fed.lent.carry ≡ take (held_of r.core.pending) old)
      → (t ≡ true → b ≡ false) → T (t || is_refused fed.told) → Step → More t
  more true true e agrees room o k = absurd (true≢false (room refl))
  more false true e agrees room o k = passed_over (short-stays e) k
  more true false e agrees room o k = marked-steps e (turn R r old m.fed e (agrees refl)) k
  more false false e agrees room o k = passed_over (refused-stays e (turn R r old m.fed e (agrees refl)) (is_true (is_refused fed.told) o)) k

pub second : (R : Readings) (ms : List Marked) (r : Reader) (old : Bytes) → HandedOn R r old (all_of ms) → RoomAtMarks ms → OthersRefused R r ms
    → Second R (view r.core old) ms r old
unfolding HandedOn RoomAtMarks OthersRefused told_at_marks marked all_of finally carry_left
second R [] r old h n o = record { told = refl; state = refl }
second R (m ∷ ms) r old h n o =
    let k : More R m ms r old m.mark =
    more R m ms r old m.mark (is_short m.fed.lent) refl h.0 n.0 o.0
    (second R ms (reader_after R r m.fed) (left_in R r m.fed old) h.1 n.1 o.1) in
    record { told = k.told; state = k.state }
