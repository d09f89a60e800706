-- One feeding is one step of the state that decides (T0 and T2 unshifted). Assumes nothing.
use Prim.Native.Nat.{ℕ, ◌+◌, ◌-◌, ◌≤◌, ◌<◌}
use mathlib.Core.Path.{◌≡◌, refl, sym, ap, subst, ◌∙◌}
use mathlib.Core.Bool.{Bool, true, false, ◌||◌}
use mathlib.Core.List.{List, [], ◌∷◌, map}
use mathlib.Core.Option.{Option, none, some}
use native.Mathlib.Omega.{arith}
use borrow.Author.Tests.{ltb-false, lt-leb}
use lib.Dec.{ltb}
use lib.ListN.{length, take}
use Rattle.octets.specs.Pick.{pick}
use Rattle.octets.specs.Octets.{Bytes}
use Rattle.refusal.specs.declared.Refusal.{Refusal}
use Rattle.refusal.specs.declared.Refusal.TheVariants.{ShortRoom}
use Rattle.refusal.specs.Checks.{first_of}
use Rattle.refusal.specs.Told.{Told, gives, refuses}
use Rattle.refusal.specs.Numbers.{number_of}
use Rattle.stream.specs.declared.Phase.{Phase}
use Rattle.stream.specs.declared.Phase.TheVariants.{First, Comment, Audio, Opened, Ended}
use Rattle.stream.specs.declared.Pending.{Pending}
use Rattle.stream.specs.declared.Pending.TheVariants.{Nothing, Held, Dropped}
use Rattle.stream.specs.declared.Core.{Core}
use Rattle.stream.specs.Page.{Page, page_of, whole, rest}
use Rattle.packet_reader.specs.declared.Measure.{Measure}
use Rattle.stream.specs.Readings.{Readings}
use Rattle.stream.specs.State.{Carried, held, State, is_ended, expecting_in, expecting}
use Rattle.stream.specs.Packets.{Seen, seen, is_long}
use Rattle.limits.specs.Limits.{packet_max, list_max}
use Rattle.stream.specs.Lent.{Lent, is_short}
use Rattle.stream.specs.Rules.{checks_on, Stamp, stamp_at, stamps, stamps_on, next_on, verdict, after, stamped}
use Rattle.stream.specs.Feed.{Reader, carried_in, view, core_of, stamp_of, entries, entries_on, first_piece, appended, first_late, is_late, carry_after, Fed, fed_by, feed}
use Rattle.stream.specs.Feedings.{reader_by, held_of, tell}
use Rattle.stream.specs.Statements.{Keeps, RefusalKeeps, CongruenceSame}
use Rattle.stream.proofs.Pieces.{or_left, piece-fits, new_fits}
use Rattle.stream.proofs.Carry.{length-carry, holds, is_done, not-long, backed, kept-held}

-- ---- with room, and without

pub enough : (m : Lent) → is_short m ≡ false → packet_max ≤ length m.carry
unfolding is_short
enough m e = ltb-false (length m.carry) packet_max
    (or_left (ltb (length m.carry) packet_max)
    (ltb (length m.ends) list_max || (ltb (length m.lengths) list_max
    || (ltb (length m.kept) list_max || ltb (length m.frames) list_max))) e)

-- the state that expects the page, and its packets
abbrev pub expected : Reader → Bytes → Bytes → State
expected r c b = expecting (view r.core c) (page_of b)

abbrev pub saw : Reader → Bytes → Bytes → Seen
saw r c b = seen (expected r c b) (page_of b)

-- a reader that has ended expects nothing else
pub still_ended : (s : State) (p : Page) → is_ended (expecting s p).phase ≡ is_ended s.phase
unfolding expecting
still_ended s p = by s.phase refl
  where
    by : (ph : Phase) → s.phase ≡ ph → is_ended (expecting_in ph s p).phase ≡ is_ended s.phase
    by First q = ap is_ended (sym q)
    by Comment q = refl
    by Audio q = refl
    by Opened q = ap is_ended (sym q)
    by Ended q = refl

pub feeds : (R : Readings) (r : Reader) (m : Lent) (b : Bytes) → is_short m ≡ false
    → feed R r m b ≡ fed_by (verdict R (view r.core m.carry) b) R r m (expected r m.carry b) (page_of b) (saw r m.carry b)
unfolding feed verdict first_of
feeds R r m b e =
    ap (λ (t : Bool). fed_by (pick t (some ShortRoom) (first_of (checks_on R (expected r m.carry b) b (saw r m.carry b)))) R r m
    (expected r m.carry b) (page_of b) (saw r m.carry b)) e

pub feeds-short : (R : Readings) (r : Reader) (m : Lent) (b : Bytes) → is_short m ≡ true
    → feed R r m b ≡ record { told = refuses (number_of ShortRoom); entries = []; lent = m }
unfolding feed first_of carry_after
feeds-short R r m b e =
    ap (λ (t : Bool). fed_by (pick t (some ShortRoom) (first_of (checks_on R (expected r m.carry b) b (saw r m.carry b)))) R r m
    (expected r m.carry b) (page_of b) (saw r m.carry b)) e

-- ---- the step

abbrev pub state_by : Option Refusal → State → State → State
state_by none s t = t
state_by (some n) s t = s

abbrev pub tell_by : Option Refusal → List Stamp → Told (List Stamp)
tell_by none l = gives l
tell_by (some n) l = refuses (number_of n)

pub record Stepped (R : Readings) (r : Reader) (s : State) (b : Bytes) (v : Option Refusal) (f : Fed) : Type 0 where
  pub view : view (reader_by f.told r).core f.lent.carry ≡ state_by v s (after R s b)
  pub told : tell f ≡ tell_by v (stamped R s b)

pub entries-stamps : (skip : ℕ) (end : Bool) (g at : ℕ) (ds : List Measure) → map stamp_of (entries skip end g at ds) ≡ stamps at ds
unfolding entries stamps
entries-stamps skip end g at [] = refl
entries-stamps skip end g at (d ∷ ds) =
    ap (λ (l : List Stamp). stamp_at at d ∷ l)
    (entries-stamps (skip - d.samples) end g (at + d.samples) ds)

-- the view after an accepted page is the state that follows
accepted-view : (R : Readings) (r : Reader) (c b : Bytes) → packet_max ≤ length c → verdict R (view r.core c) b ≡ none
    → view (core_of (after R (view r.core c) b)) (carry_after none (expected r c b) (page_of b) c) ≡ after R (view r.core c) b
unfolding verdict after next_on carry_after seen
accepted-view R r c b room v =
    let t : State = expected r c b in
    let p : Page = page_of b in
    let ok : is_long t.carried p.lacing ≡ false = not-long R t b (seen t p) (ap is_done v) in
    ap (λ (x : Carried). record {
      phase = (after R (view r.core c) b).phase;
      carried = x;
      position = (after R (view r.core c) b).position;
      serial = p.header.serial;
      next = (after R (view r.core c) b).next;
      streams = (after R (view r.core c) b).streams;
      preskip = (after R (view r.core c) b).preskip;
    })
    (holds t.phase t.carried c (whole p) (rest p) room (backed r.core c p) (piece-fits t.carried p ok) (new_fits t.carried p ok))

abbrev with_piece : Reader → Bytes → Bytes → Bytes
with_piece r c b = appended (expected r c b).phase (expected r c b).carried (first_piece (whole (page_of b)) (rest (page_of b))) c

-- a refusal keeps the held bytes
refused-held : (R : Readings) (r : Reader) (c b : Bytes) (n : Refusal) → packet_max ≤ length c → verdict R (view r.core c) b ≡ some n
    → carried_in r.core.pending (carry_after (some n) (expected r c b) (page_of b) c) ≡ carried_in r.core.pending c
unfolding verdict carry_after
refused-held R r c b n room v =
    by (is_late n) (λ (h : is_late n ≡ true). kept-held r.core c (first_piece (whole (page_of b)) (rest (page_of b))) (page_of b) room
    (piece-fits (expected r c b).carried (page_of b) (not-long R (expected r c b) b (saw r c b) (ap is_done v ∙ h)))) refl
  where
    by : (t : Bool) → (is_late n ≡ true → carried_in r.core.pending (with_piece r c b) ≡ carried_in r.core.pending c) → is_late n ≡ t
        → carried_in r.core.pending (pick t (with_piece r c b) c) ≡ carried_in r.core.pending c
    by true k e = k e
    by false k e = refl

seeing : Core → Carried → State
seeing k x = record { phase = k.phase; carried = x; position = k.position; serial = k.serial; next = k.next; streams = k.streams; preskip = k.preskip }

stepped_by : (R : Readings) (r : Reader) (m : Lent) (b : Bytes) → packet_max ≤ length m.carry → (v : Option Refusal)
    → verdict R (view r.core m.carry) b ≡ v
    → Stepped R r (view r.core m.carry) b v (fed_by v R r m (expected r m.carry b) (page_of b) (saw r m.carry b))
unfolding after stamped stamps_on entries_on seeing
stepped_by R r m b room none e = record {
  view = accepted-view R r m.carry b room e;
  told = ap gives (entries-stamps _ _ _ _ _);
}
stepped_by R r m b room (some n) e = record { view = ap (seeing r.core) (refused-held R r m.carry b n room e); told = refl }

pub stepped : (R : Readings) (r : Reader) (m : Lent) (b : Bytes) → is_short m ≡ false
    → Stepped R r (view r.core m.carry) b (verdict R (view r.core m.carry) b) (feed R r m b)
stepped R r m b e =
    subst (Stepped R r (view r.core m.carry) b (verdict R (view r.core m.carry) b)) (sym (feeds R r m b e))
    (stepped_by R r m b (enough m e) (verdict R (view r.core m.carry) b) refl)

-- ---- T0

pub held-take : (k : Pending) (c d : Bytes) → carried_in k c ≡ carried_in k d → take (held_of k) c ≡ take (held_of k) d
held-take Nothing c d e = refl
held-take (Held n) c d e = cc
held-take Dropped c d e = refl

pub take-held : (k : Pending) (c d : Bytes) → take (held_of k) c ≡ take (held_of k) d → carried_in k c ≡ carried_in k d
take-held Nothing c d e = refl
take-held (Held n) c d e = ap (held n) e
take-held Dropped c d e = refl

pub gives≢refuses : {A : Type 0} {a : A} {n : ℕ} → ◌≡◌ {A = Told A} (gives a) (refuses n) → ⊥
gives≢refuses {A} {a} {n} e = let z : ◌≡◌ {A = ℕ} 0 1 = cc in omega arith

below_12_stays : (n : Refusal) (t : State) (p : Page) (c : Bytes) → number_of n < 12 → carry_after (some n) t p c ≡ c
unfolding carry_after
below_12_stays n t p c h = rw (lt-leb first_late (number_of n) (omega arith))

keeps-by : (R : Readings) (r : Reader) (m : Lent) (b : Bytes) (n : ℕ) → packet_max ≤ length m.carry → (v : Option Refusal)
    → verdict R (view r.core m.carry) b ≡ v
    → (fed_by v R r m (expected r m.carry b) (page_of b) (saw r m.carry b)).told ≡ refuses n
    → Keeps r m (fed_by v R r m (expected r m.carry b) (page_of b) (saw r m.carry b)).lent n
keeps-by R r m b n room none e h = absurd (gives≢refuses h)
keeps-by R r m b n room (some k) e h =
    let same : number_of k ≡ n = cc in
    record {
      held = held-take r.core.pending _ _ (refused-held R r m.carry b k room e);
      room = length-carry (some k) (expected r m.carry b) (page_of b) m.carry;
      untouched = λ small. below_12_stays k (expected r m.carry b) (page_of b) m.carry (omega arith);
      ends = refl;
      lengths = refl;
      kept = refl;
      frames = refl;
    }

pub refusal-keeps : RefusalKeeps
refusal-keeps R r m b n h = by (is_short m) refl
  where
    by : (t : Bool) → is_short m ≡ t → Keeps r m (feed R r m b).lent n
    by true e =
        subst (λ (f : Fed). Keeps r m f.lent n) (sym (feeds-short R r m b e))
        (record { held = refl; room = refl; untouched = λ small. refl; ends = refl; lengths = refl; kept = refl; frames = refl })
    by false e =
        subst (λ (f : Fed). Keeps r m f.lent n) (sym (feeds R r m b e))
        (keeps-by R r m b n (enough m e) (verdict R (view r.core m.carry) b) refl (sym (ap (λ (f : Fed). f.told) (feeds R r m b e)) ∙ h))

-- ---- T2, unshifted

pub congruence_same : CongruenceSame
congruence_same R r s m e b rm re same =
    let x : Stepped R r (view r.core m.carry) b (verdict R (view r.core m.carry) b) (feed R r m b) = stepped R r m b rm in
    let y : Stepped R s (view s.core e.carry) b (verdict R (view s.core e.carry) b) (feed R s e b) = stepped R s e b re in
    record {
      told = y.told ∙ ap (λ (t : State). tell_by (verdict R t b) (stamped R t b)) same ∙ sym x.told;
      stays = y.view ∙ ap (λ (t : State). state_by (verdict R t b) t (after R t b)) same ∙ sym x.view;
    }
