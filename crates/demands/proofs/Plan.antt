-- Feedings by a plan: the buffers are handed on, and what the states say of the plan holds of the feedings. Assumes nothing.
use Prim.Native.Nat.{ℕ, ◌≤◌}
use mathlib.Core.Path.{◌≡◌, refl, sym, ap, subst, ◌∙◌}
use mathlib.Core.Bool.{Bool, true, false, true≢false, false≢true}
use mathlib.Core.List.{List, [], ◌∷◌}
use mathlib.Core.Option.{Option, none, some}
use borrow.Author.Tests.{le-ltb}
use lib.Dec.{T}
use lib.ListN.{length, take}
use Rattle.octets.specs.Pick.{pick}
use Rattle.octets.specs.Octets.{Bytes, Octets}
use Rattle.refusal.specs.declared.Refusal.{Refusal}
use Rattle.refusal.specs.Told.{Told, gives, refuses}
use Rattle.stream.specs.Page.{page_of}
use Rattle.stream.specs.Readings.{Readings}
use Rattle.stream.specs.State.{State}
use Rattle.limits.specs.Limits.{packet_max}
use Rattle.stream.specs.Lent.{Lent, is_short}
use Rattle.stream.specs.Rules.{verdict, after}
use Rattle.stream.specs.Feed.{Reader, view, Taken, Fed, fed_by, feed}
use Rattle.stream.specs.Feedings.{Feeding, feed_in, reader_by, reader_after, held_of, left_in, HandedOn, show_as, stream, bytes_of, Marked, all_of, marked, RoomAtMarks, is_refused, OthersRefused}
use Rattle.stream.specs.Statements.{AllOctets}
use Rattle.demands.specs.Example.{Planned, lent_with, feeding, follow}
use Rattle.stream.proofs.Carry.{length-carry}
use Rattle.stream.proofs.Step.{expected, saw, feeds, feeds-short, state_by}
use Rattle.stream.proofs.Runs.{fed_at, Turn, turn}

-- ---- lent memory

pub roomy : (c : Bytes) → packet_max ≤ length c → is_short (lent_with c) ≡ false
unfolding is_short
roomy c h = rw (le-ltb (length c) packet_max h) refl

pub lacks : is_short (lent_with []) ≡ true
unfolding is_short
lacks = refl

fed-length : (R : Readings) (r : Reader) (m : Lent) (b : Bytes) → length (feed R r m b).lent.carry ≡ length m.carry
fed-length R r m b = by (is_short m) refl
  where
    fed : (v : Option Refusal) → length (fed_by v R r m (expected r m.carry b) (page_of b) (saw r m.carry b)).lent.carry ≡ length m.carry
    fed none = length-carry none (expected r m.carry b) (page_of b) m.carry
    fed (some n) = length-carry (some n) (expected r m.carry b) (page_of b) m.carry

    by : (t : Bool) → is_short m ≡ t → length (feed R r m b).lent.carry ≡ length m.carry
    by true e = ap (λ (f : Fed). length f.lent.carry) (feeds-short R r m b e)
    by false e = ap (λ (f : Fed). length f.lent.carry) (feeds R r m b e) ∙ fed (verdict R (view r.core m.carry) b)

-- ---- what the states say of a plan: marked ones pass, the others are refused or lack the room

abbrev pub is_some : Option Refusal → Bool
is_some none = false
is_some (some n) = true

abbrev pub Goes : Readings → State → List Planned → Type 0
Goes R s [] = Unit {0}
Goes R s (p ∷ ps) =
    pick p.short ((p.mark ≡ false) × Goes R s ps)
    (pick p.mark ((verdict R s p.bytes ≡ none) × Goes R (after R s p.bytes) ps) ((is_some (verdict R s p.bytes) ≡ true) × Goes R s ps))

abbrev pub wanted : List Planned → List Bytes
wanted [] = []
wanted (p ∷ ps) = pick p.mark (p.bytes ∷ wanted ps) (wanted ps)

abbrev pub PlanOctets : List Planned → Type 0
PlanOctets [] = Unit {0}
PlanOctets (p ∷ ps) = Octets p.bytes × PlanOctets ps

-- what is shown of a plan that was followed, from the buffer `old`
pub record Followed (R : Readings) (r : Reader) (old : Bytes) (ms : List Marked) (bs : List Bytes) : Type 0 where
  pub handed : HandedOn R r old (all_of ms)
  pub room : RoomAtMarks ms
  pub marks : marked ms ≡ bs
  pub others : OthersRefused R r ms
  pub accepted : bytes_of (stream R r (all_of ms)) ≡ bs

holds : (t : Bool) → t ≡ true → T t
holds true e = tt
holds false e = absurd (false≢true e)

abbrev pub Agrees : Reader → Bytes → Bytes → Type 0
Agrees r c d = take (held_of r.core.pending) c ≡ take (held_of r.core.pending) d

-- one planned feeding f and the marked ones after it
module _ (R : Readings) (r : Reader) (old : Bytes) (f : Feeding) (ms : List Marked) (bs : List Bytes) where
  abbrev fed : Fed
  fed = feed_in R r f

  abbrev gone : Reader
  gone = reader_after R r f

  abbrev left : Bytes
  left = left_in R r f old

  -- refused
  passed_over : (is_short f.lent ≡ false → Agrees r f.lent.carry old) → is_refused fed.told ≡ true → Followed R gone left ms bs
      → Followed R r old (record { mark = false; fed = f } ∷ ms) bs
  unfolding all_of HandedOn RoomAtMarks marked OthersRefused stream
  passed_over agrees e k = record {
    handed = (agrees, k.handed);
    room = ((λ t. absurd (false≢true t)), k.room);
    marks = k.marks;
    others = (holds (is_refused fed.told) e, k.others);
    accepted = by fed.told e ∙ k.accepted;
  }
    where
      by : (t : Told Taken) → is_refused t ≡ true
          → bytes_of (show_as t fed.entries f.bytes (stream R gone (all_of ms))) ≡ bytes_of (stream R gone (all_of ms))
      by (gives t) e = absurd (false≢true e)
      by (refuses n) e = refl

  -- accepted
  taken : is_short f.lent ≡ false → Agrees r f.lent.carry old → is_refused fed.told ≡ false → Followed R gone left ms bs
      → Followed R r old (record { mark = true; fed = f } ∷ ms) (f.bytes ∷ bs)
  unfolding all_of HandedOn RoomAtMarks marked OthersRefused stream
  taken room agrees e k = record {
    handed = ((λ t. agrees), k.handed);
    room = ((λ t. room), k.room);
    marks = ap (λ (l : List Bytes). f.bytes ∷ l) k.marks;
    others = (tt, k.others);
    accepted = by fed.told e ∙ ap (λ (l : List Bytes). f.bytes ∷ l) k.accepted;
  }
    where
      by : (t : Told Taken) → is_refused t ≡ false
          → bytes_of (show_as t fed.entries f.bytes (stream R gone (all_of ms))) ≡ f.bytes ∷ bytes_of (stream R gone (all_of ms))
      by (gives t) e = refl
      by (refuses n) e = absurd (true≢false e)

refused-by : (R : Readings) (r : Reader) (m : Lent) (s : State) (b : Bytes) (v : Option Refusal) → is_refused (fed_at v R r m s b).told ≡ is_some v
refused-by R r m s b none = refl
refused-by R r m s b (some n) = refl

-- the plans after one feeding
abbrev pub Again : Readings → List Planned → Type 0
Again R ps =
    (r : Reader) (c old : Bytes) → packet_max ≤ length c → Agrees r c old → Goes R (view r.core old) ps
    → Followed R r old (follow R r c ps) (wanted ps)

module _ (R : Readings) (b : Bytes) (ps : List Planned) (r : Reader) (c old : Bytes) (room : packet_max ≤ length c) (agrees : Agrees r c old)
    (again : Again R ps) where
  abbrev f-short : Feeding
  f-short = record { bytes = b; lent = lent_with [] }

  abbrev f-room : Feeding
  f-room = record { bytes = b; lent = lent_with c }

  abbrev now : State
  now = view r.core old

  stays : reader_after R r f-short ≡ r
  stays = ap (λ (g : Fed). reader_by g.told r) (feeds-short R r (lent_with []) b lacks)

  left-short : left_in R r f-short old ≡ old
  left-short = ap (λ (t : Bool). pick t old (feed_in R r f-short).lent.carry) lacks

  short_plan : Goes R now ps → Followed R r old (record { mark = false; fed = f-short } ∷ follow R (reader_after R r f-short) c ps) (wanted ps)
  short_plan g =
      passed_over R r old f-short (follow R (reader_after R r f-short) c ps) (wanted ps) (λ e. absurd (true≢false (sym lacks ∙ e)))
      (ap (λ (x : Fed). is_refused x.told) (feeds-short R r (lent_with []) b lacks))
      (again (reader_after R r f-short) c (left_in R r f-short old) room
      (subst (λ (d : Bytes). Agrees (reader_after R r f-short) c d) (sym left-short) (subst (λ (q : Reader). Agrees q c old) (sym stays) agrees))
      (subst (λ (d : Bytes). Goes R (view (reader_after R r f-short).core d) ps) (sym left-short)
      (subst (λ (q : Reader). Goes R (view q.core old) ps) (sym stays) g)))

  steps : Turn R r old f-room
  steps = turn R r old f-room (roomy c room) agrees

  left-room : left_in R r f-room old ≡ (feed_in R r f-room).lent.carry
  left-room = ap (λ (t : Bool). pick t old (feed_in R r f-room).lent.carry) (roomy c room)

  is-refused : is_refused (feed_in R r f-room).told ≡ is_some (verdict R now b)
  is-refused = ap (λ (g : Fed). is_refused g.told) steps.feeds ∙ refused-by R r (lent_with c) now b (verdict R now b)

  then_follows : Goes R (state_by (verdict R now b) now (after R now b)) ps
      → Followed R (reader_after R r f-room) (left_in R r f-room old) (follow R (reader_after R r f-room) (feed_in R r f-room).lent.carry ps)
      (wanted ps)
  then_follows g =
      again (reader_after R r f-room) (feed_in R r f-room).lent.carry (left_in R r f-room old)
      (subst (λ (n : ℕ). packet_max ≤ n) (sym (fed-length R r (lent_with c) b)) room)
      (ap (take (held_of (reader_after R r f-room).core.pending)) (sym left-room))
      (subst (λ (d : Bytes). Goes R (view (reader_after R r f-room).core d) ps) (sym left-room)
      (subst (λ (s : State). Goes R s ps) (sym steps.steps.view) g))

  taken_plan : verdict R now b ≡ none → Goes R (after R now b) ps
      → Followed R r old (record { mark = true; fed = f-room } ∷ follow R (reader_after R r f-room) (feed_in R r f-room).lent.carry ps)
      (b ∷ wanted ps)
  taken_plan v g =
      taken R r old f-room (follow R (reader_after R r f-room) (feed_in R r f-room).lent.carry ps) (wanted ps) (roomy c room) agrees
      (is-refused ∙ ap is_some v)
      (then_follows (subst (λ (w : Option Refusal). Goes R (state_by w now (after R now b)) ps) (sym v) g))

  refused-state : (v : Option Refusal) → is_some v ≡ true → now ≡ state_by v now (after R now b)
  refused-state none e = absurd (false≢true e)
  refused-state (some n) e = refl

  refused_plan : is_some (verdict R now b) ≡ true → Goes R now ps
      → Followed R r old (record { mark = false; fed = f-room } ∷ follow R (reader_after R r f-room) (feed_in R r f-room).lent.carry ps) (wanted ps)
  refused_plan v g =
      passed_over R r old f-room (follow R (reader_after R r f-room) (feed_in R r f-room).lent.carry ps) (wanted ps) (λ e. agrees) (is-refused ∙ v)
      (then_follows (subst (λ (s : State). Goes R s ps) (refused-state (verdict R now b) v) g))

  plan : (t w : Bool) → Goes R now (record { mark = t; short = w; bytes = b } ∷ ps)
      → Followed R r old (follow R r c (record { mark = t; short = w; bytes = b } ∷ ps)) (wanted (record { mark = t; short = w; bytes = b } ∷ ps))
  unfolding follow
  plan true true g = absurd (true≢false g.0)
  plan false true g = short_plan g.1
  plan true false g = taken_plan g.0 g.1
  plan false false g = refused_plan g.0 g.1

pub followed : (R : Readings) (ps : List Planned) → Again R ps
unfolding follow all_of HandedOn RoomAtMarks marked OthersRefused stream
followed R [] r c old room agrees g = record { handed = tt; room = tt; marks = refl; others = tt; accepted = refl }
followed R (p ∷ ps) r c old room agrees g = plan R p.bytes ps r c old room agrees (followed R ps) p.mark p.short g

pub plan_octets : (R : Readings) (ps : List Planned) (r : Reader) (c : Bytes) → PlanOctets ps → AllOctets (all_of (follow R r c ps))
unfolding follow all_of
plan_octets R [] r c o = tt
plan_octets R (p ∷ ps) r c o = (
  o.0,
  plan_octets R ps (reader_after R r (feeding p c))
      (pick p.short c (feed_in R r (feeding p c)).lent.carry) o.1,
)
