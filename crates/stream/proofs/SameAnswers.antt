-- Congruence of all that a feeding tells, and over lists of feedings. Assumes nothing.
use mathlib.Core.Path.{◌≡◌, refl, sym, ap, ap₂, subst, ◌∙◌}
use mathlib.Core.Bool.{Bool, true, false}
use mathlib.Core.List.{List, [], ◌∷◌}
use mathlib.Core.Option.{Option, none, some}
use lib.ListN.{take}
use Rattle.octets.specs.Pick.{pick}
use Rattle.octets.specs.Octets.{Bytes}
use Rattle.refusal.specs.declared.Refusal.{Refusal}
use Rattle.refusal.specs.declared.Refusal.TheVariants.{ShortRoom}
use Rattle.refusal.specs.Numbers.{number_of}
use Rattle.refusal.specs.Told.{Told, gives, refuses}
use Rattle.stream.specs.declared.Pending.{Pending}
use Rattle.stream.specs.declared.Pending.TheVariants.{Nothing, Held, Dropped}
use Rattle.stream.specs.declared.Core.{Core}
use Rattle.stream.specs.declared.Tally.{Tally}
use Rattle.stream.specs.declared.Counts.{Counts}
use Rattle.stream.specs.Page.{page_of}
use Rattle.stream.specs.Readings.{Readings}
use Rattle.stream.specs.State.{Carried, State, expecting}
use Rattle.stream.specs.Packets.{seen}
use Rattle.stream.specs.Rules.{Stamp, verdict, after}
use Rattle.stream.specs.Feed.{Reader, reader_of, carried_in, pending_of, view, core_of, entries_on, counts_on, Taken, Fed}
use Rattle.stream.specs.Lent.{Lent, is_short}
use Rattle.stream.specs.Feedings.{Feeding, feed_in, reader_by, reader_after, finally, held_of, left_in, carry_left, HandedOn}
use Rattle.stream.specs.SameAnswers.{ShortTold, Answer, answer, Timing, timing, CoresAgree, SameRoom, feeding, SameTiming, SameAnswer, ones, others, SameRooms, answers, timings, TimedAll, SameTimings, AnsweredAll, SameAnswers}
use Rattle.stream.proofs.Step.{held-take, take-held, feeds-short, state_by, entries-stamps}
use Rattle.stream.proofs.Runs.{fed_at, Turn, turn}

-- ---- equal cores and held bytes are equal views

pending-back : (k : Pending) (c : Bytes) → pending_of (carried_in k c) ≡ k
pending-back Nothing c = refl
pending-back (Held n) c = refl
pending-back Dropped c = refl

core-back : (k : Core) (c : Bytes) → core_of (view k c) ≡ k
core-back k c = ap (λ (q : Pending). record {
  phase = k.phase;
  pending = q;
  position = k.position;
  serial = k.serial;
  next = k.next;
  streams = k.streams;
  preskip = k.preskip;
}) (pending-back k.pending c)

same_view : (r s : Reader) (c d : Bytes) → CoresAgree r s c d → view s.core d ≡ view r.core c
same_view r s c d e =
    ap (λ (k : Core). view k d) e.core
    ∙ ap (λ (x : Carried). record {
      phase = r.core.phase;
      carried = x;
      position = r.core.position;
      serial = r.core.serial;
      next = r.core.next;
      streams = r.core.streams;
      preskip = r.core.preskip;
    }) (take-held r.core.pending d c e.held)

view-same : (r s : Reader) (c d : Bytes) → view s.core d ≡ view r.core c → CoresAgree r s c d
view-same r s c d e =
    let k : s.core ≡ r.core = sym (core-back s.core d) ∙ ap core_of e ∙ core-back r.core c in
    record {
      core = k;
      held = held-take r.core.pending d c (ap (λ (q : Core). carried_in q.pending d) (sym k) ∙ ap (λ (t : State). t.carried) e);
    }

-- ---- one feeding on the state s: the lent memory has no part in what is told, and the tally only in what is kept and skipped

whole_at : (v : Option Refusal) (R : Readings) (r s : Reader) (m e : Lent) (t : State) (b : Bytes) → s.tally ≡ r.tally
    → answer (fed_at v R s e t b) ≡ answer (fed_at v R r m t b)
whole_at none R r s m e t b q = ap (λ (y : Tally). answer (fed_at none R (reader_of r.core y) m t b)) q
whole_at (some n) R r s m e t b q = refl

timing_at : (v : Option Refusal) (R : Readings) (r s : Reader) (m e : Lent) (t : State) (b : Bytes)
    → timing (fed_at v R s e t b) ≡ timing (fed_at v R r m t b)
unfolding entries_on counts_on
timing_at none R r s m e t b =
    let c : Counts = counts_on R 0 (expecting t (page_of b)) (page_of b) (seen (expecting t (page_of b)) (page_of b)) in
    ap (λ (l : List Stamp). gives (record { stamps = l; packets = c.packets; samples = c.samples; trimmed = c.trimmed; hole = c.hole }))
    (entries-stamps _ _ _ _ _ ∙ sym (entries-stamps _ _ _ _ _))
timing_at (some n) R r s m e t b = refl

-- ---- one feeding to each, c and d being left before

-- 1 is told, and all stays
abbrev short : Lent → Fed
short m = record { told = refuses (number_of ShortRoom); entries = []; lent = m }

record Both (R : Readings) (r s : Reader) (c d : Bytes) (f g : Feeding) : Type 0 where
  told : timing (feed_in R s g) ≡ timing (feed_in R r f)
  whole : s.tally ≡ r.tally → answer (feed_in R s g) ≡ answer (feed_in R r f)
  equal : CoresAgree (reader_after R r f) (reader_after R s g) (left_in R r f c) (left_in R s g d)

module _ (R : Readings) (r s : Reader) (c d : Bytes) (b : Bytes) (m e : Lent) (same : CoresAgree r s c d) where
  abbrev f : Feeding
  f = feeding b m

  abbrev g : Feeding
  g = feeding b e

  abbrev state : State
  state = view r.core c

  both-short : is_short m ≡ true → is_short e ≡ true → Both R r s c d f g
  both-short p q =
      let x : feed_in R r f ≡ short m = feeds-short R r m b p in
      let y : feed_in R s g ≡ short e = feeds-short R s e b q in
      record {
        told = ap timing y ∙ sym (ap timing x);
        whole = λ w. ap answer y ∙ sym (ap answer x);
        equal = rw (p, q, x, y) same;
      }

  both-room : is_short m ≡ false → is_short e ≡ false → Turn R r c f → Turn R s d g → Both R r s c d f g
  both-room p q x y =
      let k : view s.core d ≡ state = same_view r s c d same in
      let z : feed_in R s g ≡ fed_at (verdict R state b) R s e state b = y.feeds ∙ ap (λ (t : State). fed_at (verdict R t b) R s e t b) k in
      record {
        told = ap timing z ∙ timing_at (verdict R state b) R r s m e state b ∙ sym (ap timing x.feeds);
        whole = λ w. ap answer z ∙ whole_at (verdict R state b) R r s m e state b w ∙ sym (ap answer x.feeds);
        equal = rw (p, q) (view-same (reader_after R r f) (reader_after R s g) (feed_in R r f).lent.carry (feed_in R s g).lent.carry
            (y.steps.view ∙ ap (λ (t : State). state_by (verdict R t b) t (after R t b)) k ∙ sym x.steps.view));
      }

  both : SameRoom m e
      → (is_short m ≡ false → take (held_of r.core.pending) m.carry ≡ take (held_of r.core.pending) c)
      → (is_short e ≡ false → take (held_of s.core.pending) e.carry ≡ take (held_of s.core.pending) d)
      → Both R r s c d f g
  both room x y = by (is_short m) refl
    where
      by : (t : Bool) → is_short m ≡ t → Both R r s c d f g
      by true p = both-short p (room ∙ p)
      by false p = both-room p (room ∙ p) (turn R r c f p (x p)) (turn R s d g (room ∙ p) (y (room ∙ p)))

-- ---- one feeding alone

left_alone : (R : Readings) (r : Reader) (m : Lent) (b : Bytes) → left_in R r (feeding b m) m.carry ≡ (feed_in R r (feeding b m)).lent.carry
left_alone R r m b = by (is_short m) refl
  where
    by : (t : Bool) → is_short m ≡ t → pick t m.carry (feed_in R r (feeding b m)).lent.carry ≡ (feed_in R r (feeding b m)).lent.carry
    by true e = sym (ap (λ (f : Fed). f.lent.carry) (feeds-short R r m b e))
    by false e = refl

alone : (R : Readings) (r s : Reader) (m e : Lent) (b : Bytes) → SameRoom m e → CoresAgree r s m.carry e.carry
    → Both R r s m.carry e.carry (feeding b m) (feeding b e)
alone R r s m e b room same = both R r s m.carry e.carry b m e same room (λ p. refl) (λ p. refl)

equal_alone : (R : Readings) (r s : Reader) (m e : Lent) (b : Bytes) → Both R r s m.carry e.carry (feeding b m) (feeding b e)
    → CoresAgree (reader_after R r (feeding b m)) (reader_after R s (feeding b e)) (feed_in R r (feeding b m)).lent.carry (feed_in R s (feeding b e)).lent.carry
equal_alone R r s m e b k =
    subst (λ (x : Bytes). CoresAgree (reader_after R r (feeding b m)) (reader_after R s (feeding b e)) (feed_in R r (feeding b m)).lent.carry x)
    (left_alone R s e b)
    (subst (λ (x : Bytes). CoresAgree (reader_after R r (feeding b m)) (reader_after R s (feeding b e)) x (left_in R s (feeding b e) e.carry))
    (left_alone R r m b) k.equal)

tally-by : (r s : Reader) (a b : Answer) → a ≡ b → s.tally ≡ r.tally → (reader_by a.told s).tally ≡ (reader_by b.told r).tally
tally-by r s a b e q = ap₂ (λ (x : Answer) (y : Tally). (reader_by x.told (reader_of s.core y)).tally) e q ∙ free b.told
  where
    free : (t : Told Taken) → (reader_by t (reader_of s.core r.tally)).tally ≡ (reader_by t r).tally
    free (gives t) = refl
    free (refuses n) = refl

-- both lack the room: 1
pub short-told : ShortTold
short-told R r m b e = feeds-short R r m b e

pub same-timing : SameTiming
same-timing R r s m e b room same =
    let k : Both R r s m.carry e.carry (feeding b m) (feeding b e) = alone R r s m e b room same in
    record { told = k.told; equal = equal_alone R r s m e b k }

pub same_whole : SameAnswer
same_whole R r s m e b room same tally =
    let k : Both R r s m.carry e.carry (feeding b m) (feeding b e) = alone R r s m e b room same in
    record {
      answer = k.whole tally;
      equal = equal_alone R r s m e b k;
      tally = tally-by r s (answer (feed_in R s (feeding b e))) (answer (feed_in R r (feeding b m))) (k.whole tally) tally;
    }

-- ---- lists

pub same-timings : SameTimings
unfolding HandedOn SameRooms timings finally carry_left
same-timings R r s c d [] h j room same = record { told = refl; equal = same }
same-timings R r s c d (t ∷ ts) h j room same =
    let f : Feeding = feeding t.bytes t.one in
    let g : Feeding = feeding t.bytes t.other in
    let k : Both R r s c d f g = both R r s c d t.bytes t.one t.other same room.0 h.0 j.0 in
    let n : TimedAll R (reader_after R r f) (reader_after R s g) (left_in R r f c) (left_in R s g d) (ones ts) (others ts) =
    same-timings R (reader_after R r f) (reader_after R s g) (left_in R r f c) (left_in R s g d) ts h.1 j.1 room.1 k.equal in
    record { told = ap₂ (λ (a : Told Timing) (l : List (Told Timing)). a ∷ l) k.told n.told; equal = n.equal }

pub same-answers : SameAnswers
unfolding HandedOn SameRooms answers finally carry_left
same-answers R r s c d [] h j room same tally = record { told = refl; equal = same; tally = tally }
same-answers R r s c d (t ∷ ts) h j room same tally =
    let f : Feeding = feeding t.bytes t.one in
    let g : Feeding = feeding t.bytes t.other in
    let k : Both R r s c d f g = both R r s c d t.bytes t.one t.other same room.0 h.0 j.0 in
    let n : AnsweredAll R (reader_after R r f) (reader_after R s g) (left_in R r f c) (left_in R s g d) (ones ts) (others ts) =
    same-answers R (reader_after R r f) (reader_after R s g) (left_in R r f c) (left_in R s g d) ts h.1 j.1 room.1 k.equal
    (tally-by r s (answer (feed_in R s g)) (answer (feed_in R r f)) (k.whole tally) tally) in
    record { told = ap₂ (λ (a : Answer) (l : List Answer). a ∷ l) (k.whole tally) n.told; equal = n.equal; tally = n.tally }
