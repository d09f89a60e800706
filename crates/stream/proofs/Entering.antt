-- A second reader without a granule position is fed the page at which it enters, its sequence numbers shifted. Assumes
-- nothing.
use Prim.Native.Nat.{ℕ, ◌+◌, ◌^◌, ◌≤◌, ◌<◌}
use mathlib.Core.Path.{◌≡◌, refl, sym, ap, ap₂, ◌∙◌}
use mathlib.Core.Bool.{Bool, true, false, true≢false, false≢true}
use mathlib.Core.List.{map}
use mathlib.Core.Option.{Option, none, some}
use native.Mathlib.Omega.{arith}
use borrow.Author.Tests.{ltb-false, le-ltb}
use Rattle.octets.specs.Octets.{Bytes}
use Rattle.refusal.specs.declared.Refusal.{Refusal}
use Rattle.refusal.specs.Checks.{first_of}
use Rattle.refusal.specs.Told.{gives}
use Rattle.granule.specs.declared.Position.{Position}
use Rattle.granule.specs.declared.Position.TheVariants.{Unset, Joined, At}
use Rattle.granule.specs.Judging.{too_small, from}
use Rattle.stream.specs.declared.Phase.{Phase}
use Rattle.stream.specs.declared.Phase.TheVariants.{Audio}
use Rattle.stream.specs.declared.Pending.TheVariants.{Nothing}
use Rattle.stream.specs.Page.{Page, page_of, continued, last, granule_of, completes}
use Rattle.stream.specs.Readings.{Readings}
use Rattle.stream.specs.State.{Carried, nothing, dropped, held, State, unfinished, expecting}
use Rattle.stream.specs.Packets.{Seen, seen, audio_packets, measures_of, samples_of}
use Rattle.stream.specs.Rules.{checks_on, start_on, stamps_on, next_on, verdict, after, stamped}
use Rattle.stream.specs.Feed.{Reader, carried_in, view, Taken, Fed, fed_by, feed}
use Rattle.stream.specs.Lent.{Lent, is_short}
use Rattle.stream.specs.Feedings.{Feeding, feed_in, reader_after, tell}
use Rattle.stream.specs.Statements.{state_shifted, BytesShifted, view_of, Alike}
use Rattle.stream.specs.Entering.{has_none, JustPast, Entrance, Enters}
use Rattle.stream.proofs.Passed.{Shaped, shaped, Timed, timed, completing_passes}
use Rattle.stream.proofs.Pieces.{seen-completes}
use Rattle.stream.proofs.Step.{gives≢refuses, expected, saw, feeds, feeds-short, state_by, tell_by, Stepped, stepped}
use Rattle.stream.proofs.AudioRun.{expected as found}
use Rattle.stream.proofs.Shift.{congruence}

-- ---- one page, on states that differ in their granule position alone

-- among the audio pages, written out so that the rules compute
abbrev pub among : Carried → ℕ → ℕ → ℕ → ℕ → Position → State
among cr serial next streams preskip position = record {
  phase = Audio;
  carried = cr;
  position = position;
  serial = serial;
  next = next;
  streams = streams;
  preskip = preskip;
}

-- the page is accepted in t as in s, with the same stamps, and the states after it are the same
pub record SameStep (R : Readings) (page : Bytes) (s t : State) : Type 0 where
  pub passes : verdict R t page ≡ none
  pub stamps : stamped R t page ≡ stamped R s page
  pub follows : after R t page ≡ after R s page

small-none : (q : Position) (g d : ℕ) → has_none q ≡ true → d ≤ g → too_small q false g d ≡ false
small-none Unset g d n h = le-ltb g d h
small-none Joined g d n h = le-ltb g d h
small-none (At p) g d n h = absurd (false≢true n)

small-room : (q : Position) (g d : ℕ) → too_small q false g d ≡ false → d ≤ g
small-room Unset g d e = ltb-false g d e
small-room Joined g d e = ltb-false g d e
small-room (At p) g d e = let k : p + d ≤ g = ltb-false g (p + d) e in omega arith

module _ (R : Readings) (b : Bytes) (cr : Carried) (serial next streams preskip : ℕ) where
  abbrev page : Page
  page = page_of b

  abbrev on : Position → State
  on q = among cr serial next streams preskip q

  abbrev sees : Position → Seen
  sees q = seen (on q) page

  same_saw : (p q : Position) → sees q ≡ sees p
  unfolding seen
  same_saw p q = refl

  shape_on : (p q : Position) (x : Seen) → Shaped R (on p) b x → Shaped R (on q) b x
  unfolding audio_packets
  shape_on p q x k = record {
    going = refl;
    page = k.page;
    checksum = k.checksum;
    serial = k.serial;
    sequence = k.sequence;
    flags = k.flags;
    continues = k.continues;
    short = k.short;
    shape = k.shape;
    granule = k.granule;
    head = refl;
    mapping = refl;
    tags = refl;
    packets = k.packets;
  }

  time_on : (p q : Position) (x : Seen) → has_none q ≡ true → last page ≡ false → Timed R (on p) b x → Timed R (on q) b x
  unfolding measures_of audio_packets
  time_on p q x n l k = record {
    stands = rw l refl;
    skips = rw l refl;
    reaches = rw l (small-none q (granule_of page) (samples_of (map (R.measure_of streams) x.packets)) n
        (small-room p (granule_of page) (samples_of (map (R.measure_of streams) x.packets)) (rw l at k.reaches)));
  }

  stamps_on_lem : (p q : Position) (x : Seen) → last page ≡ false → stamps_on R (on q) page x ≡ stamps_on R (on p) page x
  unfolding stamps_on start_on from measures_of audio_packets
  stamps_on_lem p q x l = rw l refl

  next_on_lem : (p q : Position) (x : Seen) → x.completes ≡ true → next_on R (on q) page x ≡ next_on R (on p) page x
  unfolding next_on
  next_on_lem p q x e = rw e refl

  pub meet : (p q : Position) → has_none q ≡ true → completes page ≡ true → last page ≡ false → verdict R (on p) b ≡ none → SameStep R b (on p) (on q)
  unfolding verdict stamped after expecting
  meet p q n e l v =
      let x : Seen = sees p in
      let done : x.completes ≡ true = seen-completes (on p) page ∙ e in
      record {
        passes = ap (λ (y : Seen). first_of (checks_on R (on q) b y)) (same_saw p q)
            ∙ completing_passes R (on q) b x done (shape_on p q x (shaped R (on p) b x v)) (time_on p q x n l (timed R (on p) b x done v));
        stamps = ap (stamps_on R (on q) page) (same_saw p q) ∙ stamps_on_lem p q x l;
        follows = ap (next_on R (on q) page) (same_saw p q) ∙ next_on_lem p q x done;
      }

-- ---- an accepted page

pub record Accepted (R : Readings) (r : Reader) (m : Lent) (b : Bytes) : Type 0 where
  pub room : is_short m ≡ false
  pub passes : verdict R (view r.core m.carry) b ≡ none

none-by : (R : Readings) (r : Reader) (m : Lent) (s : State) (p : Page) (x : Seen) (t : Taken) (v : Option Refusal)
    → (fed_by v R r m s p x).told ≡ gives t → v ≡ none
none-by R r m s p x t none e = refl
none-by R r m s p x t (some n) e = absurd (gives≢refuses (sym e))

pub was_accepted : (R : Readings) (r : Reader) (m : Lent) (b : Bytes) (t : Taken) → (feed R r m b).told ≡ gives t → Accepted R r m b
was_accepted R r m b t e = by (is_short m) refl
  where
    by : (k : Bool) → is_short m ≡ k → Accepted R r m b
    by true q = absurd (gives≢refuses (sym e ∙ ap (λ (f : Fed). f.told) (feeds-short R r m b q)))
    by false q = record {
      room = q;
      passes = none-by R r m (expected r m.carry b) (page_of b) (saw r m.carry b) t (verdict R (view r.core m.carry) b)
          (sym (ap (λ (f : Fed). f.told) (feeds R r m b q)) ∙ e);
    }

-- ---- the two readers

none-held : (cr : Carried) → unfinished cr ≡ false → cr ≡ nothing
none-held nothing e = refl
none-held dropped e = absurd (true≢false e)
none-held (held n h) e = absurd (true≢false e)

-- a page that continues nothing passes where nothing is unfinished
pub unheld : (R : Readings) (b : Bytes) (cr : Carried) (serial next streams preskip : ℕ) (q : Position) → continued (page_of b) ≡ false
    → verdict R (among cr serial next streams preskip q) b ≡ none → cr ≡ nothing
unfolding expecting
unheld R b cr serial next streams preskip q e v =
    none-held cr (sym (found R (among cr serial next streams preskip q) b v).continues ∙ e)

-- r, with nothing unfinished and another granule position
abbrev without : Reader → Position → Reader
without r q = record {
  core = record {
    phase = Audio;
    pending = Nothing;
    position = q;
    serial = r.core.serial;
    next = r.core.next;
    streams = r.core.streams;
    preskip = r.core.preskip;
  };
  tally = r.tally;
}

abbrev plainly : Reader → Carried → Position → State
plainly r cr q = among cr r.core.serial r.core.next r.core.streams r.core.preskip q

module _ (R : Readings) (n : ℕ) (r s : Reader) (f g : Feeding) (audio : r.core.phase ≡ Audio) (small : r.core.next < 2 ^ 32)
    (past : JustPast n r s) (room : is_short g.lent ≡ false) (bytes : BytesShifted R n f.bytes g.bytes)
    (enter : Entrance (page_of f.bytes)) (took : Accepted R r f.lent f.bytes) where
  abbrev b : Bytes
  b = f.bytes

  abbrev q : Position
  q = s.core.position

  abbrev mid : Reader
  mid = without r q

  abbrev here : State
  here = view_of r f.lent.carry

  in_audio_lem : here ≡ plainly r (carried_in r.core.pending f.lent.carry) r.core.position
  in_audio_lem = ap (λ (ph : Phase). record {
    phase = ph;
    carried = carried_in r.core.pending f.lent.carry;
    position = r.core.position;
    serial = r.core.serial;
    next = r.core.next;
    streams = r.core.streams;
    preskip = r.core.preskip;
  }) audio

  no_rest : carried_in r.core.pending f.lent.carry ≡ nothing
  no_rest =
      unheld R b (carried_in r.core.pending f.lent.carry) r.core.serial r.core.next r.core.streams r.core.preskip
      r.core.position enter.begins (sym (ap (λ (t : State). verdict R t b) in_audio_lem) ∙ took.passes)

  here-is : here ≡ plainly r nothing r.core.position
  here-is = in_audio_lem ∙ ap (λ (cr : Carried). plainly r cr r.core.position) no_rest

  met : SameStep R b (plainly r nothing r.core.position) (plainly r nothing q)
  met =
      meet R b nothing r.core.serial r.core.next r.core.streams r.core.preskip r.core.position q
      past.position enter.completes enter.goes (sym (ap (λ (t : State). verdict R t b) here-is) ∙ took.passes)

  shifted-view : view_of s g.lent.carry ≡ state_shifted n (view_of mid f.lent.carry)
  shifted-view =
      rw (past.phase, past.pending, past.serial, past.next, past.streams, past.preskip) refl

  far : Alike R n mid s f g
  far = congruence R n mid s f g took.room room refl small bytes shifted-view

  full : Stepped R r here b (verdict R here b) (feed_in R r f)
  full = stepped R r f.lent b took.room

  middle : Stepped R mid (plainly r nothing q) b (verdict R (plainly r nothing q) b) (feed_in R mid f)
  middle = stepped R mid f.lent b took.room

  near-told : tell (feed_in R mid f) ≡ tell (feed_in R r f)
  near-told =
      middle.told ∙ ap₂ tell_by met.passes met.stamps
      ∙ sym (full.told ∙ ap₂ tell_by took.passes (ap (λ (t : State). stamped R t b) here-is))

  near-stays : view_of (reader_after R mid f) (feed_in R mid f).lent.carry ≡ view_of (reader_after R r f) (feed_in R r f).lent.carry
  near-stays =
      middle.view ∙ ap (λ (v : Option Refusal). state_by v (plainly r nothing q) (after R (plainly r nothing q) b)) met.passes ∙ met.follows
      ∙ sym (full.view ∙ ap (λ (v : Option Refusal). state_by v here (after R here b)) took.passes ∙ ap (λ (t : State). after R t b) here-is)

  pub enters_by : Alike R n r s f g
  enters_by = record { told = far.told ∙ near-told; stays = far.stays ∙ ap (state_shifted n) near-stays }

pub enters : Enters
enters R n r s f g t audio small past room bytes enter took =
    enters_by R n r s f g audio small past room bytes enter (was_accepted R r f.lent f.bytes t took)
