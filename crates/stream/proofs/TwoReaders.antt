-- One page of the stream, fed to the full reader and to one opened part way that has no granule position yet. Assumes nothing.
use Prim.Native.Nat.{ℕ, ◌+◌, ◌-◌, ◌≤◌}
use mathlib.Core.Path.{◌≡◌, refl, sym, ap, subst, ◌∙◌}
use mathlib.Core.Bool.{Bool, true, false, false≢true, true≢false}
use mathlib.Core.List.{List, [], ◌∷◌, ◌++◌, map}
use mathlib.Core.Option.{Option, none, some}
use native.Mathlib.Omega.{arith}
use borrow.Author.Tests.{ltb-false, le-ltb}
use lib.ListN.{length}
use Rattle.octets.specs.Pick.{pick}
use Rattle.octets.specs.Octets.{Bytes}
use Rattle.refusal.specs.declared.Refusal.TheVariants.{NoPosition}
use Rattle.refusal.specs.Checks.{first_of}
use Rattle.head_fields.specs.declared.Head.{Head}
use Rattle.granule.specs.declared.Position.{Position}
use Rattle.granule.specs.declared.Position.TheVariants.{Unset, Joined, At}
use Rattle.granule.specs.Judging.{too_small, from}
use Rattle.stream.specs.declared.Phase.TheVariants.{Audio, Ended}
use Rattle.stream.specs.Page.{page_of, last, granule_of}
use Rattle.packet_reader.specs.declared.Measure.{Measure}
use Rattle.stream.specs.Readings.{Readings}
use Rattle.stream.specs.State.{Carried, nothing, dropped, held, State, unfinished}
use Rattle.stream.specs.Packets.{Seen, begun, join, is_long, audio_packets, measures_of, samples_of}
use Rattle.stream.specs.Rules.{packet_checks, time_checks, checks_on, stamps, start_on, stamps_on}
use Rattle.stream.specs.Feedings.{drop_if}
use Rattle.stream.proofs.Pieces.{long-dropped}
use Rattle.stream.proofs.Clear.{Clear}
use Rattle.stream.proofs.Passed.{Shaped, shaped, timed, past-shape, completing_passes, piece_passes}

-- a state among the audio pages, written out so that the rules compute
abbrev pub audio : Bool → Carried → Position → ℕ → ℕ → Head → State
audio ended cr position serial next h = record {
  phase = pick ended Ended Audio;
  carried = cr;
  position = position;
  serial = serial;
  next = next;
  streams = h.streams;
  preskip = h.preskip;
}

-- ---- what the two readers carry

abbrev pub is_dropped : Carried → Bool
is_dropped nothing = false
is_dropped dropped = true
is_dropped (held n h) = false

-- the full reader's, and the other's
pub data Near : Carried → Carried → Type 0 where
  both-none : Near nothing nothing
  both-held : (n : ℕ) (h : Bytes) → Near (held n h) (held n h)
  cut_off : (n : ℕ) (h : Bytes) → Near (held n h) dropped

same-unfinished : {a b : Carried} → Near a b → unfinished b ≡ unfinished a
same-unfinished both-none = refl
same-unfinished (both-held n h) = refl
same-unfinished (cut_off n h) = refl

near-long : {a b : Carried} → Near a b → (l : Bytes) → is_long a l ≡ false → is_long b l ≡ false
near-long both-none l e = e
near-long (both-held n h) l e = e
near-long (cut_off n h) l e = long-dropped n l e

-- the packets of a page, for the full reader and for the other; d: the other reader drops one
pub record Close (d : Bool) (x y : Seen) : Type 0 where
  pub completes : y.completes ≡ x.completes
  pub packets : y.packets ≡ drop_if d x.packets
  pub empty : x.completes ≡ false → x.packets ≡ []
  pub going : x.completes ≡ false → Near x.left y.left
  pub drops : x.completes ≡ false → is_dropped y.left ≡ d
  pub done : x.completes ≡ true → y.left ≡ x.left

near-begun : (r : Option Bytes) → Near (begun r) (begun r)
near-begun none = both-none
near-begun (some b) = both-held (length b) b

begun_kept : (r : Option Bytes) → is_dropped (begun r) ≡ false
begun_kept none = refl
begun_kept (some b) = refl

-- a packet completes, or none
ended_close : (d : Bool) (x y : Seen) → x.completes ≡ true → y.completes ≡ true → y.packets ≡ drop_if d x.packets → y.left ≡ x.left
    → Close d x y
ended_close d x y e f p l = record {
  completes = f ∙ sym e;
  packets = p;
  empty = λ k. absurd (true≢false (sym e ∙ k));
  going = λ k. absurd (true≢false (sym e ∙ k));
  drops = λ k. absurd (true≢false (sym e ∙ k));
  done = λ k. l;
}

going_close : (d : Bool) (x y : Seen) → x.completes ≡ false → y.completes ≡ false → x.packets ≡ [] → y.packets ≡ [] → Near x.left y.left
    → is_dropped y.left ≡ d → Close d x y
going_close d x y e f p q n k = record {
  completes = f ∙ sym e;
  packets = q ∙ sym (ap (drop_if d) p);
  empty = λ k. p;
  going = λ k. n;
  drops = λ h. k;
  done = λ h. absurd (false≢true (sym e ∙ h));
}

pub close : {a b : Carried} → Near a b → (ws : List Bytes) (r : Option Bytes) → Close (is_dropped b) (join a ws r) (join b ws r)
unfolding join
close both-none [] r = going_close false (join nothing [] r) (join nothing [] r) refl refl refl refl (near-begun r) (begun_kept r)
close both-none (w ∷ ws) r = ended_close false (join nothing (w ∷ ws) r) (join nothing (w ∷ ws) r) refl refl refl refl
close (both-held n h) [] none = going_close false (join (held n h) [] none) (join (held n h) [] none) refl refl refl refl (both-held n h) refl
close (both-held n h) [] (some b) =
    going_close false (join (held n h) [] (some b)) (join (held n h) [] (some b)) refl refl refl refl (both-held (n + length b) (h ++ b)) refl
close (both-held n h) (w ∷ ws) r = ended_close false (join (held n h) (w ∷ ws) r) (join (held n h) (w ∷ ws) r) refl refl refl refl
close (cut_off n h) [] none = going_close true (join (held n h) [] none) (join dropped [] none) refl refl refl refl (cut_off n h) refl
close (cut_off n h) [] (some b) =
    going_close true (join (held n h) [] (some b)) (join dropped [] (some b)) refl refl refl refl (cut_off (n + length b) (h ++ b)) refl
close (cut_off n h) (w ∷ ws) r = ended_close true (join (held n h) (w ∷ ws) r) (join dropped (w ∷ ws) r) refl refl refl refl

-- ---- lists but for their first element

packets_clear : (R : Readings) (n : ℕ) (d : Bool) (ws : List Bytes) → Clear (packet_checks R n ws) → Clear (packet_checks R n (drop_if d ws))
unfolding packet_checks
packets_clear R n d [] c = tt
packets_clear R n true (w ∷ ws) c = c.1.1
packets_clear R n false (w ∷ ws) c = c

map-drop_if : {A B : Type 0} (f : A → B) (d : Bool) (l : List A) → map f (drop_if d l) ≡ drop_if d (map f l)
map-drop_if f d [] = refl
map-drop_if f true (x ∷ l) = refl
map-drop_if f false (x ∷ l) = refl

-- stamps back from G
stamps-drop_if : (d : Bool) (ds : List Measure) (g : ℕ) → samples_of ds ≤ g
    → stamps (g - samples_of (drop_if d ds)) (drop_if d ds) ≡ drop_if d (stamps (g - samples_of ds) ds)
unfolding stamps samples_of
stamps-drop_if d [] g h = refl
stamps-drop_if true (a ∷ ds) g h = ap (λ (n : ℕ). stamps n ds) (omega arith)
stamps-drop_if false (a ∷ ds) g h = refl

samples-drop_if : (d : Bool) (ds : List Measure) → samples_of (drop_if d ds) ≤ samples_of ds
unfolding samples_of
samples-drop_if d [] = omega arith
samples-drop_if true (a ∷ ds) = omega arith
samples-drop_if false (a ∷ ds) = omega arith

-- ---- what the full reader passes, the other passes, but for 19

abbrev pub NotJoined : Position → Type 0
NotJoined Unset = Unit {0}
NotJoined Joined = ⊥
NotJoined (At g) = Unit {0}

module _ (R : Readings) (h : Head) (cr cq : Carried) (position : Position) (serial next : ℕ) (b : Bytes) (x y : Seen) (near : Near cr cq)
    (c : Close (is_dropped cq) x y) where
  abbrev full : State
  full = audio false cr position serial next h

  abbrev other : State
  other = audio false cq Joined serial next h

  shape_passes : Shaped R full b x → Shaped R other b y
  unfolding audio_packets
  shape_passes k = record {
    going = refl;
    page = k.page;
    checksum = k.checksum;
    serial = k.serial;
    sequence = k.sequence;
    flags = k.flags;
    continues = rw (same-unfinished near) k.continues;
    short = near-long near (page_of b).lacing k.short;
    shape = refl;
    granule = rw c.completes k.granule;
    head = refl;
    mapping = refl;
    tags = refl;
    packets = subst (λ (ws : List Bytes). Clear (packet_checks R h.streams ws)) (sym c.packets)
        (packets_clear R h.streams (is_dropped cq) x.packets k.packets);
  }

  -- the measures on the two sides
  measures-alike : measures_of R other y ≡ drop_if (is_dropped cq) (measures_of R full x)
  unfolding measures_of audio_packets
  measures-alike = ap (map (R.measure_of h.streams)) c.packets ∙ map-drop_if (R.measure_of h.streams) (is_dropped cq) x.packets

  -- no packet completes: nothing is listed
  nothing-listed : (a : Carried) (q : Position) (z : Seen) → z.packets ≡ [] → stamps_on R (audio false a q serial next h) (page_of b) z ≡ []
  unfolding stamps_on start_on stamps measures_of audio_packets
  nothing-listed a q z e =
      ap (λ (l : List Bytes). stamps (from q (last (page_of b)) (granule_of (page_of b)) (samples_of (map (R.measure_of h.streams) l)))
      (map (R.measure_of h.streams) l)) e

  module _ (nj : NotJoined position) (v : first_of (checks_on R full b x) ≡ none) where
    other_shaped : Shaped R other b y
    other_shaped = shape_passes (shaped R full b x v)

    -- no packet completes: it passes, and nothing is listed
    pub going_passes : x.completes ≡ false → first_of (checks_on R other b y) ≡ none
    going_passes e = piece_passes R other b y (c.completes ∙ e) other_shaped

    pub going-lists : x.completes ≡ false → stamps_on R other (page_of b) y ≡ stamps_on R full (page_of b) x
    going-lists e = nothing-listed cq Joined y (c.packets ∙ ap (drop_if (is_dropped cq)) (c.empty e))
        ∙ sym (nothing-listed cr position x (c.empty e))

    -- a packet completes on a page marked last: 19
    pub last-refused : x.completes ≡ true → last (page_of b) ≡ true → first_of (checks_on R other b y) ≡ some NoPosition
    unfolding time_checks first_of
    last-refused e l =
        let f : y.completes ≡ true = c.completes ∙ e in
        past-shape R other b y other_shaped ∙ (rw (f, l) refl)

    -- a packet completes on another page: G is at least D
    enough : x.completes ≡ true → last (page_of b) ≡ false → samples_of (measures_of R full x) ≤ granule_of (page_of b)
    enough e l = by position nj (rw l at (timed R full b x e v).reaches)
      where
        by : (q : Position) → NotJoined q → too_small q false (granule_of (page_of b)) (samples_of (measures_of R full x)) ≡ false
            → samples_of (measures_of R full x) ≤ granule_of (page_of b)
        by Unset n t = ltb-false (granule_of (page_of b)) (samples_of (measures_of R full x)) t
        by Joined n t = absurd n
        by (At g) n t = let k : g + samples_of (measures_of R full x) ≤ granule_of (page_of b) = ltb-false (granule_of (page_of b))
            (g + samples_of (measures_of R full x)) t in omega arith

    enough_other : x.completes ≡ true → last (page_of b) ≡ false → samples_of (measures_of R other y) ≤ granule_of (page_of b)
    enough_other e l =
        let a : samples_of (drop_if (is_dropped cq) (measures_of R full x)) ≤ samples_of (measures_of R full x) = samples-drop_if (is_dropped cq) (measures_of R full x) in
        let k : samples_of (measures_of R full x) ≤ granule_of (page_of b) = enough e l in
        rw measures-alike (omega arith)

    pub next_passes : x.completes ≡ true → last (page_of b) ≡ false → first_of (checks_on R other b y) ≡ none
    next_passes e l =
        completing_passes R other b y (c.completes ∙ e) other_shaped
        (record {
          stands = rw l refl;
          skips = rw l refl;
          reaches = rw l
              (le-ltb (granule_of (page_of b)) (samples_of (measures_of R other y)) (enough_other e l));
        })

    pub next-lists : x.completes ≡ true → last (page_of b) ≡ false
        → stamps_on R other (page_of b) y ≡ drop_if (is_dropped cq) (stamps_on R full (page_of b) x)
    unfolding stamps_on start_on from
    next-lists e l = rw (l, measures-alike) (stamps-drop_if (is_dropped cq) (measures_of R full x) (granule_of (page_of b)) (enough e l))
