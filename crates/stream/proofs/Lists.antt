-- What an accepted page leaves in the four lists, and that they have the room. Assumes nothing.
use Prim.Native.Nat.{ℕ, suc, ◌+◌, ◌-◌, ◌≤◌, ◌<◌, min}
use mathlib.Core.Path.{◌≡◌, refl, sym, ap, subst, ◌∙◌}
use mathlib.Core.Bool.{Bool, true, false}
use mathlib.Core.List.{List, [], ◌∷◌, map}
use mathlib.Core.Option.{Option, none, some}
use native.Mathlib.Omega.{arith}
use lib.Dec.{ltb}
use lib.ListN.{length, get_or, take, drop, length-take, length-drop}
use lib.Seq.{take-append_seam, drop-append_seam}
use Rattle.octets.specs.Pick.{pick}
use Rattle.octets.specs.Octets.{Bytes, Octets}
use Rattle.refusal.specs.declared.Refusal.{Refusal}
use Rattle.refusal.specs.Told.{Told, gives}
use Rattle.page_layout.specs.Page.{lacing_of, count_of}
use Rattle.page_lacing.specs.Lacing.{cut_from}
use Rattle.stream.specs.declared.Counts.{Counts}
use Rattle.stream.specs.Page.{page_of, whole_from, whole, rest}
use Rattle.packet_reader.specs.declared.Measure.{Measure}
use Rattle.stream.specs.Readings.{Readings}
use Rattle.stream.specs.State.{Carried, nothing, dropped, held, State, in_headers}
use Rattle.stream.specs.Packets.{Seen, join, seen, audio_packets, measures_of}
use Rattle.stream.specs.Rules.{verdict}
use Rattle.stream.specs.Feed.{Reader, view, Entry, entries, entries_on, counts_on, listed, Taken, Fed, fed_by, feed}
use Rattle.stream.specs.Lent.{Lent, is_short}
use Rattle.limits.specs.Limits.{list_max}
use Rattle.stream.specs.Statements.{HasFirst, Shows, AcceptedShows}
use Rattle.stream.proofs.Pieces.{onwards}
use Rattle.stream.proofs.Carry.{length-carry}
use Rattle.stream.proofs.Step.{expected, saw, feeds, feeds-short, gives≢refuses}

-- ---- how many packets a page has

whole-few : (n : ℕ) (l body : Bytes) → length (whole_from n l body) ≤ length l
unfolding cut_from
whole-few n [] body = omega arith
whole-few n (v ∷ l) body = by (ltb v 255) (whole-few 0 l (drop (n + v) body)) (whole-few (n + v) l body)
  where
    by : (t : Bool) → length (whole_from 0 l (drop (n + v) body)) ≤ length l → length (whole_from (n + v) l body) ≤ length l
        → length (onwards t (n + v) l body).whole ≤ length (v ∷ l)
    by true anew again = omega arith
    by false anew again = omega arith

join-few : (cr : Carried) (ws : List Bytes) (r : Option Bytes) → length (join cr ws r).packets ≤ length ws
unfolding join
join-few nothing [] r = omega arith
join-few nothing (w ∷ ws) r = omega arith
join-few dropped [] r = omega arith
join-few dropped (w ∷ ws) r = omega arith
join-few (held n h) [] none = omega arith
join-few (held n h) [] (some b) = omega arith
join-few (held n h) (w ∷ ws) r = omega arith

lacing-few : (b : Bytes) → Octets b → length (page_of b).lacing ≤ list_max
unfolding page_of lacing_of
lacing-few b o =
    let e : length (take (count_of b) (drop 27 b)) ≡ min (count_of b) (length (drop 27 b)) = length-take (count_of b) (drop 27 b) in
    let k : get_or b 26 0 < 256 = o.below 26 in
    omega arith

lacing-inside : (b : Bytes) → length (page_of b).lacing ≤ length b
unfolding page_of lacing_of
lacing-inside b = omega (arith, length-take (count_of b) (drop 27 b), length-drop 27 b)

length-map : {A B : Type 0} (f : A → B) (l : List A) → length (map f l) ≡ length l
length-map f [] = refl
length-map f (x ∷ l) = ap suc (length-map f l)

-- no more than it has lacing values
pub lacing-bounds : (R : Readings) (s : State) (b : Bytes) → length (measures_of R s (seen s (page_of b))) ≤ length (page_of b).lacing
unfolding measures_of audio_packets seen whole
lacing-bounds R s b = by (in_headers s.phase)
  where
    all : length (join s.carried (whole (page_of b)) (rest (page_of b))).packets ≤ length (page_of b).lacing
    all =
        let a : length (join s.carried (whole (page_of b)) (rest (page_of b))).packets ≤ length (whole (page_of b)) = join-few s.carried
        (whole (page_of b)) (rest (page_of b)) in
        let c : length (whole (page_of b)) ≤ length (page_of b).lacing = whole-few 0 (page_of b).lacing (page_of b).body in
        omega arith

    by : (t : Bool) → length (map (R.measure_of s.streams) (pick t [] (join s.carried (whole (page_of b)) (rest (page_of b))).packets)) ≤ length (page_of b).lacing
    by true = omega arith
    by false = rw (length-map (R.measure_of s.streams) (join s.carried (whole (page_of b)) (rest (page_of b))).packets) all

-- no more than a list has places
pub audio-few : (R : Readings) (s : State) (b : Bytes) → Octets b → length (measures_of R s (seen s (page_of b))) ≤ list_max
audio-few R s b o = omega (arith, lacing-bounds R s b, lacing-few b o)

-- no more than it has bytes
pub page-bounds : (R : Readings) (s : State) (b : Bytes) → length (measures_of R s (seen s (page_of b))) ≤ length b
page-bounds R s b = omega (arith, lacing-bounds R s b, lacing-inside b)

length-entries : (skip : ℕ) (end : Bool) (g at : ℕ) (ds : List Measure) → length (entries skip end g at ds) ≡ length ds
unfolding entries
length-entries skip end g at [] = refl
length-entries skip end g at (d ∷ ds) = ap suc (length-entries (skip - d.samples) end g (at + d.samples) ds)

-- ---- the lists

has_first : (f : Entry → ℕ) (es : List Entry) (old : List ℕ) → HasFirst old (listed f es old) (map f es)
has_first f es old = record {
  first = take-append_seam (map f es) (drop (length es) old);
  rest = drop-append_seam (map f es) (drop (length es) old) ∙ ap (λ (n : ℕ). drop n old) (sym (length-map f es));
}

shows-by : (R : Readings) (r : Reader) (m : Lent) (b : Bytes) (t : Taken) (v : Option Refusal) → Octets b
    → (fed_by v R r m (expected r m.carry b) (page_of b) (saw r m.carry b)).told ≡ gives t
    → Shows m (fed_by v R r m (expected r m.carry b) (page_of b) (saw r m.carry b)).lent
    (fed_by v R r m (expected r m.carry b) (page_of b) (saw r m.carry b)).entries t.counts
unfolding entries_on counts_on
shows-by R r m b t none o e =
    let s : State = expected r m.carry b in
    let x : Seen = saw r m.carry b in
    let es : List Entry = entries_on R r.tally.skip s (page_of b) x in
    let size : length es ≡ length (measures_of R s x) = length-entries _ _ _ _ (measures_of R s x) in
    let same : counts_on R r.tally.skip s (page_of b) x ≡ t.counts = ap (λ (w : Taken). w.counts) (same_taken e) in
    record {
      packets = ap (λ (c : Counts). c.packets) (sym same) ∙ sym size;
      few = (let k : length (measures_of R s x) ≤ list_max = audio-few R s b o in omega arith);
      ends = has_first (λ (n : Entry). n.end) es m.ends;
      lengths = has_first (λ (n : Entry). n.samples) es m.lengths;
      kept = has_first (λ (n : Entry). n.kept) es m.kept;
      frames = has_first (λ (n : Entry). n.frames) es m.frames;
      room = length-carry none s (page_of b) m.carry;
    }
  where
    same_taken : {a c : Taken} → ◌≡◌ {A = Told Taken} (gives a) (gives c) → a ≡ c
    same_taken {a} {c} e = cc
shows-by R r m b t (some n) o e = absurd (gives≢refuses (sym e))

pub accepted-shows : AcceptedShows
accepted-shows R r m b t o h = by (is_short m) refl
  where
    by : (w : Bool) → is_short m ≡ w → Shows m (feed R r m b).lent (feed R r m b).entries t.counts
    by true e = absurd (gives≢refuses (sym (sym (ap (λ (f : Fed). f.told) (feeds-short R r m b e)) ∙ h)))
    by false e =
        subst (λ (f : Fed). Shows m f.lent f.entries t.counts) (sym (feeds R r m b e))
        (shows-by R r m b t (verdict R (view r.core m.carry) b) o (sym (ap (λ (f : Fed). f.told) (feeds R r m b e)) ∙ h))
