-- The carry buffer's end contents by the page's segments, and the numbers told. Assumes nothing.
use Prim.Native.Nat.{ℕ, ◌+◌, ◌≤◌}
use mathlib.Core.Path.{◌≡◌, refl, sym, ap, ap₂, subst, ◌∙◌}
use mathlib.Core.Bool.{Bool, true, false, not, ◌&&◌, ◌||◌, true≢false, false≢true}
use mathlib.Core.List.{List, [], ◌∷◌, ◌++◌, append-nil, append_assoc}
use mathlib.Core.Option.{Option, none, some}
use native.Mathlib.Omega.{arith}
use borrow.Author.Tests.{le-leb, lt-leb, eqb-true}
use lib.Dec.{ltb, eqb}
use lib.ListN.{length, take, drop}
use lib.Seq.{take-length, take-add, drop-drop}
use Rattle.octets.specs.Pick.{pick}
use Rattle.octets.specs.Octets.{Bytes, copied}
use Rattle.octets.proofs.Copying.{copied-fits}
use Rattle.refusal.specs.declared.Refusal.{Refusal}
use Rattle.refusal.specs.declared.Refusal.TheVariants.{AfterEnd, BadHead, ShortRoom, NoPosition}
use Rattle.refusal.specs.Checks.{Check, ◌when◌, first_of}
use Rattle.refusal.specs.Told.{Told, refuses}
use Rattle.refusal.specs.Numbers.{number_of}
use Rattle.page_lacing.specs.Lacing.{unfinished_from, cut_from}
use Rattle.granule.specs.Judging.{judge_checks}
use Rattle.stream.specs.declared.Phase.{Phase}
use Rattle.stream.specs.declared.Phase.TheVariants.{First, Comment, Audio, Opened, Ended}
use Rattle.stream.specs.declared.Pending.{Pending}
use Rattle.stream.specs.declared.Pending.TheVariants.{Nothing, Held, Dropped}
use Rattle.stream.specs.declared.Core.{Core}
use Rattle.stream.specs.Page.{Page, page_of, continued, last, granule_of, completes, whole_from, rest_from, whole, rest}
use Rattle.stream.specs.Readings.{Readings}
use Rattle.stream.specs.State.{Carried, nothing, dropped, held, State, is_ended, unfinished, expecting_in, expecting}
use Rattle.stream.specs.Packets.{Seen, begun, join, is_long, audio_packets, measures_of, samples_of}
use Rattle.limits.specs.Limits.{packet_max}
use Rattle.stream.specs.Lent.{Lent, is_short}
use Rattle.stream.specs.Rules.{shape_checks, packet_checks, audio_completes, time_checks, checks_on, verdict}
use Rattle.stream.specs.Stream.{segments, segments_of, left_from, open_from, carried_of}
use Rattle.stream.specs.Feed.{Reader, carried_in, view, first_piece, appended, new_rest, with_rest, first_late, is_late, carry_after, Taken, Fed, fed_by, feed}
use Rattle.stream.specs.CarryBuffer.{put, first_bytes, piece_at, put_at, with_piece, begins_one, with_begun, CarryIs, CarryExact, NumberTold}
use Rattle.stream.proofs.Pieces.{onwards, non_empty, whole-ends, Fits, piece-fits, RestFits, new_fits}
use Rattle.stream.proofs.Segments.{joins}
use Rattle.stream.proofs.Carry.{length-carry, is_done, not-long}
use Rattle.stream.proofs.AudioRun.{expected as found}
use Rattle.stream.proofs.Step.{enough, expected, saw, feeds, feeds-short, gives≢refuses, still_ended}

-- ---- pieces by segments

-- m bytes being read already
first-cut : (m : ℕ) (l body : Bytes)
    → first_piece (whole_from m l body) (rest_from m l body) ≡ take m body ++ first_bytes (segments l (drop m body))
unfolding cut_from unfinished_from first_bytes segments
first-cut m [] body = by (eqb m 0) refl
  where
    by : (t : Bool) → eqb m 0 ≡ t → first_piece [] (pick t none (some (take m body))) ≡ take m body ++ []
    by true e = rw (eqb-true m 0 e)
    by false e = sym (append-nil (take m body))
first-cut m (v ∷ l) body = by (ltb v 255) (first-cut (m + v) l body)
  where
    by : (t : Bool)
        → first_piece (whole_from (m + v) l body) (rest_from (m + v) l body) ≡ take (m + v) body ++ first_bytes (segments l (drop (m + v) body))
        → first_piece (onwards t (m + v) l body).whole
        (pick (eqb (pick t (unfinished_from 0 l) (unfinished_from (m + v) l)) 0) none (some (onwards t (m + v) l body).rest))
        ≡ take m body ++ (take v (drop m body) ++ pick t [] (first_bytes (segments l (drop v (drop m body)))))
    by true again = take-add m v body ∙ ap (λ (s : Bytes). take m body ++ s) (sym (append-nil (take v (drop m body))))
    by false again =
        again
        ∙ ap₂ (λ (s t : Bytes). s ++ first_bytes (segments l t)) (take-add m v body) (sym (drop-drop v m body))
        ∙ append_assoc (take m body) (take v (drop m body)) (first_bytes (segments l (drop v (drop m body))))

first-is : (p : Page) → first_piece (whole p) (rest p) ≡ first_bytes (segments_of p)
unfolding whole rest segments_of
first-is p = first-cut 0 p.lacing p.body

held≢nothing : {n : ℕ} {h : Bytes} → ◌≡◌ {A = Carried} (held n h) nothing → ⊥
held≢nothing {n} {h} e = true≢false (ap unfinished e)

begun-is : (r : Option Bytes) (o : Bool) (h : Bytes) → begun r ≡ carried_of o h → r ≡ pick o (some h) none
begun-is none true h e = absurd (held≢nothing (sym e))
begun-is none false h e = refl
begun-is (some b) true h e = ap some (cc)
begun-is (some b) false h e = absurd (held≢nothing e)

nothing_left : (ws : List Bytes) (r : Option Bytes) → (join nothing ws r).left ≡ begun r
unfolding join
nothing_left [] r = refl
nothing_left (w ∷ ws) r = refl

rest-is : (p : Page) → rest p ≡ pick (open_from false (segments_of p)) (some (left_from [] (segments_of p))) none
rest-is p =
    begun-is (rest p) (open_from false (segments_of p)) (left_from [] (segments_of p))
    (sym (nothing_left (whole p) (rest p)) ∙ (joins false [] p (λ w. refl)).left)

-- ---- copies that fit

copied-put : (c : Bytes) (n : ℕ) (b : Bytes) → n + length b ≤ length c → copied c n b ≡ put n b c
copied-put c n b h = copied-fits c n b h ∙ ap (λ (s : Bytes). take n c ++ s ++ drop (n + length b) c) (take-length b)

appended-put : (k : Core) (c b : Bytes) (p : Page) → is_ended k.phase ≡ false → packet_max ≤ length c → Fits (expecting (view k c) p).carried b
    → appended (expecting (view k c) p).phase (expecting (view k c) p).carried b c ≡ put_at (piece_at k.phase k.pending) b c
unfolding expecting
appended-put k c b p going room f = in_phase k.phase refl f
  where
    joining : (t : Bool) → appended Audio (pick t dropped nothing) b c ≡ c
    joining true = refl
    joining false = refl

    in_comment : (q : Pending) → Fits (carried_in q c) b → appended Comment (carried_in q c) b c ≡ put_at (piece_at Comment q) b c
    in_comment Nothing g = copied-put c 0 b (let h : length b ≤ packet_max = g in omega arith)
    in_comment (Held n) g = copied-put c n b (let h : n + length b ≤ packet_max = g in omega arith)
    in_comment Dropped g = refl

    in_audio_lem : (q : Pending) → Fits (carried_in q c) b → appended Audio (carried_in q c) b c ≡ put_at (piece_at Audio q) b c
    in_audio_lem Nothing g = refl
    in_audio_lem (Held n) g = copied-put c n b (let h : n + length b ≤ packet_max = g in omega arith)
    in_audio_lem Dropped g = refl

    in_phase : (ph : Phase) → k.phase ≡ ph → Fits (expecting_in ph (view k c) p).carried b
        → appended (expecting_in ph (view k c) p).phase (expecting_in ph (view k c) p).carried b c ≡ put_at (piece_at ph k.pending) b c
    in_phase First e g = refl
    in_phase Comment e g = ap (λ (ph : Phase). appended ph (carried_in k.pending c) b c) e ∙ in_comment k.pending g
    in_phase Audio e g = ap (λ (ph : Phase). appended ph (carried_in k.pending c) b c) e ∙ in_audio_lem k.pending g
    in_phase Opened e g = joining (continued p)
    in_phase Ended e g = absurd (true≢false (sym (ap is_ended e) ∙ going))

-- ---- the packet begun

and-true : (o : Bool) → (o && true) ≡ o
and-true true = refl
and-true false = refl

and_none : (o : Bool) → (o && false) ≡ false
and_none true = refl
and_none false = refl

-- d: a packet completes; c: the page is marked continued
new_is : (cr : Carried) (ws : List Bytes) (o : Bool) (h : Bytes) (c d : Bool) → non_empty ws ≡ d → c ≡ unfinished cr
    → new_rest cr ws (pick o (some h) none) ≡ pick (o && (not c || d)) (some h) none
new_is nothing ws o h c d e k = rw (k, and-true o)
new_is dropped [] o h c d e k = rw (k, ← e, and_none o)
new_is dropped (w ∷ ws) o h c d e k = rw (k, ← e, and-true o)
new_is (held n g) [] o h c d e k = rw (k, ← e, and_none o)
new_is (held n g) (w ∷ ws) o h c d e k = rw (k, ← e, and-true o)

begun-put : (t : Bool) (h c : Bytes) → packet_max ≤ length c → RestFits (pick t (some h) none) → with_rest (pick t (some h) none) c ≡ pick t (put 0 h c) c
begun-put true h c room f = copied-put c 0 h (omega arith)
begun-put false h c room f = refl

-- ---- a feeding with room

module _ (R : Readings) (r : Reader) (c b : Bytes) (room : packet_max ≤ length c) where
  abbrev p : Page
  p = page_of b

  abbrev t : State
  t = expected r c b

  abbrev first : Bytes
  first = first_piece (whole p) (rest p)

  -- past 9 the reader has not ended
  past_end : (a : Bool) (cs : List Check) → is_done (first_of (AfterEnd when a ∷ cs)) ≡ true → a ≡ false
  unfolding first_of
  past_end true cs k = absurd (false≢true k)
  past_end false cs k = refl

  going : is_done (verdict R (view r.core c) b) ≡ true → is_ended r.core.phase ≡ false
  unfolding verdict checks_on
  going k = sym (still_ended (view r.core c) p) ∙ past_end (is_ended t.phase) _ k

  long : is_done (verdict R (view r.core c) b) ≡ true → is_long t.carried p.lacing ≡ false
  unfolding verdict
  long k = not-long R t b (saw r c b) k

  piece-put : is_done (verdict R (view r.core c) b) ≡ true → appended t.phase t.carried first c ≡ with_piece r p c
  piece-put k =
      appended-put r.core c first p (going k) room (piece-fits t.carried p (long k))
      ∙ ap (λ (s : Bytes). put_at (piece_at r.core.phase r.core.pending) s c) (first-is p)

  from_12_put : (n : Refusal) → verdict R (view r.core c) b ≡ some n → number_of BadHead ≤ number_of n → carry_after (some n) t p c ≡ with_piece r p c
  unfolding carry_after
  from_12_put n e h =
      let l : is_late n ≡ true = le-leb first_late (number_of n) (omega arith) in
      ap (λ (x : Bool). pick x (appended t.phase t.carried first c) c) l ∙ piece-put (ap is_done e ∙ l)

  new_rest_lem : verdict R (view r.core c) b ≡ none → new_rest t.carried (whole p) (rest p) ≡ pick (begins_one p) (some (left_from [] (segments_of p))) none
  unfolding completes whole
  new_rest_lem e =
      ap (new_rest t.carried (whole p)) (rest-is p)
      ∙ new_is t.carried (whole p) (open_from false (segments_of p)) (left_from [] (segments_of p)) (continued p) (completes p)
      (whole-ends 0 p.lacing p.body) (found R (view r.core c) b e).continues

  accepted-put : verdict R (view r.core c) b ≡ none → carry_after none t p c ≡ with_begun p (with_piece r p c)
  unfolding carry_after
  accepted-put e =
      let k : is_done (verdict R (view r.core c) b) ≡ true = ap is_done e in
      let a : appended t.phase t.carried first c ≡ with_piece r p c = piece-put k in
      let size : length (appended t.phase t.carried first c) ≡ length c = length-carry (some BadHead) t p c in
      ap₂ with_rest (new_rest_lem e) a
      ∙ begun-put (begins_one p) (left_from [] (segments_of p)) (with_piece r p c)
      (subst (λ (s : Bytes). packet_max ≤ length s) a (subst (λ (n : ℕ). packet_max ≤ n) (sym size) room))
      (subst RestFits (new_rest_lem e) (new_fits t.carried p (long k)))

exact_by : (R : Readings) (r : Reader) (m : Lent) (b : Bytes) → packet_max ≤ length m.carry → (v : Option Refusal)
    → verdict R (view r.core m.carry) b ≡ v
    → CarryIs r (page_of b) m.carry (fed_by v R r m (expected r m.carry b) (page_of b) (saw r m.carry b)).lent.carry
    (fed_by v R r m (expected r m.carry b) (page_of b) (saw r m.carry b)).told
unfolding carry_after
exact_by R r m b room none e = record {
  untouched = λ n k. absurd (gives≢refuses k);
  appended = λ n k. absurd (gives≢refuses k);
  accepted = λ t k. accepted-put R r m.carry b room e;
}
exact_by R r m b room (some x) e = record {
  untouched = λ n k h. let same : number_of x ≡ n = cc in rw (lt-leb first_late (number_of x) (omega arith));
  appended = λ n k h. let same : number_of x ≡ n = cc in from_12_put R r m.carry b room x e (omega arith);
  accepted = λ t k. absurd (gives≢refuses (sym k));
}

pub carry_exact : CarryExact
carry_exact R r m b = by (is_short m) refl
  where
    by : (t : Bool) → is_short m ≡ t → CarryIs r (page_of b) m.carry (feed R r m b).lent.carry (feed R r m b).told
    by true e =
        subst (λ (f : Fed). CarryIs r (page_of b) m.carry f.lent.carry f.told) (sym (feeds-short R r m b e))
        (record {
          untouched = λ n k h. refl;
          appended = λ n k h. (let one : 1 ≡ n = cc in absurd (omega arith));
          accepted = λ t k. absurd (gives≢refuses (sym k));
        })
    by false e =
        subst (λ (f : Fed). CarryIs r (page_of b) m.carry f.lent.carry f.told) (sym (feeds R r m b e))
        (exact_by R r m b (enough m e) (verdict R (view r.core m.carry) b) refl)

-- ---- the numbers

abbrev In : ℕ → Type 0
In n = (number_of ShortRoom ≤ n) × (n ≤ number_of NoPosition)

abbrev AllIn : List Check → Type 0
AllIn [] = Unit {0}
AllIn ((r when t) ∷ cs) = In (number_of r) × AllIn cs

in_both : (cs ds : List Check) → AllIn cs → AllIn ds → AllIn (cs ++ ds)
in_both [] ds x y = y
in_both ((r when t) ∷ cs) ds x y = (x.0, in_both cs ds x.1 y)

some_same : {a b : Refusal} → ◌≡◌ {A = Option Refusal} (some a) (some b) → a ≡ b
some_same {a} {b} e = cc

first_in_lem : (cs : List Check) (n : Refusal) → AllIn cs → first_of cs ≡ some n → In (number_of n)
unfolding first_of
first_in_lem [] n x e = absurd (none≢some e)
  where
    none≢some : ◌≡◌ {A = Option Refusal} none (some n) → ⊥
    none≢some e = let z : ◌≡◌ {A = ℕ} 0 1 = cc in omega arith
first_in_lem ((r when true) ∷ cs) n x e = subst (λ (k : Refusal). In (number_of k)) (some_same e) x.0
first_in_lem ((r when false) ∷ cs) n x e = first_in_lem cs n x.1 e

packets_in_lem : (R : Readings) (n : ℕ) (bs : List Bytes) → AllIn (packet_checks R n bs)
unfolding packet_checks
packets_in_lem R n [] = tt
packets_in_lem R n (b ∷ bs) = (omega arith, (omega arith, packets_in_lem R n bs))

time_in : (R : Readings) (s : State) (g : Page) (x : Seen) → AllIn (time_checks R s g x)
unfolding time_checks
time_in R s g x = by (audio_completes s x)
  where
    by : (t : Bool) → AllIn (pick t (judge_checks s.position s.preskip (granule_of g) (samples_of (measures_of R s x)) (last g)) [])
    by true = omega arith
    by false = tt

all_in : (R : Readings) (s : State) (b : Bytes) (x : Seen) → AllIn (checks_on R s b x)
unfolding checks_on
all_in R s b x =
    let ps : List Check = packet_checks R s.streams (audio_packets s x) in
    let ts : List Check = time_checks R s (page_of b) x in
    in_both (shape_checks R s b x) (ps ++ ts) (omega arith) (in_both ps ts (packets_in_lem R s.streams (audio_packets s x)) (time_in R s (page_of b) x))

number_by : (R : Readings) (r : Reader) (m : Lent) (s : State) (b : Bytes) (x : Seen) (n : ℕ) (v : Option Refusal) → first_of (checks_on R s b x) ≡ v
    → (fed_by v R r m s (page_of b) x).told ≡ refuses n → In n
number_by R r m s b x n none e k = absurd (gives≢refuses k)
number_by R r m s b x n (some a) e k = let same : number_of a ≡ n = cc in subst In same (first_in_lem (checks_on R s b x) a (all_in R s b x) e)

pub number-told : NumberTold
unfolding verdict
number-told R r m b n k = let i = by (is_short m) refl in record { least = i.0; most = i.1 }
  where
    by : (t : Bool) → is_short m ≡ t → In n
    by true e =
        let told : ◌≡◌ {A = Told Taken} (refuses (number_of ShortRoom)) (refuses n) = sym (ap (λ (f : Fed). f.told) (feeds-short R r m b e)) ∙ k in
        let same : 1 ≡ n = cc in
        omega arith
    by false e =
        number_by R r m (expected r m.carry b) b (saw r m.carry b) n (verdict R (view r.core m.carry) b) refl
        (sym (ap (λ (f : Fed). f.told) (feeds R r m b e)) ∙ k)
