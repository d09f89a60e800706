-- 1, 9 and 11 of an audio page, and what the two ways past them ask. Assumes nothing.
use Rattle.std.specs.Prelude.{Some, None, Result, Ok, Err}
use Rattle.refusal.specs.declared.Refusal.{Refusal}
use Rattle.stream.specs.declared.PageFed.{PageFed}
use Prim.Native.Nat.{ℕ, ◌+◌, ◌<◌, ◌≤◌, ◌^◌}
use mathlib.Core.Path.{◌≡◌, refl, sym, ap, subst, ◌∙◌}
use mathlib.Core.Bool.{Bool, true, false, not, ◌&&◌, false≢true}
use mathlib.Core.Option.{Option, some}
use native.Mathlib.Nat.{add-zero}
use native.Mathlib.Omega.{arith}
use borrow.Author.Tests.{ltb-false, leb-true, eqb-true, not-true}
use lib.Dec.{ltb, leb, eqb}
use lib.ListN.{length}
use Rattle.octets.specs.Pick.{pick}
use Rattle.octets.specs.Octets.{Bytes, total}
use Rattle.octets.proofs.Tests.{both}
use Rattle.refusal.specs.declared.Refusal.TheVariants.{PacketTooLong, WrongGranule}
use Rattle.refusal.specs.Checks.{first_of}
use Rattle.refusal.specs.Told.{Told}
use Rattle.page_layout.specs.declared.PageHeader.{PageHeader}
use Rattle.page_lacing.specs.Lacing.{unfinished_from, is_body}
use Rattle.granule.specs.Judging.{granule_max, granule_wrong}
use Rattle.stream.specs.declared.Phase.{Phase}
use Rattle.stream.specs.declared.Phase.TheVariants.{First, Comment, Audio, Opened, Ended as Over}
use Rattle.stream.specs.declared.Pending.{Pending}
use Rattle.stream.specs.declared.Pending.TheVariants.{Nothing, Held, Dropped}
use Rattle.stream.specs.declared.Core.{Core}
use Rattle.stream.specs.declared.PageFed.{PageFed}
use Rattle.stream.specs.declared.Tally.{Tally}
use Rattle.stream.specs.Page.{Page, completes, page_with}
use Rattle.stream.specs.Readings.{Readings}
use Rattle.stream.specs.State.{State, is_audio}
use Rattle.stream.specs.Packets.{Seen, seen, too_long, long_from, is_long}
use Rattle.limits.specs.Limits.{packet_max, list_max}
use Rattle.stream.specs.Lent.{Lent, is_short, short_by}
use Rattle.stream.specs.Feed.{carried_in, view, carry_after, fed_by, reader_of, FedIs, Taken, told_page}
use Rattle.stream.proofs.Pieces.{or_left, or_right, seen-completes}
use Rattle.feed_audio.specs.Audio.{is_audio_page, audio_checks, audio_fed, audio_on, FeedsAudio}
use Rattle.feed_audio.specs.Code.{first_from, held_end, fresh_by, checks_past11, fed_past11, Fitting, AnyCompletes, NoneCompletes}
use Rattle.feed_audio.proofs.Splitting.{Ended, ways, ends-first}
use Rattle.feed_audio.proofs.Seeing.{tail_le, tail-here}
use Rattle.feed_audio.proofs.Feeding.{in_audio, in_audio_lem}
use Rattle.feed_lacing.specs.Scan.{tail_by, scan_by}
use Rattle.feed_lacing.proofs.Scanning.{scan_long, scan_short}

-- ---- 1

is-audio : (ph : Phase) → is_audio ph ≡ true → ph ≡ Audio
is-audio First e = absurd (false≢true e)
is-audio Comment e = absurd (false≢true e)
is-audio Audio e = refl
is-audio Opened e = absurd (false≢true e)
is-audio Over e = absurd (false≢true e)

module _ (k : Core) (t : Tally) (h : PageHeader) (l body : Bytes) (lent : Lent) where
  abbrev page : Page
  page = page_with h l body

  -- the test as the code makes it
  abbrev pub tested : Bool
  tested =
      is_audio k.phase
      && (not (short_by (length lent.carry) (length lent.ends) (length lent.lengths) (length lent.kept) (length lent.frames))
      && is_body l body)

  pub fitting : tested ≡ true → Fitting k l body lent
  unfolding is_body
  fitting e =
      let a = both (is_audio k.phase) _ e in
      let b = both _ (is_body l body) a.1 in
      let c = both (leb (length l) 255) (eqb (total l) (length body)) b.1 in
      let short = not-true _ b.0 in
      let lists = or_right (ltb (length lent.carry) packet_max) _ short in
      let later = or_right (ltb (length lent.ends) list_max) _ lists in
      let last = or_right (ltb (length lent.lengths) list_max) _ later in
      record {
        audio = is-audio k.phase a.0;
        few = leb-true (length l) 255 c.0;
        sums = eqb-true (total l) (length body) c.1;
        carry = ltb-false (length lent.carry) packet_max (or_left (ltb (length lent.carry) packet_max) _ short);
        ends = ltb-false (length lent.ends) list_max (or_left (ltb (length lent.ends) list_max) _ lists);
        lengths = ltb-false (length lent.lengths) list_max (or_left (ltb (length lent.lengths) list_max) _ later);
        kept = ltb-false (length lent.kept) list_max (or_left (ltb (length lent.kept) list_max) _ last);
        frames = ltb-false (length lent.frames) list_max (or_right (ltb (length lent.kept) list_max) _ last);
      }

  pub not-due : (R : Readings) → tested ≡ false → FeedsAudio R (reader_of k t) page lent None lent
  unfolding is_audio_page is_short
  not-due R e = record { told = rw e; lent = rw e }

  pub due : (R : Readings) → tested ≡ true → (f : Result PageFed Refusal) {after : Lent}
      → FedIs (audio_on R (reader_of k t) lent page) (told_page f) after → FeedsAudio R (reader_of k t) page lent (Some f) after
  unfolding is_audio_page is_short
  due R e f {after} o = record { told = rw e (ap some o.told); lent = rw e o.lent }

-- ---- 9 and 11

module _ (R : Readings) (k : Core) (t : Tally) (h : PageHeader) (l body : Bytes) (all : Lent) (audio : k.phase ≡ Audio) where
  abbrev carry : Bytes
  carry = all.carry

  abbrev whole : Page
  whole = page_with h l body

  abbrev state : State
  state = view (in_audio k) carry

  abbrev sight : Seen
  sight = seen state whole

  abbrev long : Bool
  long = is_long (carried_in k.pending carry) l

  abbrev late : Option Refusal
  late = first_of (checks_past11 R state whole sight)

  verdict : first_of (audio_checks R state whole sight) ≡ pick long (some PacketTooLong) (pick (granule_wrong granule_max (first_from 0 l).ends h.granule) (some WrongGranule) late)
  unfolding first_of completes
  verdict =
      ap (λ (d : Bool). pick long (some PacketTooLong) (pick (granule_wrong granule_max d h.granule) (some WrongGranule) late)) (seen-completes state whole ∙ ends-first l)

  audio_as : {r : Told Taken} {after : Lent} (v : Option Refusal) → first_of (audio_checks R state whole sight) ≡ v
      → FedIs (fed_by v R (reader_of (in_audio k) t) all state whole sight) r after → FedIs (audio_on R (reader_of k t) all whole) r after
  unfolding audio_fed
  audio_as {r} {after} v same o =
      subst (λ (i : Core). FedIs (audio_on R (reader_of i t) all whole) r after) (in_audio_lem k audio)
      (subst (λ (w : Option Refusal). FedIs (fed_by w R (reader_of (in_audio k) t) all state whole sight) r after) (sym same) o)

  pub too_long_lem : None ≡ scan_by k.pending l → FedIs (audio_on R (reader_of k t) all whole) (told_page (Err PacketTooLong)) all
  unfolding carry_after
  too_long_lem e =
      let is : long ≡ true = scan_long k.pending l carry e in
      audio_as (some PacketTooLong)
      (verdict ∙ ap (λ (b : Bool). pick b (some PacketTooLong) (pick (granule_wrong granule_max (first_from 0 l).ends h.granule) (some WrongGranule) late)) is)
      (record { told = refl; lent = refl })

  module _ (rest : ℕ) (e : Some rest ≡ scan_by k.pending l) where
    passed : (long ≡ false) × (rest ≡ tail_by k.pending l)
    passed = scan_short k.pending l carry rest e

    not-long : first_of (audio_checks R state whole sight) ≡ pick (granule_wrong granule_max (first_from 0 l).ends h.granule) (some WrongGranule) late
    not-long =
        verdict ∙ ap (λ (b : Bool). pick b (some PacketTooLong) (pick (granule_wrong granule_max (first_from 0 l).ends h.granule) (some WrongGranule) late)) passed.0

    pub wrong-granule : granule_wrong granule_max (first_from 0 l).ends h.granule ≡ true
        → FedIs (audio_on R (reader_of k t) all whole) (told_page (Err WrongGranule)) all
    unfolding carry_after
    wrong-granule w =
        audio_as (some WrongGranule) (not-long ∙ ap (λ (b : Bool). pick b (some WrongGranule) late) w)
        (record { told = refl; lent = refl })

    pub past_eleven : granule_wrong granule_max (first_from 0 l).ends h.granule ≡ false → {r : Told Taken} {after : Lent}
        → FedIs (fed_past11 R (reader_of k t) all whole) r after → FedIs (audio_on R (reader_of k t) all whole) r after
    unfolding fed_past11
    past_eleven w {r} {after} o =
        audio_as late (not-long ∙ ap (λ (b : Bool). pick b (some WrongGranule) late) w)
        (subst (λ (i : Core). FedIs (fed_past11 R (reader_of i t) all whole) r after) (sym (in_audio_lem k audio)) o)

-- ---- what the two ways ask

held-short : (pending : Pending) (l carry : Bytes) → Ended 0 l (first_from 0 l) → is_long (carried_in pending carry) l ≡ false → held_end pending (first_from 0 l).bytes ≤ packet_max
held-short Nothing l carry e s = omega arith
held-short (Held n) l carry e s =
    ltb-false packet_max (n + (first_from 0 l).bytes)
    (or_left (too_long (n + (first_from 0 l).bytes)) _ (sym (e.long n) ∙ ap (λ (m : ℕ). long_from m l) (add-zero n) ∙ s))
held-short Dropped l carry e s = omega arith

granule-small : (done : Bool) (g : ℕ) → done ≡ true → granule_wrong granule_max done g ≡ false → g < 2 ^ 63
unfolding granule_wrong
granule-small true g t e = omega (arith, ltb-false granule_max g e)
granule-small false g t e = absurd (false≢true t)

fresh-fits : (pending : Pending) (l : Bytes) → fresh_by pending (tail_by pending l) ≤ total l
fresh-fits Nothing l = omega (arith, tail_le l 0)
fresh-fits (Held n) l = omega arith
fresh-fits Dropped l = omega arith

module _ (k : Core) (h : PageHeader) (l body : Bytes) (lent : Lent) (f : Fitting k l body lent) (rest : ℕ)
    (e : Some rest ≡ scan_by k.pending l) where
  shorts : (is_long (carried_in k.pending lent.carry) l ≡ false) × (rest ≡ tail_by k.pending l)
  shorts = scan_short k.pending l lent.carry rest e

  pub any_completes : (first_from 0 l).ends ≡ true → granule_wrong granule_max (first_from 0 l).ends h.granule ≡ false
      → AnyCompletes k h (first_from 0 l) rest l body lent
  any_completes done g =
      let s : Ended 0 l (first_from 0 l) = (ways 0 l).0 done in
      let tail : rest ≡ unfinished_from 0 l = shorts.1 ∙ tail-here l body lent.carry f.sums s k.pending in
      record {
        fitting = f;
        scanned = record { piece = refl; short = shorts.0; tail = shorts.1 };
        done = done;
        measurable = record {
          few = f.few;
          room = f.ends;
          some = s.some;
          within = s.within;
          sums = omega (arith, f.sums);
          rest = omega (arith, f.sums, s.sums);
          held = omega (arith, f.carry, held-short k.pending l lent.carry s shorts.0);
        };
        bytes = omega (arith, f.sums, s.sums);
        left = omega (arith, tail, tail_le l 0, f.sums);
        granule = granule-small (first_from 0 l).ends h.granule done g;
      }

  module _ (undone : (first_from 0 l).ends ≡ false) where
    pub none-completes : NoneCompletes k (first_from 0 l).bytes rest l body lent
    none-completes = record { fitting = f; piece = refl; tail = shorts.1; undone = undone }

    pub piece-fits : ((first_from 0 l).bytes ≤ length body) × (fresh_by k.pending rest ≤ length body)
    piece-fits =
        (omega (arith, ((ways 0 l).1 undone).sums, f.sums), rw shorts.1 (omega (arith, fresh-fits k.pending l, f.sums)))
