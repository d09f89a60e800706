-- The two ways of a page past 11, from what the private functions promise. Assumes nothing.
use Rattle.std.specs.Prelude.{Result, Ok, Err}
use Prim.Native.Nat.{ℕ, ◌≤◌}
use mathlib.Core.Path.{◌≡◌, sym, ap, ap₂, subst, ◌∙◌}
use mathlib.Core.List.{List, []}
use lib.ListN.{length, take}
use Rattle.octets.specs.Octets.{Bytes}
use Rattle.refusal.specs.declared.Refusal.{Refusal}
use Rattle.refusal.specs.Told.{Told}
use Rattle.page_layout.specs.declared.PageHeader.{PageHeader}
use Rattle.granule.specs.declared.Position.TheVariants.{At}
use Rattle.granule.specs.declared.Placed.{Placed}
use Rattle.granule.specs.Samples.{trimmed_of}
use Rattle.granule.specs.Judging.{placed}
use Rattle.stream.specs.declared.Phase.TheVariants.{Audio}
use Rattle.stream.specs.declared.Core.{Core}
use Rattle.stream.specs.declared.Tally.{Tally}
use Rattle.stream.specs.declared.Counts.{Counts}
use Rattle.stream.specs.Page.{whole_from, rest_from, whole, rest, page_with}
use Rattle.page_flags.specs.Flags.{is_last_page}
use Rattle.stream.specs.Lent.{Lent, lent_of, with_carry}
use Rattle.packet_reader.specs.declared.Measure.{Measure}
use Rattle.stream.specs.Readings.{readings}
use Rattle.stream.specs.State.{Carried}
use Rattle.stream.specs.Packets.{Seen, join, seen}
use Rattle.stream.specs.Feed.{carried_in, view, tally_after, first_piece, appended, with_rest, carry_after, reader_of, no_counts, FedIs, Taken, told_page}
use Rattle.feed_audio.specs.declared.packets.Piece.{Piece}
use Rattle.feed_audio.specs.Code.{first_from, count_of, measures_in, measured, packets_by, held_end, timed_by, Times, counts_by, rest_of, begun_by, still_by, fresh_by, next_core, on_past11, fed_past11, AnyCompletes, NoneCompletes}
use Rattle.feed_audio.specs.Alike.{FilledAs, UnfilledAs}
use Rattle.feed_audio.proofs.Splitting.{Ended, Open, ways}
use Rattle.feed_audio.proofs.Seeing.{completing, going, ended, first_ended, rest_ended, begun-rest, first_open, rest_open, Carries, carries}
use Rattle.feed_audio.proofs.Verdicts.{judges, measures_are}
use Rattle.feed_audio.proofs.Feeding.{in_audio, in_audio_lem, refused, accepted, piece-fed}
use Rattle.feed_lacing.specs.Scan.{tail_by}

-- what the place says of the trimmed samples
pub place-trimmed : (k : Core) (h : PageHeader) {n d : ℕ} {w : Placed} {packed : List ℕ} {x : Told (List Measure)} → Times (Ok (record { count = n; samples = d; place = w })) packed k h x
    → w.trimmed ≡ trimmed_of (is_last_page h.flags) h.granule w.from d
unfolding placed
place-trimmed k h {n} {d} {w} m = rw m.runs.place

module _ (crc : Bytes → ℕ) (k : Core) (t : Tally) (h : PageHeader) (l body : Bytes) (lent : Lent) where
  abbrev carry : Bytes
  carry = lent.carry

  abbrev carried : Carried
  carried = carried_in k.pending carry

  abbrev late_in : Core → Seen → Told Taken → Lent → Type 0
  late_in q x r m = FedIs (on_past11 (readings crc) (reader_of q t) lent (view q carry) (page_with h l body) x) r m

  -- from what is seen to the page, and to the state as it is
  late_by : {r : Told Taken} {m : Lent} (x : Seen) → k.phase ≡ Audio → join carried (whole_from 0 l body) (rest_from 0 l body) ≡ x
      → late_in (in_audio k) x r m → FedIs (fed_past11 (readings crc) (reader_of k t) lent (page_with h l body)) r m
  unfolding fed_past11 seen whole rest
  late_by {r} {m} x audio sees o =
      subst (λ (q : Core). late_in q (join (carried_in q.pending carry) (whole_from 0 l body) (rest_from 0 l body)) r m) (in_audio_lem k audio)
      (subst (λ (y : Seen). late_in (in_audio k) y r m) (sym sees) o)

  -- ---- where a packet completes

  abbrev joined : Bytes
  joined = appended Audio carried (take (first_from 0 l).bytes body) carry

  abbrev packets : List Bytes
  packets = packets_by k.pending (first_from 0 l).values (first_from 0 l).bytes l body joined

  abbrev tail : ℕ
  tail = tail_by k.pending l

  module _ {first : Piece} {left : ℕ} (s : AnyCompletes k h first left l body lent) (few : k.streams ≤ 255)
      {now : List ℕ} (n : now ≡ appended Audio carried (take first.bytes body) carry) where
    splits : Ended 0 l (first_from 0 l)
    splits = (ways 0 l).0 s.done

    now-joined : now ≡ joined
    now-joined = n ∙ ap (λ (f : Piece). appended Audio carried (take f.bytes body) carry) s.scanned.piece

    -- the packets as the code has them
    packets_are : packets_by k.pending first.values first.bytes l body now ≡ packets
    packets_are = ap₂ (λ (f : Piece) (c : Bytes). packets_by k.pending f.values f.bytes l body c) s.scanned.piece now-joined

    sees : join carried (whole_from 0 l body) (rest_from 0 l body) ≡ completing packets (rest_of tail body)
    sees =
        let room = subst (λ (f : Piece). held_end k.pending f.bytes ≤ length carry) s.scanned.piece s.measurable.held in
        ended l body carry s.fitting.sums splits k.pending room

    appends : now ≡ appended Audio carried (first_piece (whole_from 0 l body) (rest_from 0 l body)) carry
    appends = now-joined ∙ ap (λ (b : Bytes). appended Audio carried b carry) (sym (first_ended l body carry s.fitting.sums splits))

    -- the packets that are listed, as the code has them
    abbrev told : Told (List Measure)
    told = measured (count_of k.streams) (packets_by k.pending first.values first.bytes l body now)

    pub completing_refused : {why : Refusal} {es ss ks fs : List ℕ} → UnfilledAs why k h told (with_carry lent []) es ss ks fs
        → FedIs (fed_past11 (readings crc) (reader_of k t) lent (page_with h l body)) (told_page (Err why)) (lent_of now es ss ks fs)
    unfolding whole rest
    completing_refused {why} {es} {ss} {ks} {fs} u =
        let tells = u.times.tells ∙ ap (λ (ps : List Bytes). timed_by (measured (count_of k.streams) ps) k h) packets_are ∙ judges crc k h few packets in
        subst (λ (m : Lent). FedIs (fed_past11 (readings crc) (reader_of k t) lent (page_with h l body)) (told_page (Err why)) (with_carry m now))
        (sym u.stays)
        (late_by (completing packets (rest_of tail body)) s.fitting.audio sees
        (refused (readings crc) k t h l body lent packets (rest_of tail body) why tells appends))

    pub completing_accepted : {i d skip : ℕ} {w : Placed} {es ss ks fs later : List ℕ} {after : Core} {tally : Tally} {counts : Counts}
        → FilledAs i d w skip k h t.skip told (with_carry lent []) es ss ks fs
        → later ≡ with_rest (rest_of left body) now → counts ≡ counts_by i d w t.skip (is_last_page h.flags) h.granule
        → after ≡ next_core k h (begun_by left) (At h.granule) → tally ≡ tally_after t skip counts
        → FedIs (fed_past11 (readings crc) (reader_of k t) lent (page_with h l body)) (told_page (Ok (record { core = after; tally = tally; counts = counts }))) (lent_of later es ss ks fs)
    unfolding whole rest carry_after
    completing_accepted {i} {d} {skip} {w} {es} {ss} {ks} {fs} {later} {after} {tally} {counts} f c z a y =
        let m = f.times in
        let packed = f.packed in
        let tells = m.tells ∙ ap (λ (ps : List Bytes). timed_by (measured (count_of k.streams) ps) k h) packets_are ∙ judges crc k h few packets in
        let ds = measures_are crc k.streams few packets (measures_in (take i packed)) (m.runs.measures ∙ ap (measured (count_of k.streams)) packets_are) in
        let left_is : left ≡ tail = s.scanned.tail in
        let within : tail ≤ length body = subst (λ (n : ℕ). n ≤ length body) left_is s.left in
        let later-is =
        c ∙ ap₂ with_rest (ap (λ (n : ℕ). rest_of n body) left_is ∙ sym (rest_ended l body carry s.fitting.sums splits k.pending)) appends in
        late_by (completing packets (rest_of tail body)) s.fitting.audio sees
        (accepted (readings crc) k t h l body lent packets (rest_of tail body) i d w packed (begun_by left) tells ds m.runs.few m.runs.adds f.lists later-is a
        (begun-rest tail body within ∙ ap begun_by (sym left_is)) z y)

  -- ---- where none does

  pub piece-page : (bytes left : ℕ) {now later : List ℕ} {after : Core} → NoneCompletes k bytes left l body lent
      → now ≡ appended Audio carried (take bytes body) carry → later ≡ with_rest (rest_of (fresh_by k.pending left) body) now
      → after ≡ next_core k h (still_by k.pending left) k.position
      → FedIs (fed_past11 (readings crc) (reader_of k t) lent (page_with h l body)) (told_page (Ok (record { core = after; tally = (tally_after t t.skip no_counts); counts = no_counts }))) (with_carry lent later)
  unfolding whole rest carry_after
  piece-page bytes left {now} {later} {after} s n c a =
      let o : Open 0 l (first_from 0 l) = (ways 0 l).1 s.undone in
      let on : Carries l body carry s.fitting.sums o k.pending = carries l body carry s.fitting.sums o k.pending in
      let appends = n ∙ ap (λ (b : ℕ). appended Audio carried (take b body) carry) s.piece
      ∙ ap (λ (b : Bytes). appended Audio carried b carry) (sym (first_open l body carry s.fitting.sums o)) in
      let later-is =
      c ∙ ap₂ with_rest (ap (λ (n : ℕ). rest_of (fresh_by k.pending n) body) s.tail ∙ sym (rest_open l body carry s.fitting.sums o k.pending)) appends in
      late_by (going on.left) s.fitting.audio on.seen
      (piece-fed (readings crc) k t h l body lent on.left (still_by k.pending left) later-is a
      (on.still ∙ ap (still_by k.pending) (sym s.tail)))
