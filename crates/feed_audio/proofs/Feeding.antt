-- A page past 11, by what is seen of it: what the code tells and leaves is what the rules say. Assumes nothing.
use Rattle.std.specs.Prelude.{Result, Ok, Err}
use Prim.Native.Nat.{ℕ, ◌-◌, ◌≤◌}
use mathlib.Core.Path.{◌≡◌, refl, sym, ap, ap₂, ◌∙◌}
use mathlib.Core.List.{List, [], ◌++◌, map}
use mathlib.Core.Option.{Option, none, some}
use native.Mathlib.Omega.{arith}
use lib.ListN.{length, take}
use lib.Seq.{length-take-le}
use Rattle.octets.specs.Octets.{Bytes}
use Rattle.refusal.specs.declared.Refusal.{Refusal}
use Rattle.refusal.specs.Checks.{Check, first_of}
use Rattle.refusal.specs.Told.{Told, gives, refuses, decided, number_in}
use Rattle.refusal.specs.Numbers.{number_of}
use Rattle.page_layout.specs.declared.PageHeader.{PageHeader}
use Rattle.granule.specs.declared.Position.TheVariants.{At}
use Rattle.granule.specs.declared.Placed.{Placed}
use Rattle.granule.specs.Samples.{tally, trimmed_of, skipped_of, kept_of}
use Rattle.granule.specs.Judging.{placed}
use Rattle.stream.specs.declared.Phase.{Phase}
use Rattle.stream.specs.declared.Phase.TheVariants.{Audio}
use Rattle.stream.specs.declared.Pending.{Pending}
use Rattle.stream.specs.declared.Core.{Core}
use Rattle.stream.specs.declared.Tally.{Tally}
use Rattle.stream.specs.declared.Counts.{Counts}
use Rattle.stream.specs.Page.{Page, last, whole, rest, page_with}
use Rattle.page_flags.specs.Flags.{is_last_page}
use Rattle.stream.specs.Lent.{Lent, lent_of, with_carry}
use Rattle.packet_reader.specs.declared.Measure.{Measure}
use Rattle.stream.specs.Readings.{Readings}
use Rattle.stream.specs.State.{Carried, State}
use Rattle.stream.specs.Packets.{begun, audio_packets, measures_of, samples_of}
use Rattle.stream.specs.Rules.{packet_checks, time_checks, start_on, next_on}
use Rattle.stream.specs.Feed.{Reader, carried_in, pending_of, view, Entry, entries, entries_on, counts_on, skip_on, tally_after, tally_on, first_piece, appended, carry_after, with_entries, fed_by, reader_of, no_counts, FedIs, told_page}
use Rattle.stream.proofs.Step.{gives≢refuses}
use Rattle.feed_audio.specs.Code.{measures_in, Lists, counts_by, next_core, on_past11}
use Rattle.feed_audio.proofs.Measuring.{length-measures}
use Rattle.feed_audio.proofs.Verdicts.{judging, placing, late}
use Rattle.feed_audio.proofs.Seeing.{completing, going}

-- a state among the audio pages
abbrev pub in_audio : Core → Core
in_audio k = record { phase = Audio; pending = k.pending; position = k.position; serial = k.serial; next = k.next; streams = k.streams; preskip = k.preskip }

pub in_audio_lem : (k : Core) → k.phase ≡ Audio → in_audio k ≡ k
in_audio_lem k e =
    ap (λ (ph : Phase). record { phase = ph; pending = k.pending; position = k.position; serial = k.serial; next = k.next; streams = k.streams; preskip = k.preskip }) (sym e)

same-told : {a b : Core} {x y : Tally} {c d : Counts} → a ≡ b → x ≡ y → c ≡ d
    → told_page (Ok (record { core = a; tally = x; counts = c })) ≡ gives (record { reader = record { core = b; tally = y }; counts = d })
same-told e f g = cc

same_gives : {a b : Placed} → ◌≡◌ {A = Told Placed} (gives a) (gives b) → a ≡ b
same_gives e = cc

module _ (R : Readings) (k : Core) (t : Tally) (h : PageHeader) (l body : Bytes) (m : Lent) where
  abbrev reader : Reader
  reader = reader_of (in_audio k) t

  abbrev state : State
  state = view (in_audio k) m.carry

  abbrev page : Page
  page = page_with h l body

  abbrev carried : Carried
  carried = carried_in k.pending m.carry

  abbrev joined : Bytes
  joined = appended Audio carried (first_piece (whole page) (rest page)) m.carry

  -- ---- where a packet completes

  module _ (ps : List Bytes) (r : Option Bytes) where
    abbrev measures : List Measure
    measures = map (R.measure_of k.streams) ps

    abbrev checks : List Check
    checks = packet_checks R k.streams ps ++ judging k h measures

    pub refused : (why : Refusal) {now : Bytes} → refuses (number_of why) ≡ decided (first_of checks) (placing k h measures) → now ≡ joined
        → FedIs (on_past11 R reader m state page (completing ps r)) (told_page (Err why)) (with_carry m now)
    unfolding audio_packets time_checks measures_of last carry_after
    refused why {now} q c = by (first_of checks) refl q
      where
        by : (v : Option Refusal) → first_of checks ≡ v → refuses (number_of why) ≡ decided v (placing k h measures)
            → FedIs (fed_by v R reader m state page (completing ps r)) (told_page (Err why)) (with_carry m now)
        by none e q = absurd (gives≢refuses (sym q))
        by (some n) e q = record {
          told = ap refuses (ap number_in q);
          lent = ap (with_carry m) (rw (late R k h k.streams ps measures n e) c);
        }

    module _ (n d : ℕ) (w : Placed) (packed : List ℕ) {left : ℕ} {es ss ks fs : List ℕ} {later : Bytes} {after : Core} {tally : Tally} {counts : Counts} (next : Pending)
        (q : gives w ≡ decided (first_of checks) (placing k h measures)) (ds : measures_in (take n packed) ≡ measures) (few : n ≤ length packed)
        (adds : d ≡ samples_of (measures_in (take n packed)))
        (x : Lists left t.skip (samples_of (measures_in (take n packed)))
        (entries t.skip (is_last_page h.flags) h.granule w.from (measures_in (take n packed))) (with_carry m []) es ss ks fs)
        (c : later ≡ carry_after none state page m.carry) (a : after ≡ next_core k h next (At h.granule)) (p : pending_of (begun r) ≡ next)
        (s : counts ≡ counts_by n d w t.skip (is_last_page h.flags) h.granule) (y : tally ≡ tally_after t left counts) where
      sums : d ≡ samples_of measures
      sums = adds ∙ ap samples_of ds

      count : n ≡ length measures
      count = sym (length-take-le n packed few) ∙ sym (length-measures (take n packed)) ∙ ap length ds

      as_listed : w ≡ placing k h measures
          → entries t.skip (is_last_page h.flags) h.granule w.from (measures_in (take n packed))
          ≡ entries_on R t.skip state page (completing ps r)
      unfolding entries_on start_on measures_of audio_packets last placed
      as_listed e = ap₂ (λ (z : Placed) (es : List Measure). entries t.skip (is_last_page h.flags) h.granule z.from es) e ds

      as_counted : w ≡ placing k h measures → counts ≡ counts_on R t.skip state page (completing ps r)
      unfolding counts_on start_on measures_of audio_packets last placed
      as_counted e =
          s ∙ ap (λ (i : ℕ). counts_by i d w t.skip (is_last_page h.flags) h.granule) count
          ∙ ap₂ (λ (i : ℕ) (z : Placed). counts_by (length measures) i z t.skip (is_last_page h.flags) h.granule) sums e

      pub accepted : FedIs (on_past11 R reader m state page (completing ps r)) (told_page (Ok (record { core = after; tally = tally; counts = counts }))) (lent_of later es ss ks fs)
      unfolding audio_packets time_checks measures_of last next_on skip_on tally_on
      accepted = by (first_of checks) q
        where
          by : (v : Option Refusal) → gives w ≡ decided v (placing k h measures)
              → FedIs (fed_by v R reader m state page (completing ps r)) (told_page (Ok (record { core = after; tally = tally; counts = counts }))) (lent_of later es ss ks fs)
          by none q =
              let e : w ≡ placing k h measures = same_gives q in
              record {
                told = same-told (a ∙ ap (λ (z : Pending). next_core k h z (At h.granule)) (sym p))
                    (y ∙ ap₂ (tally_after t) (x.skips ∙ ap (λ (z : List Measure). t.skip - samples_of z) ds) (as_counted e)) (as_counted e);
                lent = ap₂ with_carry (x.lists ∙ ap (λ (es : List Entry). with_entries es (with_carry m [])) (as_listed e)) c;
              }
          by (some n) q = absurd (gives≢refuses q)

  -- ---- where none does

  pub piece-fed : {later : Bytes} {after : Core} (left : Carried) (next : Pending) → later ≡ carry_after none state page m.carry → after ≡ next_core k h next k.position
      → pending_of left ≡ next → FedIs (on_past11 R reader m state page (going left)) (told_page (Ok (record { core = after; tally = (tally_after t t.skip no_counts); counts = no_counts }))) (with_carry m later)
  unfolding audio_packets packet_checks time_checks first_of measures_of last next_on skip_on tally_on counts_on entries_on entries samples_of kept_of skipped_of trimmed_of tally
  piece-fed left next c a p = record {
    told = same-told (a ∙ ap (λ (z : Pending). next_core k h z k.position) (sym p)) (ap (λ (z : ℕ). tally_after t z no_counts) (omega arith)) refl;
    lent = ap (with_carry m) c;
  }
