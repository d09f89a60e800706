-- What 9 to 14 leave, by what they found. Assumes nothing.
use Rattle.std.specs.Prelude.{Ok, Err}
use Prim.Native.Nat.{ℕ}
use mathlib.Core.Path.{◌≡◌, refl, sym, ap, ◌∙◌}
use mathlib.Core.Bool.{Bool, true, false, true≢false}
use mathlib.Core.List.{[]}
use mathlib.Core.Option.{Option, none, some}
use Rattle.octets.specs.Pick.{pick}
use Rattle.octets.specs.Octets.{Bytes}
use Rattle.refusal.specs.declared.Refusal.{Refusal}
use Rattle.refusal.specs.declared.Refusal.TheVariants.{PacketTooLong, HeaderShape, WrongGranule}
use Rattle.refusal.specs.Checks.{first_of}
use Rattle.refusal.specs.Numbers.{number_of}
use Rattle.refusal.specs.Told.{refuses, decided, number_in}
use Rattle.refusal.proofs.Checks.{first_of-append}
use Rattle.granule.specs.Judging.{granule_wrong}
use Rattle.granule.specs.Samples.{tally, kept_of, skipped_of, trimmed_of}
use Rattle.stream.specs.declared.Core.{Core}
use Rattle.stream.specs.Page.{Page, granule_of, whole, rest}
use Rattle.stream.specs.Shape.{shape_of, wrong_shape}
use Rattle.stream.specs.Readings.{Readings}
use Rattle.stream.specs.State.{State, in_headers}
use Rattle.stream.specs.Packets.{Seen, is_long, audio_packets, measures_of, samples_of}
use Rattle.stream.specs.Rules.{granule_most, lacing_checks, header_checks, next_on}
use Rattle.stream.specs.Lent.{Lent, with_carry}
use Rattle.stream.specs.Feed.{Reader as Known, core_of, entries, entries_on, counts_on, skip_on, tally_after, tally_on, first_piece, appended, is_late, carry_after, fed_by, no_counts, FedIs, told_page}
use Rattle.stream.proofs.Lent.{same-lent}
use Rattle.feed_header.specs.Header.{checks9to14}

-- ---- a refusal of 9 to 11

abbrev pub late_in : Option Refusal → Bool
late_in none = false
late_in (some n) = is_late n

-- ---- after 9 to 11

module _ (R : Readings) (t : State) (p : Page) (x : Seen) where
  pub lacing-refuses : (n : Refusal) → first_of (lacing_checks t p x) ≡ some n → first_of (checks9to14 R t p x) ≡ some n
  lacing-refuses n e =
      first_of-append (lacing_checks t p x) (header_checks R t x) ∙ rw e

  pub past-lacing : first_of (lacing_checks t p x) ≡ none
      → first_of (checks9to14 R t p x) ≡ first_of (header_checks R t x)
  past-lacing e =
      first_of-append (lacing_checks t p x) (header_checks R t x) ∙ rw e

  lacing_below_12 : late_in (first_of (lacing_checks t p x)) ≡ false
  unfolding first_of
  lacing_below_12 = by (is_long t.carried p.lacing) (wrong_shape t.phase (shape_of p.lacing))
      (granule_wrong (granule_most t.phase) x.completes (granule_of p))
    where
      by : (a b c : Bool) → late_in (pick a (some PacketTooLong) (pick b (some HeaderShape) (pick c (some WrongGranule) none))) ≡ false
      by true b c = refl
      by false true c = refl
      by false false true = refl
      by false false false = refl

  pub below_12 : (n : Refusal) → first_of (lacing_checks t p x) ≡ some n → is_late n ≡ false
  below_12 n e = sym (ap late_in e) ∙ lacing_below_12

  module _ (r : Known) (m : Lent) where
    -- a refusal before 12: all stays
    pub refused_below_12 : (n : Refusal) → first_of (lacing_checks t p x) ≡ some n
        → FedIs (fed_by (first_of (checks9to14 R t p x)) R r m t p x) (told_page (Err n)) m
    unfolding carry_after
    refused_below_12 n e = rw (lacing-refuses n e) (record { told = refl; lent = rw (below_12 n e) })

    -- a refusal by one of 12 to 14: the piece is in the carry buffer
    pub refused_late : (v : Option Refusal) {A : Type 0} (a : A) (why : Refusal) (carry : Bytes) → decided v a ≡ refuses (number_of why)
        → late_in v ≡ true → carry ≡ appended t.phase t.carried (first_piece (whole p) (rest p)) m.carry
        → FedIs (fed_by v R r m t p x) (told_page (Err why)) (with_carry m carry)
    unfolding carry_after
    refused_late none a why carry e l c = absurd (true≢false (sym l))
    refused_late (some n) a why carry e l c = record { told = ap refuses (sym (ap number_in e)); lent = same-lent (rw l c) refl refl refl refl }

    -- an accepted header page
    module _ (inside : in_headers t.phase ≡ true) where
      no_measures : measures_of R t x ≡ []
      unfolding measures_of audio_packets
      no_measures = rw inside

      no_counts_lem : (skip : ℕ) → counts_on R skip t p x ≡ no_counts
      unfolding counts_on samples_of kept_of skipped_of trimmed_of tally
      no_counts_lem skip = rw (no_measures, inside)

      no_entries : (skip : ℕ) → entries_on R skip t p x ≡ []
      unfolding entries_on entries
      no_entries skip = rw no_measures

      pub accepted : (v : Option Refusal) (core : Core) (skip : ℕ) (carry : Bytes) → v ≡ none → core ≡ core_of (next_on R t p x)
          → skip ≡ skip_on R r.tally.skip t p x → carry ≡ carry_after none t p m.carry
          → FedIs (fed_by v R r m t p x) (told_page (Ok (record { core = core; tally = (tally_after r.tally skip no_counts); counts = no_counts }))) (with_carry m carry)
      unfolding tally_on
      accepted v core skip carry e k s c =
          rw (e, no_counts_lem r.tally.skip, no_entries r.tally.skip, ← k, ← s) (record { told = refl; lent = same-lent c refl refl refl refl })
