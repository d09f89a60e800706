-- 1 to 8, stage by stage: what a refusal leaves, and what is left of feeding where none is given. Assumes nothing.
use Prim.Native.Nat.{ℕ}
use mathlib.Core.Path.{◌≡◌, refl, sym, ap, ap₂, ◌∙◌}
use mathlib.Core.Bool.{Bool, true, false, not, beq, true≢false}
use mathlib.Core.List.{[], ◌∷◌, ◌++◌}
use mathlib.Core.Option.{Option, none, some}
use native.Mathlib.Omega.{arith}
use borrow.Author.Tests.{not-false}
use lib.Dec.{eqb}
use lib.ListN.{length}
use Rattle.octets.specs.Pick.{pick}
use Rattle.octets.specs.Octets.{Bytes}
use Rattle.refusal.specs.declared.Refusal.{Refusal}
use Rattle.refusal.specs.declared.Refusal.TheVariants.{ShortRoom, AfterEnd, NotOnePage, WrongChecksum, OtherSerial, OutOfSequence, WrongFlags, WrongContinued}
use Rattle.refusal.specs.Checks.{◌when◌, first_of}
use Rattle.refusal.specs.Numbers.{number_of}
use Rattle.refusal.specs.Told.{gives, refuses, decided, number_in}
use Rattle.refusal.proofs.Checks.{first_of-append, no_refusal, passed}
use Rattle.page_layout.specs.declared.PageHeader.{PageHeader}
use Rattle.page_layout.specs.Page.{header_of, lacing_of, body_of, checksum_of}
use Rattle.page_size.specs.Size.{is_one_page}
use Rattle.page_reader.specs.Reading.{read_checks, read_page}
use Rattle.stream.specs.declared.Phase.{Phase}
use Rattle.stream.specs.declared.Phase.TheVariants.{First, Comment, Audio, Opened, Ended}
use Rattle.stream.specs.declared.Pending.{Pending}
use Rattle.stream.specs.declared.Pending.TheVariants.{Nothing, Held, Dropped}
use Rattle.stream.specs.declared.Core.{Core}
use Rattle.stream.specs.declared.Tally.{Tally}
use Rattle.stream.specs.Page.{Page, page_with, page_of, continued}
use Rattle.stream.specs.Readings.{Readings, readings}
use Rattle.stream.specs.State.{nothing, State, is_ended, unfinished, expecting_in, expecting, is_audio}
use Rattle.stream.specs.Packets.{seen}
use Rattle.stream.specs.Rules.{wrong_flags, field_checks, checks_on, verdict}
use Rattle.stream.specs.Feed.{carried_in, view, carry_after, fed_by, feed, Reader, reader_of, FedIs, Fed}
use Rattle.stream.specs.Lent.{Lent, is_short, short_by}
use Rattle.stream.proofs.Step.{still_ended, feeds, feeds-short}
use Rattle.feed_page.specs.Stages.{checks9to19, fed_from, fed_from9, unread_checks, Awaits}
use Rattle.feed_header.specs.Header.{is_header}
use Rattle.feed_header.proofs.Late.{late_in}

-- ---- what a core that expects a page is

pending-nothing : (k : Pending) (c : Bytes) → carried_in k c ≡ nothing → k ≡ Nothing
pending-nothing Nothing c e = refl
pending-nothing (Held n) c e = let z : ◌≡◌ {A = ℕ} 0 1 = cc in absurd (omega arith)
pending-nothing Dropped c e = let z : ◌≡◌ {A = ℕ} 0 1 = cc in absurd (omega arith)

ready : (core due : Core) (c : Bytes) (p : Page) → is_ended core.phase ≡ false → view due c ≡ expecting (view core c) p
    → is_audio due.phase ≡ false → is_header due.phase due.pending ≡ true
unfolding expecting
ready core due c p going e late = by core.phase refl
  where
    by : (ph : Phase) → core.phase ≡ ph → is_header due.phase due.pending ≡ true
    by First q =
        let f : view due c ≡ expecting_in First (view core c) p = rw q at e in
        let g : due.phase ≡ First = ap (λ (s : State). s.phase) f in
        rw (g, pending-nothing due.pending c (ap (λ (s : State). s.carried) f))
    by Comment q = let g : due.phase ≡ Comment = (let f = rw q at e in ap (λ (s : State). s.phase) f) in rw g
    by Audio q = let g : due.phase ≡ Audio = (let f = rw q at e in ap (λ (s : State). s.phase) f) in absurd (true≢false (rw g at late))
    by Opened q = let g : due.phase ≡ Audio = (let f = rw q at e in ap (λ (s : State). s.phase) f) in absurd (true≢false (rw g at late))
    by Ended q = absurd (true≢false (rw q at going))

-- ---- 5 to 8

module _ (R : Readings) (core due : Core) (tally : Tally) (m : Lent) (t : State) (p : Page) where
  -- 5 to 19
  abbrev fields_on : Fed
  fields_on = fed_by (first_of (field_checks t p ++ checks9to19 R t p (seen t p))) R (reader_of core tally) m t p (seen t p)

  -- the reader itself is not looked at
  same-core : (v : Option Refusal) → fed_by v R (reader_of core tally) m t p (seen t p) ≡ fed_by v R (reader_of due tally) m t p (seen t p)
  same-core none = refl
  same-core (some n) = refl

  past-fields : first_of (field_checks t p) ≡ none → first_of (field_checks t p ++ checks9to19 R t p (seen t p)) ≡ first_of (checks9to19 R t p (seen t p))
  past-fields e = first_of-append (field_checks t p) (checks9to19 R t p (seen t p)) ∙ rw e

  fields_passed : first_of (field_checks t p) ≡ none → fields_on ≡ fed_from R (reader_of due tally) m t p
  fields_passed e =
      ap (λ (v : Option Refusal). fed_by v R (reader_of core tally) m t p (seen t p)) (past-fields e)
      ∙ same-core (first_of (checks9to19 R t p (seen t p)))

  fields_below_12 : late_in (first_of (field_checks t p)) ≡ false
  unfolding first_of
  fields_below_12 = by (not (eqb p.header.serial t.serial)) (not (eqb p.header.sequence t.next)) (wrong_flags t.phase p.header.flags) (not (beq (continued p) (unfinished t.carried)))
    where
      by : (a b c d : Bool) → late_in (pick a (some OtherSerial) (pick b (some OutOfSequence) (pick c (some WrongFlags) (pick d (some WrongContinued) none)))) ≡ false
      by true b c d = refl
      by false true c d = refl
      by false false true d = refl
      by false false false true = refl
      by false false false false = refl

  fields-refused : (n : Refusal) → first_of (field_checks t p) ≡ some n → FedIs fields_on (refuses (number_of n)) m
  unfolding carry_after
  fields-refused n e =
      rw (first_of-append (field_checks t p) (checks9to19 R t p (seen t p)), e)
      (record { told = refl; lent = rw (sym (ap late_in e) ∙ fields_below_12) })

-- ---- 1 to 4

module _ (crc : Bytes → ℕ) (b : Bytes) (h : PageHeader) (e : read_page crc b ≡ gives h) where
  none_found : (first_of (read_checks crc b) ≡ none) × (header_of b ≡ h)
  unfolding read_page
  none_found = no_refusal (first_of (read_checks crc b)) (header_of b) h e

  clear : (not (is_one_page b) ≡ false) × (first_of (WrongChecksum when not (eqb (crc b) (checksum_of b)) ∷ []) ≡ none)
  clear = passed NotOnePage (not (is_one_page b)) _ none_found.0

short-by : (m : Lent) → is_short m ≡ short_by (length m.carry) (length m.ends) (length m.lengths) (length m.kept) (length m.frames)
unfolding is_short
short-by m = refl

module _ (crc : Bytes → ℕ) (core : Core) (tally : Tally) (m : Lent) (b : Bytes) where
  abbrev R : Readings
  R = readings crc

  abbrev r : Reader
  r = reader_of core tally

  abbrev F : Fed
  F = feed R r m b

  no_room : is_short m ≡ true → FedIs F (refuses (number_of ShortRoom)) m
  no_room e = rw (feeds-short R r m b e) (record { told = refl; lent = refl })

  module _ (room : is_short m ≡ false) where
    abbrev s : State
    s = view core m.carry

    abbrev t : State
    t = expecting s (page_of b)

    after-end : is_ended core.phase ≡ true → FedIs F (refuses (number_of AfterEnd)) m
    unfolding verdict checks_on first_of carry_after
    after-end e = rw (feeds R r m b room, still_ended s (page_of b) ∙ e) (record { told = refl; lent = refl })

    module _ (going : is_ended core.phase ≡ false) where
      pub not_a_page : (why : Refusal) → refuses (number_of why) ≡ read_page crc b → FedIs F (refuses (number_of why)) m
      unfolding verdict checks_on first_of carry_after read_page readings
      not_a_page why e =
          rw (feeds R r m b room, still_ended s (page_of b) ∙ going)
          (by (not (is_one_page b)) (not (eqb (crc b) (checksum_of b))) _ e)
        where
          by : (x y : Bool) (v : Option Refusal) → refuses (number_of why) ≡ decided (pick x (some NotOnePage) (pick y (some WrongChecksum) none)) (header_of b)
              → FedIs (fed_by (pick x (some NotOnePage) (pick y (some WrongChecksum) v)) R r m t (page_of b) (seen t (page_of b))) (refuses (number_of why)) m
          by true y v k = record { told = ap refuses (ap number_in k); lent = refl }
          by false true v k = record { told = ap refuses (ap number_in k); lent = refl }
          by false false v k = let z : ◌≡◌ {A = ℕ} 0 1 = cc in absurd (omega arith)

      -- a page: what is left is 5 to 19
      passes_on : (h : PageHeader) → read_page crc b ≡ gives h → F ≡ fields_on R core core tally m t (page_of b)
      unfolding verdict checks_on first_of readings
      passes_on h e =
          let right = passed WrongChecksum (not (eqb (crc b) (checksum_of b))) [] (clear crc b h e).1 in
          rw (feeds R r m b room, still_ended s (page_of b) ∙ going, (clear crc b h e).0, right.0)

      -- the core that expects it
      module _ (h : PageHeader) (e : read_page crc b ≡ gives h) (due : Core) (expects : view due m.carry ≡ expecting s (page_with h (lacing_of b) (body_of b))) where
        page-is : page_with h (lacing_of b) (body_of b) ≡ page_of b
        unfolding page_of
        page-is = rw (← (none_found crc b h e).1)

        due-is : view due m.carry ≡ t
        due-is = expects ∙ ap (expecting s) page-is

        same-fields : first_of (field_checks t (page_of b)) ≡ first_of (field_checks (view due m.carry) (page_with h (lacing_of b) (body_of b)))
        same-fields = ap₂ (λ (i : State) (q : Page). first_of (field_checks i q)) (sym due-is) (sym page-is)

        same_late : fed_from R (reader_of due tally) m t (page_of b) ≡ fed_from9 R (reader_of due tally) m (page_with h (lacing_of b) (body_of b))
        unfolding fed_from9
        same_late = ap₂ (λ (i : State) (q : Page). fed_from R (reader_of due tally) m i q) (sym due-is) (sym page-is)

        pub page-refused : (n : Refusal) → first_of (field_checks (view due m.carry) (page_with h (lacing_of b) (body_of b))) ≡ some n
            → FedIs F (refuses (number_of n)) m
        page-refused n k = rw (passes_on h e) (fields-refused R core due tally m t (page_of b) n (same-fields ∙ k))

        pub page_awaited : first_of (field_checks (view due m.carry) (page_with h (lacing_of b) (body_of b))) ≡ none → Awaits R core due h tally m b
        page_awaited k = record {
          one = not-false (is_one_page b) (clear crc b h e).0;
          ready = ready core due m.carry (page_with h (lacing_of b) (body_of b)) going expects;
          fed = λ is. rw (passes_on h e ∙ fields_passed R core due tally m t (page_of b) (same-fields ∙ k) ∙ same_late) is;
        }

-- 1 and 2
module _ (ph : Phase) (m : Lent) where
  abbrev found_unread : Option Refusal
  found_unread = first_of (unread_checks ph (length m.carry) (length m.ends) (length m.lengths) (length m.kept) (length m.frames))

  pub none_unread : found_unread ≡ none → (is_ended ph ≡ false) × (is_short m ≡ false)
  none_unread e =
      let first = passed ShortRoom (short_by (length m.carry) (length m.ends) (length m.lengths) (length m.kept) (length m.frames)) _ e in
      ((passed AfterEnd (is_ended ph) [] first.1).0, short-by m ∙ first.0)

pub some_unread : (crc : Bytes → ℕ) (core : Core) (tally : Tally) (m : Lent) (b : Bytes) (n : Refusal) → found_unread core.phase m ≡ some n
    → FedIs (feed (readings crc) (reader_of core tally) m b) (refuses (number_of n)) m
unfolding first_of
some_unread crc core tally m b n found = by (is_short m) (is_ended core.phase) refl refl (rw (short-by m) found)
  where
    by : (x y : Bool) → is_short m ≡ x → is_ended core.phase ≡ y → pick x (some ShortRoom) (pick y (some AfterEnd) none) ≡ some n
        → FedIs (feed (readings crc) (reader_of core tally) m b) (refuses (number_of n)) m
    by true y p q e = let k : ShortRoom ≡ n = cc in rw (← k) (no_room crc core tally m b p)
    by false true p q e = let k : AfterEnd ≡ n = cc in rw (← k) (after-end crc core tally m b p q)
    by false false p q e = let z : ◌≡◌ {A = ℕ} 0 1 = cc in absurd (omega arith)
