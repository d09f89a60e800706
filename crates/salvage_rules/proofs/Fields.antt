-- The fields of the pages of an accepted stream: one serial, and numbers one after the other. Assumes nothing.
use Prim.Native.Nat.{ℕ, ◌+◌, ◌%◌, ◌^◌}
use mathlib.Core.Path.{◌≡◌, refl, sym, ap, ◌∙◌}
use mathlib.Core.Bool.{Bool, true, false, not, ◌&&◌, ◌||◌, beq}
use mathlib.Core.Option.{none}
use lib.Dec.{ltb}
use borrow.Author.Tests.{not-false, eqb-true}
use Rattle.octets.specs.Octets.{Bytes}
use Rattle.stream.specs.declared.Phase.{Phase}
use Rattle.stream.specs.declared.Phase.TheVariants.{First, Comment, Audio, Opened, Ended}
use Rattle.page_flags.specs.Flags.{is_first_page, is_last_page}
use Rattle.stream.specs.Page.{Page, page_of}
use Rattle.stream.specs.Readings.{Readings}
use Rattle.stream.specs.State.{State, is_first, in_headers, expecting_in, expecting}
use Rattle.stream.specs.Packets.{seen}
use Rattle.stream.specs.Rules.{wrong_flags, after_phase, next_on, verdict, after}
use Rattle.stream.proofs.Passed.{Shaped, shaped}
use Rattle.recording.specs.Judging.{fresh}
use Rattle.salvage_search.proofs.Starting.{true-false}

neither : (a b : Bool) → a || b ≡ false → (a ≡ false) × (b ≡ false)
neither true b e = true-false e
neither false b e = (refl, e)

-- ---- a state past its first page expects the page as it is

abbrev pub is_later : Phase → Bool
is_later First = false
is_later Comment = true
is_later Audio = true
is_later Opened = false
is_later Ended = true

later_in : (ph : Phase) (s : State) (p : Page) → is_later ph ≡ true → expecting_in ph s p ≡ s
later_in First s p e = true-false (sym e)
later_in Comment s p e = refl
later_in Audio s p e = refl
later_in Opened s p e = true-false (sym e)
later_in Ended s p e = refl

expects : (s : State) (p : Page) → is_later s.phase ≡ true → expecting s p ≡ s
unfolding expecting
expects s p e = later_in s.phase s p e

later-phase : (ph : Phase) (done end : Bool) → is_later (after_phase ph done end) ≡ true
later-phase First done end = refl
later-phase Comment true end = refl
later-phase Comment false end = refl
later-phase Audio done true = refl
later-phase Audio done false = refl
later-phase Opened done true = refl
later-phase Opened done false = refl
later-phase Ended done end = refl

-- ---- a page that passes, and the state after it

module _ (R : Readings) (s : State) (b : Bytes) where
  pub later : is_later (after R s b).phase ≡ true
  unfolding after next_on
  later = later-phase (expecting s (page_of b)).phase _ _

  pub next-serial : (after R s b).serial ≡ (page_of b).header.serial
  unfolding after next_on
  next-serial = refl

  pub next-sequence : (after R s b).next ≡ ((page_of b).header.sequence + 1) % 2 ^ 32
  unfolding after next_on
  next-sequence = refl

  module _ (v : verdict R s b ≡ none) where
    shape : Shaped R (expecting s (page_of b)) b (seen (expecting s (page_of b)) (page_of b))
    unfolding verdict
    shape = shaped R (expecting s (page_of b)) b (seen (expecting s (page_of b)) (page_of b)) v

    first_test : not (beq (is_first_page (page_of b).header.flags) (is_first (expecting s (page_of b)).phase)) ≡ false
    unfolding wrong_flags
    first_test =
        let n : ℕ = (page_of b).header.flags in
        let ph : Phase = (expecting s (page_of b)).phase in
        let other : Bool = not (beq (is_first_page n) (is_first ph)) in
        let end : Bool = in_headers ph && is_last_page n in
        (neither other end (neither (ltb 7 n) (other || end) shape.flags).1).0

    pub serial_passes : (page_of b).header.serial ≡ (expecting s (page_of b)).serial
    serial_passes = eqb-true _ _ (not-false _ shape.serial)

    pub sequence_passes : (page_of b).header.sequence ≡ (expecting s (page_of b)).next
    sequence_passes = eqb-true _ _ (not-false _ shape.sequence)

    pub first_passes : beq (is_first_page (page_of b).header.flags) (is_first (expecting s (page_of b)).phase) ≡ true
    first_passes = not-false _ first_test

    pub serial-later : is_later s.phase ≡ true → (page_of b).header.serial ≡ s.serial
    serial-later l = serial_passes ∙ ap (λ (t : State). t.serial) (expects s (page_of b) l)

    pub sequence-later : is_later s.phase ≡ true → (page_of b).header.sequence ≡ s.next
    sequence-later l = sequence_passes ∙ ap (λ (t : State). t.next) (expects s (page_of b) l)

-- ---- the first page of all

module _ (R : Readings) (b : Bytes) (v : verdict R fresh b ≡ none) where
  pub first-sequence : (page_of b).header.sequence ≡ 0
  unfolding expecting
  first-sequence = sequence_passes R fresh b v

  is_true : (t : Bool) → beq t true ≡ true → t ≡ true
  is_true true e = refl
  is_true false e = e

  pub first-mark : is_first_page (page_of b).header.flags ≡ true
  unfolding expecting
  first-mark = is_true _ (first_passes R fresh b v)
