-- The page of the identification header, after 9 to 11: 12 and 13, and the reader that follows. Assumes nothing.
use Rattle.std.specs.Prelude.{Ok, Err}
use Prim.Native.Nat.{ℕ}
use mathlib.Core.Path.{◌≡◌, refl, ap, ◌∙◌}
use mathlib.Core.Bool.{Bool, true, false, not}
use mathlib.Core.List.{[], ◌∷◌}
use mathlib.Core.Option.{Option, none, some}
use native.Mathlib.Omega.{arith}
use lib.ListN.{length}
use Rattle.octets.specs.Pick.{pick}
use Rattle.octets.specs.Octets.{Bytes, total}
use Rattle.refusal.specs.declared.Refusal.{Refusal}
use Rattle.refusal.specs.declared.Refusal.TheVariants.{PacketTooLong, HeaderShape, BadHead, BadMapping}
use Rattle.refusal.specs.Checks.{first_of}
use Rattle.refusal.specs.Numbers.{number_of}
use Rattle.refusal.specs.Told.{gives, refuses, decided}
use Rattle.refusal.proofs.Checks.{no_refusal, passed}
use Rattle.page_layout.specs.declared.PageHeader.{PageHeader}
use Rattle.head_fields.specs.declared.Head.{Head}
use Rattle.head_reader.specs.Fields.{head_of}
use Rattle.head_fields.specs.Right.{right_mapping}
use Rattle.head_reader.specs.Reading.{is_head, read_checks, read_head}
use Rattle.stream.specs.declared.Phase.TheVariants.{First, Comment}
use Rattle.stream.specs.declared.Pending.TheVariants.{Nothing}
use Rattle.stream.specs.declared.Core.{Core}
use Rattle.stream.specs.declared.Tally.{Tally}
use Rattle.stream.specs.Page.{Page, page_with}
use Rattle.stream.specs.Readings.{Readings, readings}
use Rattle.stream.specs.State.{nothing, State, in_headers}
use Rattle.stream.specs.Packets.{join, seen, is_long}
use Rattle.stream.specs.Rules.{lacing_checks, next_on}
use Rattle.stream.specs.Feed.{core_of, view, skip_on, tally_after, carry_after, no_counts, reader_of, FedIs, told_page}
use Rattle.stream.specs.Lent.{Lent}
use Rattle.stream.specs.Shape.{shape_of, wrong_shape}
use Rattle.stream.specs.declared.Shape.TheVariants.{Ends}
use Rattle.feed_header.proofs.HeaderPages.{is_last, says_last}
use Rattle.feed_header.proofs.Late.{late_in, refused_below_12, refused_late, past-lacing, accepted}
use Rattle.feed_header.specs.Header.{header_on, header_fed, checks9to14}
use Rattle.feed_next.specs.Next.{core_after}

module _ (crc : Bytes → ℕ) (core : Core) (tally : Tally) (m : Lent) (h : PageHeader) (lacing body : Bytes) (first : core.phase ≡ First) (none_left : core.pending ≡ Nothing) where
  abbrev t : State
  t = view core m.carry

  abbrev p : Page
  p = page_with h lacing body

  abbrev R : Readings
  R = readings crc

  pub inside : in_headers core.phase ≡ true
  inside = rw first

  pub head_below_12 : (n : Refusal) → first_of (lacing_checks t p (seen t p)) ≡ some n
      → FedIs (header_on (readings crc) (reader_of core tally) m (page_with h lacing body)) (told_page (Err n)) m
  unfolding header_fed
  head_below_12 n e = refused_below_12 R t p (seen t p) (record { core = core; tally = tally }) m n e

  module _ (sums : total lacing ≡ length body) (clear : first_of (lacing_checks t p (seen t p)) ≡ none) where
    -- 10 lets only one whole packet pass
    e : shape_of lacing ≡ Ends
    e =
        let passes = (passed PacketTooLong (is_long t.carried lacing) _ clear).1 in
        is_last (shape_of lacing) (rw first at (passed HeaderShape (wrong_shape core.phase (shape_of lacing)) _ passes).0)

    is_seen : seen t p ≡ record { packets = body ∷ []; left = nothing; completes = true }
    unfolding seen join
    is_seen = rw (none_left, (says_last p sums e).0, (says_last p sums e).1)

    pub found : first_of (checks9to14 R t p (seen t p)) ≡ first_of (read_checks body)
    unfolding first_of readings
    found = past-lacing R t p (seen t p) clear ∙ rw (is_seen, first)

    next-core : core_after h Comment Nothing core.position (head_of body).streams (head_of body).preskip ≡ core_of (next_on R t p (seen t p))
    unfolding next_on readings
    next-core = rw (is_seen, first)

    skip-after : (head_of body).preskip ≡ skip_on R tally.skip t p (seen t p)
    unfolding skip_on next_on readings
    skip-after = rw (is_seen, first)

    carries : m.carry ≡ carry_after none t p m.carry
    unfolding carry_after
    carries = rw (first, none_left, (says_last p sums e).1)

    -- a refusal by 12 or 13
    pub head-refused : (why : Refusal) → read_head body ≡ refuses (number_of why)
        → FedIs (header_on (readings crc) (reader_of core tally) m (page_with h lacing body)) (told_page (Err why)) m
    unfolding header_fed read_head first_of
    head-refused why r =
        refused_late R t p (seen t p) (record { core = core; tally = tally }) m (first_of (checks9to14 R t p (seen t p))) (head_of body) why m.carry
        (ap (λ (v : Option Refusal). decided v (head_of body)) found ∙ r)
        (ap late_in found ∙ by (not (is_head body)) (not (right_mapping (head_of body))) r) (rw (first, none_left))
      where
        by : (a b : Bool) → decided (pick a (some BadHead) (pick b (some BadMapping) none)) (head_of body) ≡ refuses (number_of why)
            → late_in (pick a (some BadHead) (pick b (some BadMapping) none)) ≡ true
        by true b k = refl
        by false true k = refl
        by false false k = let z : ◌≡◌ {A = ℕ} 0 1 = cc in absurd (omega arith)

    pub head-accepted : (head : Head) → read_head body ≡ gives head
        → FedIs (header_on (readings crc) (reader_of core tally) m (page_with h lacing body)) (told_page (Ok (record { core = (core_after h Comment Nothing core.position head.streams head.preskip); tally = (tally_after tally head.preskip no_counts); counts = no_counts }))) m
    unfolding header_fed read_head
    head-accepted head r =
        let k = no_refusal (first_of (read_checks body)) (head_of body) head r in
        accepted R t p (seen t p) (record { core = core; tally = tally }) m inside (first_of (checks9to14 R t p (seen t p))) _ _ m.carry (found ∙ k.0) (next head k.1) (skips head k.1)
        carries
      where
        next : (head : Head) → head_of body ≡ head → core_after h Comment Nothing core.position head.streams head.preskip ≡ core_of (next_on R t p (seen t p))
        next head q = rw (← q) (next-core)

        skips : (head : Head) → head_of body ≡ head → head.preskip ≡ skip_on R tally.skip t p (seen t p)
        skips head q = rw (← q) (skip-after)
