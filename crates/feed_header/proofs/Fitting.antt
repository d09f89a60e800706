-- The test of the arguments: a header page is fed, and of anything else nothing is told. Assumes nothing.
use Rattle.std.specs.Prelude.{Some, None, Result}
use Rattle.refusal.specs.declared.Refusal.{Refusal}
use Rattle.stream.specs.declared.PageFed.{PageFed}
use mathlib.Core.Path.{◌≡◌, refl, ap}
use mathlib.Core.Bool.{Bool, true, false, not, true≢false, false≢true}
use mathlib.Core.Option.{some}
use borrow.Author.Tests.{ltb-false, eqb-true, not-true}
use lib.Dec.{leb}
use lib.ListN.{length}
use Rattle.octets.specs.Octets.{Bytes, total}
use Rattle.octets.proofs.Tests.{both}
use Rattle.limits.specs.Limits.{packet_max}
use Rattle.page_layout.specs.declared.PageHeader.{PageHeader}
use Rattle.page_lacing.specs.Lacing.{is_body}
use Rattle.stream.specs.declared.Phase.{Phase}
use Rattle.stream.specs.declared.Phase.TheVariants.{First, Comment, Audio, Opened, Ended}
use Rattle.stream.specs.declared.Pending.{Pending}
use Rattle.stream.specs.declared.Pending.TheVariants.{Nothing, Held, Dropped}
use Rattle.stream.specs.declared.Core.{Core}
use Rattle.stream.specs.declared.PageFed.{PageFed}
use Rattle.stream.specs.declared.Tally.{Tally}
use Rattle.stream.specs.Lent.{Lent, with_carry, short_carry}
use Rattle.stream.specs.Page.{page_with}
use Rattle.stream.specs.Readings.{Readings}
use Rattle.stream.specs.State.{is_first}
use Rattle.stream.specs.Feed.{reader_of, FedIs, told_page}
use Rattle.feed_header.specs.Header.{is_header, is_header_page, header_on, FeedsHeader}
use Rattle.feed_header.specs.Code.{HeadDue, CommentDue}

in_first : (ph : Phase) (k : Pending) → is_header ph k ≡ true → is_first ph ≡ true → (ph ≡ First) × (k ≡ Nothing)
in_first First Nothing e f = (refl, refl)
in_first First (Held n) e f = absurd (false≢true e)
in_first First Dropped e f = absurd (false≢true e)
in_first Comment k e f = absurd (false≢true f)
in_first Audio k e f = absurd (false≢true f)
in_first Opened k e f = absurd (false≢true f)
in_first Ended k e f = absurd (false≢true f)

in_comment : (ph : Phase) (k : Pending) → is_header ph k ≡ true → is_first ph ≡ false → ph ≡ Comment
in_comment First k e f = absurd (true≢false f)
in_comment Comment k e f = refl
in_comment Audio k e f = absurd (false≢true e)
in_comment Opened k e f = absurd (false≢true e)
in_comment Ended k e f = absurd (false≢true e)

module _ (k : Core) (l body carry : Bytes) where
  -- the test of the arguments
  abbrev pub tested : Bool
  tested = is_header_page k.phase k.pending l body (length carry)

  module _ (e : tested ≡ true) where
    header : is_header k.phase k.pending ≡ true
    unfolding is_header_page
    header = (both (is_header k.phase k.pending) _ e).0

    enough : (not (short_carry (length carry)) ≡ true) × (is_body l body ≡ true)
    unfolding is_header_page
    enough = both _ (is_body l body) (both (is_header k.phase k.pending) _ e).1

    sums : total l ≡ length body
    unfolding is_body
    sums = eqb-true (total l) (length body) (both (leb (length l) 255) _ enough.1).1

    pub head-due : is_first k.phase ≡ true → HeadDue k l body
    head-due f = record { first = (in_first k.phase k.pending header f).0; none_left = (in_first k.phase k.pending header f).1; sums = sums }

    pub comment-due : is_first k.phase ≡ false → CommentDue k l body carry
    comment-due f = record {
      comment = in_comment k.phase k.pending header f;
      sums = sums;
      room = ltb-false (length carry) packet_max (not-true _ enough.0);
    }

  module _ (R : Readings) (t : Tally) (h : PageHeader) (m : Lent) where
    pub not-due : tested ≡ false → FeedsHeader R (reader_of k t) (page_with h l body) (with_carry m carry) None (with_carry m carry)
    not-due e = record { told = rw e; lent = rw e }

    pub due : tested ≡ true → (f : Result PageFed Refusal) {c : Bytes}
        → FedIs (header_on R (reader_of k t) (with_carry m carry) (page_with h l body)) (told_page f) (with_carry m c)
        → FeedsHeader R (reader_of k t) (page_with h l body) (with_carry m carry) (Some f) (with_carry m c)
    due e f {c} o = record { told = rw e (ap some o.told); lent = rw e o.lent }
