-- A cut input is refused as no page, or after an end. Assumes nothing.
use Prim.Native.Nat.{ℕ}
use mathlib.Core.Path.{◌≡◌, refl, ◌∙◌}
use mathlib.Core.Bool.{Bool, true, false}
use lib.ListN.{drop}
use Rattle.octets.specs.Octets.{Bytes}
use Rattle.refusal.specs.Checks.{first_of}
use Rattle.refusal.specs.Numbers.{number_of}
use Rattle.refusal.specs.Told.{refuses}
use Rattle.page_size.specs.Size.{is_one_page}
use Rattle.page_end.proofs.Ends.{cut_is_no_page}
use Rattle.stream.specs.Page.{page_of}
use Rattle.stream.specs.Readings.{readings}
use Rattle.stream.specs.State.{is_ended}
use Rattle.stream.specs.Rules.{checks_on, verdict}
use Rattle.stream.specs.Feed.{Reader, view, carry_after, FedIs, feed}
use Rattle.stream.specs.Lent.{Lent, is_short}
use Rattle.stream.proofs.Step.{feeds, still_ended}
use Rattle.feed_partial.specs.Rest.{rest_refusal}
use Rattle.feed_partial.specs.Statements.{RestRefused}

-- of bytes that are no page the first two checks with room decide
no_page_lem : (crc : Bytes → ℕ) (r : Reader) (m : Lent) (b : Bytes) → is_short m ≡ false → is_one_page b ≡ false
    → FedIs (feed (readings crc) r m b) (refuses (number_of (rest_refusal r))) m
unfolding verdict checks_on first_of carry_after readings rest_refusal
no_page_lem crc r m b room broken = by (is_ended r.core.phase) refl
  where
    by : (x : Bool) → is_ended r.core.phase ≡ x
        → FedIs (feed (readings crc) r m b) (refuses (number_of (rest_refusal r))) m
    by true e =
        rw (feeds (readings crc) r m b room, still_ended (view r.core m.carry) (page_of b) ∙ e, e)
        (record { told = refl; lent = refl })
    by false e =
        rw (feeds (readings crc) r m b room, still_ended (view r.core m.carry) (page_of b) ∙ e, broken, e)
        (record { told = refl; lent = refl })

pub rest-refused : RestRefused
rest-refused crc r m b at room cut = no_page_lem crc r m (drop at b) room (cut_is_no_page b at cut)
