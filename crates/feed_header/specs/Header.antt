-- Feeding one page of the two headers to a reader that expects it, after refusals 1 to 8 (RULES.md, refusals 9 to 14). Where the
-- arguments are no such page, or lack the room, nothing is told and all stays. Assumes nothing.
use Rattle.std.specs.Prelude.{Option as CodeOption, Some, None, Result, ℕ, Bool, true, false, not, ◌&&◌, List, ◌++◌, length}
use Rattle.refusal.specs.declared.Refusal.{Refusal}
use Rattle.stream.specs.declared.PageFed.{PageFed}
use Rattle.std.proofs.Math.Option.{Option, none, some}
use Rattle.octets.specs.Octets.{Bytes}
use Rattle.refusal.specs.Checks.{Check, first_of}
use Rattle.refusal.specs.Told.{Told}
use Rattle.page_lacing.specs.Lacing.{is_body}
use Rattle.stream.specs.declared.Phase.{Phase}
use Rattle.stream.specs.declared.Phase.TheVariants.{First, Comment, Audio, Opened, Ended}
use Rattle.stream.specs.declared.Pending.{Pending}
use Rattle.stream.specs.declared.Pending.TheVariants.{Nothing, Held, Dropped}
use Rattle.stream.specs.Lent.{Lent, short_carry}
use Rattle.stream.specs.Page.{Page}
use Rattle.stream.specs.Readings.{Readings}
use Rattle.stream.specs.State.{State}
use Rattle.stream.specs.Packets.{Seen, seen}
use Rattle.stream.specs.Rules.{lacing_checks, header_checks}
use Rattle.stream.specs.Feed.{Reader, view, Taken, Fed, FedWhen, fed_by, told_page}

-- ---- the rules

-- 9 to 14
abbrev pub checks9to14 : Readings → State → Page → Seen → List Check
checks9to14 R t p x = lacing_checks t p x ++ header_checks R t x

-- t is the state that expects the page p, x the packets of the page
unfoldable pub header_fed : Readings → Reader → Lent → State → Page → Seen → Fed
header_fed R r m t p x = fed_by (first_of (checks9to14 R t p x)) R r m t p x

abbrev pub header_on : Readings → Reader → Lent → Page → Fed
header_on R r m p = header_fed R r m (view r.core m.carry) p (seen (view r.core m.carry) p)

-- ---- the call

-- a first page with nothing pending, or a page of the comment packet, is due
abbrev pub is_header : Phase → Pending → Bool
is_header First Nothing = true
is_header First (Held n) = false
is_header First Dropped = false
is_header Comment pending = true
is_header Audio pending = false
is_header Opened pending = false
is_header Ended pending = false

-- such a page, and room in the carry buffer, by its length
unfoldable pub is_header_page : Phase → Pending → Bytes → Bytes → ℕ → Bool
is_header_page ph pending lacing body carry = is_header ph pending && (not (short_carry carry) && is_body lacing body)

-- what the answer tells
abbrev pub told_header : CodeOption (Result PageFed Refusal) → Option (Told Taken)
told_header (Some f) = some (told_page f)
told_header None = none

abbrev pub FeedsHeader : Readings → Reader → Page → Lent → CodeOption (Result PageFed Refusal) → Lent → Type 0
FeedsHeader R r p before answer after =
    FedWhen (is_header_page r.core.phase r.core.pending p.lacing p.body (length before.carry))
    (header_on R r before p) (told_header answer) before after
