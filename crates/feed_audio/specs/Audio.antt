-- Feeding one audio page to a reader that expects it, after refusals 1 to 8 (RULES.md, refusals 9, 11 and 15 to 19). Where the
-- arguments are no such page, or lack the room, nothing is told and all stays. Assumes nothing.
use Rattle.std.specs.Prelude.{Option as CodeOption, Some, None, Result, Ok, Err, Bool, not, ◌&&◌, List, ◌++◌}
use Rattle.refusal.specs.declared.Refusal.{Refusal}
use Rattle.stream.specs.declared.PageFed.{PageFed}
use Rattle.std.proofs.Math.Option.{Option, none, some}
use Rattle.refusal.specs.Checks.{Check, first_of}
use Rattle.refusal.specs.Told.{Told}
use Rattle.page_lacing.specs.Lacing.{is_body}
use Rattle.stream.specs.declared.Phase.{Phase}
use Rattle.stream.specs.Page.{Page}
use Rattle.stream.specs.Readings.{Readings}
use Rattle.stream.specs.State.{State, is_audio}
use Rattle.stream.specs.Packets.{Seen, seen, audio_packets}
use Rattle.stream.specs.Rules.{lacing_checks, packet_checks, time_checks}
use Rattle.stream.specs.Feed.{Reader, view, Taken, Fed, FedWhen, fed_by, told_page}
use Rattle.stream.specs.Lent.{Lent, is_short}

-- ---- the rules

-- 9 to 11, 15 and 16, and 19, 18, 17
abbrev pub audio_checks : Readings → State → Page → Seen → List Check
audio_checks R t p x = lacing_checks t p x ++ (packet_checks R t.streams (audio_packets t x) ++ time_checks R t p x)

-- t is the state that expects the page p, x the packets of the page
unfoldable pub audio_fed : Readings → Reader → Lent → State → Page → Seen → Fed
audio_fed R r m t p x = fed_by (first_of (audio_checks R t p x)) R r m t p x

abbrev pub audio_on : Readings → Reader → Lent → Page → Fed
audio_on R r m p = audio_fed R r m (view r.core m.carry) p (seen (view r.core m.carry) p)

-- ---- the call

-- an audio page, and the room of 1
unfoldable pub is_audio_page : Phase → Page → Lent → Bool
is_audio_page ph p m = is_audio ph && (not (is_short m) && is_body p.lacing p.body)

-- what the answer tells
abbrev pub told_audio : CodeOption (Result PageFed Refusal) → Option (Told Taken)
told_audio (Some f) = some (told_page f)
told_audio None = none

abbrev pub FeedsAudio : Readings → Reader → Page → Lent → CodeOption (Result PageFed Refusal) → Lent → Type 0
FeedsAudio R r p before answer after =
    FedWhen (is_audio_page r.core.phase p before) (audio_on R r before p) (told_audio answer) before after
