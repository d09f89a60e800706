-- Rounds: the first page that a reader refuses counts as missing, until it refuses none; and what salvage gives (RULES.md, 16).
-- Assumes nothing.
use Rattle.std.specs.Prelude.{ℕ, zero, suc, List, ◌++◌, map, length, take, drop}
use Rattle.std.proofs.Math.Option.{Option, none, some}
use Rattle.octets.specs.Pick.{pick}
use Rattle.octets.specs.Octets.{Bytes}
use Rattle.page_writer.specs.Writing.{page_bytes}
use Rattle.refusal.specs.declared.Refusal.TheVariants.{HeadersIncomplete}
use Rattle.refusal.specs.Numbers.{number_of}
use Rattle.stream.specs.Readings.{Readings, readings}
use Rattle.stream.specs.State.{in_headers}
use Rattle.stream.specs.Stream.{phase_of}
use Rattle.feed_pages.specs.Feedings.{together}
use Rattle.recording.specs.Judging.{RefusedPage, first_refused, fresh}
use Rattle.salvage_rules.specs.Good.{Good, good_pages, serial_in, of_stream}
use Rattle.salvage_rules.specs.Tidy.{Tidied, tidy}
use Rattle.salvage_rules.specs.Lines.{Line, lines_from}

-- the checksum is made by the page writer
abbrev pub page_out : Tidied → Bytes
page_out t = page_bytes t.page.header t.page.lacing t.page.body

unfoldable pub pages_out : List Good → List Bytes
pages_out gs = map page_out (tidy gs)

-- the first that a reader just started refuses
unfoldable pub refused_in : Readings → List Good → Option RefusedPage
refused_in R gs = first_refused R fresh 0 (pages_out gs)

-- the list without its page number k
abbrev pub missing : ℕ → List Good → List Good
missing k gs = take k gs ++ drop (suc k) gs

abbrev pub round_by : (List Good → List Good) → List Good → Option RefusedPage → List Good
round_by again gs none = gs
round_by again gs (some x) = again (missing x.page gs)

-- at most n rounds
unfoldable pub rounds : Readings → ℕ → List Good → List Good
rounds R zero gs = gs
rounds R (suc n) gs = round_by (rounds R n) gs (refused_in R gs)

-- as many as there are pages: each makes the list shorter by a page
unfoldable pub settled : Readings → List Good → List Good
settled R gs = rounds R (length gs) gs

-- ---- what salvage gives

pub data Salvage : Type 0 where
  refused : ℕ → Salvage
  saved : Bytes → List Line → Salvage

-- 24 where the settled pages lack a whole header
abbrev pub saved_from : ℕ → List Good → Salvage
saved_from n gs =
    pick (in_headers (phase_of (pages_out gs)))
    (refused (number_of HeadersIncomplete))
    (saved (together (pages_out gs)) (lines_from n 0 (tidy gs)))

-- the pages that are kept
abbrev pub kept_in : (Bytes → ℕ) → Bytes → List Good
kept_in crc b = settled (readings crc) (of_stream (serial_in (good_pages crc b)) (good_pages crc b))

unfoldable pub salvage : (Bytes → ℕ) → Bytes → Salvage
salvage crc b = saved_from (length b) (kept_in crc b)
