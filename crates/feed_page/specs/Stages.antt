-- Feeding in stages (RULES.md, 7): 1 and 2, then 3 to 8, which give the core that expects the page, then the rest. Assumes
-- nothing.
use Rattle.std.specs.Prelude.{Result, Ok, Err, ℕ, ◌≤◌, ◌≡◌, true, false, List, [], ◌∷◌, ◌++◌, length}
use Rattle.refusal.specs.declared.Refusal.{Refusal}
use Rattle.octets.specs.Octets.{Bytes}
use Rattle.refusal.specs.declared.Refusal.TheVariants.{ShortRoom, AfterEnd}
use Rattle.refusal.specs.Checks.{Check, ◌when◌, first_of}
use Rattle.refusal.specs.Numbers.{number_of}
use Rattle.refusal.specs.Told.{Told, gives, refuses, told}
use Rattle.page_layout.specs.declared.PageHeader.{PageHeader}
use Rattle.page_layout.specs.Page.{lacing_of, body_of}
use Rattle.page_size.specs.Size.{is_one_page}
use Rattle.page_reader.specs.Reading.{read_page}
use Rattle.stream.specs.declared.Phase.{Phase}
use Rattle.stream.specs.declared.Core.{Core}
use Rattle.stream.specs.declared.Tally.{Tally}
use Rattle.stream.specs.Page.{Page, page_with}
use Rattle.stream.specs.Readings.{Readings}
use Rattle.stream.specs.State.{State, is_audio, is_ended}
use Rattle.stream.specs.Packets.{Seen, seen, audio_packets}
use Rattle.stream.specs.Rules.{lacing_checks, header_checks, packet_checks, time_checks}
use Rattle.stream.specs.Feed.{Reader, reader_of, view, Taken, Fed, FedIs, Feeds, fed_by}
use Rattle.stream.specs.Lent.{Lent, short_by, is_short}
use Rattle.feed_header.specs.Header.{is_header}
use Rattle.feed_page.specs.declared.Due.{Due}

-- 1 and 2, before a page is read
abbrev pub unread_checks : Phase → ℕ → ℕ → ℕ → ℕ → ℕ → List Check
unread_checks ph carry ends lengths kept frames =
    ShortRoom when short_by carry ends lengths kept frames ∷ AfterEnd when is_ended ph ∷ []

-- 9 to 19
abbrev pub checks9to19 : Readings → State → Page → Seen → List Check
checks9to19 R t p x =
    lacing_checks t p x ++ (header_checks R t x ++ (packet_checks R t.streams (audio_packets t x) ++ time_checks R t p x))

abbrev pub fed_from : Readings → Reader → Lent → State → Page → Fed
fed_from R r m t p = fed_by (first_of (checks9to19 R t p (seen t p))) R r m t p (seen t p)

-- feeding a page that has passed 1 to 8 to the core that expects it
unfoldable pub fed_from9 : Readings → Reader → Lent → Page → Fed
fed_from9 R r m p = fed_from R r m (view r.core m.carry) p

-- the bytes b read so, and neither 1 nor 2 is given
pub record Unrefused (crc : Bytes → ℕ) (core : Core) (read : Result PageHeader Refusal) (b : Bytes) (m : Lent) : Type 0 where
  pub reads : told read ≡ read_page crc b
  pub going : is_ended core.phase ≡ false
  pub room : is_short m ≡ false

-- the bytes b are a page with the header h that has passed 1 to 8, and `due` is the core that expects it
pub record Awaits (R : Readings) (core due : Core) (h : PageHeader) (tally : Tally) (m : Lent) (b : Bytes) : Type 0 where
  pub one : is_one_page b ≡ true
  pub ready : is_audio due.phase ≡ false → is_header due.phase due.pending ≡ true
  pub fed : {t : Told Taken} {after : Lent}
      → FedIs (fed_from9 R (reader_of due tally) m (page_with h (lacing_of b) (body_of b))) t after
      → Feeds R (reader_of core tally) b m t after

-- 3 to 8
abbrev pub DueIs : Result Due Refusal → Readings → Core → Tally → Lent → Bytes → Type 0
DueIs (Ok p) R core tally m b = Awaits R core p.core p.header tally m b
DueIs (Err why) R core tally m b = Feeds R (reader_of core tally) b m (refuses (number_of why)) m

-- the same page by its lacing values l and its body `rest`; 1 is not given
pub record AwaitsParts (R : Readings) (core due : Core) (h : PageHeader) (tally : Tally) (m : Lent)
    (b l rest : Bytes) : Type 0 where
  pub awaits : Awaits R core due h tally m b
  pub room : is_short m ≡ false
  pub lacing : l ≡ lacing_of b
  pub body : rest ≡ body_of b
  pub few : length l ≤ 255

-- the bytes b are a page by 3 and 4, with the header h, the lacing values l and the body `rest`
pub record PartsOf (crc : Bytes → ℕ) (b : Bytes) (h : PageHeader) (l rest : Bytes) : Type 0 where
  pub reads : read_page crc b ≡ gives h
  pub lacing : l ≡ lacing_of b
  pub body : rest ≡ body_of b
  pub few : length l ≤ 255
