-- The pages of a buffer by their places (RULES.md, 15). Assumes nothing.
use Rattle.std.specs.Prelude.{ℕ, ◌-◌, List, length, take, drop}
use Rattle.std.proofs.Math.Option.{Option, none, some}
use Rattle.octets.specs.Octets.{Bytes}
use Rattle.page_end.specs.End.{end_at}
use Rattle.stream.specs.Stream.{audio_pages}
use Rattle.feed_pages.specs.Feedings.{together}
use Rattle.recording.specs.Pages.{pages_of}
use Rattle.recording_pages.specs.declared.Place.{Place}

-- the page at a place of a buffer, up to its end, or up to the buffer's where it is cut
abbrev pub page_to : Bytes → ℕ → Option ℕ → Bytes
page_to b at (some e) = take (e - at) (drop at b)
page_to b at none = drop at b

unfoldable pub page_at : Bytes → ℕ → Bytes
page_at b at = page_to b at (end_at b at)

-- where page k of these begins, the first being page 0: after all that come before it
unfoldable pub place_of : List Bytes → ℕ → ℕ
place_of S k = length (together (take k S))

-- the pages of the headers: those before the audio pages
unfoldable pub header_count : List Bytes → ℕ
header_count S = length S - length (audio_pages (λ (b : Bytes). b) S)

-- page k, and where it begins in the buffer b
abbrev pub placed : Bytes → ℕ → Place
placed b k = record { page = k; at = place_of (pages_of b) k }

-- the first page after the headers
abbrev pub headers_end : Bytes → Place
headers_end b = placed b (header_count (pages_of b))
