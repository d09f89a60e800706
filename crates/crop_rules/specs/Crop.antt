-- A crop of a stream (RULES.md, 17): both headers, and all pages from a chosen one on. These are renumbered by one shift, so that
-- they follow the headers, and their checksums are made again. Page numbers count from 0. Assumes nothing.
use Rattle.std.specs.Prelude.{ℕ, ◌-◌, ◌%◌, ◌^◌, Bool, false, not, ◌&&◌, List, [], ◌∷◌, ◌++◌, map, leb, take, drop}
use Rattle.octets.specs.Octets.{Bytes}
use Rattle.page_layout.specs.Page.{lacing_of, body_of}
use Rattle.page_writer.specs.Writing.{page_bytes}
use Rattle.stream.specs.Page.{Page, page_of, continued, last, completes}
use Rattle.stream.specs.Statements.{page_shifted}
use Rattle.feed_pages.specs.Feedings.{together}
use Rattle.recording.specs.Pages.{pages_of}
use Rattle.recording_pages.specs.Places.{header_count}

-- ---- where a crop may begin

-- at a page that is not marked continued, completes a packet, and is not marked last
unfoldable pub may_begin : Page → Bool
may_begin p = not (continued p) && (completes p && not (last p))

-- there are pages, and the first of them is one
abbrev pub begins_with : List Bytes → Bool
begins_with [] = false
begins_with (b ∷ bs) = may_begin (page_of b)

-- page k of the stream is there, is an audio page, and is one
unfoldable pub is_start : List Bytes → ℕ → Bool
is_start S k = leb (header_count S) k && begins_with (drop k S)

-- ---- the crop

-- a page with its sequence number n further on, modulo 2^32, and its checksum made again
unfoldable pub renumbered : ℕ → Bytes → Bytes
renumbered n b = page_bytes (page_shifted n (page_of b)).header (lacing_of b) (body_of b)

-- the shift that moves a sequence number d back
abbrev pub back : ℕ → ℕ
back d = 2 ^ 32 - d % 2 ^ 32

-- the shift of a crop that begins at page k
abbrev pub shift_of : List Bytes → ℕ → ℕ
shift_of S k = back (k - header_count S)

-- the pages of the headers as they are, and those from page k on renumbered
unfoldable pub crop_pages : List Bytes → ℕ → List Bytes
crop_pages S k = take (header_count S) S ++ map (renumbered (shift_of S k)) (drop k S)

-- of a buffer
abbrev pub crop_of : Bytes → ℕ → Bytes
crop_of b k = together (crop_pages (pages_of b) k)
