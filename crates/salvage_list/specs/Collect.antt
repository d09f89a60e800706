-- The good pages of the stream that is salvaged, stored by their places (RULES.md, 16). Assumes nothing.
use Rattle.std.specs.Prelude.{ℕ, ◌+◌, ◌≡◌, Bool, List, map, length, set}
use Rattle.std.proofs.lemmas.List.Edits.{sets}
use Rattle.octets.specs.Pick.{pick}
use Rattle.octets.specs.Octets.{Bytes}
use Rattle.page_layout.specs.Page.{header_of}
use Rattle.salvage_rules.specs.Good.{Good, good_pages, serial_in, of_stream}
use Rattle.salvage_rules.specs.Listed.{bytes_at}
use Rattle.salvage_list.specs.declared.Seen.{Seen}

-- the good pages of the buffer that are the stream's: those with the serial of the first one with a first-page mark
abbrev pub stream_pages : (Bytes → ℕ) → Bytes → List Good
stream_pages crc b = of_stream (serial_in (good_pages crc b)) (good_pages crc b)

abbrev pub places_of : List Good → List ℕ
places_of gs = map (λ (g : Good). g.place) gs

-- the pages gs are collected in a list: r is how many they are, and its first places are their places, as far as it goes
pub record Collected (gs : List Good) (r : ℕ) (old new : List ℕ) : Type 0 where
  pub count : r ≡ length gs
  pub stored : new ≡ sets old 0 (places_of gs)

-- ---- on the way

-- what the code sees of the page at a place
unfoldable pub seen_at : Bytes → ℕ → Seen
seen_at b at = record { header = header_of (bytes_at b at); end = at + length (bytes_at b at) }

-- a place is stored after `count` others where it is wanted, and r is how many are stored then
pub record Kept (wanted : Bool) (count place r : ℕ) (old new : List ℕ) : Type 0 where
  pub many : r ≡ pick wanted (count + 1) count
  pub stored : new ≡ pick wanted (set old count place) old
