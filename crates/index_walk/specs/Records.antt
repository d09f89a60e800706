-- The index of a stream: a record for each page on which an audio packet completes, in order (RULES.md, 15). Assumes nothing.
use Rattle.std.specs.Prelude.{ℕ, ◌+◌, List, [], ◌∷◌, length}
use Rattle.octets.specs.Pick.{pick}
use Rattle.octets.specs.Octets.{Bytes}
use Rattle.stream.specs.Page.{page_of, granule_of, completes}
use Rattle.stream.specs.Stream.{audio_pages}
use Rattle.index_search.specs.declared.IndexRecord.{IndexRecord}
use Rattle.index_search.specs.Index.{Index}

-- a page, and the place of its first byte in the buffer
pub record PlacedPage : Type 0 where
  pub place : ℕ
  pub bytes : Bytes

-- pages one after the other, the first of them at a place
unfoldable pub placed_from : ℕ → List Bytes → List PlacedPage
placed_from at [] = []
placed_from at (b ∷ bs) = record { place = at; bytes = b } ∷ placed_from (at + length b) bs

abbrev pub record_of : PlacedPage → IndexRecord
record_of x = record {
  granule = granule_of (page_of x.bytes);
  place = x.place;
  sequence = (page_of x.bytes).header.sequence;
}

-- of audio pages
unfoldable pub records_of : List PlacedPage → Index
records_of [] = []
records_of (x ∷ xs) = pick (completes (page_of x.bytes)) (record_of x ∷ records_of xs) (records_of xs)

-- of the pages of a stream
unfoldable pub index_of : List Bytes → Index
index_of S = records_of (audio_pages (λ (x : PlacedPage). x.bytes) (placed_from 0 S))
