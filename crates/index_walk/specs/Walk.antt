-- The walk over the pages of a buffer that makes the index, by their headers and lacing values alone. Assumes nothing.
use Rattle.std.specs.Prelude.{ℕ, ◌+◌, ◌-◌, ◌%◌, ◌^◌, Bool, true, false, List, length}
use Rattle.octets.specs.Pick.{pick}
use Rattle.octets.specs.Octets.{Bytes}
use Rattle.stream.specs.Page.{page_of, completes}
use Rattle.stream.specs.Stream.{after_comment, audio_pages}
use Rattle.recording_pages.specs.Places.{page_at}
use Rattle.index_search.specs.declared.IndexRecord.{IndexRecord}
use Rattle.index_search.specs.Index.{Index, no_record}
use Rattle.index_walk.specs.declared.Due.{Due}
use Rattle.index_walk.specs.declared.Due.TheVariants.{Head, Comment, Audio}
use Rattle.index_walk.specs.declared.Walk.{Walk}
use Rattle.index_walk.specs.Records.{PlacedPage, record_of, records_of, placed_from}

-- what is due after a page; `done`: a packet completes on it
abbrev pub due_after : Due → Bool → Due
due_after Head done = Comment
due_after Comment true = Audio
due_after Comment false = Comment
due_after Audio done = Audio

-- whether a page has a record
abbrev pub is_recorded : Due → Bool → Bool
is_recorded Head done = false
is_recorded Comment done = false
is_recorded Audio done = done

-- past the end of every list of records
abbrev pub nowhere : ℕ
nowhere = 2 ^ 64 - 1

-- the walk after a page that ends at a place, with the record that is made of it
abbrev pub stepped_to : Walk → ℕ → Bool → IndexRecord → Walk
stepped_to w end done made = record {
  at = end;
  due = due_after w.due done;
  count = pick (is_recorded w.due done) ((w.count + 1) % 2 ^ 64) w.count;
  slot = pick (is_recorded w.due done) w.count nowhere;
  made = made;
}

-- after the page p
abbrev pub walked_over : Bytes → Walk → Walk
walked_over p w = stepped_to w (w.at + length p) (completes (page_of p)) (record_of (record { place = w.at; bytes = p }))

unfoldable pub next_of : Bytes → Walk → Walk
next_of b w = walked_over (page_at b w.at) w

-- the walk before the page at a place, the first of a stream
abbrev pub begun_at : ℕ → Walk
begun_at at = record { at = at; due = Head; count = 0; slot = nowhere; made = no_record }

-- the records of the pages from a place on
abbrev pub audio_from : Due → List PlacedPage → List PlacedPage
audio_from Head xs = audio_pages (λ (x : PlacedPage). x.bytes) xs
audio_from Comment xs = after_comment (λ (x : PlacedPage). x.bytes) xs
audio_from Audio xs = xs

unfoldable pub index_from : Due → ℕ → List Bytes → Index
index_from due at S = records_of (audio_from due (placed_from at S))
