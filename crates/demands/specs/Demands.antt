-- The three demands, and nothing else, of the rules that the code is held to. `feed` is what a feeding tells and leaves
-- (`stream`, `specs/Feed.antt`); a stream is the list of pages that a reader just started accepted. Assumes nothing.
use Rattle.std.specs.Prelude.{ℕ, ◌<◌, ◌≡◌, List, [], ◌∷◌, length, drop}
use Rattle.octets.specs.Octets.{Bytes, Octets}
use Rattle.refusal.specs.Told.{gives, refuses}
use Rattle.head_fields.specs.declared.Head.{Head}
use Rattle.page_crc.specs.Crc.{page_crc}
use Rattle.page_writer.specs.Statements as pageWriter
use Rattle.head_writer.specs.Statements as headWriter
use Rattle.tags_writer.specs.Statements as tagsWriter
use Rattle.packet_reader.specs.Statements as opusPacket
use Rattle.stream.specs.Page.{page_of, continued}
use Rattle.stream.specs.Readings.{Readings, readings}
use Rattle.stream.specs.Feed.{Reader, start, open_at, open_part_way, feed, Taken}
use Rattle.stream.specs.Lent.{Lent}
use Rattle.stream.specs.Stream.{head_of, marks}
use Rattle.stream.specs.Feedings.{Feeding, finally, carry_left, HandedOn, Shown, stream, bytes_of, Marked}
use Rattle.stream.specs.Feedings.{told_at_marks, joined}
use Rattle.stream.specs.CarryBuffer.{CarryIs, FeedingNumber}
use Rattle.stream.specs.Unskipped.{SkipsNothing}
use Rattle.stream.specs.Totals.{Totals, OpenedTotals}
use Rattle.stream.specs.Statements.{Keeps, Shows, Followed, Agree, AllOctets, Determined, Counted, audio_in, began_before, opened_in}
use Rattle.demands.specs.Cases.{CasesHold}

-- the readings of pages, headers, comment headers and packets
abbrev pub R : Readings
R = readings page_crc

-- the stream that a list of feedings gives
abbrev pub stream_of : List Feeding → List Shown
stream_of F = stream R start F

-- Demand 1. Whatever reader, lent memory and bytes a feeding gets, it accepts or tells one number from 1 to 19. A refusal leaves
-- the reader and the lists. The carry buffer stays under a number below 12. Under 12 to 19 the piece that continues the held
-- packet, or belongs to the comment packet, is put after the held bytes. On acceptance a packet that begins is put at place 0
-- as well. Every other byte stays. An accepted page leaves its entries in the first places of the lists.
pub record Demand1 : Type 0 where
  pub number : (r : Reader) (m : Lent) (b : Bytes) (n : ℕ) → (feed R r m b).told ≡ refuses n → FeedingNumber n
  pub carry : (r : Reader) (m : Lent) (b : Bytes)
      → CarryIs r (page_of b) m.carry (feed R r m b).lent.carry (feed R r m b).told
  pub refused : (r : Reader) (m : Lent) (b : Bytes) (n : ℕ) → (feed R r m b).told ≡ refuses n → Keeps r m (feed R r m b).lent n
  pub accepted : (r : Reader) (m : Lent) (b : Bytes) (t : Taken) → Octets b → (feed R r m b).told ≡ gives t
      → Shows m (feed R r m b).lent (feed R r m b).entries t.counts

-- Demand 2. What the writers write reads back as the same fields. What was read is written back as the same bytes. Feeding
-- reads by the same rules as reading alone. Legal packets are those of RFC 6716, and the sixteen cases come out.
pub record Demand2 : Type 0 where
  pub pages : pageWriter.ReadsBack
  pub pages_again : pageWriter.WritesBack
  pub heads : headWriter.ReadsBack
  pub heads_again : headWriter.WritesBack
  pub tags : tagsWriter.ReadsBack
  pub tags_again : tagsWriter.WritesBack
  pub packets : opusPacket.LegalLengths
  pub reading : Agree page_crc
  pub cases : CasesHold

-- Demand 3. After any list of feedings the full reader is where the stream's pages alone put it, and told of them what they
-- alone determine. A second reader can be opened with the stream's header record. At any audio page on, it tells what the full
-- reader listed, but for a packet that began before, or 19 on a last page with no granule position before it. It skips nothing,
-- so that it keeps all but what is trimmed. The kept counts of the full reader are those of the samples, one by one, and have
-- the closed form. The totals that either reader keeps are those counts, and never wrap.
pub record Demand3 : Type 0 where
  pub full : (F : List Feeding) → HandedOn R start [] F → Determined R (stream_of F) (finally R start F) (carry_left R start [] F)
  pub opens : (F : List Feeding) → AllOctets F → HandedOn R start [] F → 0 < length (stream_of F)
      → open_part_way (head_of R (bytes_of (stream_of F))) ≡ gives (opened_in R F)
  pub second : (F : List Feeding) (j : ℕ) (M : List Marked) → Followed R F j M
      → told_at_marks R (opened_in R F) M ≡ joined (began_before R F j) (drop j (audio_in R F))
  pub began : (F : List Feeding) (j : ℕ) (x : Shown) (later : List Shown) → HandedOn R start [] F
      → drop j (audio_in R F) ≡ x ∷ later → continued (page_of x.bytes) ≡ began_before R F j
  pub opened : (h : Head) (F : List Feeding) → SkipsNothing R h F
  pub counts : (F : List Feeding) → HandedOn R start [] F
      → Counted (stream_of F) (head_of R (bytes_of (stream_of F))).preskip (marks R (bytes_of (stream_of F)))
  pub totals : (F : List Feeding) → AllOctets F → HandedOn R start [] F
      → Totals (finally R start F).tally (head_of R (bytes_of (stream_of F))).preskip (marks R (bytes_of (stream_of F)))
  pub opened_totals : (h : Head) (F : List Feeding) → AllOctets F → OpenedTotals (stream R (open_at h) F) (finally R (open_at h) F)

pub record Demands : Type 0 where
  pub one : Demand1
  pub two : Demand2
  pub three : Demand3
