-- What is proved of the rules of a stream, over any readings and any bytes. Assumes nothing.
use Rattle.std.specs.Prelude.{ℕ, ◌+◌, ◌-◌, ◌%◌, ◌^◌, ◌≤◌, ◌<◌, ◌≡◌, Bool, true, false, not, List, [], ◌∷◌, map, length, take, drop}
use Rattle.octets.specs.Octets.{Bytes, Octets, total}
use Rattle.refusal.specs.declared.Refusal.TheVariants.{BadHead, BadMapping, BadTags}
use Rattle.refusal.specs.Checks.{Check, ◌when◌, first_of}
use Rattle.refusal.specs.Numbers.{number_of}
use Rattle.refusal.specs.Told.{gives, refuses, decided, retold}
use Rattle.page_reader.specs.Reading.{read_page}
use Rattle.head_reader.specs.Reading.{read_head}
use Rattle.tags_layout.specs.Layout.{tags_of}
use Rattle.tags_reader.specs.Reading.{read_tags}
use Rattle.packet_reader.specs.declared.Contents.{Contents}
use Rattle.packet_reader.specs.Streams.{read_packet}
use Rattle.granule.specs.declared.Position.TheVariants.{Unset}
use Rattle.stream.specs.declared.Counts.{Counts}
use Rattle.stream.specs.Page.{Page, page_of, continued}
use Rattle.stream.specs.Readings.{Readings, readings}
use Rattle.stream.specs.State.{State, is_first}
use Rattle.stream.specs.Rules.{page_checks, packet_checks}
use Rattle.stream.specs.Feed.{Reader, carried_in, view, start, open_at, open_part_way, feed, Taken, Entry}
use Rattle.stream.specs.Lent.{Lent, is_short}
use Rattle.limits.specs.Limits.{list_max}
use Rattle.stream.specs.Stream.{open_after, left_after, carried_of, head_of, audio_pages, phase_of, serial_of, Mark, marks}
use Rattle.stream.specs.Stream.{position_from, last_granule, initial, holes, decoded_in, kept_count, skipped_count}
use Rattle.stream.specs.Stream.{trimmed_count, listings}
use Rattle.stream.specs.Feedings.{Feeding, feed_in, reader_after, finally, held_of, carry_left, HandedOn, Shown, stream}
use Rattle.stream.specs.Feedings.{bytes_in, bytes_of, Marked, all_of, marked, RoomAtMarks, OthersRefused, tell}
use Rattle.stream.specs.Feedings.{told_at_marks, joined, has_position}

-- ---- T0: what a refusal leaves

-- m is lent, e is its end, n the number
pub record Keeps (r : Reader) (m e : Lent) (n : ℕ) : Type 0 where
  pub held : take (held_of r.core.pending) e.carry ≡ take (held_of r.core.pending) m.carry
  pub room : length e.carry ≡ length m.carry
  pub untouched : n < number_of BadHead → e.carry ≡ m.carry
  pub ends : e.ends ≡ m.ends
  pub lengths : e.lengths ≡ m.lengths
  pub kept : e.kept ≡ m.kept
  pub frames : e.frames ≡ m.frames

-- the reader stays by what is told, a number alone
abbrev pub RefusalKeeps : Type 0
RefusalKeeps =
    (R : Readings) (r : Reader) (m : Lent) (b : Bytes) (n : ℕ) → (feed R r m b).told ≡ refuses n
    → Keeps r m (feed R r m b).lent n

-- ---- T1: after any list of feedings to a reader just started, the reader is the one that the accepted pages alone
-- determine, and so is what was told of each

-- S is the stream, r the reader after it, `left` what the last feeding with room left in its carry buffer
pub record Determined (R : Readings) (S : List Shown) (r : Reader) (left : Bytes) : Type 0 where
  pub phase : r.core.phase ≡ phase_of (bytes_of S)
  pub unfinished : carried_in r.core.pending left ≡ carried_of (open_after false (bytes_of S)) (left_after [] (bytes_of S))
  pub position : r.core.position ≡ position_from Unset (marks R (bytes_of S))
  pub serial : r.core.serial ≡ serial_of (bytes_of S)
  pub sequence : r.core.next ≡ length S % 2 ^ 32
  pub streams : r.core.streams ≡ (head_of R (bytes_of S)).streams
  pub preskip : r.core.preskip ≡ (head_of R (bytes_of S)).preskip
  pub skip : r.tally.skip ≡ (head_of R (bytes_of S)).preskip - decoded_in (marks R (bytes_of S))
  pub listings : map (λ (x : Shown). x.listing) S ≡ listings R (bytes_of S)

abbrev pub StreamState : Type 0
StreamState =
    (R : Readings) (F : List Feeding) → HandedOn R start [] F
    → Determined R (stream R start F) (finally R start F) (carry_left R start [] F)

-- ---- T2: two readers with equal cores and equal carry bytes up to the held count answer alike, and stay so. The
-- second one's sequence number may be n further on, modulo 2^32, so long as its page's is

abbrev pub shifted : ℕ → ℕ → ℕ
shifted n q = (q + n) % 2 ^ 32

abbrev pub state_shifted : ℕ → State → State
state_shifted n s = record {
  phase = s.phase;
  carried = s.carried;
  position = s.position;
  serial = s.serial;
  next = shifted n s.next;
  streams = s.streams;
  preskip = s.preskip;
}

abbrev pub page_shifted : ℕ → Page → Page
page_shifted n p = record {
  header = record {
    flags = p.header.flags;
    granule = p.header.granule;
    serial = p.header.serial;
    sequence = shifted n p.header.sequence;
  };
  lacing = p.lacing;
  body = p.body;
}

-- the same page but for its sequence number and its checksum
pub record BytesShifted (R : Readings) (n : ℕ) (b c : Bytes) : Type 0 where
  pub page : page_of c ≡ page_shifted n (page_of b)
  pub is_page : R.is_page c ≡ R.is_page b
  pub is_checksummed : R.is_checksummed c ≡ R.is_checksummed b
  pub small : (page_of b).header.sequence < 2 ^ 32

abbrev pub view_of : Reader → Bytes → State
view_of r carry = view r.core carry

pub record Alike (R : Readings) (n : ℕ) (r s : Reader) (f g : Feeding) : Type 0 where
  pub told : tell (feed_in R s g) ≡ tell (feed_in R r f)
  pub stays : view_of (reader_after R s g) (feed_in R s g).lent.carry
      ≡ state_shifted n (view_of (reader_after R r f) (feed_in R r f).lent.carry)

-- the first page of all has the sequence number 0, so it takes part unshifted only
abbrev pub Congruence : Type 0
Congruence =
    (R : Readings) (n : ℕ) (r s : Reader) (f g : Feeding) → is_short f.lent ≡ false → is_short g.lent ≡ false
    → is_first r.core.phase ≡ false → r.core.next < 2 ^ 32 → BytesShifted R n f.bytes g.bytes
    → view_of s g.lent.carry ≡ state_shifted n (view_of r f.lent.carry) → Alike R n r s f g

pub record AlikeSame (R : Readings) (r s : Reader) (m e : Lent) (b : Bytes) : Type 0 where
  pub told : tell (feed R s e b) ≡ tell (feed R r m b)
  pub stays : view_of (reader_after R s (record { bytes = b; lent = e })) (feed R s e b).lent.carry
      ≡ view_of (reader_after R r (record { bytes = b; lent = m })) (feed R r m b).lent.carry

abbrev pub CongruenceSame : Type 0
CongruenceSame =
    (R : Readings) (r s : Reader) (m e : Lent) (b : Bytes) → is_short m ≡ false → is_short e ≡ false
    → view_of s e.carry ≡ view_of r m.carry → AlikeSame R r s m e b

-- ---- T3, demand 3: F is any list of feedings to a reader just started. M is any list of feedings to a reader opened with
-- the stream's header record; those marked are the stream's audio pages from the jth on, and have room; the others are
-- refused.

abbrev pub audio_in : Readings → List Feeding → List Shown
audio_in R F = audio_pages bytes_in (stream R start F)

-- a packet began before the jth audio page: the last segment of the audio pages before it ends none
abbrev pub began_before : Readings → List Feeding → ℕ → Bool
began_before R F j = open_after false (bytes_of (take j (audio_in R F)))

-- the second reader
abbrev pub opened_in : Readings → List Feeding → Reader
opened_in R F = open_at (head_of R (bytes_of (stream R start F)))

-- The feedings F to the first reader and M to the second: each gets the reader, and the held bytes, as the last left them.
-- Those marked in M are the stream from its audio page j on, and have the room asked. The others are refused.
pub record Followed (R : Readings) (F : List Feeding) (j : ℕ) (M : List Marked) : Type 0 where
  pub first : HandedOn R start [] F
  pub second : HandedOn R (opened_in R F) [] (all_of M)
  pub room : RoomAtMarks M
  pub pages : marked M ≡ bytes_of (drop j (audio_in R F))
  pub others : OthersRefused R (opened_in R F) M

abbrev pub Demand3 : Type 0
Demand3 =
    (R : Readings) (F : List Feeding) (j : ℕ) (M : List Marked) → Followed R F j M
    → told_at_marks R (opened_in R F) M ≡ joined (began_before R F j) (drop j (audio_in R F))

-- once it has a granule position, the second reader has the first one's core and held bytes
abbrev pub Demand3State : Type 0
Demand3State =
    (R : Readings) (F : List Feeding) (j : ℕ) (M : List Marked) → Followed R F j M
    → has_position (drop j (audio_in R F)) ≡ true
    → view_of (finally R (opened_in R F) (all_of M)) (carry_left R (opened_in R F) [] (all_of M))
    ≡ view_of (finally R start F) (carry_left R start [] F)

-- the continued mark of an audio page says that a packet began before it
abbrev pub ContinuedSays : Type 0
ContinuedSays =
    (R : Readings) (F : List Feeding) (j : ℕ) (x : Shown) (later : List Shown) → HandedOn R start [] F
    → drop j (audio_in R F) ≡ x ∷ later → continued (page_of x.bytes) ≡ began_before R F j

-- ---- T4, the last part of demand 3: the counts told are those of the samples, one by one. From the first page that
-- completes an audio packet on, the number of samples kept has a closed form

abbrev pub sum_of : (Counts → ℕ) → List Shown → ℕ
sum_of field S = total (map (λ (x : Shown). field x.listing.counts) S)

-- the kept counts listed
abbrev pub kept_listed : List Shown → ℕ
kept_listed S = total (map (λ (x : Shown). total (map (λ (e : Entry). e.kept) x.listing.entries)) S)

pub record Counted (S : List Shown) (preskip : ℕ) (ms : List Mark) : Type 0 where
  pub listed : kept_listed S ≡ kept_count preskip ms
  pub kept : sum_of (λ (c : Counts). c.kept) S ≡ kept_count preskip ms
  pub skipped : sum_of (λ (c : Counts). c.skipped) S ≡ skipped_count preskip ms
  pub trimmed : sum_of (λ (c : Counts). c.trimmed) S ≡ trimmed_count ms
  pub hole : sum_of (λ (c : Counts). c.hole) S ≡ holes ms
  pub samples : sum_of (λ (c : Counts). c.samples) S ≡ decoded_in ms
  pub shares : kept_count preskip ms + skipped_count preskip ms + trimmed_count ms ≡ decoded_in ms
  pub spans : initial ms + decoded_in ms + holes ms ≡ last_granule ms + trimmed_count ms
  pub closed : 0 < length ms → kept_count preskip ms ≡ last_granule ms - initial ms - holes ms - preskip

abbrev pub StreamCounts : Type 0
StreamCounts =
    (R : Readings) (F : List Feeding) → HandedOn R start [] F
    → Counted (stream R start F) (head_of R (bytes_of (stream R start F))).preskip (marks R (bytes_of (stream R start F)))

-- ---- what an accepted page leaves in the lists: the entries in the first places, and the rest as it was

-- the list `end` has l in its first places and is as `old` was in the others
pub record HasFirst (old end l : List ℕ) : Type 0 where
  pub first : take (length l) end ≡ l
  pub rest : drop (length l) end ≡ drop (length l) old

pub record Shows (m e : Lent) (es : List Entry) (c : Counts) : Type 0 where
  pub packets : c.packets ≡ length es
  pub few : length es ≤ list_max
  pub ends : HasFirst m.ends e.ends (map (λ (n : Entry). n.end) es)
  pub lengths : HasFirst m.lengths e.lengths (map (λ (n : Entry). n.samples) es)
  pub kept : HasFirst m.kept e.kept (map (λ (n : Entry). n.kept) es)
  pub frames : HasFirst m.frames e.frames (map (λ (n : Entry). n.frames) es)
  pub room : length e.carry ≡ length m.carry

abbrev pub AcceptedShows : Type 0
AcceptedShows =
    (R : Readings) (r : Reader) (m : Lent) (b : Bytes) (t : Taken) → Octets b → (feed R r m b).told ≡ gives t
    → Shows m (feed R r m b).lent (feed R r m b).entries t.counts

-- ---- the real readings

abbrev pub head_checks : Readings → Bytes → List Check
head_checks R b = BadHead when not (R.is_head b) ∷ BadMapping when not (R.is_mapped b) ∷ []

-- they tell what reading a page, a header, a comment header and a packet alone tells
pub record Agree (crc : Bytes → ℕ) : Type 0 where
  pub page : (b : Bytes) → decided (first_of (page_checks (readings crc) b)) (page_of b).header ≡ read_page crc b
  pub head : (b : Bytes) → decided (first_of (head_checks (readings crc) b)) ((readings crc).head_of b) ≡ read_head b
  pub tags : (b : Bytes) → decided (first_of (BadTags when not ((readings crc).is_tags b) ∷ [])) (tags_of b) ≡ read_tags b
  pub packet : (b : Bytes) (n : ℕ) → 1 ≤ n → n ≤ 255
      → decided (first_of (packet_checks (readings crc) n (b ∷ []))) ((readings crc).measure_of n b)
      ≡ retold (λ (c : Contents). c.measure) (read_packet b n)

abbrev pub ReadingsAgree : Type 0
ReadingsAgree = (crc : Bytes → ℕ) → Agree crc

abbrev pub AllOctets : List Feeding → Type 0
AllOctets [] = Unit {0}
AllOctets (f ∷ fs) = Octets f.bytes × AllOctets fs

-- opening part way takes the header record of a stream
abbrev pub OpensStream : Type 0
OpensStream =
    (crc : Bytes → ℕ) (F : List Feeding) → AllOctets F → HandedOn (readings crc) start [] F
    → 0 < length (stream (readings crc) start F)
    → open_part_way (head_of (readings crc) (bytes_of (stream (readings crc) start F)))
    ≡ gives (opened_in (readings crc) F)
