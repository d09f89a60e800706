-- What is proved of a crop, over what is proved of streams: it is accepted, its packets have the stamps that they had, and pages
-- added to it and to the stream get the same answers. Assumes nothing.
use Rattle.std.specs.Prelude.{ℕ, ◌≡◌, true, List, [], map, length, drop}
use Rattle.octets.specs.Octets.{Bytes, Octets}
use Rattle.page_crc.specs.Crc.{page_crc}
use Rattle.stream.specs.Readings.{Readings, readings}
use Rattle.stream.specs.Rules.{Stamp}
use Rattle.stream.specs.Feed.{stamp_of, start}
use Rattle.stream.specs.Lent.{Lent, is_short}
use Rattle.stream.specs.Stream.{Listing, listings}
use Rattle.stream.specs.Feedings.{Feeding, finally, carry_left, HandedOn}
use Rattle.stream.specs.Entering.{tells}
use Rattle.recording.specs.Pages.{pages_of}
use Rattle.recording.specs.Judging.{whole, packets_in, judge_buffer}
use Rattle.recording.specs.Feedings.{Feeds}
use Rattle.recording.specs.Statements.{Good}
use Rattle.recording_pages.specs.Places.{header_count}
use Rattle.crop_rules.specs.Crop.{is_start, renumbered, shift_of, crop_pages, crop_of}

abbrev R : Readings
R = readings page_crc

-- the buffer b is a whole stream, and a crop may begin at its page k
pub record Croppable (b : Bytes) (k : ℕ) : Type 0 where
  pub octets : Octets b
  pub pages : ℕ
  pub packets : ℕ
  pub whole : judge_buffer R b ≡ whole pages packets
  pub start : is_start (pages_of b) k ≡ true

-- ---- the crop is a whole stream

-- it is cut into the pages that it was made of, and the full reader accepts them
pub record IsWhole (b : Bytes) (k : ℕ) : Type 0 where
  pub pages : pages_of (crop_of b k) ≡ crop_pages (pages_of b) k
  pub judged : judge_buffer R (crop_of b k)
      ≡ whole (length (crop_pages (pages_of b) k)) (packets_in (listings R (crop_pages (pages_of b) k)))

abbrev pub CropWhole : Type 0
CropWhole = (b : Bytes) (k : ℕ) → Croppable b k → IsWhole b k

-- ---- each of its packets has the end stamp, the length and the frames that it had

abbrev pub stamps_in : Listing → List Stamp
stamps_in l = map stamp_of l.entries

-- the stamps on the pages from page k on
abbrev pub stamps_from : ℕ → List Bytes → List (List Stamp)
stamps_from k S = map stamps_in (drop k (listings R S))

abbrev pub CropStamps : Type 0
CropStamps =
    (b : Bytes) (k : ℕ) → Croppable b k
    → stamps_from (header_count (pages_of b)) (crop_pages (pages_of b) k) ≡ stamps_from k (pages_of b)

-- ---- pages added to both

-- bytes that pass 3 and 4, and the memory lent for them to each of the readers; both have room, or neither has
pub record Added : Type 0 where
  pub bytes : Bytes
  pub octets : Octets bytes
  pub good : Good R bytes
  pub one : Lent
  pub other : Lent
  pub room : is_short other ≡ is_short one

-- fed to the reader of the stream as they are, and to that of the crop renumbered by its shift n
abbrev pub ones : List Added → List Feeding
ones = map (λ (x : Added). record { bytes = x.bytes; lent = x.one })

abbrev pub others : ℕ → List Added → List Feeding
others n = map (λ (x : Added). record { bytes = renumbered n x.bytes; lent = x.other })

-- F fed the stream to a reader just started, and G the crop to another; each reader, and its held bytes, are handed on
pub record Continued (b : Bytes) (k : ℕ) (F G : List Feeding) (xs : List Added) : Type 0 where
  pub stream : Feeds R (pages_of b) F
  pub crop : Feeds R (crop_pages (pages_of b) k) G
  pub one : HandedOn R (finally R start F) (carry_left R start [] F) (ones xs)
  pub other : HandedOn R (finally R start G) (carry_left R start [] G) (others (shift_of (pages_of b) k) xs)

-- both are told the same refusals, end stamps, lengths and frames, one after the other
abbrev pub CropFollows : Type 0
CropFollows =
    (b : Bytes) (k : ℕ) (F G : List Feeding) (xs : List Added) → Croppable b k → Continued b k F G xs
    → tells R (finally R start G) (others (shift_of (pages_of b) k) xs) ≡ tells R (finally R start F) (ones xs)
