-- A stream on which the hypotheses of every theorem hold: a packet over three pages, a hole, a trim, and an opening in the
-- middle of that packet. Its pages are made by the page writer's definition. Assumes nothing.
use Rattle.std.specs.Prelude.{ℕ, ◌-◌, ◌<◌, ◌^◌, ◌≡◌, Bool, true, false, List, [], ◌∷◌, map, take, drop, replicate}
use Rattle.octets.specs.Pick.{pick}
use Rattle.octets.specs.Octets.{Bytes, Octets}
use Rattle.refusal.specs.declared.Refusal.TheVariants.{ShortRoom}
use Rattle.refusal.specs.Numbers.{number_of}
use Rattle.refusal.specs.Told.{gives, refuses}
use Rattle.page_crc.specs.Crc.{page_crc}
use Rattle.page_layout.specs.declared.PageHeader.{PageHeader}
use Rattle.page_writer.specs.Writing.{page_size, write_out}
use Rattle.granule.specs.declared.Position.TheVariants.{At}
use Rattle.stream.specs.declared.Phase.TheVariants.{Audio}
use Rattle.stream.specs.declared.Pending.TheVariants.{Held}
use Rattle.stream.specs.Page.{Page}
use Rattle.stream.specs.Readings.{Readings, readings}
use Rattle.stream.specs.State.{is_first}
use Rattle.limits.specs.Limits.{packet_max, list_max}
use Rattle.stream.specs.Lent.{Lent, lent_of, is_short}
use Rattle.stream.specs.Feed.{no_tally, Reader, start, open_part_way, Taken, feed}
use Rattle.stream.specs.Stream.{head_of, Mark, marks, initial, holes, kept_count, trimmed_count}
use Rattle.stream.specs.Feedings.{Feeding, feed_in, reader_after, stream, bytes_of, Marked, all_of}
use Rattle.stream.specs.Feedings.{told_at_marks, has_position}
use Rattle.stream.specs.Statements.{Followed, state_shifted, BytesShifted, view_of, AllOctets, audio_in, began_before, opened_in}

abbrev pub R : Readings
R = readings page_crc

abbrev header : ℕ → ℕ → ℕ → PageHeader
header flags granule sequence = record { flags = flags; granule = granule; serial = 7; sequence = sequence }

abbrev page : ℕ → ℕ → ℕ → Bytes → Bytes → Page
page flags granule sequence lacing body = record { header = header flags granule sequence; lacing = lacing; body = body }

-- one channel, pre-skip 312
abbrev pub head_page : Page
head_page =
    page 2 0 0 (19 ∷ [])
    (0x4f ∷ 0x70 ∷ 0x75 ∷ 0x73 ∷ 0x48 ∷ 0x65 ∷ 0x61 ∷ 0x64 ∷ 1 ∷ 1 ∷ 0x38 ∷ 1 ∷ 0x80 ∷ 0xbb ∷ 0 ∷ 0 ∷ 0 ∷ 0 ∷ 0 ∷ [])

-- no vendor, no comments
abbrev pub tags_page : Page
tags_page = page 0 0 1 (16 ∷ []) (0x4f ∷ 0x70 ∷ 0x75 ∷ 0x73 ∷ 0x54 ∷ 0x61 ∷ 0x67 ∷ 0x73 ∷ 0 ∷ 0 ∷ 0 ∷ 0 ∷ 0 ∷ 0 ∷ 0 ∷ 0 ∷ [])

-- a packet of 480 samples, and the beginning of one of 600 bytes, which is 480 samples too
abbrev pub first_page : Page
first_page = page 0 1000 2 (1 ∷ 255 ∷ []) (replicate 256 0)

abbrev pub middle_page : Page
middle_page = page 1 (2 ^ 64 - 1) 3 (255 ∷ []) (replicate 255 0)

-- its end, after a hole of 1,520
abbrev pub hole_page : Page
hole_page = page 1 3000 4 (90 ∷ []) (replicate 90 0)

-- 380 samples of this one are trimmed
abbrev pub last_page : Page
last_page = page 4 3100 5 (1 ∷ []) (0 ∷ [])

-- what the page writer writes into an output that is just long enough
abbrev size_of : Page → ℕ
size_of p = page_size p.lacing p.body

unfoldable pub written : Page → Bytes
written p = take (size_of p) (write_out p.header p.lacing p.body (replicate (size_of p) 0))

-- ---- feedings by a plan: each hands on the carry buffer that the one before left

-- a marked one is to be accepted, the others refused; a short one has no carry buffer at all
pub record Planned : Type 0 where
  pub mark : Bool
  pub short : Bool
  pub bytes : Bytes

abbrev pub lent_with : Bytes → Lent
lent_with c = lent_of c (replicate list_max 0) (replicate list_max 0) (replicate list_max 0) (replicate list_max 0)

abbrev pub feeding : Planned → Bytes → Feeding
feeding p c = record { bytes = p.bytes; lent = lent_with (pick p.short [] c) }

unfoldable pub follow : Readings → Reader → Bytes → List Planned → List Marked
follow R r c [] = []
follow R r c (p ∷ ps) =
    record { mark = p.mark; fed = feeding p c }
    ∷ follow R (reader_after R r (feeding p c)) (pick p.short c (feed_in R r (feeding p c)).lent.carry) ps

-- to the first reader: a feeding that lacks the room, one of no bytes, and the stream's pages, one of them twice
abbrev accept : Bytes → Planned
accept b = record { mark = true; short = false; bytes = b }

abbrev refuse : Bytes → Planned
refuse b = record { mark = false; short = false; bytes = b }

abbrev lacking : Bytes → Planned
lacking b = record { mark = false; short = true; bytes = b }

abbrev pub first_plan : List Planned
first_plan =
    lacking (written head_page)
    ∷ accept (written head_page)
    ∷ refuse []
    ∷ accept (written tags_page)
    ∷ accept (written first_page)
    ∷ refuse (written first_page)
    ∷ accept (written middle_page)
    ∷ accept (written hole_page)
    ∷ accept (written last_page)
    ∷ []

-- to the second one, opened in the middle of the long packet
abbrev pub second_plan : List Planned
second_plan =
    refuse []
    ∷ accept (written middle_page)
    ∷ refuse (written middle_page)
    ∷ lacking (written hole_page)
    ∷ accept (written hole_page)
    ∷ accept (written last_page)
    ∷ []

unfoldable pub room : Bytes
room = replicate packet_max 0

unfoldable pub F : List Feeding
F = all_of (follow R start room first_plan)

unfoldable pub M : List Marked
M = follow R (opened_in R F) room second_plan

abbrev mark : ℕ → Bool → Mark
mark g last = record { granule = g; measures = record { samples = 480; frames = 1 } ∷ []; last = last }

abbrev pub audio_marks : List Mark
audio_marks = mark 1000 false ∷ mark 3000 false ∷ mark 3100 true ∷ []

-- the hypotheses of T1 to T4 and of opening, and what they come to here
pub record Meets : Type 0 where
  pub bytes : AllOctets F
  pub pages : bytes_of (stream R start F) ≡ map written (head_page ∷ tags_page ∷ first_page ∷ middle_page ∷ hole_page ∷ last_page ∷ [])
  pub opens : open_part_way (head_of R (bytes_of (stream R start F))) ≡ gives (opened_in R F)
  pub followed : Followed R F 1 M
  pub began : began_before R F 1 ≡ true
  pub position : has_position (drop 1 (audio_in R F)) ≡ true
  pub told : told_at_marks R (opened_in R F) M
      ≡ gives [] ∷ gives [] ∷ gives (record { end = 3480; samples = 480; frames = 1 } ∷ []) ∷ []
  pub marks : marks R (bytes_of (stream R start F)) ≡ audio_marks
  pub begins : initial audio_marks ≡ 520
  pub hole : holes audio_marks ≡ 1520
  pub trimmed : trimmed_count audio_marks ≡ 380
  pub kept : kept_count 312 audio_marks ≡ 748

-- ---- the hypotheses of T0, of T2 and of the lists

-- the page that ends the long packet, five sequence numbers on
abbrev pub shifted_page : Page
shifted_page = page 1 3000 9 (90 ∷ []) (replicate 90 0)

-- a reader in the middle of that packet, at which this sequence number is due
abbrev pub waiting : ℕ → Reader
waiting next = record {
  core = record { phase = Audio; pending = Held 510; position = At 1000; serial = 7; next = next; streams = 1; preskip = 312 };
  tally = no_tally;
}

pub record MeetsAlone : Type 0 where
  pub refused : (feed R start (lent_with []) (written head_page)).told ≡ refuses (number_of ShortRoom)
  pub accepted : (t : Taken) × ((feed R start (lent_with room) (written head_page)).told ≡ gives t)
  pub octets : Octets (written head_page)
  pub roomy : is_short (lent_with room) ≡ false
  pub shifted : BytesShifted R 5 (written hole_page) (written shifted_page)
  pub alike : view_of (waiting 9) room ≡ state_shifted 5 (view_of (waiting 4) room)
  pub going : is_first (waiting 4).core.phase ≡ false
  pub small : (waiting 4).core.next < 2 ^ 32
