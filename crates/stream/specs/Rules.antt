-- The rules of one page over the state that decides: which refusal, and what state follows (RULES.md, 7 to 9). The carry
-- buffer, the lists and the counts come in `Feed`. Assumes nothing.
use Rattle.std.specs.Prelude.{ℕ, ◌+◌, ◌%◌, ◌^◌, Bool, true, false, not, ◌&&◌, ◌||◌, List, [], ◌∷◌, ◌++◌, ltb, eqb}
use Rattle.std.specs.Bool.{beq}
use Rattle.std.proofs.Math.Option.{Option}
use Rattle.octets.specs.Pick.{pick}
use Rattle.octets.specs.Octets.{Bytes}
use Rattle.refusal.specs.declared.Refusal.{Refusal}
use Rattle.refusal.specs.declared.Refusal.TheVariants.{AfterEnd, NotOnePage, WrongChecksum, OtherSerial, OutOfSequence, WrongFlags, WrongContinued, PacketTooLong, HeaderShape, WrongGranule, BadHead, BadMapping, BadTags, IllegalPacket, MixedLengths}
use Rattle.refusal.specs.Checks.{Check, ◌when◌, first_of}
use Rattle.granule.specs.declared.Position.{Position}
use Rattle.granule.specs.declared.Position.TheVariants.{At}
use Rattle.granule.specs.Judging.{granule_max, granule_wrong, judge_checks, from}
use Rattle.stream.specs.declared.Phase.{Phase}
use Rattle.stream.specs.declared.Phase.TheVariants.{First, Comment, Audio, Opened, Ended}
use Rattle.page_flags.specs.Flags.{is_first_page, is_last_page}
use Rattle.page_layout.specs.declared.PageHeader.{PageHeader}
use Rattle.stream.specs.Page.{Page, page_of, continued, last, granule_of}
use Rattle.packet_reader.specs.declared.Measure.{Measure}
use Rattle.stream.specs.Readings.{Readings}
use Rattle.stream.specs.State.{State, is_first, is_comment, is_ended, in_headers, unfinished, expecting}
use Rattle.stream.specs.Shape.{shape_of, wrong_shape}
use Rattle.stream.specs.Packets.{Seen, seen, is_long, audio_packets, measures_of, samples_of}

-- ---- the tests

-- 7: an unknown flag; a first mark absent on the first page or present later; an end mark on a header page
unfoldable pub wrong_flags : Phase → ℕ → Bool
wrong_flags ph flags =
    ltb 7 flags || (not (beq (is_first_page flags) (is_first ph)) || (in_headers ph && is_last_page flags))

-- the largest granule position where a packet completes: 0 for a header
abbrev pub granule_most : Phase → ℕ
granule_most ph = pick (in_headers ph) 0 granule_max

abbrev pub first_packet : List Bytes → Bytes
first_packet [] = []
first_packet (b ∷ bs) = b

-- an audio packet completes
abbrev pub audio_completes : State → Seen → Bool
audio_completes s x = not (in_headers s.phase) && x.completes

-- ---- the checks in their order; s is the state that expects the page, x its packets

-- 3 and 4
abbrev pub page_checks : Readings → Bytes → List Check
page_checks R b = NotOnePage when not (R.is_page b) ∷ WrongChecksum when not (R.is_checksummed b) ∷ []

-- 5 to 8
abbrev pub field_checks : State → Page → List Check
field_checks s p =
    OtherSerial when not (eqb p.header.serial s.serial)
    ∷ OutOfSequence when not (eqb p.header.sequence s.next)
    ∷ WrongFlags when wrong_flags s.phase p.header.flags
    ∷ WrongContinued when not (beq (continued p) (unfinished s.carried))
    ∷ []

-- 9 to 11
abbrev pub lacing_checks : State → Page → Seen → List Check
lacing_checks s p x =
    PacketTooLong when is_long s.carried p.lacing
    ∷ HeaderShape when wrong_shape s.phase (shape_of p.lacing)
    ∷ WrongGranule when granule_wrong (granule_most s.phase) x.completes (granule_of p)
    ∷ []

-- 12 to 14
abbrev pub header_checks : Readings → State → Seen → List Check
header_checks R s x =
    BadHead when (is_first s.phase && not (R.is_head (first_packet x.packets)))
    ∷ BadMapping when (is_first s.phase && not (R.is_mapped (first_packet x.packets)))
    ∷ BadTags when (is_comment s.phase && (x.completes && not (R.is_tags (first_packet x.packets))))
    ∷ []

-- for each audio packet 15 before 16
unfoldable pub packet_checks : Readings → ℕ → List Bytes → List Check
packet_checks R n [] = []
packet_checks R n (b ∷ bs) = IllegalPacket when not (R.is_legal n b) ∷ MixedLengths when R.is_mixed n b ∷ packet_checks R n bs

-- 19, 18, 17, where an audio packet completes
unfoldable pub time_checks : Readings → State → Page → Seen → List Check
time_checks R s p x =
    pick (audio_completes s x) (judge_checks s.position s.preskip (granule_of p) (samples_of (measures_of R s x)) (last p)) []

-- 2 to 14
abbrev pub shape_checks : Readings → State → Bytes → Seen → List Check
shape_checks R s b x =
    (AfterEnd when is_ended s.phase ∷ [])
    ++ (page_checks R b ++ (field_checks s (page_of b) ++ (lacing_checks s (page_of b) x ++ header_checks R s x)))

-- 2 to 19
unfoldable pub checks_on : Readings → State → Bytes → Seen → List Check
checks_on R s b x =
    shape_checks R s b x ++ (packet_checks R s.streams (audio_packets s x) ++ time_checks R s (page_of b) x)

-- ---- the stamps

-- what is told of a packet but its kept count: where it ends, its length in samples, and its frames
pub record Stamp : Type 0 where
  pub end : ℕ
  pub samples : ℕ
  pub frames : ℕ

-- of a packet of this measure that begins after a position
abbrev pub stamp_at : ℕ → Measure → Stamp
stamp_at at m = record { end = at + m.samples; samples = m.samples; frames = m.frames }

-- of packets of these measures, the first beginning after a position
unfoldable pub stamps : ℕ → List Measure → List Stamp
stamps at [] = []
stamps at (m ∷ ms) = stamp_at at m ∷ stamps (at + m.samples) ms

-- where the packets of the page begin
unfoldable pub start_on : Readings → State → Page → Seen → ℕ
start_on R s p x = from s.position (last p) (granule_of p) (samples_of (measures_of R s x))

unfoldable pub stamps_on : Readings → State → Page → Seen → List Stamp
stamps_on R s p x = stamps (start_on R s p x) (measures_of R s x)

-- ---- the state that follows

abbrev pub after_phase : Phase → Bool → Bool → Phase
after_phase First done end = Comment
after_phase Comment done end = pick done Audio Comment
after_phase Audio done end = pick end Ended Audio
after_phase Opened done end = pick end Ended Audio
after_phase Ended done end = Ended

abbrev pub after_position : Bool → Position → ℕ → Position
after_position true position g = At g
after_position false position g = position

-- the sequence number that is due after a page
abbrev pub due_after : PageHeader → ℕ
due_after h = (h.sequence + 1) % 2 ^ 32

unfoldable pub next_on : Readings → State → Page → Seen → State
next_on R s p x = record {
  phase = after_phase s.phase x.completes (last p);
  carried = x.left;
  position = after_position (audio_completes s x) s.position (granule_of p);
  serial = p.header.serial;
  next = due_after p.header;
  streams = pick (is_first s.phase) (R.head_of (first_packet x.packets)).streams s.streams;
  preskip = pick (is_first s.phase) (R.head_of (first_packet x.packets)).preskip s.preskip;
}

-- ---- one page

-- 2 to 19
unfoldable pub verdict : Readings → State → Bytes → Option Refusal
verdict R s b = first_of (checks_on R (expecting s (page_of b)) b (seen (expecting s (page_of b)) (page_of b)))

unfoldable pub after : Readings → State → Bytes → State
after R s b = next_on R (expecting s (page_of b)) (page_of b) (seen (expecting s (page_of b)) (page_of b))

unfoldable pub stamped : Readings → State → Bytes → List Stamp
stamped R s b = stamps_on R (expecting s (page_of b)) (page_of b) (seen (expecting s (page_of b)) (page_of b))
