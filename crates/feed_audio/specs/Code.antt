-- What the private functions answer and ask, in the code's words; the files of `proofs/` have the laws to the rules. Assumes
-- nothing.
use Rattle.std.specs.Prelude.{Result, Ok, Err, ℕ, ◌+◌, ◌*◌, ◌-◌, ◌/◌, ◌%◌, ◌≤◌, ◌<◌, ◌^◌, ◌≡◌, Bool, true, false, List, [], ◌∷◌, ◌++◌, ltb, eqb, length, take, drop}
use Rattle.refusal.specs.declared.Refusal.{Refusal}
use Rattle.std.proofs.Math.Option.{Option, none, some}
use Rattle.octets.specs.Pick.{pick}
use Rattle.octets.specs.Octets.{Bytes, total}
use Rattle.limits.specs.Limits.{packet_max, list_max}
use Rattle.refusal.specs.Checks.{Check, first_of}
use Rattle.refusal.specs.Told.{Told, gives, refuses, retold}
use Rattle.refusal.specs.Numbers.{number_of}
use Rattle.page_layout.specs.declared.PageHeader.{PageHeader}
use Rattle.packet_frames.specs.Frames.{samples_max}
use Rattle.packet_reader.specs.declared.Measure.{Measure}
use Rattle.packet_reader.specs.declared.Contents.{Contents}
use Rattle.packet_reader.specs.Streams.{read_packet}
use Rattle.granule.specs.declared.Position.{Position}
use Rattle.granule.specs.declared.Placed.{Placed}
use Rattle.granule.specs.Samples.{trimmed_of, skipped_of, kept_of}
use Rattle.granule.specs.Judging.{judge, placed}
use Rattle.stream.specs.declared.Phase.TheVariants.{Audio, Ended}
use Rattle.stream.specs.declared.Pending.{Pending}
use Rattle.stream.specs.declared.Pending.TheVariants.{Nothing, Held, Dropped}
use Rattle.stream.specs.declared.Core.{Core}
use Rattle.stream.specs.declared.Counts.{Counts}
use Rattle.stream.specs.Page.{Page, whole_from}
use Rattle.page_flags.specs.Flags.{is_last_page}
use Rattle.stream.specs.Lent.{Lent, lent_of}
use Rattle.stream.specs.Readings.{Readings}
use Rattle.stream.specs.State.{State}
use Rattle.stream.specs.Packets.{Seen, seen, is_long, audio_packets, samples_of}
use Rattle.stream.specs.Rules.{packet_checks, time_checks}
use Rattle.stream.specs.Feed.{Reader, view, carried_in, Entry, with_entries, Fed, fed_by}
use Rattle.feed_audio.specs.declared.packets.Piece.{Piece}
use Rattle.feed_audio.specs.declared.packets.Measured.{Measured}
use Rattle.feed_audio.specs.declared.times.Timed.{Timed}
use Rattle.feed_lacing.specs.Scan.{tail_by}
use Rattle.feed_next.specs.Next.{core_after}

-- ---- the lacing values

-- one value more at its beginning
abbrev pub one_more : Piece → Piece
one_more p = record { values = p.values + 1; bytes = p.bytes; ends = p.ends }

-- the first piece: how many values, how many bytes, n being known, and whether a packet ends with it
unfoldable pub first_from : ℕ → Bytes → Piece
first_from n [] = record { values = 0; bytes = n; ends = false }
first_from n (v ∷ l) = pick (ltb v 255) (record { values = 1; bytes = n + v; ends = true }) (one_more (first_from (n + v) l))

-- ---- the packets' measures

-- 0 streams are read as 1
abbrev pub count_of : ℕ → ℕ
count_of n = pick (eqb n 0) 1 n

-- a measure in one number, which fits where a packet has fewer than 64 frames; and back
abbrev pub packed_of : Measure → ℕ
packed_of m = m.samples * 64 + m.frames

abbrev pub unpacked : ℕ → Measure
unpacked v = record { samples = v / 64; frames = v % 64 }

-- the measures in some numbers
unfoldable pub measures_in : List ℕ → List Measure
measures_in [] = []
measures_in (v ∷ vs) = unpacked v ∷ measures_in vs

-- a measure that a packet can have
pub record Packable (m : Measure) : Type 0 where
  pub samples : m.samples ≤ samples_max
  pub frames : m.frames < 64

-- some measures in front of others
abbrev pub in_front : List Measure → Told (List Measure) → Told (List Measure)
in_front ms (gives later) = gives (ms ++ later)
in_front ms (refuses n) = refuses n

abbrev pub and_later : Told Measure → Told (List Measure) → Told (List Measure)
and_later (gives m) t = in_front (m ∷ []) t
and_later (refuses n) t = refuses n

-- the measure of a packet of n streams, or its refusal
abbrev pub measure_in : Bytes → ℕ → Told Measure
measure_in b n = retold (λ (c : Contents). c.measure) (read_packet b n)

-- the measures of packets of n streams, or the first refusal among them
unfoldable pub measured : ℕ → List Bytes → Told (List Measure)
measured n [] = gives []
measured n (b ∷ bs) = and_later (measure_in b n) (measured n bs)

-- n packets of d samples in all
abbrev pub all_of : ℕ → ℕ → Result Measured Refusal
all_of n d = Ok (record { count = n; samples = d })

abbrev pub told_measured : Result Measured Refusal → List ℕ → Told (List Measure)
told_measured (Ok r) packed = gives (measures_in (take r.count packed))
told_measured (Err r) packed = refuses (number_of r)

-- the samples of the first n packets are d
pub record Sums (n d : ℕ) (packed : List ℕ) : Type 0 where
  pub adds : d ≡ samples_of (measures_in (take n packed))
  pub few : n ≤ length packed
  pub small : d ≤ samples_max * 256

abbrev pub SumsIn : Result Measured Refusal → List ℕ → Type 0
SumsIn (Ok r) packed = Sums r.count r.samples packed
SumsIn (Err r) packed = Unit {0}

pub record Measures (r : Result Measured Refusal) (packed : List ℕ) (t : Told (List Measure)) : Type 0 where
  pub tells : told_measured r packed ≡ t
  pub sums : SumsIn r packed

-- what the loop that measures asks: it starts within the page, the page has the bytes, the measures have room, the samples of
-- n of them are d
pub record Ready (from at n d : ℕ) (l body packed : List ℕ) : Type 0 where
  pub few : length l ≤ 255
  pub within : from ≤ length l
  pub bytes : at + total (drop from l) ≤ length body
  pub room : n + length l ≤ length packed + from
  pub one : n ≤ 1
  pub adds : d ≡ samples_of (measures_in (take n packed))
  pub small : d ≤ samples_max * n

-- the packets that complete: the held one lies in the carry buffer, its last piece appended
abbrev pub packets_by : Pending → ℕ → ℕ → Bytes → Bytes → Bytes → List Bytes
packets_by Nothing values bytes l body carry = whole_from 0 l body
packets_by (Held n) values bytes l body carry = take (n + bytes) carry ∷ whole_from 0 (drop values l) (drop bytes body)
packets_by Dropped values bytes l body carry = whole_from 0 (drop values l) (drop bytes body)

-- where a held packet ends once its next piece, of b bytes, is appended
abbrev pub held_end : Pending → ℕ → ℕ
held_end Nothing b = 0
held_end (Held n) b = n + b
held_end Dropped b = 0

-- what the code that measures asks: a page that passed 3 and 9, and room
pub record Measurable (pending : Pending) (values bytes : ℕ) (l body carry packed : List ℕ) : Type 0 where
  pub few : length l ≤ 255
  pub room : 255 ≤ length packed
  pub some : 1 ≤ values
  pub within : values ≤ length l
  pub sums : total l ≤ length body
  pub rest : bytes + total (drop values l) ≤ length body
  pub held : held_end pending bytes ≤ length carry

-- ---- 15 to 19

-- the packets being measured as t
abbrev pub timed_by : Told (List Measure) → Core → PageHeader → Told Placed
timed_by (gives ms) k h = judge k.position k.preskip h.granule (samples_of ms) (is_last_page h.flags)
timed_by (refuses n) k h = refuses n

abbrev pub told_timed : Result Timed Refusal → Told Placed
told_timed (Ok r) = gives r.place
told_timed (Err r) = refuses (number_of r)

-- accepted: the measures are at the start of the list, and the stamps fit
pub record Runs (n d : ℕ) (w : Placed) (packed : List ℕ) (k : Core) (h : PageHeader) (t : Told (List Measure)) : Type 0 where
  pub measures : gives (measures_in (take n packed)) ≡ t
  pub adds : d ≡ samples_of (measures_in (take n packed))
  pub few : n ≤ length packed
  pub place : w ≡ placed k.position (is_last_page h.flags) h.granule d
  pub fits : w.from + samples_of (measures_in (take n packed)) < 2 ^ 64

abbrev pub RunsIn : Result Timed Refusal → List ℕ → Core → PageHeader → Told (List Measure) → Type 0
RunsIn (Ok r) packed k h t = Runs r.count r.samples r.place packed k h t
RunsIn (Err r) packed k h t = Unit {0}

pub record Times (r : Result Timed Refusal) (packed : List ℕ) (k : Core) (h : PageHeader) (t : Told (List Measure)) : Type 0 where
  pub tells : told_timed r ≡ timed_by t k h
  pub runs : RunsIn r packed k h t

-- ---- the lists

pub record Room (n from : ℕ) (packed es ss ks fs : List ℕ) : Type 0 where
  pub measures : n ≤ length packed
  pub ends : n ≤ length es
  pub lengths : n ≤ length ss
  pub kept : n ≤ length ks
  pub frames : n ≤ length fs
  pub fits : from + samples_of (measures_in (take n packed)) < 2 ^ 64

-- room for one packet at place i, its last sample being at a position that fits
pub record Placeable (i m at : ℕ) (es ss ks fs : List ℕ) : Type 0 where
  pub ends : i < length es
  pub lengths : i < length ss
  pub kept : i < length ks
  pub frames : i < length fs
  pub fits : at + m / 64 < 2 ^ 64

-- the four lists, from `old`, with these entries, and the samples that are then still to skip, d of them being listed
pub record Lists (left skip d : ℕ) (es : List Entry) (old : Lent) (ends lengths kept frames : List ℕ) : Type 0 where
  pub lists : lent_of old.carry ends lengths kept frames ≡ with_entries es old
  pub skips : left ≡ skip - d

abbrev pub counts_by : ℕ → ℕ → Placed → ℕ → Bool → ℕ → Counts
counts_by n d w skip last g = record {
  packets = n;
  samples = d;
  kept = kept_of skip last g w.from d;
  skipped = skipped_of skip last g w.from d;
  trimmed = trimmed_of last g w.from d;
  hole = w.hole;
}

-- ---- the carry buffer and the next state

-- the last t bytes of the body, where there are any
unfoldable pub rest_of : ℕ → Bytes → Option Bytes
rest_of t body = pick (eqb t 0) none (some (drop (length body - t) body))

-- what is unfinished after the page: a new packet, or, where none completes, the one before
abbrev pub begun_by : ℕ → Pending
begun_by rest = pick (eqb rest 0) Nothing (Held rest)

abbrev pub still_by : Pending → ℕ → Pending
still_by Nothing rest = begun_by rest
still_by (Held n) rest = Held rest
still_by Dropped rest = Dropped

-- the bytes of a new packet, where none completes
abbrev pub fresh_by : Pending → ℕ → ℕ
fresh_by Nothing rest = rest
fresh_by (Held n) rest = 0
fresh_by Dropped rest = 0

abbrev pub next_core : Core → PageHeader → Pending → Position → Core
next_core k h pending position = core_after h (pick (is_last_page h.flags) Ended Audio) pending position k.streams k.preskip

-- ---- the ways of a page

-- past 11: 15 to 19 decide
abbrev pub checks_past11 : Readings → State → Page → Seen → List Check
checks_past11 R t p x = packet_checks R t.streams (audio_packets t x) ++ time_checks R t p x

abbrev pub on_past11 : Readings → Reader → Lent → State → Page → Seen → Fed
on_past11 R r m t p x = fed_by (first_of (checks_past11 R t p x)) R r m t p x

unfoldable pub fed_past11 : Readings → Reader → Lent → Page → Fed
fed_past11 R r m p = on_past11 R r m (view r.core m.carry) p (seen (view r.core m.carry) p)

-- an audio page, and the room of 1
pub record Fitting (k : Core) (l body : Bytes) (m : Lent) : Type 0 where
  pub audio : k.phase ≡ Audio
  pub few : length l ≤ 255
  pub sums : total l ≡ length body
  pub carry : packet_max ≤ length m.carry
  pub ends : list_max ≤ length m.ends
  pub lengths : list_max ≤ length m.lengths
  pub kept : list_max ≤ length m.kept
  pub frames : list_max ≤ length m.frames

-- it has passed 9; `rest` bytes of its last packet are left
pub record Scanned (k : Core) (l : Bytes) (carry : List ℕ) (first : Piece) (rest : ℕ) : Type 0 where
  pub piece : first ≡ first_from 0 l
  pub short : is_long (carried_in k.pending carry) l ≡ false
  pub tail : rest ≡ tail_by k.pending l

-- a packet completes
pub record AnyCompletes (k : Core) (h : PageHeader) (first : Piece) (rest : ℕ) (l body : Bytes) (m : Lent) : Type 0 where
  pub fitting : Fitting k l body m
  pub scanned : Scanned k l m.carry first rest
  pub done : (first_from 0 l).ends ≡ true
  pub measurable : Measurable k.pending first.values first.bytes l body m.carry m.ends
  pub bytes : first.bytes ≤ length body
  pub left : rest ≤ length body
  pub granule : h.granule < 2 ^ 63

-- none does
pub record NoneCompletes (k : Core) (bytes rest : ℕ) (l body : Bytes) (m : Lent) : Type 0 where
  pub fitting : Fitting k l body m
  pub piece : bytes ≡ (first_from 0 l).bytes
  pub tail : rest ≡ tail_by k.pending l
  pub undone : (first_from 0 l).ends ≡ false
