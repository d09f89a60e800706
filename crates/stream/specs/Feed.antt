-- Starting, opening part way and feeding: what each tells, the next reader, and the end contents of the carry buffer and of the
-- four lists, for any reader, bytes and lent memory (RULES.md, 7). Assumes nothing.
use Rattle.std.specs.Prelude.{Result, Ok, Err, ℕ, ◌+◌, ◌-◌, ◌%◌, ◌^◌, ◌≡◌, Bool, not, List, [], ◌∷◌, ◌++◌, map, leb, length, take, drop}
use Rattle.std.proofs.Math.Option.{Option, none, some}
use Rattle.octets.specs.Pick.{pick}
use Rattle.octets.specs.Octets.{Bytes, copied}
use Rattle.refusal.specs.declared.Refusal.{Refusal}
use Rattle.refusal.specs.declared.Refusal.TheVariants.{ShortRoom, BadHead, UnfitFields}
use Rattle.refusal.specs.Checks.{Check, ◌when◌, first_of}
use Rattle.refusal.specs.Told.{Told, gives, refuses, decided}
use Rattle.refusal.specs.Numbers.{number_of}
use Rattle.head_fields.specs.declared.Head.{Head}
use Rattle.head_fields.specs.Right.{right_head}
use Rattle.granule.specs.declared.Position.TheVariants.{Unset, Joined}
use Rattle.granule.specs.Samples.{kept_of, skipped_of, trimmed_of}
use Rattle.granule.specs.Judging.{hole}
use Rattle.stream.specs.declared.Phase.{Phase}
use Rattle.stream.specs.declared.Phase.TheVariants.{First, Comment, Audio, Opened, Ended}
use Rattle.stream.specs.declared.Pending.{Pending}
use Rattle.stream.specs.declared.Pending.TheVariants.{Nothing, Held, Dropped}
use Rattle.stream.specs.declared.Core.{Core}
use Rattle.stream.specs.declared.Tally.{Tally}
use Rattle.stream.specs.declared.Counts.{Counts}
use Rattle.stream.specs.declared.PageFed.{PageFed}
use Rattle.stream.specs.Lent.{Lent, lent_of, with_carry, is_short}
use Rattle.stream.specs.Page.{Page, page_of, last, granule_of, whole, rest}
use Rattle.packet_reader.specs.declared.Measure.{Measure}
use Rattle.stream.specs.Readings.{Readings}
use Rattle.stream.specs.State.{Carried, nothing, dropped, held, State, is_comment, expecting}
use Rattle.stream.specs.Packets.{Seen, seen, measures_of, samples_of}
use Rattle.stream.specs.Rules.{audio_completes, checks_on, Stamp, start_on, next_on}

pub record Reader : Type 0 where
  pub core : Core
  pub tally : Tally

abbrev pub reader_of : Core → Tally → Reader
reader_of core tally = record { core = core; tally = tally }

-- ---- the state that decides: the core, and the carry bytes up to the held count

abbrev pub carried_in : Pending → Bytes → Carried
carried_in Nothing carry = nothing
carried_in (Held n) carry = held n (take n carry)
carried_in Dropped carry = dropped

abbrev pub pending_of : Carried → Pending
pending_of nothing = Nothing
pending_of dropped = Dropped
pending_of (held n h) = Held n

abbrev pub view : Core → Bytes → State
view k carry = record {
  phase = k.phase;
  carried = carried_in k.pending carry;
  position = k.position;
  serial = k.serial;
  next = k.next;
  streams = k.streams;
  preskip = k.preskip;
}

abbrev pub core_of : State → Core
core_of s = record {
  phase = s.phase;
  pending = pending_of s.carried;
  position = s.position;
  serial = s.serial;
  next = s.next;
  streams = s.streams;
  preskip = s.preskip;
}

-- ---- starting and opening part way

-- before any page: nothing is to skip yet, and every total is zero
abbrev pub no_tally : Tally
no_tally = record { skip = 0; kept = 0; skipped = 0; trimmed = 0; hole = 0 }

abbrev pub start : Reader
start = record {
  core = record { phase = First; pending = Nothing; position = Unset; serial = 0; next = 0; streams = 0; preskip = 0 };
  tally = no_tally;
}

-- opened part way nothing is skipped: kept then means not trimmed
abbrev pub open_tally : Head → Tally
open_tally h = no_tally

abbrev pub open_at : Head → Reader
open_at h = record {
  core = record {
    phase = Opened;
    pending = Nothing;
    position = Joined;
    serial = 0;
    next = 0;
    streams = h.streams;
    preskip = h.preskip;
  };
  tally = open_tally h;
}

abbrev pub open_checks : Head → List Check
open_checks h = UnfitFields when not (right_head h) ∷ []

-- 23, or a reader
unfoldable pub open_part_way : Head → Told Reader
open_part_way h = decided (first_of (open_checks h)) (open_at h)

-- ---- the packets that a page lists: end stamp, length in samples, frames, kept count

pub record Entry : Type 0 where
  pub end : ℕ
  pub samples : ℕ
  pub frames : ℕ
  pub kept : ℕ

abbrev pub stamp_of : Entry → Stamp
stamp_of e = record { end = e.end; samples = e.samples; frames = e.frames }

-- a packet of this measure that begins after `at`
abbrev pub entry_of : ℕ → Measure → ℕ → Entry
entry_of at m kept = record { end = at + m.samples; samples = m.samples; frames = m.frames; kept = kept }

-- packets of these measures on a page with granule g, the first beginning after `at` with `skip` samples still to skip
unfoldable pub entries : ℕ → Bool → ℕ → ℕ → List Measure → List Entry
entries skip end g at [] = []
entries skip end g at (m ∷ ms) =
    entry_of at m (kept_of skip end g at m.samples) ∷ entries (skip - m.samples) end g (at + m.samples) ms

unfoldable pub entries_on : Readings → ℕ → State → Page → Seen → List Entry
entries_on R skip s p x = entries skip (last p) (granule_of p) (start_on R s p x) (measures_of R s x)

-- the page's own record, each sample counted
unfoldable pub counts_on : Readings → ℕ → State → Page → Seen → Counts
counts_on R skip s p x = record {
  packets = length (measures_of R s x);
  samples = samples_of (measures_of R s x);
  kept = kept_of skip (last p) (granule_of p) (start_on R s p x) (samples_of (measures_of R s x));
  skipped = skipped_of skip (last p) (granule_of p) (start_on R s p x) (samples_of (measures_of R s x));
  trimmed = trimmed_of (last p) (granule_of p) (start_on R s p x) (samples_of (measures_of R s x));
  hole = pick (audio_completes s x) (hole s.position (granule_of p) (samples_of (measures_of R s x))) 0;
}

-- the record of a page that lists nothing
abbrev pub no_counts : Counts
no_counts = record { packets = 0; samples = 0; kept = 0; skipped = 0; trimmed = 0; hole = 0 }

-- samples still to skip after the page: the first page sets them to the pre-skip
abbrev pub skip_after : Phase → ℕ → ℕ → ℕ → ℕ
skip_after First preskip skip d = preskip
skip_after Comment preskip skip d = skip
skip_after Audio preskip skip d = skip - d
skip_after Opened preskip skip d = skip - d
skip_after Ended preskip skip d = skip

unfoldable pub skip_on : Readings → ℕ → State → Page → Seen → ℕ
skip_on R skip s p x = skip_after s.phase (next_on R s p x).preskip skip (samples_of (measures_of R s x))

-- a total after n more
abbrev pub added : ℕ → ℕ → ℕ
added total n = (total + n) % 2 ^ 64

-- the tally after a page with this record, `skip` samples being still to skip
abbrev pub tally_after : Tally → ℕ → Counts → Tally
tally_after t skip c = record {
  skip = skip;
  kept = added t.kept c.kept;
  skipped = added t.skipped c.skipped;
  trimmed = added t.trimmed c.trimmed;
  hole = added t.hole c.hole;
}

unfoldable pub tally_on : Readings → Tally → State → Page → Seen → Tally
tally_on R t s p x = tally_after t (skip_on R t.skip s p x) (counts_on R t.skip s p x)

-- ---- the carry buffer and the lists at the end

-- the first piece on the page
abbrev pub first_piece : List Bytes → Option Bytes → Bytes
first_piece [] none = []
first_piece [] (some b) = b
first_piece (b ∷ bs) r = b

-- the continuing piece, or any piece of the comment packet, after the held bytes
abbrev pub appended : Phase → Carried → Bytes → Bytes → Bytes
appended ph nothing b carry = pick (is_comment ph) (copied carry 0 b) carry
appended ph dropped b carry = carry
appended ph (held n h) b carry = copied carry n b

-- the rest of the page, where it belongs to a new packet
abbrev pub new_rest : Carried → List Bytes → Option Bytes → Option Bytes
new_rest nothing bs r = r
new_rest dropped [] r = none
new_rest dropped (b ∷ bs) r = r
new_rest (held n h) [] r = none
new_rest (held n h) (b ∷ bs) r = r

-- a new packet left unfinished, from place 0
abbrev pub with_rest : Option Bytes → Bytes → Bytes
with_rest none carry = carry
with_rest (some b) carry = copied carry 0 b

-- the refusals under which the continuing piece is in the carry buffer: from 12 on
abbrev pub first_late : ℕ
first_late = number_of BadHead

abbrev pub is_late : Refusal → Bool
is_late n = leb first_late (number_of n)

-- what the carry buffer holds at the end, s being the state that expected the page
unfoldable pub carry_after : Option Refusal → State → Page → Bytes → Bytes
carry_after none s p carry =
    with_rest (new_rest s.carried (whole p) (rest p)) (appended s.phase s.carried (first_piece (whole p) (rest p)) carry)
carry_after (some n) s p carry =
    pick (is_late n) (appended s.phase s.carried (first_piece (whole p) (rest p)) carry) carry

-- a list with a field of the entries in its first places, the others as they were
abbrev pub listed : (Entry → ℕ) → List Entry → List ℕ → List ℕ
listed field es old = map field es ++ drop (length es) old

-- the lent memory with these entries in its lists, each list by its field of an entry
abbrev pub with_entries : List Entry → Lent → Lent
with_entries es m =
    lent_of m.carry
    (listed (λ (e : Entry). e.end) es m.ends)
    (listed (λ (e : Entry). e.samples) es m.lengths)
    (listed (λ (e : Entry). e.kept) es m.kept)
    (listed (λ (e : Entry). e.frames) es m.frames)

-- ---- feeding

-- what an accepted page gives: the next reader, and the page's own record
pub record Taken : Type 0 where
  pub reader : Reader
  pub counts : Counts

pub record Fed : Type 0 where
  pub told : Told Taken
  pub entries : List Entry
  pub lent : Lent

-- what was told, and the lent memory at the end, are those of f
pub record FedIs (f : Fed) (t : Told Taken) (after : Lent) : Type 0 where
  pub told : t ≡ f.told
  pub lent : after ≡ f.lent

-- of a call that feeds only where it is `due`: the answer and the memory are those of f, or nothing is told and all stays
pub record FedWhen (due : Bool) (f : Fed) (t : Option (Told Taken)) (before after : Lent) : Type 0 where
  pub told : t ≡ pick due (some f.told) none
  pub lent : after ≡ pick due f.lent before

-- by the refusal or none; t is the state that expects the page, x the page's packets
abbrev pub fed_by : Option Refusal → Readings → Reader → Lent → State → Page → Seen → Fed
fed_by none R r m t p x = record {
  told = gives (record {
    reader = record { core = core_of (next_on R t p x); tally = tally_on R r.tally t p x };
    counts = counts_on R r.tally.skip t p x;
  });
  entries = entries_on R r.tally.skip t p x;
  lent = with_entries (entries_on R r.tally.skip t p x) (with_carry m (carry_after none t p m.carry));
}
fed_by (some n) R r m t p x = record {
  told = refuses (number_of n);
  entries = [];
  lent = with_carry m (carry_after (some n) t p m.carry);
}

-- 1 to 19, in the order of RULES.md, 7
abbrev pub feed_checks : Readings → Lent → State → Bytes → Seen → List Check
feed_checks R m t b x = ShortRoom when is_short m ∷ checks_on R t b x

abbrev pub feed_on : Readings → Reader → Lent → State → Bytes → Seen → Fed
feed_on R r m t b x = fed_by (first_of (feed_checks R m t b x)) R r m t (page_of b) x

unfoldable pub feed : Readings → Reader → Lent → Bytes → Fed
feed R r m b =
    feed_on R r m (expecting (view r.core m.carry) (page_of b)) b
    (seen (expecting (view r.core m.carry) (page_of b)) (page_of b))

-- the contract of feeding: the bytes `page` are fed to the reader r with the memory `before`; t is told, and `after` is left
abbrev pub Feeds : Readings → Reader → Bytes → Lent → Told Taken → Lent → Type 0
Feeds R r page before t after = FedIs (feed R r before page) t after

-- what the code's answer tells
abbrev pub told_page : Result PageFed Refusal → Told Taken
told_page (Ok p) = gives (record { reader = reader_of p.core p.tally; counts = p.counts })
told_page (Err why) = refuses (number_of why)
