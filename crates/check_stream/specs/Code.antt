-- What the code of checking answers and needs: a walk over the pages of an accepted stream, each fed to a reader, and the
-- findings on each stored one after the other. Assumes nothing.
use Rattle.refusal.specs.Told.{told, Told, gives, refuses, retold}
use Rattle.refusal.specs.declared.Refusal.{Refusal}
use Rattle.std.specs.Prelude.{Result, Ok, Err, ℕ, ◌+◌, ◌-◌, ◌*◌, ◌≤◌, ◌<◌, min, ◌≡◌, Bool, false, not, ◌&&◌, List, ◌++◌, map, ltb, eqb, length, get_or, take, drop}
use Rattle.std.proofs.Math.Option.{none}
use Rattle.std.proofs.lemmas.List.Edits.{sets}
use Rattle.octets.specs.Pick.{pick}
use Rattle.octets.specs.Octets.{Bytes}
use Rattle.refusal.specs.Numbers.{number_of}
use Rattle.page_crc.specs.Crc.{page_crc}
use Rattle.tags_replaygain.specs.ReplayGain.{has_replay_gain}
use Rattle.stream.specs.declared.Counts.{Counts}
use Rattle.stream.specs.Readings.{Readings, readings}
use Rattle.stream.specs.Lent.{Lent, is_short}
use Rattle.stream.specs.Stream.{open_after, listings}
use Rattle.reader.specs.declared.Reader.{Reader}
use Rattle.reader.specs.Answers.{known_as}
use Rattle.recording.specs.Pages.{pages_of}
use Rattle.recording.specs.Judging.{first_refused, fresh}
use Rattle.recording.specs.Statements.{After, Begins}
use Rattle.recording_pages.specs.Places.{header_count, place_of}
use Rattle.check_rules.specs.Findings.{last_in, comment_packet, Finding, finding_if, findings_from, findings}
use Rattle.check_rules.specs.Checking.{fitting, listed_by}
use Rattle.check_stream.specs.declared.walk.Found.{Found}
use Rattle.check_stream.specs.declared.walk.Walk.{Walk}

abbrev R : Readings
R = readings page_crc

-- no page of the stream is refused
abbrev pub Accepted : Bytes → Type 0
Accepted b = first_refused R fresh 0 (pages_of b) ≡ none

-- and the headers have so many pages
pub record Headed (b : Bytes) (headers : ℕ) : Type 0 where
  pub accepted : Accepted b
  pub pages : headers ≡ header_count (pages_of b)

-- and `gains` tells whether they have a REPLAYGAIN tag
pub record Tagged (b : Bytes) (headers : ℕ) (gains : Bool) : Type 0 where
  pub headed : Headed b headers
  pub tag : gains ≡ has_replay_gain (comment_packet (pages_of b))

-- the bytes lent have room for the comment packet
pub record CanGather (b : Bytes) (headers : ℕ) (packet : Bytes) : Type 0 where
  pub pages : headers ≡ header_count (pages_of b)
  pub room : length (comment_packet (pages_of b)) ≤ length packet

-- ---- a page

-- a packet is unfinished after these lacing values; o tells whether one was before them
abbrev pub open_on : Bool → Bytes → Bool
open_on o l = pick (eqb (length l) 0) o (not (ltb (get_or l (length l - 1) 0) 255))

abbrev pub found_by : Bool → Bool → Bool → ℕ → Bool → Counts → Found
found_by is_last pending ended last gain counts = record {
  unfinished = is_last && pending;
  endless = is_last && not ended;
  overtrimmed = is_last && ltb last counts.trimmed;
  gain = gain;
  hole = ltb 0 counts.hole;
}

-- what is found on page k
abbrev pub found_list : Found → ℕ → List Finding
found_list f k =
    finding_if f.unfinished 1 k
    ++ (finding_if f.endless 2 k
    ++ (finding_if f.overtrimmed 3 k
    ++ (finding_if f.gain 4 k
    ++ finding_if f.hole 5 k)))

-- the findings from page k on
abbrev pub findings_left : Bytes → ℕ → List Finding
findings_left b k = findings_from R (pages_of b) k (drop k (listings R (pages_of b)))

-- ---- the walk

-- before any page
abbrev pub begun : Reader → Walk
begun r = record {
  reader = r;
  page = 0;
  at = 0;
  pending = false;
  last = 0;
  found = record { unfinished = false; endless = false; overtrimmed = false; gain = false; hole = false };
}

-- the walk w has come to a page of the stream b, an accepted one; the bytes `carry` are lent to its reader
pub record Walked (b : Bytes) (w : Walk) (carry : Bytes) : Type 0 where
  pub begins : Begins b w.at w.page
  pub place : w.at ≡ place_of (pages_of b) w.page
  pub few : 5 * w.page ≤ w.at
  pub after : After R (take w.page (pages_of b)) (known_as w.reader) carry
  pub pending : w.pending ≡ open_after false (take w.page (pages_of b))
  pub last : w.last ≡ last_in 0 (take w.page (listings R (pages_of b)))

-- there is a page, and the memory m has room
pub record CanTurn (b : Bytes) (headers : ℕ) (gains : Bool) (w : Walk) (m : Lent) : Type 0 where
  pub tagged : Tagged b headers gains
  pub walked : Walked b w m.carry
  pub room : is_short m ≡ false
  pub more : w.at < length b

-- a turn from w to `next`, the bytes `carry` being left in the carry buffer
pub record Turned (b : Bytes) (w next : Walk) (carry : Bytes) : Type 0 where
  pub walked : Walked b next carry
  pub page : next.page ≡ w.page + 1
  pub onward : w.at < next.at
  pub found : findings_left b w.page ≡ found_list next.found w.page ++ findings_left b next.page

pub record CanFind (b : Bytes) (headers : ℕ) (gains : Bool) (m : Lent) : Type 0 where
  pub tagged : Tagged b headers gains
  pub room : is_short m ≡ false

-- ---- two lists, which go from their entries to their exits

abbrev pub kind_in : Finding → ℕ
kind_in f = f.kind

abbrev pub page_in : Finding → ℕ
page_in f = f.page

-- findings, at most n, from place `at` on, as far as the lists go; r is the place after them
pub record Put (fs : List Finding) (at n r : ℕ) (kinds kindsEnd pages pagesEnd : List ℕ) : Type 0 where
  pub next : r ≡ at + length fs
  pub most : r ≤ at + n
  pub kind : kindsEnd ≡ sets kinds at (map kind_in fs)
  pub page : pagesEnd ≡ sets pages at (map page_in fs)

-- all findings, and r is how many they are
pub record Filled (b : Bytes) (r : ℕ) (kinds kindsEnd pages pagesEnd : List ℕ) : Type 0 where
  pub count : r ≡ length (findings R (pages_of b))
  pub kind : kindsEnd ≡ sets kinds 0 (map kind_in (findings R (pages_of b)))
  pub page : pagesEnd ≡ sets pages 0 (map page_in (findings R (pages_of b)))

-- what is told of an accepted stream
abbrev pub checked_whole : Bytes → List ℕ → List ℕ → Told (List Finding)
checked_whole b kinds pages = fitting (findings R (pages_of b)) (min (length kinds) (length pages))

pub record ChecksWhole (b : Bytes) (t : Told ℕ) (kinds kindsEnd pages pagesEnd : List ℕ) : Type 0 where
  pub told : t ≡ retold length (checked_whole b kinds pages)
  pub kind : kindsEnd ≡ listed_by kind_in (checked_whole b kinds pages) kinds
  pub page : pagesEnd ≡ listed_by page_in (checked_whole b kinds pages) pages
