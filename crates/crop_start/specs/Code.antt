-- What the code that finds the start of a crop answers and needs: a walk over the pages of an accepted stream, each fed to a
-- reader. Assumes nothing.
use Rattle.std.specs.Prelude.{Option as CodeOption, Some, None, Result, Ok, Err, ℕ, ◌+◌, ◌-◌, ◌≤◌, ◌<◌, ◌≡◌, Bool, false, ◌&&◌, List, leb, eqb, length, get_or, take}
use Rattle.refusal.specs.declared.Refusal.{Refusal}
use Rattle.std.proofs.Math.Option.{Option, none, some}
use Rattle.octets.specs.Pick.{pick}
use Rattle.octets.specs.Octets.{Bytes}
use Rattle.refusal.specs.Numbers.{number_of}
use Rattle.refusal.specs.Told.{Told, gives, refuses}
use Rattle.page_crc.specs.Crc.{page_crc}
use Rattle.stream.specs.Page.{page_of}
use Rattle.stream.specs.Readings.{Readings, readings}
use Rattle.stream.specs.Lent.{Lent, is_short}
use Rattle.reader.specs.Answers.{known_as}
use Rattle.recording.specs.Pages.{pages_of}
use Rattle.recording.specs.Judging.{first_refused, fresh}
use Rattle.recording.specs.Statements.{After, Begins}
use Rattle.recording_pages.specs.Places.{header_count, place_of}
use Rattle.crop_rules.specs.Crop.{may_begin}
use Rattle.crop_start.specs.declared.CropStart.{CropStart}
use Rattle.crop_start.specs.declared.Walk.{Walk}
use Rattle.crop_start.specs.Start.{Start, best_start}

abbrev pub told_start : Result CropStart Refusal → Told Start
told_start (Ok s) = gives (record { page = s.page; position = s.position })
told_start (Err why) = refuses (number_of why)

-- the best page so far, if there is one
abbrev pub best_as : CodeOption CropStart → Option Start
best_as (Some s) = some (record { page = s.page; position = s.position })
best_as None = none

-- where the first of n packets starts, by the lists that a feeding leaves
abbrev pub first_in : ℕ → List ℕ → List ℕ → ℕ
first_in n ends lengths = pick (eqb n 0) 0 (get_or ends 0 0 - get_or lengths 0 0)

-- a crop may begin at page k, the bytes p, which starts at or before the position; the headers have so many pages
abbrev pub may_start : Bytes → ℕ → ℕ → ℕ → ℕ → Bool
may_start p headers k start position = (leb headers k && may_begin (page_of p)) && leb start position

abbrev R : Readings
R = readings page_crc

-- the walk w has come to a page of the stream b, an accepted one; the bytes `carry` are lent to its reader
pub record Walked (b : Bytes) (position : ℕ) (w : Walk) (carry : Bytes) : Type 0 where
  pub accepted : first_refused R fresh 0 (pages_of b) ≡ none
  pub begins : Begins b w.at w.page
  pub place : w.at ≡ place_of (pages_of b) w.page
  pub few : w.page ≤ w.at
  pub after : After R (take w.page (pages_of b)) (known_as w.reader) carry
  pub best : best_as w.best ≡ best_start R (pages_of b) position w.page

-- there is a page, and the memory m has room
pub record CanTurn (b : Bytes) (headers position : ℕ) (w : Walk) (m : Lent) : Type 0 where
  pub walked : Walked b position w m.carry
  pub room : is_short m ≡ false
  pub headed : headers ≡ header_count (pages_of b)
  pub more : w.at < length b

-- a turn from w to `next`, the bytes `carry` being left in the carry buffer
pub record Turned (b : Bytes) (position : ℕ) (w next : Walk) (carry : Bytes) : Type 0 where
  pub walked : Walked b position next carry
  pub page : next.page ≡ w.page + 1
  pub onward : w.at < next.at

-- an accepted stream, and memory with room
pub record CanFind (b : Bytes) (m : Lent) : Type 0 where
  pub accepted : first_refused R fresh 0 (pages_of b) ≡ none
  pub room : is_short m ≡ false
