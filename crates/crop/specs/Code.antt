-- What the code of cropping answers and needs. Assumes nothing.
use Rattle.refusal.specs.Told.{told, Told, gives, refuses, decided, retold}
use Rattle.refusal.specs.declared.Refusal.{Refusal}
use Rattle.std.specs.Prelude.{Result, Ok, Err, ℕ, ◌+◌, ◌-◌, ◌≤◌, ◌≡◌, map, length, drop}
use Rattle.std.proofs.Math.Option.{none}
use Rattle.octets.specs.Octets.{Bytes}
use Rattle.refusal.specs.Checks.{first_of}
use Rattle.refusal.specs.Numbers.{number_of}
use Rattle.page_crc.specs.Crc.{page_crc}
use Rattle.stream.specs.Readings.{readings}
use Rattle.feed_pages.specs.Feedings.{together}
use Rattle.recording.specs.Pages.{pages_of}
use Rattle.recording.specs.Judging.{first_refused, fresh}
use Rattle.recording.specs.Statements.{Begins}
use Rattle.recording_pages.specs.Places.{place_of, header_count}
use Rattle.crop_rules.specs.Crop.{back, renumbered, crop_of}
use Rattle.crop_rules.specs.Cropping.{crop_checks, put_by}

-- no page of the stream is refused
abbrev pub Accepted : Bytes → Type 0
Accepted b = first_refused (readings page_crc) fresh 0 (pages_of b) ≡ none

-- page k begins at this place, and the headers have so many pages
pub record IsPlaced (b : Bytes) (headers k at : ℕ) : Type 0 where
  pub headed : headers ≡ header_count (pages_of b)
  pub place : at ≡ place_of (pages_of b) k

-- the pages of b from a place on, each with its number d less
abbrev pub moved_pages : ℕ → Bytes → ℕ → Bytes
moved_pages d b from = together (map (renumbered (back d)) (pages_of (drop from b)))

-- some page of an accepted stream begins at the place `from`, and the output has room for those from there on
pub record CanPut (b : Bytes) (from : ℕ) (out : Bytes) (to : ℕ) : Type 0 where
  pub accepted : Accepted b
  pub page : ℕ
  pub begins : Begins b from page
  pub room : to + (length b - from) ≤ length out

-- what is told of a whole stream
abbrev pub cropped_whole : Bytes → ℕ → ℕ → Told Bytes
cropped_whole b k n = decided (first_of (crop_checks b k n)) (crop_of b k)

pub record CropsWhole (b : Bytes) (k : ℕ) (t : Told ℕ) (out end : Bytes) : Type 0 where
  pub told : t ≡ retold length (cropped_whole b k (length out))
  pub output : end ≡ put_by (cropped_whole b k (length out)) out
