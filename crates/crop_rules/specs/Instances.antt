-- A stream, and pages added to it and to its crop, that meet the hypotheses of `CropWhole`, `CropStamps` and `CropFollows`.
-- Assumes nothing.
use Rattle.std.specs.Prelude.{ℕ, ◌≡◌, List, [], ◌∷◌, map}
use Rattle.octets.specs.Octets.{Bytes}
use Rattle.refusal.specs.declared.Refusal.TheVariants.{OutOfSequence}
use Rattle.refusal.specs.Numbers.{number_of}
use Rattle.refusal.specs.Told.{gives, refuses}
use Rattle.stream.specs.Page.{Page}
use Rattle.stream.specs.Feed.{start}
use Rattle.stream.specs.Feedings.{Feeding, finally}
use Rattle.stream.specs.Entering.{tells}
use Rattle.feed_pages.specs.Feedings.{together}
use Rattle.recording.specs.Pages.{pages_of}
use Rattle.recording.specs.Feedings.{feedings_from}
use Rattle.recording_pages.specs.Places.{header_count}
use Rattle.demands.specs.Example.{R, head_page, tags_page, written, lent_with, room}
use Rattle.crop_rules.specs.Crop.{crop_pages}
use Rattle.crop_rules.specs.Statements.{Croppable, Added, ones, Continued}

-- ---- the stream: a crop at its page 3 leaves one audio page away

-- one packet of 480 samples
abbrev pub audio_page : ℕ → ℕ → Page
audio_page granule sequence = record {
  header = record { flags = 0; granule = granule; serial = 7; sequence = sequence };
  lacing = 1 ∷ [];
  body = 0 ∷ [];
}

-- a hole of 520 lies before the second audio page
abbrev pub pages : List Page
pages = head_page ∷ tags_page ∷ audio_page 480 2 ∷ audio_page 1480 3 ∷ audio_page 1960 4 ∷ []

unfoldable pub buffer : Bytes
buffer = together (map written pages)

-- ---- the feedings of the stream and of its crop, each in one lent memory

unfoldable pub F : List Feeding
F = feedings_from R start (lent_with room) (pages_of buffer)

unfoldable pub G : List Feeding
G = feedings_from R start (lent_with room) (crop_pages (pages_of buffer) 3)

-- ---- what is added: the page that is due, and one with a wrong sequence number

abbrev pub due_page : Page
due_page = audio_page 2440 5

abbrev pub stray_page : Page
stray_page = audio_page 2920 9

abbrev pub fed : Bytes → Feeding
fed b = record { bytes = b; lent = lent_with room }

-- the hypotheses, and what they come to here
pub record MeetsCrop : Type 0 where
  pub croppable : Croppable buffer 3
  pub headers : header_count (pages_of buffer) ≡ 2
  pub added : List Added
  pub feedings : ones added ≡ fed (written due_page) ∷ fed (written stray_page) ∷ []
  pub continued : Continued buffer 3 F G added
  pub told : tells R (finally R start F) (ones added)
      ≡ gives (record { end = 2440; samples = 480; frames = 1 } ∷ []) ∷ refuses (number_of OutOfSequence) ∷ []
