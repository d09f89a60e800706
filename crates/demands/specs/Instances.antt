-- Readers, pages and lent memory that meet the hypotheses of the statements in `SameAnswers`, `Unskipped`, `CarryBuffer` and
-- `Entering` of `stream`, and of `HeldCounts` of `feed_pages`.
-- Assumes nothing.
use Rattle.std.specs.Prelude.{ℕ, ◌<◌, ◌^◌, ◌≡◌, true, List, [], ◌∷◌, ◌++◌, take, replicate}
use Rattle.octets.specs.Octets.{Bytes}
use Rattle.refusal.specs.declared.Refusal.TheVariants.{GranuleTooSmall}
use Rattle.refusal.specs.Numbers.{number_of}
use Rattle.refusal.specs.Told.{gives, refuses}
use Rattle.granule.specs.declared.Position.{Position}
use Rattle.granule.specs.declared.Position.TheVariants.{Unset, At}
use Rattle.stream.specs.declared.Phase.TheVariants.{Audio}
use Rattle.stream.specs.declared.Pending.{Pending}
use Rattle.stream.specs.declared.Pending.TheVariants.{Nothing, Held}
use Rattle.stream.specs.Page.{Page, page_of}
use Rattle.stream.specs.Feed.{Reader, Taken, feed}
use Rattle.stream.specs.Feedings.{Feeding, held_of, HandedOn}
use Rattle.demands.specs.Example.{R, first_page, hole_page, last_page, written, lent_with, room}
use Rattle.stream.specs.SameAnswers.{CoresAgree, SameRooms, Twice, ones, others, feeding}
use Rattle.stream.specs.Unskipped.{Unskipping}
use Rattle.stream.specs.CarryBuffer.{begins_one}
use Rattle.stream.specs.Entering.{JustPast, Entrance, Pair}

-- among the audio pages of the example
abbrev pub within : Pending → Position → ℕ → ℕ → Reader
within pending position next skip = record {
  core = record { phase = Audio; pending = pending; position = position; serial = 7; next = next; streams = 1; preskip = 312 };
  tally = record { skip = skip; kept = 0; skipped = 0; trimmed = 0; hole = 0 };
}

-- ---- SameAnswers: carry buffers of different length that agree in 510 bytes alone, and readers that differ in what is to skip

unfoldable pub sevens : Bytes
sevens = replicate 510 0 ++ replicate 60930 7

unfoldable pub nines : Bytes
nines = replicate 510 0 ++ replicate 61000 9

abbrev pub middle : ℕ → Reader
middle skip = within (Held 510) (At 1000) 4 skip

-- the page that ends the long packet, and one for which both lack the room
abbrev pub twice : List Twice
twice =
    record { bytes = written hole_page; one = lent_with sevens; other = lent_with nines }
    ∷ record { bytes = written last_page; one = lent_with []; other = lent_with [] }
    ∷ []

pub record MeetsAnswers : Type 0 where
  pub one : (skip : ℕ) → HandedOn R (middle skip) sevens (ones twice)
  pub other : (skip : ℕ) → HandedOn R (middle skip) nines (others twice)
  pub rooms : SameRooms twice
  pub equal : (skip other : ℕ) → CoresAgree (middle skip) (middle other) sevens nines
  pub accepted : (skip : ℕ) → (t : Taken) × ((feed R (middle skip) (lent_with sevens) (written hole_page)).told ≡ gives t)

-- ---- HeldCounts: the buffer that was left, another in its place, and the one that is fed agree in 510 bytes alone

pub record MeetsHeldCounts : Type 0 where
  pub handed : (skip : ℕ) → HandedOn R (middle skip) nines (ones twice)
  pub equal : (skip : ℕ) → take (held_of (middle skip).core.pending) nines ≡ take (held_of (middle skip).core.pending) room

-- ---- Unskipped: 380 of 480 samples are trimmed

abbrev pub ending : Reader
ending = within Nothing (At 3000) 5 0

pub record MeetsUnskipped : Type 0 where
  pub nothing : Unskipping ending
  pub accepted : (t : Taken) × ((feed R ending (lent_with room) (written last_page)).told ≡ gives t)
  pub lists : (feed R ending (lent_with room) (written last_page)).entries
      ≡ record { end = 3480; samples = 480; frames = 1; kept = 100 } ∷ []

-- ---- CarryBuffer: 17 after a piece was put after the held bytes, and a page that begins a packet

abbrev pub ahead : Reader
ahead = within (Held 510) (At 5000) 4 0

abbrev pub full : Reader
full = within Nothing (At 300) 2 0

pub record MeetsCarry : Type 0 where
  pub appended : (feed R ahead (lent_with sevens) (written hole_page)).told ≡ refuses (number_of GranuleTooSmall)
  pub accepted : (t : Taken) × ((feed R full (lent_with room) (written first_page)).told ≡ gives t)
  pub begins : begins_one (page_of (written first_page)) ≡ true

-- ---- Entering: the first audio page with its sequence number shifted by 7, to a reader with no granule position

abbrev pub bare : Reader
bare = within Nothing Unset 9 312

abbrev pub later_page : Page
later_page = record {
  header = record { flags = 0; granule = 1000; serial = 7; sequence = 9 };
  lacing = 1 ∷ 255 ∷ [];
  body = replicate 256 0;
}

abbrev pub entered : Feeding
entered = feeding (written first_page) (lent_with room)

abbrev pub shifted : Feeding
shifted = feeding (written later_page) (lent_with room)

pub record MeetsEntering : Type 0 where
  pub small : full.core.next < 2 ^ 32
  pub past : JustPast 7 full bare
  pub entrance : Entrance (page_of (written first_page))
  pub pair : (x : Pair R 7) × ((x.one ≡ entered) × (x.other ≡ shifted))
  pub one : HandedOn R full [] (entered ∷ [])
  pub other : HandedOn R bare [] (shifted ∷ [])
  pub accepted : (t : Taken) × ((feed R full (lent_with room) (written first_page)).told ≡ gives t)
