-- Feedings of the pages of a stream to a reader just started, and the stream that its pages alone determine. Assumes nothing.
use Rattle.std.specs.Prelude.{◌≡◌, false, List, [], ◌∷◌, map}
use Rattle.octets.specs.Octets.{Bytes}
use Rattle.stream.specs.Readings.{Readings}
use Rattle.stream.specs.Feed.{Reader, start, feed}
use Rattle.stream.specs.Lent.{Lent, is_short}
use Rattle.stream.specs.Stream.{Listing}
use Rattle.stream.specs.Feedings.{Feeding, reader_by, HandedOn, Shown}

-- each has room
unfoldable pub Roomy : List Feeding → Type 0
Roomy [] = Unit {0}
Roomy (f ∷ fs) = (is_short f.lent ≡ false) × Roomy fs

abbrev pub pages_fed : List Feeding → List Bytes
pages_fed F = map (λ (f : Feeding). f.bytes) F

-- F feeds these pages to a reader just started, each with room, and hands the carry buffer on
pub record Feeds (R : Readings) (S : List Bytes) (F : List Feeding) : Type 0 where
  pub pages : pages_fed F ≡ S
  pub room : Roomy F
  pub handed : HandedOn R start [] F

-- such feedings in one lent memory m
unfoldable pub feedings_from : Readings → Reader → Lent → List Bytes → List Feeding
feedings_from R r m [] = []
feedings_from R r m (b ∷ bs) =
    record { bytes = b; lent = m } ∷ feedings_from R (reader_by (feed R r m b).told r) (feed R r m b).lent bs

-- pages, each with its listing
unfoldable pub shown_as : List Bytes → List Listing → List Shown
shown_as [] ls = []
shown_as (b ∷ bs) [] = []
shown_as (b ∷ bs) (l ∷ ls) = record { bytes = b; listing = l } ∷ shown_as bs ls
