-- What the functions of the walk answer, in the code's words: comments one after the other, with the gains that were seen so far.
-- Assumes nothing.
use Rattle.std.specs.Prelude.{Option, Some, None, ℕ, zero, suc, Bool, false, ◌&&◌, leb, length}
use Rattle.octets.specs.Pick.{pick}
use Rattle.octets.specs.Octets.{Bytes, begins}
use Rattle.utf8.specs.Characters.{utf8}
use Rattle.tags_rules.specs.Code.{Judgement, wrong, seen, judged}
use Rattle.tags_layout.specs.Layout.{signature, part_at, next_place, fits_at, bytes_of, vendor_place, vendor_part, first_place}
use Rattle.tags_reader.specs.declared.Walk.{Walk}

-- one comment on
abbrev pub onward : Bytes → ℕ → Judgement → Option Walk
onward b at wrong = None
onward b at (seen track album) = Some (record { at = next_place b at; track = track; album = album })

unfoldable pub stepped : Bytes → Option Walk → Option Walk
stepped b None = None
stepped b (Some w) = pick (fits_at b w.at) (onward b w.at (judged (bytes_of b (part_at b w.at)) w.track w.album)) None

unfoldable pub walked : Bytes → ℕ → Option Walk → Option Walk
walked b zero w = w
walked b (suc n) w = walked b n (stepped b w)

-- at the first comment, where all before it is right
unfoldable pub starts_right : Bytes → Bool
starts_right b =
    begins signature b
    && (fits_at b vendor_place && (utf8 (bytes_of b (vendor_part b)) && leb (first_place b) (length b)))

unfoldable pub begun : Bytes → Option Walk
begun b = pick (starts_right b) (Some (record { at = first_place b; track = false; album = false })) None

abbrev pub place_in : Option Walk → ℕ
place_in None = 0
place_in (Some w) = w.at
