-- What is proved of a cut input, in addition to the contract. Assumes nothing.
use Rattle.std.specs.Prelude.{ℕ, ◌≡◌, false, drop}
use Rattle.std.proofs.Math.Option.{none}
use Rattle.octets.specs.Octets.{Bytes}
use Rattle.refusal.specs.Numbers.{number_of}
use Rattle.refusal.specs.Told.{refuses}
use Rattle.page_end.specs.End.{end_at}
use Rattle.stream.specs.Readings.{readings}
use Rattle.stream.specs.Feed.{Reader, Feeds}
use Rattle.stream.specs.Lent.{Lent, is_short}
use Rattle.feed_partial.specs.Rest.{rest_refusal}

-- the bytes from a cut on, fed as they are to a reader that is lent enough, are refused by this number, and all stays
abbrev pub RestRefused : Type 0
RestRefused =
    (crc : Bytes → ℕ) (r : Reader) (m : Lent) (b : Bytes) (at : ℕ) → is_short m ≡ false → end_at b at ≡ none
    → Feeds (readings crc) r (drop at b) m (refuses (number_of (rest_refusal r))) m
