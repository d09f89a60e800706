-- What cropping, and finding where a crop begins, return to C and leave in their outputs (RULES.md, 17). Assumes nothing.
use Rattle.std.specs.Prelude.{ℕ, ◌≡◌, List, [], ◌∷◌, length}
use Rattle.octets.specs.Octets.{Bytes}
use Rattle.refusal.specs.Told.{Told, gives, refuses, number_in, retold}
use Rattle.page_crc.specs.Crc.{page_crc}
use Rattle.stream.specs.Readings.{readings}
use Rattle.crop_rules.specs.Cropping.{cropped, put_by}
use Rattle.crop_start.specs.Start.{Start}
use Rattle.embulgri.specs.Answers.{stored}

-- of the crop of b at page k: the returned number, the output from `out` to `end`, and the count from `old` to `new`
pub record CroppedIn (b : Bytes) (k number : ℕ) (out end : Bytes) (old new : ℕ) : Type 0 where
  pub refusal : number ≡ number_in (cropped (readings page_crc) b k (length out))
  pub output : end ≡ put_by (cropped (readings page_crc) b k (length out)) out
  pub written : new ≡ stored (retold length (cropped (readings page_crc) b k (length out))) old

-- the page and where it starts, or as they were
abbrev pub start_after : Told Start → List ℕ → List ℕ
start_after (gives s) old = s.page ∷ s.position ∷ []
start_after (refuses n) old = old

-- the returned number, and the two numbers from `old` to `new`, are those of what is told
pub record StartIn (t : Told Start) (number : ℕ) (old new : List ℕ) : Type 0 where
  pub refusal : number ≡ number_in t
  pub start : new ≡ start_after t old
