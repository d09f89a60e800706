-- Cropping a stream in a buffer to an output (RULES.md, 17): the number of the stream, then 29, then 22. Assumes nothing.
use Rattle.std.specs.Prelude.{ℕ, ◌≡◌, not, List, [], ◌∷◌, ltb, length}
use Rattle.octets.specs.Octets.{Bytes, copied}
use Rattle.refusal.specs.declared.Refusal.TheVariants.{ShortOutput, NoCropStart}
use Rattle.refusal.specs.Checks.{Check, ◌when◌, first_of}
use Rattle.refusal.specs.Told.{Told, gives, refuses, decided, retold}
use Rattle.stream.specs.Readings.{Readings}
use Rattle.recording.specs.Pages.{pages_of}
use Rattle.recording.specs.Judging.{Judgement, whole, refused, judge_buffer}
use Rattle.crop_rules.specs.Crop.{is_start, crop_of}

-- of a whole stream, into an output of n bytes
abbrev pub crop_checks : Bytes → ℕ → ℕ → List Check
crop_checks b k n =
    NoCropStart when not (is_start (pages_of b) k) ∷ ShortOutput when ltb n (length (crop_of b k)) ∷ []

abbrev pub cropped_by : Judgement → Bytes → ℕ → ℕ → Told Bytes
cropped_by (refused x page) b k n = refuses x
cropped_by (whole pages packets) b k n = decided (first_of (crop_checks b k n)) (crop_of b k)

-- the bytes of the crop at page k, or a refusal
unfoldable pub cropped : Readings → Bytes → ℕ → ℕ → Told Bytes
cropped R b k n = cropped_by (judge_buffer R b) b k n

-- the output at the end: a refusal writes nothing
abbrev pub put_by : Told Bytes → Bytes → Bytes
put_by (gives c) out = copied out 0 c
put_by (refuses x) out = out

-- the contract of cropping b at page k: t is told, and the output goes from `out` to `end`
pub record Crops (R : Readings) (b : Bytes) (k : ℕ) (t : Told ℕ) (out end : Bytes) : Type 0 where
  pub told : t ≡ retold length (cropped R b k (length out))
  pub output : end ≡ put_by (cropped R b k (length out)) out
