-- The kept pages and their lines put into lent memory. Assumes nothing.
use Rattle.std.specs.Prelude.{◌≡◌, ℕ, min, Bool, ◌||◌, List, length, nat_lt}
use Rattle.octets.specs.Octets.{Bytes}
use Rattle.refusal.specs.Told.{Told}
use Rattle.stream.specs.Lent.{Slice}
use Rattle.salvage_rules.specs.Rounds.{saved}
use Rattle.salvage.specs.Salvaging.{Amounts, fitted, output_after, column_after, what_in, place_in, size_in}
use Rattle.salvage.specs.Code.{all_bytes, all_lines}

-- they pass an output of `out` bytes, or columns of `room` places
abbrev pub is_short : Bytes → List ℕ → ℕ → ℕ → Bool
is_short b ws out room = nat_lt out (length (all_bytes b ws)) || nat_lt room (length (all_lines b ws))

pub record PutsKept (b : Bytes) (ws : List ℕ) (t : Told Amounts) (out what places sizes : Slice) : Type 0 where
  pub told : t ≡ fitted (saved (all_bytes b ws) (all_lines b ws)) (length out.entry.now)
      (min (length what.entry.now) (min (length places.entry.now) (length sizes.entry.now)))
  pub output : out.exit.now ≡ output_after t (all_bytes b ws) out.entry.now
  pub whats : what.exit.now ≡ column_after t what_in (all_lines b ws) what.entry.now
  pub spots : places.exit.now ≡ column_after t place_in (all_lines b ws) places.entry.now
  pub counts : sizes.exit.now ≡ column_after t size_in (all_lines b ws) sizes.entry.now
