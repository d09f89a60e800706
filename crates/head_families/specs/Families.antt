-- The channel mapping families (RFC 7845, 5.1.1; RFC 8486, 3; RULES.md, 4): how many channels each allows, and what comes after
-- the family byte. Families 0, 1, 2, 3 and 255 are known. Assumes nothing.
use Rattle.std.specs.Prelude.{ℕ, zero, suc, ◌+◌, ◌*◌, ◌≤◌, ◌≡◌, Bool, false, not, ◌&&◌, ◌||◌, leb, eqb}
use Rattle.octets.specs.Pick.{pick}

-- ---- how many channels

-- a number of ambisonic channels, (1 + n)^2 + 2j with j 0 or 1, for an n below the limit
unfoldable pub ambisonic_below : ℕ → ℕ → Bool
ambisonic_below zero c = false
ambisonic_below (suc n) c =
    let square : ℕ = (1 + n) * (1 + n) in
    eqb c square || (eqb c (square + 2) || ambisonic_below n c)

-- for an n from 0 to 14
abbrev pub ambisonic_channels : ℕ → Bool
ambisonic_channels c = ambisonic_below 15 c

-- whether a family is ambisonic
abbrev pub is_ambisonic : ℕ → Bool
is_ambisonic family = eqb family 2 || eqb family 3

-- how many channels the other families allow
abbrev pub most_channels : ℕ → ℕ
most_channels family = pick (eqb family 0) 2 (pick (eqb family 1) 8 (pick (eqb family 255) 255 0))

unfoldable pub allowed_channels : ℕ → ℕ → Bool
allowed_channels family channels =
    leb 1 channels && pick (is_ambisonic family) (ambisonic_channels channels) (leb channels (most_channels family))

-- ---- what comes after the family

-- the number of streams and that of coupled ones, which family 0 does not have
abbrev pub has_counts : ℕ → Bool
has_counts family = not (eqb family 0)

-- a matrix, which family 3 has in place of indices
abbrev pub has_matrix : ℕ → Bool
has_matrix family = eqb family 3

-- how many indices there are: one for each channel, or none
abbrev pub index_count : ℕ → ℕ → ℕ
index_count family channels = pick (has_matrix family) 0 channels

-- as a call gave it
pub record IndexCount (family channels r : ℕ) : Type 0 where
  pub same : r ≡ index_count family channels
  pub most : r ≤ 255

-- how many bytes the matrix has: entries of two bytes, as many as decoded channels times channels
unfoldable pub matrix_length : ℕ → ℕ → ℕ → ℕ → ℕ
matrix_length family streams coupled channels = pick (has_matrix family) (2 * ((coupled + streams) * channels)) 0
