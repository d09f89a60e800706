-- The first byte of an Opus packet (RFC 6716, 3.1; RULES.md, 6). Assumes nothing.
use Rattle.std.specs.Prelude.{ℕ, ◌/◌, ◌%◌, Bool, ltb, eqb}
use Rattle.octets.specs.Pick.{pick}

-- the TOC byte: the config in its top five bits, the bit s below them, the code in its lowest two
abbrev pub config_of : ℕ → ℕ
config_of toc = toc / 8

-- the bit s (RFC 6716, 3.1): stereo
abbrev pub is_stereo : ℕ → Bool
is_stereo toc = eqb (toc / 4 % 2) 1

abbrev pub code_of : ℕ → ℕ
code_of toc = toc % 4

-- one of four by a remainder
abbrev pub by_four : ℕ → ℕ → ℕ → ℕ → ℕ → ℕ
by_four n a b c d = pick (eqb (n % 4) 0) a (pick (eqb (n % 4) 1) b (pick (eqb (n % 4) 2) c d))

-- samples in a frame at 48 kHz (RFC 6716, 3.1, table 2): configs below 12, below 16, and the rest
unfoldable pub config_samples : ℕ → ℕ
config_samples c =
    pick (ltb c 12) (by_four c 480 960 1920 2880)
    (pick (ltb c 16) (pick (eqb (c % 2) 0) 480 960)
    (by_four c 120 240 480 960))

unfoldable pub frame_samples : ℕ → ℕ
frame_samples toc = config_samples (config_of toc)
