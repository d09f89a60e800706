-- The bounds of the rules (RULES.md, 1). Assumes nothing.
use Rattle.std.specs.Prelude.{ℕ}

-- the most bytes that a packet may have
abbrev pub packet_max : ℕ
packet_max = 61440

-- the most packets that complete on a page, and so the places that each list of a feeding must have
abbrev pub list_max : ℕ
list_max = 255
