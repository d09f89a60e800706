-- The flags of a page: 1 continued, 2 first, 4 last (RFC 3533, 6; RULES.md, 3). Assumes nothing.
use Rattle.std.specs.Prelude.{ℕ, ◌/◌, ◌%◌, Bool, eqb}

abbrev pub is_continued : ℕ → Bool
is_continued flags = eqb (flags % 2) 1

abbrev pub is_first_page : ℕ → Bool
is_first_page flags = eqb (flags / 2 % 2) 1

abbrev pub is_last_page : ℕ → Bool
is_last_page flags = eqb (flags / 4 % 2) 1
