-- What is proved of the search, in addition to the contracts. Assumes nothing.
use Rattle.std.specs.Prelude.{ℕ, ◌≤◌, ◌<◌, ◌≡◌, true, false, length, drop}
use Rattle.std.proofs.Math.Option.{some}
use Rattle.octets.specs.Octets.{Bytes}
use Rattle.page_size.specs.Size.{size_of}
use Rattle.page_end.specs.End.{end_at}
use Rattle.salvage_search.specs.Search.{starts_page, next_page}

-- r is the least place at or after `from` where a page starts, or the buffer's length
pub record Least (crc : Bytes → ℕ) (b : Bytes) (from r : ℕ) : Type 0 where
  pub inside : r ≤ length b
  pub after : from ≤ length b → from ≤ r
  pub here : r < length b → starts_page crc (drop r b) ≡ true
  pub none : (k : ℕ) → from ≤ k → k < r → starts_page crc (drop k b) ≡ false

-- where a page starts, it ends where its lacing values say
abbrev pub StartsWhole : Type 0
StartsWhole = (crc : Bytes → ℕ) (s : Bytes) → starts_page crc s ≡ true → end_at s 0 ≡ some (size_of s)

abbrev pub NextIsLeast : Type 0
NextIsLeast = (crc : Bytes → ℕ) (b : Bytes) (from : ℕ) → Least crc b from (next_page crc b from)
