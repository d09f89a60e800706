-- What is proved of where a page ends, in addition to the contract. Assumes nothing.
use Rattle.std.specs.Prelude.{ℕ, ◌≤◌, ◌<◌, ◌≡◌, false, length, drop}
use Rattle.std.proofs.Math.Option.{none, some}
use Rattle.octets.specs.Octets.{Bytes}
use Rattle.page_size.specs.Size.{is_one_page}
use Rattle.page_end.specs.End.{end_at}

-- the end e is after the start `at`, and inside a buffer of n bytes
pub record Inside (at e n : ℕ) : Type 0 where
  pub after : at < e
  pub within : e ≤ n

abbrev pub EndInside : Type 0
EndInside = (b : Bytes) (at e : ℕ) → end_at b at ≡ some e → Inside at e (length b)

-- the bytes from a cut on are no whole page: fed as they are, they are refused as no page (3), or after an end (2)
abbrev pub CutIsNoPage : Type 0
CutIsNoPage = (b : Bytes) (at : ℕ) → end_at b at ≡ none → is_one_page (drop at b) ≡ false
