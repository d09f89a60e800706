-- What checking returns to C and leaves in its outputs (RULES.md, 18). Assumes nothing.
use Rattle.std.specs.Prelude.{ℕ, min, ◌≡◌, List, length}
use Rattle.octets.specs.Octets.{Bytes}
use Rattle.refusal.specs.Told.{number_in, retold}
use Rattle.page_crc.specs.Crc.{page_crc}
use Rattle.stream.specs.Readings.{readings}
use Rattle.check_rules.specs.Findings.{Finding}
use Rattle.check_rules.specs.Checking.{checked, listed_by}
use Rattle.embulgri.specs.Answers.{stored}

-- of the stream b: the returned number, the two lists from their entries to their ends, and the count from `old` to `new`
pub record CheckedIn (b : Bytes) (number : ℕ) (kinds kindsEnd pages pagesEnd : List ℕ) (old new : ℕ) : Type 0 where
  pub refusal : number ≡ number_in (checked (readings page_crc) b (min (length kinds) (length pages)))
  pub kind : kindsEnd
      ≡ listed_by (λ (f : Finding). f.kind) (checked (readings page_crc) b (min (length kinds) (length pages))) kinds
  pub page : pagesEnd
      ≡ listed_by (λ (f : Finding). f.page) (checked (readings page_crc) b (min (length kinds) (length pages))) pages
  pub count : new ≡ stored (retold length (checked (readings page_crc) b (min (length kinds) (length pages)))) old
