-- A page of the input fed as it is tidied (RULES.md, 16). Assumes nothing.
use Rattle.std.specs.Prelude.{Option, Some, None, ℕ, ◌≡◌}
use Rattle.std.proofs.Math.Option.{none, some}
use Rattle.octets.specs.Octets.{Bytes}
use Rattle.refusal.specs.declared.Refusal.{Refusal}
use Rattle.page_crc.specs.Crc.{page_crc}
use Rattle.stream.specs.declared.Core.{Core}
use Rattle.stream.specs.Page.{page_of}
use Rattle.stream.specs.Readings.{readings}
use Rattle.stream.specs.Rules.{verdict, after}
use Rattle.stream.specs.Feed.{view}
use Rattle.salvage_rules.specs.declared.Form.{Form}
use Rattle.salvage_rules.specs.Links.{tidied}
use Rattle.salvage_rules.specs.Rounds.{page_out}

-- the page p without the pieces that the form removes, as number n of the list; where it lies in the input makes no difference
abbrev pub tidied_bytes : Form → ℕ → Bytes → Bytes
tidied_bytes form n p = page_out (tidied form n (record { place = 0; page = page_of p }))

-- the bytes b are accepted; `old` and `new` are the carry buffer before and after
pub record Accepts (core : Core) (b old : Bytes) (next : Core) (new : Bytes) : Type 0 where
  pub accepted : verdict (readings page_crc) (view core old) b ≡ none
  pub state : view next new ≡ after (readings page_crc) (view core old) b

-- they are refused, and the held bytes stay
pub record Refuses (core : Core) (b old new : Bytes) : Type 0 where
  pub why : Refusal
  pub refused : verdict (readings page_crc) (view core old) b ≡ some why
  pub state : view core new ≡ view core old

abbrev pub FeedsTidied : Core → Bytes → Bytes → Option Core → Bytes → Type 0
FeedsTidied core b old (Some next) new = Accepts core b old next new
FeedsTidied core b old None new = Refuses core b old new
