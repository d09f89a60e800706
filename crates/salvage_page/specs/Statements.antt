-- What is proved of a page written tidied, in addition to the contracts. Assumes nothing.
use Rattle.refusal.specs.declared.Refusal.{Refusal}
use Rattle.std.specs.Prelude.{Result, Ok, Err, ◌≡◌, ℕ, ◌≤◌, true, length}
use Rattle.octets.specs.Octets.{Bytes, Octets, copied}
use Rattle.refusal.specs.Told.{gives, told}
use Rattle.page_size.specs.Size.{is_one_page}
use Rattle.page_writer.specs.Writing.{page_size}
use Rattle.stream.specs.Page.{page_of}
use Rattle.salvage_rules.specs.declared.Form.{Form}
use Rattle.salvage_rules.specs.Good.{Good}
use Rattle.salvage_rules.specs.Links.{kept_of, tidied}
use Rattle.salvage_rules.specs.Rounds.{page_out}
use Rattle.salvage_page.specs.Tidied.{tidied_of, WroteTidied}

-- how long the page is without its removed pieces
abbrev pub kept_size : Form → Bytes → ℕ
kept_size f p = page_size (kept_of f (page_of p)).lacing (kept_of f (page_of p)).body

-- the answer r tells that length, and the output begins with the page tidied
pub record Saved (f : Form) (n : ℕ) (p out : Bytes) (r : Result ℕ Refusal) (end : Bytes) : Type 0 where
  pub told : told r ≡ gives (kept_size f p)
  pub output : end ≡ copied out 0 (page_out (tidied_of f n p))

-- so it is for bytes that are one page, where the output has room
abbrev pub PageSaved : Type 0
PageSaved =
    (f : Form) (n : ℕ) (p out : Bytes) (r : Result ℕ Refusal) (end : Bytes) → Octets p → is_one_page p ≡ true
    → kept_size f p ≤ length out → WroteTidied f n p out r end → Saved f n p out r end

-- as many bytes as the page has are enough
abbrev pub NoLonger : Type 0
NoLonger = (f : Form) (p : Bytes) → is_one_page p ≡ true → kept_size f p ≤ length p

-- wherever the page was
abbrev pub AnyPlace : Type 0
AnyPlace = (f : Form) (n : ℕ) (p : Bytes) (g : Good) → g.page ≡ page_of p → page_out (tidied f n g) ≡ page_out (tidied_of f n p)
