-- One page tidied, by its bytes (RULES.md, 16; RFC 3533, 5 and 6). Assumes nothing.
use Rattle.refusal.specs.declared.Refusal.{Refusal}
use Rattle.std.specs.Prelude.{Result, Ok, Err, ◌≡◌, ℕ, ◌≤◌, Bool, length, take, drop}
use Rattle.octets.specs.Pick.{pick}
use Rattle.octets.specs.Octets.{Bytes, total}
use Rattle.page_writer.specs.Writing.{WroteAny}
use Rattle.stream.specs.Page.{page_of}
use Rattle.stream.specs.Packets.{after_first}
use Rattle.salvage_rules.specs.declared.Form.{Form}
use Rattle.salvage_rules.specs.Tidy.{up_to_last, first_bytes, Tidied}
use Rattle.salvage_rules.specs.Links.{tidied}

-- ---- lacing values and body

-- r values make up the leading piece
pub record LeadValues (l : Bytes) (r : ℕ) : Type 0 where
  pub values : drop r l ≡ after_first l
  pub inside : r ≤ length l

-- r values are there up to the last that ends a packet
pub record KeptValues (l : Bytes) (r : ℕ) : Type 0 where
  pub values : take r l ≡ up_to_last l
  pub inside : r ≤ length l

-- the values without the trailing piece, where that goes
abbrev pub lastless : Bool → Bytes → Bytes
lastless trail l = pick trail (up_to_last l) l

-- the values without the leading piece, where that goes
abbrev pub firstless : Bool → Bytes → Bytes
firstless lead l = pick lead (after_first l) l

-- the body without the trailing piece, where that goes
abbrev pub lastless_body : Bool → Bytes → Bytes → Bytes
lastless_body trail l body = pick trail (take (total (up_to_last l)) body) body

-- the body without the leading piece, where that goes
abbrev pub firstless_body : Bool → Bytes → Bytes → Bytes
firstless_body lead l body = pick lead (drop (first_bytes l) body) body

-- r is the number n of a piece's bytes; a page has at most 65,025 of them
pub record CutBytes (n r : ℕ) : Type 0 where
  pub bytes : r ≡ n
  pub most : r ≤ 65025

-- ---- the page tidied

-- the page that the bytes are, as number n of the list; where it was does not matter
abbrev pub tidied_of : Form → ℕ → Bytes → Tidied
tidied_of f n p = tidied f n (record { place = 0; page = page_of p })

-- the answer r, and the output from `out` at entry to `end` at exit: those of writing that page
abbrev pub WroteTidied : Form → ℕ → Bytes → Bytes → Result ℕ Refusal → Bytes → Type 0
WroteTidied f n p out r end =
    WroteAny (tidied_of f n p).page.header (tidied_of f n p).page.lacing (tidied_of f n p).page.body out r end
