-- How a kept page differs from what the input has of it: as its lines tell, and in its checksum. Assumes nothing.
use Rattle.std.specs.Prelude.{ℕ, ◌+◌, ◌≡◌, ◌⊎◌, true, List, [], ◌∷◌, ◌++◌, eqb, length}
use Rattle.octets.specs.Pick.{pick}
use Rattle.octets.specs.Octets.{Bytes, Octets}
use Rattle.page_writer.specs.Statements.{ReadsAs}
use Rattle.stream.specs.Page.{continued}
use Rattle.salvage_rules.specs.Tidy.{Tidied, tidy}
use Rattle.salvage_rules.specs.Lines.{Line, changes}
use Rattle.salvage_rules.specs.Rounds.{page_out, kept_in}
use Rattle.salvage_rules.specs.Statements.{Each}

-- of the lines that tell this: their bytes
unfoldable pub told_of : ℕ → List Line → List ℕ
told_of what [] = []
told_of what (l ∷ ls) = pick (eqb l.what what) (l.bytes ∷ told_of what ls) (told_of what ls)

-- a removed piece: its lacing values and its bytes; it has no values where nothing is removed
pub record Piece : Type 0 where
  pub lacing : Bytes
  pub bytes : Bytes

-- the bytes that a `cut` line tells of it
abbrev pub cuts_of : Bytes → Bytes → List ℕ
cuts_of [] bytes = []
cuts_of (v ∷ l) bytes = length bytes ∷ []

-- the continued mark stays, or it was there, is cleared, and a `mark` line tells so
abbrev pub Marked : Tidied → Type 0
Marked t =
    ((told_of 2 (changes t) ≡ []) × (t.page.header.flags ≡ t.old.page.header.flags))
    ⊎ ((told_of 2 (changes t) ≡ 1 ∷ [])
    × (continued t.old.page ≡ true)
    × (t.page.header.flags + 1 ≡ t.old.page.header.flags))

-- the page t as it comes out, which is read with a right checksum, against its old one
pub record Differs (t : Tidied) : Type 0 where
  pub reads : ReadsAs (page_out t) t.page.header t.page.lacing t.page.body
  pub granule : t.page.header.granule ≡ t.old.page.header.granule
  pub serial : t.page.header.serial ≡ t.old.page.header.serial
  pub number : told_of 1 (changes t) ≡ [] → t.page.header.sequence ≡ t.old.page.header.sequence
  pub mark : Marked t
  pub lead : Piece
  pub trail : Piece
  pub lacing : t.old.page.lacing ≡ lead.lacing ++ (t.page.lacing ++ trail.lacing)
  pub body : t.old.page.body ≡ lead.bytes ++ (t.page.body ++ trail.bytes)
  pub cuts : told_of 3 (changes t) ≡ cuts_of lead.lacing lead.bytes ++ cuts_of trail.lacing trail.bytes

-- with `KeptRead`, by which the old pages are those of the input
abbrev pub KeptDiffers : Type 0
KeptDiffers = (crc : Bytes → ℕ) (b : Bytes) → Octets b → Each Differs (tidy (kept_in crc b))
