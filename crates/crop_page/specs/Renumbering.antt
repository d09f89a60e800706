-- A page renumbered and written (RULES.md, 17). Assumes nothing.
use Rattle.refusal.specs.declared.Refusal.{Refusal}
use Rattle.std.specs.Prelude.{Result, Ok, Err, ℕ}
use Rattle.octets.specs.Octets.{Bytes}
use Rattle.page_layout.specs.Page.{lacing_of, body_of}
use Rattle.page_writer.specs.Writing.{WroteAny}
use Rattle.stream.specs.Page.{page_of}
use Rattle.stream.specs.Statements.{page_shifted}
use Rattle.crop_rules.specs.Crop.{back}

-- the answer r, and the output from `out` at entry to `end` at exit: those of writing the page p, its number d back
abbrev pub WroteBack : ℕ → Bytes → Bytes → Result ℕ Refusal → Bytes → Type 0
WroteBack d p out r end = WroteAny (page_shifted (back d) (page_of p)).header (lacing_of p) (body_of p) out r end
