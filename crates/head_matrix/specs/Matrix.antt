-- The matrix of an identification header (RFC 8486, 3.2; RULES.md, 4, refusals 12, 13 and 20): its size and its entries. Assumes
-- nothing.
use Rattle.std.specs.Prelude.{ℕ, ◌*◌, ◌/◌, List, [], ◌∷◌, ◌++◌, leb, ℤ, length}
use Rattle.std.specs.Int.{w16}
use Rattle.std.proofs.Common.{to_z}
use Rattle.octets.specs.Octets.{Bytes}
use Rattle.octets.specs.Numbers.{number}
use Rattle.refusal.specs.declared.Refusal.TheVariants.{NoSuchPart}
use Rattle.refusal.specs.Checks.{Check, ◌when◌, first_of}
use Rattle.refusal.specs.Told.{Told, gives, refuses, retold, decided}
use Rattle.head_fields.specs.Layout.{matrix_size}
use Rattle.head_reader.specs.Fields.{matrix_of}
use Rattle.head_reader.specs.Reading.{read_checks, read_head}

-- how many bytes it has, by the fields
unfoldable pub read_size : Bytes → Told ℕ
read_size b = retold matrix_size (read_head b)

-- its bytes, none under a refusal
abbrev pub matrix_in : Told Bytes → Bytes
matrix_in (gives m) = m
matrix_in (refuses n) = []

-- ---- entries, of two bytes each

abbrev pub entry_checks : Bytes → ℕ → List Check
entry_checks m i = NoSuchPart when leb (length m / 2) i ∷ []

-- entry i of the matrix m, the least byte first, signed, in two's complement
abbrev pub entry_of : Bytes → ℕ → ℤ
entry_of m i = to_z w16 (number 2 m (2 * i))

unfoldable pub entry_at : Bytes → ℕ → Told ℤ
entry_at m i = decided (first_of (entry_checks m i)) (entry_of m i)

unfoldable pub read_entry : Bytes → ℕ → Told ℤ
read_entry b i = decided (first_of (read_checks b ++ entry_checks (matrix_of b) i)) (entry_of (matrix_of b) i)
