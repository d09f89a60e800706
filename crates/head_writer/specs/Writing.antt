-- Writing an identification header with its matrix (RULES.md, refusals 23 and 22; RFC 7845, 5.1; RFC 8486, 3). Assumes
-- nothing.
use Rattle.refusal.specs.Told.{told, Told, decided}
use Rattle.std.specs.Prelude.{Result, ℕ, ◌≤◌, ◌≡◌, Bool, not, ◌&&◌, List, [], ◌∷◌, ◌++◌, ltb, eqb, length}
use Rattle.std.proofs.Math.Option.{Option, none, some}
use Rattle.std.specs.Int.{w16}
use Rattle.std.proofs.Common.{of_z}
use Rattle.octets.specs.Pick.{pick}
use Rattle.octets.specs.Octets.{Bytes, copied}
use Rattle.octets.specs.Numbers.{octets}
use Rattle.refusal.specs.declared.Refusal.{Refusal}
use Rattle.refusal.specs.declared.Refusal.TheVariants.{ShortOutput, UnfitFields}
use Rattle.refusal.specs.Checks.{Check, ◌when◌, first_of}
use Rattle.head_fields.specs.declared.Head.{Head}
use Rattle.head_families.specs.Families.{has_counts}
use Rattle.head_fields.specs.Layout.{signature, matrix_size, head_size}
use Rattle.head_fields.specs.Right.{used_places, writable_head}

-- the bytes before the table
unfoldable pub start_of : Head → Bytes
start_of h =
    signature ++ (h.version ∷ h.channels ∷ []) ++ octets 2 h.preskip ++ octets 4 h.rate
    ++ octets 2 (of_z w16 h.gain) ++ (h.family ∷ [])

-- the bytes of a header: its fields h, and its matrix m after the indices
unfoldable pub head_bytes : Head → Bytes → Bytes
head_bytes h m = start_of h ++ pick (has_counts h.family) (h.streams ∷ h.coupled ∷ (used_places h ++ m)) []

-- the fields are right, and the matrix has as many bytes as they say
abbrev pub writable_with : Head → Bytes → Bool
writable_with h m = writable_head h && eqb (length m) (matrix_size h)

abbrev pub write_checks : Head → Bytes → ℕ → List Check
write_checks h m n = UnfitFields when not (writable_with h m) ∷ ShortOutput when ltb n (head_size h) ∷ []

-- the output at the end: a refusal writes nothing
abbrev pub written : Option Refusal → Bytes → Bytes → Bytes
written none out b = copied out 0 b
written (some r) out b = out

unfoldable pub write_told : Head → Bytes → Bytes → Told ℕ
write_told h m out = decided (first_of (write_checks h m (length out))) (head_size h)

unfoldable pub write_out : Head → Bytes → Bytes → Bytes
write_out h m out = written (first_of (write_checks h m (length out))) out (head_bytes h m)

-- a matrix m as the fields h say, and an output with room for both
pub record HeadFits (h : Head) (m out : Bytes) : Type 0 where
  pub matrix : length m ≡ matrix_size h
  pub room : head_size h ≤ length out

-- the answer r, and the output from `out` at entry to `end` at exit
pub record Wrote (h : Head) (m out : Bytes) (r : Result ℕ Refusal) (end : Bytes) : Type 0 where
  pub told : told r ≡ write_told h m out
  pub output : end ≡ write_out h m out
