-- The ways of writing a header, by its tests. Assumes nothing.
use Rattle.std.specs.Prelude.{Ok, Err}
use mathlib.Core.Path.{◌≡◌}
use mathlib.Core.Bool.{true, false}
use mathlib.Core.Option.{none, some}
use Prim.Native.Nat.{ℕ, ◌≤◌, ◌<◌}
use borrow.Author.Tests.{eq-eqb, ne_eqb, lt-ltb, le-ltb}
use lib.ListN.{length}
use Rattle.octets.specs.Octets.{Bytes, copied}
use Rattle.refusal.specs.declared.Refusal.{Refusal}
use Rattle.refusal.specs.declared.Refusal.TheVariants.{ShortOutput, UnfitFields}
use Rattle.refusal.specs.Checks.{first_of}
use Rattle.head_fields.specs.declared.Head.{Head}
use Rattle.head_fields.specs.Layout.{matrix_size, head_size}
use Rattle.head_fields.specs.Right.{writable_head}
use Rattle.head_writer.specs.Writing.{head_bytes, write_checks, write_told, write_out, Wrote}

module _ (h : Head) (m out : Bytes) where
  pub unfit : writable_head h ≡ false → first_of (write_checks h m (length out)) ≡ some UnfitFields
  unfolding first_of
  unfit e = rw e

  -- k and n are the lengths of the matrix and of the header, as calls gave them
  pub other-matrix : {k : ℕ} → k ≡ matrix_size h → writable_head h ≡ true → (length m ≡ k → ⊥)
      → first_of (write_checks h m (length out)) ≡ some UnfitFields
  unfolding first_of
  other-matrix s e d = rw (e, ne_eqb (length m) (matrix_size h) (rw s at d))

  module _ (e : writable_head h ≡ true) (s : length m ≡ matrix_size h) where
    pub short-output : {n : ℕ} → n ≡ head_size h → length out < n
        → first_of (write_checks h m (length out)) ≡ some ShortOutput
    unfolding first_of
    short-output t l = rw (e, eq-eqb (length m) (matrix_size h) s, lt-ltb (length out) (head_size h) (rw t at l))

    pub writable : {n : ℕ} → n ≡ head_size h → n ≤ length out → first_of (write_checks h m (length out)) ≡ none
    unfolding first_of
    writable t l = rw (e, eq-eqb (length m) (matrix_size h) s, le-ltb (length out) (head_size h) (rw t at l))

  pub not_written : (why : Refusal) → first_of (write_checks h m (length out)) ≡ some why → Wrote h m out (Err why) out
  unfolding write_told write_out
  not_written why e = record { told = rw e; output = rw e }

  pub wrote : {n : ℕ} {end : Bytes} → n ≡ head_size h → end ≡ copied out 0 (head_bytes h m)
      → first_of (write_checks h m (length out)) ≡ none → Wrote h m out (Ok n) end
  unfolding write_told write_out
  wrote t o e = rw (t, o) (record { told = rw e; output = rw e })
