-- What a size that was read, or a refusal, says of the matrix and of its entries. Assumes nothing.
use Rattle.std.specs.Prelude.{Result, Ok, Err}
use Rattle.std.specs.Result.{result_unwrap_or}
use mathlib.Core.Path.{◌≡◌, refl, sym, ap, ◌∙◌}
use mathlib.Core.Option.{Option, none, some}
use mathlib.Core.List.{[]}
use Prim.Native.Nat.{ℕ, ◌/◌, ◌≤◌, ◌<◌}
use native.Mathlib.Omega.{arith}
use borrow.Author.Tests.{lt-leb, le-leb}
use lib.ListN.{length, take, drop}
use Rattle.octets.specs.Octets.{Bytes}
use Rattle.refusal.specs.declared.Refusal.{Refusal}
use Rattle.refusal.specs.declared.Refusal.TheVariants.{NoSuchPart}
use Rattle.refusal.specs.Checks.{first_of, or_else}
use Rattle.refusal.specs.Numbers.{number_of}
use Rattle.refusal.specs.Told.{gives, refuses, retold, decided, told}
use Rattle.refusal.proofs.Checks.{first_of-append, no_refusal}
use Rattle.head_fields.specs.declared.Head.{Head}
use Rattle.head_fields.specs.Layout.{matrix_place, matrix_size}
use Rattle.head_reader.specs.Fields.{head_of, matrix_of}
use Rattle.head_reader.specs.Reading.{read_checks, read_head, read_matrix}
use Rattle.head_matrix.specs.Matrix.{read_size, matrix_in, entry_checks, entry_of, entry_at, read_entry}

-- ---- an entry of a matrix

module _ (m : Bytes) (i : ℕ) where
  pub no_entry : length m / 2 ≤ i → entry_at m i ≡ refuses (number_of NoSuchPart)
  unfolding entry_at first_of
  no_entry h = rw (le-leb (length m / 2) i h)

  pub some-entry : i < length m / 2 → entry_at m i ≡ gives (entry_of m i)
  unfolding entry_at first_of
  some-entry h = rw (lt-leb (length m / 2) i h)

-- ---- the matrix of a header

retold-decided : (o : Option Refusal) (h : Head) → retold matrix_size (decided o h) ≡ decided o (matrix_size h)
retold-decided none h = refl
retold-decided (some r) h = refl

module _ (b : Bytes) where
  read-size : read_size b ≡ decided (first_of (read_checks b)) (matrix_size (head_of b))
  unfolding read_size read_head
  read-size = retold-decided (first_of (read_checks b)) (head_of b)

  read-entry : (i : ℕ)
      → read_entry b i ≡ decided (or_else (first_of (read_checks b)) (first_of (entry_checks (matrix_of b) i))) (entry_of (matrix_of b) i)
  unfolding read_entry
  read-entry i = rw (first_of-append (read_checks b) (entry_checks (matrix_of b) i))

  -- n is the size that was read
  module _ (n : ℕ) (e : read_size b ≡ gives n) where
    clear : first_of (read_checks b) ≡ none
    clear = (no_refusal (first_of (read_checks b)) (matrix_size (head_of b)) n (sym read-size ∙ e)).0

    whole : take n (drop matrix_place b) ≡ matrix_of b
    unfolding matrix_of
    whole =
        let size = (no_refusal (first_of (read_checks b)) (matrix_size (head_of b)) n (sym read-size ∙ e)).1 in
        ap (λ (k : ℕ). take k (drop matrix_place b)) (sym size)

    part_given : take n (drop matrix_place b) ≡ matrix_in (read_matrix b)
    unfolding read_matrix
    part_given = rw clear whole

    pub entry-given : (i : ℕ) → entry_at (take n (drop matrix_place b)) i ≡ read_entry b i
    unfolding entry_at
    entry-given i = rw (read-entry i, clear, whole)

  -- a refusal, by the number n
  module _ (n : ℕ) (e : read_size b ≡ refuses n) where
    part_refused : [] ≡ matrix_in (read_matrix b)
    unfolding read_matrix
    part_refused = by (first_of (read_checks b)) (sym read-size ∙ e)
      where
        by : (o : Option Refusal) → decided o (matrix_size (head_of b)) ≡ refuses n → [] ≡ matrix_in (decided o (matrix_of b))
        by none q = let no : ◌≡◌ {A = ℕ} 0 1 = cc in absurd (omega arith)
        by (some r) q = refl

    pub entry-refused : (i : ℕ) → refuses n ≡ read_entry b i
    entry-refused i = by (first_of (read_checks b)) (sym read-size ∙ e) ∙ sym (read-entry i)
      where
        by : (o : Option Refusal) → decided o (matrix_size (head_of b)) ≡ refuses n
            → refuses n ≡ decided (or_else o (first_of (entry_checks (matrix_of b) i))) (entry_of (matrix_of b) i)
        by none q = let no : ◌≡◌ {A = ℕ} 0 1 = cc in absurd (omega arith)
        by (some r) q = cc

  -- the part that is taken, by the answer r for the size
  pub part_taken : (r : Result ℕ Refusal) → told r ≡ read_size b → take (result_unwrap_or r 0) (drop matrix_place b) ≡ matrix_in (read_matrix b)
  part_taken (Ok n) e = part_given n (sym e)
  part_taken (Err why) e = part_refused (number_of why) (sym e)
