-- The lines of records put one after the other. Assumes nothing.
use mathlib.Core.Path.{◌≡◌, refl, sym, ap, ◌∙◌}
use mathlib.Core.Bool.{true, false}
use mathlib.Core.List.{List, [], ◌∷◌, ◌++◌, append_assoc, append-nil}
use Prim.Native.Nat.{ℕ, suc, ◌+◌, ◌≤◌, ◌<◌, min}
use native.Mathlib.Omega.{arith}
use native.Mathlib.Numerals.{add-one}
use borrow.Author.Tests.{ltb-false}
use lib.Dec.{ltb}
use lib.ListN.{length, drop, get_or, length-append}
use lib.Seq.{drop-cons}
use Rattle.octets.specs.Pick.{pick}
use Rattle.octets.specs.Octets.{Bytes, copied}
use Rattle.octets.proofs.Copying.{length-copied, copied-append}
use Rattle.text_put.specs.Writing.{Put}
use Rattle.text_put.proofs.Putting.{laid-put}
use Rattle.list_entries.specs.Entries.{Lined, no_lines, before, PutLines}
use Rattle.list_entries.proofs.Lines.{after, no_text, still}
use Rattle.index_lines.specs.Lines.{record_line, longest, records_in}

-- the lines of the records from number i on
abbrev records_from : ℕ → ℕ → ℕ → List ℕ → List ℕ → List ℕ → Lined
records_from i len at granules places sequences = records_in len at (drop i granules) (drop i places) (drop i sequences)

-- i lines are put into d from `at` on, `next` is after them, and `out` is the buffer
pub record Done (d : Bytes) (at : ℕ) (granules places sequences : List ℕ) (out : Bytes) (next i : ℕ) : Type 0 where
  pub text : Bytes
  pub output : out ≡ copied d at text
  pub here : next ≡ at + length text
  pub all : records_in (length d) at granules places sequences ≡ after text i (records_from i (length d) next granules places sequences)

pub done-starts : (d : Bytes) (at : ℕ) (granules places sequences : List ℕ) → Done d at granules places sequences d at 0
done-starts d at granules places sequences =
    let l : Lined = records_in (length d) at granules places sequences in
    let n : 0 + l.count ≡ l.count = omega arith in
    record { text = []; output = no_text d at; here = omega arith; all = sym (ap (λ (c : ℕ). record { text = l.text; count = c }) n) }

-- no record is left
none_left : (len at : ℕ) (granules places sequences : List ℕ) → (1 ≤ length granules → 1 ≤ length places → 1 ≤ length sequences → ⊥)
    → records_in len at granules places sequences ≡ no_lines
unfolding records_in
none_left len at [] places sequences h = refl
none_left len at (g ∷ granules) [] sequences h = refl
none_left len at (g ∷ granules) (p ∷ places) [] h = refl
none_left len at (g ∷ granules) (p ∷ places) (s ∷ sequences) h = absurd (h (omega arith) (omega arith) (omega arith))

module _ {d : Bytes} {at : ℕ} {granules places sequences : List ℕ} {out : Bytes} {next i : ℕ} (x : Done d at granules places sequences out next i) where
  pub same_size : length out ≡ length d
  same_size = ap length x.output ∙ length-copied d at x.text

  ended : records_from i (length d) next granules places sequences ≡ no_lines
      → PutLines d at (records_in (length d) at granules places sequences) (record { count = i; at = next }) out
  ended e = rw (x.all, e) (record { place = rw append-nil x.here; count = omega arith; output = rw append-nil x.output })

  pub all_done : min (min (length granules) (length places)) (length sequences) ≤ i
      → PutLines d at (records_in (length d) at granules places sequences) (record { count = i; at = next }) out
  all_done h =
      ended (none_left (length d) next (drop i granules) (drop i places) (drop i sequences)
      (λ a b c. omega (arith, still i granules a, still i places b, still i sequences c)))

  -- where a record is left
  module _ (hg : i < length granules) (hp : i < length places) (hs : i < length sequences) where
    abbrev line : Bytes
    line = record_line (get_or granules i 0) (get_or places i 0) (get_or sequences i 0)

    step : records_from i (length d) next granules places sequences
        ≡ pick (ltb (length d) (next + longest)) no_lines (before line (records_from (suc i) (length d) (next + length line) granules places sequences))
    unfolding records_in
    step = rw (drop-cons granules i 0, drop-cons places i 0, drop-cons sequences i 0)

    pub no_room : ltb (length out) (next + longest) ≡ true
        → PutLines d at (records_in (length d) at granules places sequences) (record { count = i; at = next }) out
    no_room e = ended (step ∙ rw (rw same_size at e))

    pub one_more : {r : ℕ} {o : Bytes} → ltb (length out) (next + longest) ≡ false → length line ≤ longest → Put out next line r o
        → Done d at granules places sequences o r (i + 1)
    one_more {r} {o} e short p =
        let room : next + longest ≤ length out = ltb-false (length out) (next + longest) e in
        let l = laid-put (omega arith) p in
        let rest : Lined = records_from (suc i) (length d) r granules places sequences in
        let first : records_from i (length d) next granules places sequences ≡ before line rest = (step ∙ rw (rw same_size at e, l.place)) in
        let count : i + suc rest.count ≡ suc i + rest.count = omega arith in
        record {
          text = x.text ++ line;
          output = l.output ∙ rw x.output (copied-append d at x.text line next x.here (omega (arith, same_size)));
          here = omega (arith, l.place, x.here, length-append x.text line);
          all = x.all ∙ rw (first, add-one i, ← append_assoc x.text line rest.text)
              (ap (λ (c : ℕ). record { text = (x.text ++ line) ++ rest.text; count = c }) count);
        }
