-- The lines put one after the other. Assumes nothing.
use mathlib.Core.Path.{◌≡◌, refl, sym, ap, ◌∙◌}
use mathlib.Core.Bool.{Bool, true, false}
use mathlib.Core.List.{List, [], ◌∷◌, ◌++◌, append_assoc, append-nil}
use Prim.Native.Nat.{ℕ, suc, ◌+◌, ◌-◌, ◌≤◌, ◌<◌, min}
use native.Mathlib.Omega.{arith}
use native.Mathlib.Numerals.{add-one}
use lib.Dec.{ltb, leb}
use lib.ListN.{length, drop, get_or, length-append, length-drop}
use lib.Seq.{paste, paste-zero, drop-cons}
use Rattle.octets.specs.Pick.{pick}
use Rattle.octets.specs.Octets.{Bytes, copied}
use Rattle.octets.proofs.Copying.{length-copied, copied-append}
use Rattle.text_put.specs.Writing.{Laid}
use Rattle.list_lines.specs.Lines.{entry_line, longest}
use Rattle.list_entries.specs.Entries.{Lined, no_lines, before, lines_in, PutLines}

-- lines in front of others
abbrev pub after : Bytes → ℕ → Lined → Lined
after text n l = record { text = text ++ l.text; count = n + l.count }

-- the lines of the packets from number i on
abbrev lines_from : ℕ → ℕ → List ℕ → List ℕ → List ℕ → List ℕ → Lined
lines_from i room ends lengths frames kept = lines_in room (drop i ends) (drop i lengths) (drop i frames) (drop i kept)

-- i lines are put into d from `at` on, `place` is after them, and `out` is the buffer
pub record Done (d : Bytes) (at : ℕ) (ends lengths frames kept : List ℕ) (out : Bytes) (place i : ℕ) : Type 0 where
  pub text : Bytes
  pub output : out ≡ copied d at text
  pub here : place ≡ at + length text
  pub all : lines_in (length d - at) ends lengths frames kept ≡ after text i (lines_from i (length d - place) ends lengths frames kept)

pub no_text : (d : Bytes) (at : ℕ) → d ≡ copied d at []
unfolding copied
no_text d at = by (leb (at + 0) (length d))
  where
    by : (t : Bool) → d ≡ pick t (paste d at [] 0) d
    by true = paste-zero d at []
    by false = refl

pub done-starts : (d : Bytes) (at : ℕ) (ends lengths frames kept : List ℕ) → Done d at ends lengths frames kept d at 0
done-starts d at ends lengths frames kept =
    let l : Lined = lines_in (length d - at) ends lengths frames kept in
    let n : 0 + l.count ≡ l.count = omega arith in
    record { text = []; output = no_text d at; here = omega arith; all = sym (ap (λ (c : ℕ). record { text = l.text; count = c }) n) }

pub still : (i : ℕ) (l : List ℕ) → 1 ≤ length (drop i l) → i < length l
still i l h = omega (arith, length-drop i l)

-- no packet is left
none_left : (room : ℕ) (ends lengths frames kept : List ℕ) → (1 ≤ length ends → 1 ≤ length lengths → 1 ≤ length frames → 1 ≤ length kept → ⊥)
    → lines_in room ends lengths frames kept ≡ no_lines
unfolding lines_in
none_left room [] lengths frames kept h = refl
none_left room (e ∷ ends) [] frames kept h = refl
none_left room (e ∷ ends) (s ∷ lengths) [] kept h = refl
none_left room (e ∷ ends) (s ∷ lengths) (f ∷ frames) [] h = refl
none_left room (e ∷ ends) (s ∷ lengths) (f ∷ frames) (k ∷ kept) h = absurd (h (omega arith) (omega arith) (omega arith) (omega arith))

module _ {d : Bytes} {at : ℕ} {ends lengths frames kept : List ℕ} {out : Bytes} {place i : ℕ} (x : Done d at ends lengths frames kept out place i) where
  pub same_size : length out ≡ length d
  same_size = ap length x.output ∙ length-copied d at x.text

  ended : lines_from i (length d - place) ends lengths frames kept ≡ no_lines
      → PutLines d at (lines_in (length d - at) ends lengths frames kept) (record { count = i; at = place }) out
  ended e = rw (x.all, e) (record { place = rw append-nil x.here; count = omega arith; output = rw append-nil x.output })

  pub all_done : min (min (length ends) (length lengths)) (min (length frames) (length kept)) ≤ i
      → PutLines d at (lines_in (length d - at) ends lengths frames kept) (record { count = i; at = place }) out
  all_done h =
      ended (none_left (length d - place) (drop i ends) (drop i lengths) (drop i frames) (drop i kept)
      (λ a b c e. omega (arith, still i ends a, still i lengths b, still i frames c, still i kept e)))

  -- where a packet is left
  module _ (he : i < length ends) (hs : i < length lengths) (hf : i < length frames) (hk : i < length kept) where
    abbrev line : Bytes
    line = entry_line (get_or ends i 0) (get_or lengths i 0) (get_or frames i 0) (get_or kept i 0)

    next : (room : ℕ) → lines_from i room ends lengths frames kept
        ≡ pick (ltb room longest) no_lines (before line (lines_from (suc i) (room - length line) ends lengths frames kept))
    unfolding lines_in
    next room = rw (drop-cons ends i 0, drop-cons lengths i 0, drop-cons frames i 0, drop-cons kept i 0)

    pub no_room : ltb (length out - place) longest ≡ true → PutLines d at (lines_in (length d - at) ends lengths frames kept) (record { count = i; at = place }) out
    no_room e = ended (next (length d - place) ∙ rw (rw same_size at e))

    pub one_more : {r : ℕ} {o : Bytes} → ltb (length out - place) longest ≡ false → Laid out place line r o → r ≤ length out
        → Done d at ends lengths frames kept o r (i + 1)
    one_more {r} {o} e l w =
        let rest : Lined = lines_from (suc i) (length d - r) ends lengths frames kept in
        let room : length d - place - length line ≡ length d - r = omega (arith, l.place) in
        let first : lines_from i (length d - place) ends lengths frames kept ≡ before line rest =
        (next (length d - place) ∙ rw (rw same_size at e, room)) in
        let count : i + suc rest.count ≡ suc i + rest.count = omega arith in
        record {
          text = x.text ++ line;
          output = l.output ∙ rw x.output (copied-append d at x.text line place x.here (omega (arith, l.place, same_size)));
          here = omega (arith, l.place, x.here, length-append x.text line);
          all = x.all ∙ rw (first, add-one i, ← append_assoc x.text line rest.text)
              (ap (λ (c : ℕ). record { text = (x.text ++ line) ++ rest.text; count = c }) count);
        }
