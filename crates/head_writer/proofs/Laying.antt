-- The copies that write an identification header, one after the other. Assumes nothing.
use mathlib.Core.Path.{◌≡◌, refl, sym, ap, ◌∙◌}
use mathlib.Core.Bool.{true, false}
use mathlib.Core.List.{[], ◌∷◌, ◌++◌, append-nil, append_assoc}
use Prim.Native.Nat.{ℕ, ◌+◌, ◌%◌, ◌≤◌, ◌<◌}
use native.Mathlib.Omega.{arith}
use lib.ListN.{length, take, length-append}
use lib.Seq.{length-take-le}
use Rattle.octets.specs.Octets.{Bytes, copied}
use Rattle.octets.specs.Numbers.{octets}
use Rattle.octets.proofs.Copying.{copied_next}
use Rattle.head_fields.specs.declared.Head.{Head}
use Rattle.head_fields.specs.Right.{used_places}
use Rattle.head_families.specs.Families.{has_counts}
use Rattle.head_fields.specs.Layout.{streams_place, coupled_place, indices_place, start_length, used_count, matrix_size}
use Rattle.head_writer.specs.Writing.{start_of, head_bytes, HeadFits}

-- a copy right after one at the front
copied-after : (d s t : Bytes) (n : ℕ) → length s ≡ n → n + length t ≤ length d → copied (copied d 0 s) n t ≡ copied d 0 (s ++ t)
copied-after d s t n e room =
    let front = copied_next d [] s (omega arith) in
    let both = copied_next d s t (omega arith) in
    let whole = copied_next d [] (s ++ t) (omega (arith, length-append s t)) in
    rw (front, ← e) (both ∙ sym whole)

one_octet : (x : ℕ) → x < 256 → octets 1 x ≡ x ∷ []
unfolding octets
one_octet x h =
    let small : x % 256 ≡ x = omega arith in
    ap (λ (y : ℕ). y ∷ []) small

length-start : (h : Head) → length (start_of h) ≡ start_length
unfolding start_of octets
length-start h = refl

module _ (h : Head) (m : Bytes) where
  plain-bytes : has_counts h.family ≡ false → head_bytes h m ≡ start_of h
  unfolding head_bytes
  plain-bytes e = rw e (append-nil (start_of h))

  table-bytes : has_counts h.family ≡ true → head_bytes h m ≡ start_of h ++ h.streams ∷ h.coupled ∷ (used_places h ++ m)
  unfolding head_bytes
  table-bytes e = rw e

-- the start, two counts, the indices u and the matrix m
five : (s u m out : Bytes) (x y n : ℕ) → length s ≡ start_length → length u ≡ n → indices_place + n + length m ≤ length out
    → copied (copied (copied (copied (copied out 0 s) streams_place (x ∷ [])) coupled_place (y ∷ [])) indices_place u) (indices_place + n) m
    ≡ copied out 0 (s ++ x ∷ y ∷ (u ++ m))
five s u m out x y n e d room =
    let one : length (s ++ (x ∷ [])) ≡ coupled_place = rw length-append (omega arith) in
    let two : length (s ++ (x ∷ []) ++ (y ∷ [])) ≡ indices_place = rw length-append (omega arith) in
    let three : length (s ++ (x ∷ []) ++ (y ∷ []) ++ u) ≡ indices_place + n = simp length-append (omega arith) in
    rw (
      copied-after out s (x ∷ []) streams_place e (omega arith),
      copied-after out (s ++ (x ∷ [])) (y ∷ []) coupled_place one (omega arith),
      copied-after out (s ++ (x ∷ []) ++ (y ∷ [])) u indices_place two (omega arith),
      copied-after out (s ++ (x ∷ []) ++ (y ∷ []) ++ u) m (indices_place + n) three (omega arith),
    ) (simp append_assoc)

-- the output without a table
pub put-plain : (h : Head) (m out s a : Bytes) → has_counts h.family ≡ false → s ≡ start_of h → a ≡ copied out 0 s
    → a ≡ copied out 0 (head_bytes h m)
put-plain h m out s a plain hs ha = ha ∙ ap (copied out 0) (hs ∙ sym (plain-bytes h m plain))

-- the output with one: a, d, e, f and g are the output after each copy, and n is how many indices there are
pub put-table : (h : Head) (m out s a d e f g : Bytes) (n : ℕ) → has_counts h.family ≡ true → HeadFits h m out → h.streams < 256
    → h.coupled < 256 → n ≡ used_count h → n ≤ length h.mapping → s ≡ start_of h → a ≡ copied out 0 s
    → d ≡ copied a streams_place (octets 1 h.streams) → e ≡ copied d coupled_place (octets 1 h.coupled)
    → f ≡ copied e indices_place (take n h.mapping) → g ≡ copied f (indices_place + n) m
    → g ≡ copied out 0 (head_bytes h m)
put-table h m out s a d e f g n table fits hx hy hn hm hs ha hd he hf hg =
    let size : start_length + (2 + (used_count h + matrix_size h)) ≤ length out = rw table at fits.room in
    let u : Bytes = take n h.mapping in
    let used : length u ≡ n = length-take-le n h.mapping hm in
    hg
    ∙ rw (hf, he, hd, ha, hs, one_octet h.streams hx, one_octet h.coupled hy)
    (five (start_of h) u m out h.streams h.coupled n (length-start h) used (omega (arith, fits.matrix)))
    ∙ ap (λ (k : ℕ). copied out 0 (start_of h ++ h.streams ∷ h.coupled ∷ (take k h.mapping ++ m))) hn
    ∙ ap (copied out 0) (sym (table-bytes h m table))
