-- The bytes of a comment header: how long they are, and their copies that follow each other. Assumes nothing.
use mathlib.Core.Path.{◌≡◌, refl, sym, ap, ◌∙◌}
use mathlib.Core.List.{List, [], ◌∷◌, ◌++◌, append-nil}
use Prim.Native.Nat.{ℕ, suc, ◌+◌, ◌-◌, ◌*◌, ◌≤◌, ◌<◌}
use native.Mathlib.Omega.{arith}
use lib.ListN.{length, get_or, take, drop, length-append, length-drop, drop_of_length-le}
use lib.Seq.{length-take-le, paste-zero}
use Rattle.octets.specs.Octets.{Bytes, total, copied}
use Rattle.octets.specs.Numbers.{octets}
use Rattle.octets.proofs.Numbers.{length-octets}
use Rattle.octets.proofs.Copying.{copied-fits, copied-append}
use Rattle.tags_layout.specs.Layout.{signature, vendor_place, vendor_start}
use Rattle.tags_reader.specs.Packet.{text_bytes, comments_bytes, tags_bytes}
use Rattle.tags_writer.specs.Writing.{cut_by, packet_of}
use Rattle.tags_writer.specs.Code.{packet_size}
use Rattle.tags_writer.proofs.Lengths.{sum_step, cut_step}

-- ---- lengths

pub length-text : (t : Bytes) → length (text_bytes t) ≡ 4 + length t
unfolding text_bytes
length-text t = length-append (octets 4 (length t)) t ∙ ap (λ (k : ℕ). k + length t) (length-octets 4 (length t))

pub length_cut : (ns : List ℕ) (s : Bytes) → length (cut_by ns s) ≡ length ns
unfolding cut_by
length_cut [] s = refl
length_cut (n ∷ ns) s = ap suc (length_cut ns (drop n s))

pub length-comments : (ns : List ℕ) (s : Bytes) → total ns ≡ length s → length (comments_bytes (cut_by ns s)) ≡ 4 * length ns + length s
unfolding total comments_bytes cut_by
length-comments [] s e = omega arith
length-comments (n ∷ ns) s e =
    let size : length (take n s) ≡ n = length-take-le n s (omega arith) in
    let rest : length (drop n s) ≡ length s - n = length-drop n s in
    let later = length-comments ns (drop n s) (omega (arith, rest)) in
    length-append (text_bytes (take n s)) (comments_bytes (cut_by ns (drop n s))) ∙ omega (arith, length-text (take n s), later, size, rest)

-- the signature, the vendor, the number of comments and the comments
length-parts : (v k cs : Bytes) → length (signature ++ v ++ k ++ cs ++ []) ≡ vendor_place + length v + length k + length cs
length-parts v k cs =
    let front : length signature ≡ vendor_place = refl in
    let three : length (signature ++ v ++ k ++ cs) ≡ length (signature ++ v ++ k) + length cs = length-append (signature ++ v ++ k) cs in
    let two : length (signature ++ v ++ k) ≡ length (signature ++ v) + length k = length-append (signature ++ v) k in
    let one : length (signature ++ v) ≡ length signature + length v = length-append signature v in
    ap length (append-nil (signature ++ v ++ k ++ cs)) ∙ omega (arith, front, one, two, three)

pub length-packet : (vendor text : Bytes) (ns : List ℕ) → total ns ≡ length text
    → length (packet_of vendor text ns) ≡ packet_size vendor text ns
unfolding tags_bytes
length-packet vendor text ns e =
    length-parts (text_bytes vendor) (octets 4 (length (cut_by ns text))) (comments_bytes (cut_by ns text))
    ∙ omega (arith, length-text vendor, length-octets 4 (length (cut_by ns text)), length-comments ns text e)

-- ---- copies

pub text-copied : (d : Bytes) (at : ℕ) (t : Bytes) → at + 4 + length t ≤ length d
    → copied (copied d at (octets 4 (length t))) (at + 4) t ≡ copied d at (text_bytes t)
unfolding text_bytes
text-copied d at t h =
    copied-append d at (octets 4 (length t)) t (at + 4) (omega (arith, length-octets 4 (length t))) h

-- one comment, and those after it
module _ (d text : Bytes) (ns : List ℕ) (at from i : ℕ) (more : i < length ns) (sum : total (drop i ns) ≡ length text - from) where
  abbrev n : ℕ
  n = get_or ns i 0

  abbrev c : Bytes
  c = take n (drop from text)

  pub comment-inside : n ≤ length text - from
  comment-inside = omega (arith, sum_step text ns from i more)

  pub comment-length : length c ≡ n
  comment-length = length-take-le n (drop from text) (omega (arith, comment-inside, length-drop from text))

  pub rest_sum : total (drop (i + 1) ns) ≡ length text - (from + n)
  rest_sum = omega (arith, sum_step text ns from i more)

  pub comments-copied : at + 4 * (length ns - i) + (length text - from) ≤ length d
      → copied (copied d at (text_bytes c)) (at + (4 + n)) (comments_bytes (cut_by (drop (i + 1) ns) (drop (from + n) text)))
      ≡ copied d at (comments_bytes (cut_by (drop i ns) (drop from text)))
  unfolding comments_bytes
  comments-copied h =
      let later : List Bytes = cut_by (drop (i + 1) ns) (drop (from + n) text) in
      let left : length (drop (from + n) text) ≡ length text - (from + n) = length-drop (from + n) text in
      let size = length-comments (drop (i + 1) ns) (drop (from + n) text) (rest_sum ∙ sym left) in
      copied-append d at (text_bytes c) (comments_bytes later) (at + (4 + n)) (omega (arith, length-text c, comment-length))
      (omega (arith, size, left, length-drop (i + 1) ns, comment-inside))
      ∙ ap (λ (cs : List Bytes). copied d at (comments_bytes cs)) (sym (cut_step text ns from i more))

-- no comment is left
pub all-copied : (d text : Bytes) (ns : List ℕ) (at from i : ℕ) → length ns ≤ i → at ≤ length d
    → d ≡ copied d at (comments_bytes (cut_by (drop i ns) (drop from text)))
unfolding comments_bytes cut_by
all-copied d text ns at from i h room = rw (drop_of_length-le ns h) (paste-zero d at [] ∙ sym (copied-fits d at [] (omega arith)))

-- ---- the packet

module _ (vendor text : Bytes) (ns : List ℕ) (sum : total ns ≡ length text) (d d1 d2 d3 d4 : Bytes)
    (room : packet_size vendor text ns ≤ length d)
    (started : d1 ≡ copied d 0 signature) (named : d2 ≡ copied d1 vendor_place (text_bytes vendor))
    (counted : d3 ≡ copied d2 (vendor_start + length vendor) (octets 4 (length ns)))
    (filled : d4 ≡ copied d3 (vendor_start + length vendor + 4) (comments_bytes (cut_by ns text))) where
  pub packet-copied : d4 ≡ copied d 0 (packet_of vendor text ns)
  unfolding tags_bytes
  packet-copied =
      let t : Bytes = text_bytes vendor in
      let k : Bytes = octets 4 (length ns) in
      let cs : Bytes = comments_bytes (cut_by ns text) in
      let t_size : length t ≡ 4 + length vendor = length-text vendor in
      let k_size : length k ≡ 4 = length-octets 4 (length ns) in
      let cs_size : length cs ≡ 4 * length ns + length text = length-comments ns text sum in
      let front : length signature ≡ vendor_place = refl in
      let one : length (signature ++ t) ≡ length signature + length t = length-append signature t in
      let two : length (signature ++ t ++ k) ≡ length (signature ++ t) + length k = length-append (signature ++ t) k in
      let second : d2 ≡ copied d 0 (signature ++ t) =
      (named ∙ ap (λ (x : Bytes). copied x vendor_place t) started ∙ copied-append d 0 signature t vendor_place (omega arith) (omega arith)) in
      let third : d3 ≡ copied d 0 (signature ++ t ++ k) =
      (counted ∙ ap (λ (x : Bytes). copied x (vendor_start + length vendor) k) second
      ∙ copied-append d 0 (signature ++ t) k (vendor_start + length vendor) (omega arith) (omega arith)) in
      let fourth : d4 ≡ copied d 0 (signature ++ t ++ k ++ cs) =
      (filled ∙ ap (λ (x : Bytes). copied x (vendor_start + length vendor + 4) cs) third
      ∙ copied-append d 0 (signature ++ t ++ k) cs (vendor_start + length vendor + 4) (omega arith) (omega arith)) in
      fourth ∙ ap (copied d 0) (sym (append-nil (signature ++ t ++ k ++ cs)) ∙ ap (λ (m : ℕ). signature ++ t ++ octets 4 m ++ cs ++ []) (sym (length_cut ns text)))
