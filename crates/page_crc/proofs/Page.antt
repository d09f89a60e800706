-- A page's checksum by its three parts: before the field, the field as zeros, and after it. Assumes nothing.
use mathlib.Core.Path.{◌≡◌, sym, ap, ◌∙◌}
use mathlib.Core.List.{◌++◌, append_assoc}
use Prim.Native.Nat.{ℕ, zero, suc, ◌-◌, ◌≤◌, ◌<◌, min}
use native.Mathlib.Omega.{arith}
use lib.Dec.{lit<}
use lib.ListN.{length, take, drop, get_or, replicate, length-append, length-take, length-drop}
use lib.Seq.{take_all, take_at, drop_at}
use Rattle.octets.specs.Octets.{Bytes}
use Rattle.octets.proofs.Parts.{take_min, drop_min, take_within, octets-take, octets-drop}
use Rattle.page_layout.specs.Places.{checksum_at}
use Rattle.page_crc.specs.Crc.{checksum_end, crc, blank, page_crc}
use Rattle.page_crc.specs.Sliced.{block_of, sliced, head_sliced, page_sliced}
use Rattle.page_crc.specs.Statements.{PageCrcFits, BlankSame, PageCrcSame, PageSlicedRight}
use Rattle.page_crc.proofs.Register.{crc-append, crc_lt, crc-fits}
use Rattle.page_crc.proofs.Slice.{sliced_right}
use Rattle.page_crc.proofs.Turns.{left-starts, left_16, left_4, left_2, left-ends}

pub page_crc-fits : PageCrcFits
unfolding page_crc
page_crc-fits p = crc-fits (blank p)

-- another field f of four bytes leaves the length, and what is before and after the field
pub blank-same : BlankSame
unfolding blank
blank-same p f hp hf =
    let a : Bytes = take checksum_at p in
    let z : Bytes = drop checksum_end p in
    let la : length a ≡ checksum_at = simp length-take (omega arith) in
    let lf : length (a ++ f) ≡ checksum_end = simp (length-append, la, hf) in
    let lz : length (a ++ f ++ z) ≡ length p = simp (length-append, length-drop) (omega arith) in
    rw (lz, drop_at (a ++ f) z checksum_end lf, append_assoc a f z, take_at a (f ++ z) checksum_at la)

pub page_crc-same : PageCrcSame
unfolding page_crc
page_crc-same p f hp hf = ap (crc 0) (blank-same p f hp hf)

zeros_below : (n i : ℕ) → get_or (replicate n 0) i 0 < 256
zeros_below zero i = lit< tt
zeros_below (suc n) zero = lit< tt
zeros_below (suc n) (suc i) = zeros_below n i

pub page_sliced_right : PageSlicedRight
unfolding page_sliced page_crc blank
page_sliced_right e right p h =
    let a : Bytes = take checksum_at p in
    let z : Bytes = take (length p - checksum_at) (replicate 4 0) in
    let run = sliced_right e right in
    let one = run a (octets-take checksum_at p h) 0 (lit< tt) in
    let two = run z (octets-take (length p - checksum_at) (replicate 4 0) (record { below = zeros_below 4 })) (crc 0 a) (crc-fits a) in
    let three = run (drop checksum_end p) (octets-drop checksum_end p h) (crc (crc 0 a) z) (crc_lt z (crc 0 a) (crc-fits a)) in
    rw (one, two, three) (sym (rw (crc-append, crc-append)))

-- the field is from a to b; x, y and z are the register after each part
pub parts : (e : ℕ → ℕ → ℕ) (p : Bytes) {a b x y z : ℕ} → a ≡ min checksum_at (length p) → b ≡ min checksum_end (length p) → x ≡ sliced e 0 (take a p)
    → y ≡ sliced e x (take (b - a) (replicate 4 0)) → z ≡ sliced e y (take (length p - b) (drop b p)) → z ≡ page_sliced e p
unfolding page_sliced
parts e p {a} {b} ha hb hx hy hz =
    let zeros : Bytes = replicate 4 0 in
    let n : ℕ = length p - checksum_at in
    let field : b - a ≡ min n 4 = omega arith in
    let head : take a p ≡ take checksum_at p = ap (λ (k : ℕ). take k p) ha ∙ take_min checksum_at p in
    let gap : take (b - a) zeros ≡ take n zeros = ap (λ (k : ℕ). take k zeros) field ∙ take_min n zeros in
    let all = take_all (length p - b) (drop b p) (omega (arith, length-drop b p)) in
    let tail : take (length p - b) (drop b p) ≡ drop checksum_end p = all ∙ ap (λ (k : ℕ). drop k p) hb ∙ drop_min checksum_end p in
    cc

-- the blocks of the bytes before the field and of the field
pub head-blocks : (e : ℕ → ℕ → ℕ) (p : Bytes) {w x y z : ℕ} → checksum_end ≤ length p → w ≡ block_of e 0 (take 16 p)
    → x ≡ block_of e w (take 4 (drop 16 p)) → y ≡ block_of e x (take 2 (drop 20 p)) → z ≡ block_of e y (replicate 4 0)
    → z ≡ head_sliced e p
unfolding head_sliced
head-blocks e p {w} {x} {y} {z} h hw hx hy hz =
    let s : Bytes = take checksum_at p in
    let n : length s ≡ checksum_at = simp length-take (omega arith) in
    let one = left_16 {s = s} (omega arith) left-starts (hw ∙ ap (block_of e 0) (sym (take_within 16 0 checksum_at p (omega arith)))) in
    let two = left_4 (omega arith) (omega arith) one (hx ∙ ap (block_of e w) (sym (take_within 4 16 checksum_at p (omega arith)))) in
    let three = left_2 (omega arith) (omega arith) two (hy ∙ ap (block_of e x) (sym (take_within 2 20 checksum_at p (omega arith)))) in
    let head : y ≡ sliced e 0 s = left-ends (omega arith) three in
    let field = left-ends (omega arith) (left_4 {s = replicate 4 0} (omega arith) (omega arith) left-starts hz) in
    field ∙ ap (λ (r : ℕ). sliced e r (replicate 4 0)) head

-- the same and the bytes after the field
pub whole : (e : ℕ → ℕ → ℕ) (p : Bytes) {x z : ℕ} → checksum_end ≤ length p → x ≡ head_sliced e p
    → z ≡ sliced e x (take (length p - checksum_end) (drop checksum_end p)) → z ≡ page_sliced e p
unfolding head_sliced page_sliced
whole e p h hx hz =
    let zeros : Bytes = replicate 4 0 in
    let field : take (length p - checksum_at) zeros ≡ zeros = take_all (length p - checksum_at) zeros (omega arith) in
    let rest : take (length p - checksum_end) (drop checksum_end p) ≡ drop checksum_end p = take_all (length p - checksum_end) (drop checksum_end p) (omega (arith, length-drop checksum_end p)) in
    cc
