-- A turn of each loop of the code: one byte more of a block, and one block more of a slice. Assumes nothing.
use mathlib.Core.Path.{◌≡◌, refl, sym, ap, ap₂, ◌∙◌}
use mathlib.Core.List.{[], ◌∷◌}
use Prim.Native.Nat.{ℕ, zero, suc, ◌+◌, ◌*◌, ◌-◌, ◌/◌, ◌%◌, ◌^◌, ◌≤◌, ◌<◌}
use native.Mathlib.Nat.{add-zero, add-suc, sub-zero}
use native.Mathlib.Numerals.{add-one}
use native.Mathlib.Omega.{arith}
use borrow.Author.Tests.{le-leb, lt-leb}
use lib.Bits.{bit_xor}
use lib.ListN.{length, take, drop, get_or, length-drop, drop_of_length-le}
use lib.Seq.{length-take-le, drop-cons, drop-drop}
use Rattle.octets.specs.Octets.{Bytes}
use Rattle.page_crc.specs.Sliced.{moved, block_of, size, blocks, sliced}
use Rattle.page_crc.proofs.Slice.{shorter}

-- four bytes move everything out
pub moved_out : (n x : ℕ) → x < 2 ^ 32 → moved x (4 + n) ≡ 0
unfolding moved
moved_out zero x h = omega arith
moved_out (suc n) x h = rw add-suc (ap (λ (r : ℕ). r * 2 ^ 8 % 2 ^ 32) (moved_out n x h))

module _ (e : ℕ → ℕ → ℕ) where
  -- the block of the byte at i and the j bytes that follow it
  one_byte : (s : Bytes) (i j x : ℕ) → i + suc j ≤ length s
      → block_of e x (take (suc j) (drop i s))
      ≡ bit_xor (block_of e (x * 2 ^ 8 % 2 ^ 32) (take j (drop (suc i) s))) (e j (bit_xor (x / 2 ^ 24) (get_or s i 0)))
  unfolding block_of
  one_byte s i j x h =
      let follow : length (take j (drop (suc i) s)) ≡ j = length-take-le j (drop (suc i) s) (simp length-drop (omega arith)) in
      rw (drop-cons s i 0 (omega arith), follow)

  idle : (n r : ℕ) → blocks e n r [] ≡ r
  unfolding blocks size block_of
  idle zero r = refl
  idle (suc n) r = idle n r

  -- more blocks than there are bytes change nothing
  enough : (n m r : ℕ) (s : Bytes) → length s ≤ n → length s ≤ m → blocks e n r s ≡ blocks e m r s
  unfolding blocks
  enough zero m r [] hn hm = sym (idle m r)
  enough zero m r (b ∷ s) hn hm = absurd (omega arith)
  enough (suc n) zero r [] hn hm = idle (suc n) r
  enough (suc n) zero r (b ∷ s) hn hm = absurd (omega arith)
  enough (suc n) (suc m) r s hn hm =
      let k : ℕ = size (length s) in
      enough n m (block_of e r (take k s)) (drop k s) (shorter n s hn) (shorter m s hm)

  next : (s : Bytes) (r : ℕ) → 0 < length s
      → sliced e r s ≡ sliced e (block_of e r (take (size (length s)) s)) (drop (size (length s)) s)
  unfolding sliced blocks
  next [] r h = absurd (omega arith)
  next (b ∷ s) r h =
      let l : Bytes = b ∷ s in
      let k : ℕ = size (length l) in
      enough (length s) (length (drop k l)) (block_of e r (take k l)) (drop k l) (shorter (length s) l (omega arith)) (omega arith)

-- in the loop of a block of m bytes from `at` on: y is what its last j bytes make of the register x, moved past the bytes
-- before them
pub record Block (e : ℕ → ℕ → ℕ) (x : ℕ) (s : Bytes) (at m y j : ℕ) : Type 0 where
  pub made : y ≡ block_of e (moved x (m - j)) (take j (drop (at + (m - j)) s))
  pub within : j ≤ m

module _ {e : ℕ → ℕ → ℕ} {x : ℕ} {s : Bytes} {at m y : ℕ} where
  pub block_starts : y ≡ moved x m → Block e x s at m y 0
  unfolding block_of
  block_starts h = record { made = simp sub-zero h; within = omega arith }

  -- one byte more: b is the byte with the register's top, v its entry
  pub block_turn : {j b v : ℕ} → at + m ≤ length s → j < m → Block e x s at m y j
      → b ≡ bit_xor (moved x (m - 1 - j) / 2 ^ 24) (get_or s (at + (m - 1 - j)) 0) → v ≡ e j b → Block e x s at m (bit_xor y v) (j + 1)
  unfolding moved
  block_turn {j} {b} {v} long h old hb hv =
      let k : ℕ = m - 1 - j in
      let less : m - (j + 1) ≡ k = omega arith in
      let more : m - j ≡ suc k = omega arith in
      let new = one_byte e s (at + k) j (moved x k) (omega arith) in
      let made = ap₂ bit_xor (rw (more, add-suc) at old.made) (hv ∙ ap (e j) hb) in
      record { made = rw (less, add-one, new) made; within = omega arith }

  pub block_ends : {j : ℕ} → m ≤ j → Block e x s at m y j → y ≡ block_of e x (take m (drop at s))
  unfolding moved
  block_ends {j} h old =
      let none : m - j ≡ 0 = omega arith in
      let all : j ≡ m = omega arith in
      rw (none, add-zero, all) at old.made

-- in the loop over s from the register r on: the bytes from i on take the register x to the answer
pub record Left (e : ℕ → ℕ → ℕ) (r : ℕ) (s : Bytes) (x i : ℕ) : Type 0 where
  pub same : sliced e x (drop i s) ≡ sliced e r s
  pub within : i ≤ length s

pub left-starts : {e : ℕ → ℕ → ℕ} {r : ℕ} {s : Bytes} → Left e r s r 0
left-starts = record { same = refl; within = omega arith }

module _ {e : ℕ → ℕ → ℕ} {r : ℕ} {s : Bytes} {x i : ℕ} where
  -- a block more, of m bytes, which makes the register y
  turn : (m y : ℕ) → size (length s - i) ≡ m → i < length s → i + m ≤ length s → Left e r s x i
      → y ≡ block_of e x (take m (drop i s)) → Left e r s y (i + m)
  turn m y n h l old made =
      let known : size (length (drop i s)) ≡ m = ap size (length-drop i s) ∙ n in
      let one = rw (known, drop-drop) at (next e (drop i s) x (simp length-drop (omega arith))) in
      record { same = rw made (sym one ∙ old.same); within = l }

  pub left_16 : {y : ℕ} → 16 ≤ length s - i → Left e r s x i → y ≡ block_of e x (take 16 (drop i s)) → Left e r s y (i + 16)
  unfolding size
  left_16 {y} h = turn 16 y (rw (le-leb 16 (length s - i) h)) (omega arith) (omega arith)

  pub left_8 : {y : ℕ} → length s - i < 16 → 8 ≤ length s - i → Left e r s x i
      → y ≡ block_of e x (take 8 (drop i s)) → Left e r s y (i + 8)
  unfolding size
  left_8 {y} l h = turn 8 y (rw (lt-leb 16 (length s - i) l, le-leb 8 (length s - i) h)) (omega arith) (omega arith)

  pub left_4 : {y : ℕ} → length s - i < 8 → 4 ≤ length s - i → Left e r s x i
      → y ≡ block_of e x (take 4 (drop i s)) → Left e r s y (i + 4)
  unfolding size
  left_4 {y} l h =
      turn 4 y (rw (lt-leb 16 (length s - i) (omega arith), lt-leb 8 (length s - i) l, le-leb 4 (length s - i) h))
      (omega arith) (omega arith)

  pub left_2 : {y : ℕ} → length s - i < 4 → 2 ≤ length s - i → Left e r s x i
      → y ≡ block_of e x (take 2 (drop i s)) → Left e r s y (i + 2)
  unfolding size
  left_2 {y} l h =
      turn 2 y
      (rw (lt-leb 16 (length s - i) (omega arith), lt-leb 8 (length s - i) (omega arith), lt-leb 4 (length s - i) l, le-leb 2 (length s - i) h))
      (omega arith) (omega arith)

  pub left_1 : {y : ℕ} → length s - i < 2 → i < length s → Left e r s x i
      → y ≡ block_of e x (take 1 (drop i s)) → Left e r s y (i + 1)
  unfolding size
  left_1 {y} l h =
      turn 1 y
      (rw (lt-leb 16 (length s - i) (omega arith), lt-leb 8 (length s - i) (omega arith), lt-leb 4 (length s - i) (omega arith), lt-leb 2 (length s - i) l))
      h (omega arith)

  pub left-ends : length s ≤ i → Left e r s x i → x ≡ sliced e r s
  unfolding sliced blocks
  left-ends h old = rw (drop_of_length-le s {i = i} h) at old.same
