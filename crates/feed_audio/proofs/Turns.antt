-- One lacing value more, shared by every loop over them, and what a turn of `first_piece` keeps. Assumes nothing.
use Prim.Native.Nat.{ℕ, ◌+◌, ◌<◌, ◌≤◌}
use mathlib.Core.Path.{◌≡◌, ap}
use mathlib.Core.Bool.{true, false}
use mathlib.Core.List.{List, [], ◌∷◌}
use native.Mathlib.Omega.{arith}
use borrow.Author.Tests.{lt-ltb, le-ltb}
use lib.ListN.{length, get_or, drop}
use Rattle.octets.specs.Octets.{total}
use Rattle.feed_audio.specs.declared.packets.Piece.{Piece}
use Rattle.feed_audio.specs.Code.{first_from}
use Rattle.feed_lacing.proofs.Values.{next}

pub total-next : (l : List ℕ) (i v : ℕ) → i < length l → v ≡ get_or l i 0 → total (drop i l) ≡ v + total (drop (i + 1) l)
unfolding total
total-next l i v in_l e = rw (next l i v in_l e)

-- i values more in front
abbrev pub past : ℕ → Piece → Piece
past i p = record { values = i + p.values; bytes = p.bytes; ends = p.ends }

pub piece-goes_on : (l : List ℕ) (i n v : ℕ) → 255 ≤ v → past i (first_from n (v ∷ l)) ≡ past (i + 1) (first_from (n + v) l)
unfolding first_from
piece-goes_on l i n v h =
    let p : Piece = first_from (n + v) l in
    let e : i + (p.values + 1) ≡ i + 1 + p.values = omega arith in
    rw (le-ltb v 255 h) (ap (λ (k : ℕ). record { values = k; bytes = p.bytes; ends = p.ends }) e)

pub piece-ends : (l : List ℕ) (i n v : ℕ) → v < 255 → past i (first_from n (v ∷ l)) ≡ record { values = i + 1; bytes = n + v; ends = true }
unfolding first_from
piece-ends l i n v h = rw (lt-ltb v 255 h)

pub past-none : (p : Piece) → p ≡ past 0 p
past-none p =
    let e : p.values ≡ 0 + p.values = omega arith in
    ap (λ (k : ℕ). record { values = k; bytes = p.bytes; ends = p.ends }) e

pub piece_open : (i n : ℕ) → past i (first_from n []) ≡ record { values = i; bytes = n; ends = false }
unfolding first_from
piece_open i n =
    let e : i + 0 ≡ i = omega arith in
    ap (λ (k : ℕ). record { values = k; bytes = n; ends = false }) e
