-- The lacing values of one packet, and the page that they cut. Assumes nothing.
use Prim.Native.Nat.{ℕ, zero, suc, ◌+◌, ◌*◌, ◌/◌, ◌%◌, ◌≤◌, ◌<◌}
use mathlib.Core.Path.{◌≡◌, refl, sym, ap, ◌∙◌}
use mathlib.Core.Bool.{Bool, true, false}
use mathlib.Core.List.{[], ◌∷◌, ◌++◌, append_assoc}
use native.Mathlib.Omega.{arith}
use borrow.Author.Tests.{lt-ltb, le-ltb}
use lib.ListN.{length, take, drop, length-drop, take-append-drop}
use lib.Seq.{take_all}
use Rattle.octets.specs.Octets.{Bytes, total}
use Rattle.limits.specs.Limits.{packet_max}
use Rattle.page_lacing.specs.Lacing.{ended_from, unfinished_from, cut_from}
use Rattle.stream.specs.declared.Shape.{Shape}
use Rattle.stream.specs.declared.Shape.TheVariants.{Ends}
use Rattle.stream.specs.Page.{ends}
use Rattle.stream.specs.Shape.{shape_from, shape_of}
use Rattle.stream.specs.Packets.{any_long, long_from}
use Rattle.stream.specs.Stream.{segments, packets_from, open_from}
use Rattle.check_writer.specs.Written.{fulls, laced_as}

total-fulls : (q r : ℕ) → total (fulls q r) ≡ q * 255 + r
unfolding fulls total
total-fulls zero r = omega arith
total-fulls (suc q) r = omega (arith, total-fulls q r)

length-fulls : (q r : ℕ) → length (fulls q r) ≡ suc q
unfolding fulls
length-fulls zero r = refl
length-fulls (suc q) r = ap suc (length-fulls q r)

cut-fulls : (q r n : ℕ) (body : Bytes) → r < 255 → length body ≡ n + (q * 255 + r) → cut_from n (fulls q r) body ≡ record { whole = body ∷ []; rest = [] }
unfolding fulls cut_from
cut-fulls zero r n body h e = rw (lt-ltb r 255 h, take_all (n + r) body (omega arith)) refl
cut-fulls (suc q) r n body h e = cut-fulls q r (n + 255) body h (omega arith)

unfinished-fulls : (q r n : ℕ) → r < 255 → unfinished_from n (fulls q r) ≡ 0
unfolding fulls unfinished_from
unfinished-fulls zero r n h = rw (lt-ltb r 255 h) refl
unfinished-fulls (suc q) r n h = unfinished-fulls q r (n + 255) h

ended-fulls : (q r n : ℕ) → r < 255 → ended_from n (fulls q r) ≡ (n + (q * 255 + r)) ∷ []
unfolding fulls ended_from
ended-fulls zero r n h = let z : n + r ≡ n + (0 * 255 + r) = omega arith in rw (lt-ltb r 255 h, z) refl
ended-fulls (suc q) r n h =
    let z : n + 255 + (q * 255 + r) ≡ n + (suc q * 255 + r) = omega arith in
    ended-fulls q r (n + 255) h ∙ ap (λ (i : ℕ). i ∷ []) z

shape-fulls : (q r : ℕ) (s : Shape) → r < 255 → shape_from s (fulls q r) ≡ Ends
unfolding fulls shape_from
shape-fulls zero r s h = rw (lt-ltb r 255 h) refl
shape-fulls (suc q) r s h = shape-fulls q r _ h

ends-fulls : (q r : ℕ) → r < 255 → ends (fulls q r) ≡ true
unfolding fulls ends
ends-fulls zero r h = rw (lt-ltb r 255 h) refl
ends-fulls (suc q) r h = ends-fulls q r h

open_fulls : (q r : ℕ) (o : Bool) (body : Bytes) → r < 255 → open_from o (segments (fulls q r) body) ≡ false
unfolding fulls segments open_from
open_fulls zero r o body h = rw (lt-ltb r 255 h) refl
open_fulls (suc q) r o body h = open_fulls q r true (drop 255 body) h

packets-fulls : (q r : ℕ) (before body : Bytes) → r < 255 → length body ≡ q * 255 + r
    → packets_from before (segments (fulls q r) body) ≡ (before ++ body) ∷ []
unfolding fulls segments packets_from
packets-fulls zero r before body h e = rw (lt-ltb r 255 h, take_all r body (omega arith)) refl
packets-fulls (suc q) r before body h e =
    packets-fulls q r (before ++ take 255 body) (drop 255 body) h (simp length-drop (omega arith))
    ∙ ap (λ (b : Bytes). b ∷ []) (append_assoc before (take 255 body) (drop 255 body) ∙ ap (λ (b : Bytes). before ++ b) (take-append-drop 255 body))

-- ---- of a packet

module _ (b : Bytes) where
  abbrev q : ℕ
  q = length b / 255

  abbrev r : ℕ
  r = length b % 255

  small : r < 255
  small = omega arith

  size : length b ≡ q * 255 + r
  size = omega arith

  pub laced_total : total (laced_as (length b)) ≡ length b
  laced_total = total-fulls q r ∙ sym size

  pub laced_cut : cut_from 0 (laced_as (length b)) b ≡ record { whole = b ∷ []; rest = [] }
  laced_cut = cut-fulls q r 0 b small (omega (arith, size))

  pub laced_unfinished : unfinished_from 0 (laced_as (length b)) ≡ 0
  laced_unfinished = unfinished-fulls q r 0 small

  pub laced_short : length b ≤ packet_max → long_from 0 (laced_as (length b)) ≡ false
  unfolding long_from any_long
  laced_short h =
      let z : 0 + (q * 255 + r) ≡ length b = omega (arith, size) in
      rw (ended-fulls q r 0 small, unfinished-fulls q r 0 small, z, le-ltb packet_max (length b) h) refl

  pub laced_shape : shape_of (laced_as (length b)) ≡ Ends
  unfolding shape_of
  laced_shape = shape-fulls q r _ small

  pub laced_ends : ends (laced_as (length b)) ≡ true
  laced_ends = ends-fulls q r small

  pub laced_open : (o : Bool) → open_from o (segments (laced_as (length b)) b) ≡ false
  laced_open o = open_fulls q r o b small

  pub laced_packets : packets_from [] (segments (laced_as (length b)) b) ≡ b ∷ []
  laced_packets = packets-fulls q r [] b small size
