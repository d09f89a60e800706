-- Where a page ends: after its start, and inside the buffer; what is cut is no page. Assumes nothing.
use Prim.Native.Nat.{ℕ, ◌+◌, ◌≤◌, ◌<◌}
use mathlib.Core.Path.{◌≡◌, refl, sym}
use mathlib.Core.Bool.{Bool, true, false, not, ◌&&◌}
use mathlib.Core.Option.{Option, none, some}
use native.Mathlib.Omega.{arith}
use borrow.Author.Tests.{ltb-true, ltb-false, ne_eqb}
use lib.Dec.{ltb, eqb}
use lib.ListN.{length, drop, length-drop}
use Rattle.octets.specs.Pick.{pick}
use Rattle.octets.specs.Octets.{Bytes}
use Rattle.page_layout.specs.Places.{lacing_at}
use Rattle.page_layout.specs.Page.{has_capture, version_of, count_of}
use Rattle.page_size.specs.Size.{size_of, is_one_page}
use Rattle.page_size.specs.Extent.{ends_at, unknown, no_start, extent_in, page_extent}
use Rattle.page_end.specs.End.{end_in, end_at}
use Rattle.page_end.specs.Statements.{Inside, EndInside, CutIsNoPage}

-- nothing is not something
pub none-some : {A X : Type 0} {x : X} → none ≡ some x → A
none-some e = let z : ◌≡◌ {A = ℕ} 0 1 = cc in absurd (omega arith)

some_size : (s : Bytes) → lacing_at ≤ size_of s
unfolding size_of
some_size s = omega arith

pub end-inside : EndInside
unfolding end_at page_extent extent_in
end-inside b at e h = by (ltb (length s) lacing_at) refl (not (has_capture s)) (ltb (length s) (lacing_at + count_of s)) (ltb (length b) (at + size_of s)) refl h
  where
    s : Bytes
    s = drop at b

    by : (x : Bool) → ltb (length s) lacing_at ≡ x → (y z w : Bool) → ltb (length b) (at + size_of s) ≡ w
        → end_in (pick x unknown (pick y no_start (pick z unknown (ends_at (at + size_of s))))) (length b) ≡ some e → Inside at e (length b)
    by true p y z w q k = none-some k
    by false p true z w q k =
        let same : length b ≡ e = cc in
        let long : lacing_at ≤ length s = ltb-false (length s) lacing_at p in
        omega (arith, length-drop at b)
    by false p false true w q k = none-some k
    by false p false false true q k = none-some (rw q at k)
    by false p false false false q k =
        let there : some (at + size_of s) ≡ some e = rw q at k in
        let same : at + size_of s ≡ e = cc in
        let inside : at + size_of s ≤ length b = ltb-false (length b) (at + size_of s) q in
        omega (arith, some_size s)

neither : (a b : Bool) → a && (b && false) ≡ false
neither true true = refl
neither true false = refl
neither false b = refl

module _ (b : Bytes) (at : ℕ) where
  short-size : lacing_at + count_of (drop at b) ≤ size_of (drop at b)
  unfolding size_of
  short-size = omega arith

  no_page_lem : length (drop at b) < size_of (drop at b) → is_one_page (drop at b) ≡ false
  unfolding is_one_page
  no_page_lem l =
      let s : Bytes = drop at b in
      rw (ne_eqb (length s) (size_of s) (λ e. omega arith)) (neither (has_capture s) (eqb (version_of s) 0))

pub cut_is_no_page : CutIsNoPage
unfolding end_at page_extent extent_in
cut_is_no_page b at h = by (ltb (length s) lacing_at) refl (not (has_capture s)) (ltb (length s) (lacing_at + count_of s)) refl (ltb (length b) (at + size_of s)) refl h
  where
    s : Bytes
    s = drop at b

    by : (x : Bool) → ltb (length s) lacing_at ≡ x → (y z : Bool) → ltb (length s) (lacing_at + count_of s) ≡ z → (w : Bool) → ltb (length b) (at + size_of s) ≡ w
        → end_in (pick x unknown (pick y no_start (pick z unknown (ends_at (at + size_of s))))) (length b) ≡ none → is_one_page s ≡ false
    by true p y z r w q k = no_page_lem b at (omega (arith, ltb-true (length s) lacing_at p, short-size b at))
    by false p true z r w q k = none-some (sym k)
    by false p false true r w q k = no_page_lem b at (omega (arith, ltb-true (length s) (lacing_at + count_of s) r, short-size b at))
    by false p false false r true q k =
        let long = ltb-false (length s) lacing_at p in
        no_page_lem b at (omega (arith, ltb-true (length b) (at + size_of s) q, length-drop at b))
    by false p false false r false q k = none-some (sym (rw q at k))
