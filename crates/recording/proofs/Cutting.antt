-- The pages of a buffer: they make it up, and whole pages are cut apart again. Assumes nothing.
use Prim.Native.Nat.{ℕ, zero, suc, ◌+◌, ◌-◌, ◌≤◌, ◌<◌}
use mathlib.Core.Path.{◌≡◌, refl, ap, ◌∙◌}
use mathlib.Core.Bool.{Bool, true, false, not}
use mathlib.Core.List.{List, [], ◌∷◌, ◌++◌, append-nil}
use mathlib.Core.Option.{Option, none, some}
use native.Mathlib.Omega.{arith}
use lib.Dec.{ltb}
use lib.ListN.{length, take, drop, length-drop, length-append, take-append-drop, get_or-append}
use lib.Seq.{take-append-le, drop-append-le, take-append_seam, drop-append_seam}
use borrow.Author.Tests.{ltb-true, ltb-false, lt-ltb, le-ltb}
use Rattle.octets.specs.Pick.{pick}
use Rattle.octets.specs.Octets.{Bytes, begins}
use Rattle.page_layout.specs.Places.{capture_pattern, lacing_at}
use Rattle.page_layout.specs.Page.{has_capture, count_of, lacing_of}
use Rattle.page_size.specs.Size.{size_of, is_one_page}
use Rattle.page_size.specs.Extent.{ends_at, unknown, no_start, extent_in, page_extent}
use Rattle.page_size.proofs.Whole as Sized
use Rattle.page_size.proofs.Extents.{ends_at_lem}
use Rattle.page_end.specs.End.{end_in, end_at}
use Rattle.page_end.proofs.Ends.{end-inside}
use Rattle.feed_pages.specs.Feedings.{together}
use Rattle.recording.specs.Pages.{rest_of, cut_by, pages_in, pages_of}
use Rattle.recording.specs.Statements.{PagesTogether, AllPages, PagesApart}

-- ---- more turns change nothing

enough : (n k : ℕ) (b : Bytes) → length b < n → length b < k → pages_in n b ≡ pages_in k b
unfolding pages_in
enough zero k b x y = absurd (omega arith)
enough (suc n) zero b x y = absurd (omega arith)
enough (suc n) (suc k) b x y = by (enough n k) (end_at b 0) refl
  where
    by : ((c : Bytes) → length c < n → length c < k → pages_in n c ≡ pages_in k c) → (e : Option ℕ) → end_at b 0 ≡ e
        → cut_by (pages_in n) b e ≡ cut_by (pages_in k) b e
    by later none q = refl
    by later (some e) q =
        let there = end-inside b 0 e q in
        ap (λ (l : List Bytes). take e b ∷ l) (later (drop e b) (omega (arith, there.after, there.within, length-drop e b)) (omega (arith, there.after, there.within, length-drop e b)))

-- the first page, and the pages after it
pub pages-cut : (b : Bytes) → end_at b 0 ≡ none → pages_of b ≡ rest_of b
unfolding pages_of pages_in
pages-cut b q = rw q

pub pages-next : (b : Bytes) (e : ℕ) → end_at b 0 ≡ some e → pages_of b ≡ take e b ∷ pages_of (drop e b)
unfolding pages_of pages_in
pages-next b e q =
    let there = end-inside b 0 e q in
    ap (cut_by (pages_in (length b)) b) q
    ∙ ap (λ (l : List Bytes). take e b ∷ l) (enough (length b) (suc (length (drop e b))) (drop e b) (omega (arith, there.after, there.within, length-drop e b)) (omega arith))

-- ---- they make up the buffer

made_up : (n : ℕ) (b : Bytes) → length b < n → together (pages_in n b) ≡ b
unfolding pages_in together
made_up zero b x = absurd (omega arith)
made_up (suc n) b x = by (made_up n) (end_at b 0) refl
  where
    rest : (c : Bytes) → together (rest_of c) ≡ c
    rest [] = refl
    rest (x ∷ c) = append-nil (x ∷ c)

    by : ((c : Bytes) → length c < n → together (pages_in n c) ≡ c) → (e : Option ℕ) → end_at b 0 ≡ e → together (cut_by (pages_in n) b e) ≡ b
    by later none q = rest b
    by later (some e) q =
        let there = end-inside b 0 e q in
        ap (λ (l : Bytes). take e b ++ l) (later (drop e b) (omega (arith, there.after, there.within, length-drop e b))) ∙ take-append-drop e b

pub pages-together : PagesTogether
unfolding pages_of
pages-together b = made_up (suc (length b)) b (omega arith)

-- ---- a page by its place in a buffer

-- the end of a page counted from where it begins
abbrev from_here : ℕ → Option ℕ → Option ℕ
from_here at none = none
from_here at (some e) = some (e - at)

module _ (b : Bytes) (at : ℕ) (inside : at ≤ length b) where
  less : (n : ℕ) → some (0 + n) ≡ some (at + n - at)
  less n = let e : 0 + n ≡ at + n - at = omega arith in ap some e

  all : some (length (drop at b)) ≡ some (length b - at)
  all = ap some (length-drop at b)

  ending : (n : ℕ) → end_in (ends_at (0 + n)) (length (drop at b)) ≡ from_here at (end_in (ends_at (at + n)) (length b))
  ending n = by (ltb (length b) (at + n)) refl
    where
      by : (t : Bool) → ltb (length b) (at + n) ≡ t → end_in (ends_at (0 + n)) (length (drop at b)) ≡ from_here at (end_in (ends_at (at + n)) (length b))
      by true e = rw (e, lt-ltb (length (drop at b)) (0 + n) (omega (arith, ltb-true (length b) (at + n) e, length-drop at b)))
      by false e = rw (e, le-ltb (length (drop at b)) (0 + n) (omega (arith, ltb-false (length b) (at + n) e, length-drop at b))) (less n)

  end-here : end_at (drop at b) 0 ≡ from_here at (end_at b at)
  unfolding end_at page_extent extent_in
  end-here =
      let s : Bytes = drop at b in
      by (ltb (length s) lacing_at) (not (has_capture s)) (ltb (length s) (lacing_at + count_of s)) (size_of s)
    where
      by : (x y z : Bool) (n : ℕ)
          → end_in (pick x unknown (pick y no_start (pick z unknown (ends_at (0 + n))))) (length (drop at b))
          ≡ from_here at (end_in (pick x unknown (pick y no_start (pick z unknown (ends_at (at + n))))) (length b))
      by true y z n = refl
      by false true z n = all
      by false false true n = refl
      by false false false n = ending n

  pub cut-here : end_at b at ≡ none → end_at (drop at b) 0 ≡ none
  cut-here q = end-here ∙ ap (from_here at) q

  pub ends-here : (e : ℕ) → end_at b at ≡ some e → end_at (drop at b) 0 ≡ some (e - at)
  ends-here e q = end-here ∙ ap (from_here at) q

-- ---- whole pages

-- more bytes at the end do not change how bytes begin
begins-more : (p b c : Bytes) → length p ≤ length b → begins p (b ++ c) ≡ begins p b
unfolding begins
begins-more [] b c h = refl
begins-more (a ∷ p) [] c h = absurd (omega arith)
begins-more (a ∷ p) (x ∷ b) c h = rw (begins-more p b c (omega arith))

module _ (b c : Bytes) (one : is_one_page b ≡ true) where
  long : lacing_at + count_of b ≤ length b
  unfolding size_of
  long = omega (arith, Sized.whole b one)

  same_count : count_of (b ++ c) ≡ count_of b
  same_count = get_or-append b c 0 26 (omega (arith, long))

  same_capture : has_capture (b ++ c) ≡ has_capture b
  unfolding has_capture
  same_capture = begins-more capture_pattern b c (omega (arith, long))

  same-lacing : lacing_of (b ++ c) ≡ lacing_of b
  unfolding lacing_of
  same-lacing =
      rw (same_count, drop-append-le lacing_at b c (omega (arith, long)))
      (take-append-le (count_of b) (drop lacing_at b) c (omega (arith, long, length-drop lacing_at b)))

  same_size : size_of (b ++ c) ≡ size_of b
  unfolding size_of
  same_size = rw (same_count, same-lacing)

  pub one-ends : end_at (b ++ c) 0 ≡ some (length b)
  unfolding end_at page_extent
  one-ends =
      rw (ends_at_lem (b ++ c) 0 (omega (arith, long, length-append b c)) (same_capture ∙ (Sized.captured b one).0) (omega (arith, long, same_count, length-append b c)), same_size, ← Sized.whole b one, le-ltb (length (b ++ c)) (0 + length b) (omega (arith, length-append b c)))
      (let e : 0 + length b ≡ length b = omega arith in ap some e)

pub pages-apart : PagesApart
unfolding together AllPages pages_of pages_in end_at page_extent extent_in
pages-apart [] a = refl
pages-apart (b ∷ bs) a =
    pages-next (b ++ together bs) (length b) (one-ends b (together bs) a.0)
    ∙ rw (take-append_seam b (together bs), drop-append_seam b (together bs), pages-apart bs a.1)
