-- The headers page by page: how many pages are left of them at a place. Assumes nothing.
use Prim.Native.Nat.{ℕ, ◌+◌, ◌≤◌, ◌<◌}
use mathlib.Core.Path.{◌≡◌, sym, ap, ◌∙◌}
use mathlib.Core.Bool.{true, false}
use mathlib.Core.List.{[], ◌∷◌}
use native.Mathlib.Omega.{arith}
use lib.ListN.{length, drop}
use Rattle.octets.specs.Octets.{Bytes}
use Rattle.page_layout.specs.Page.{lacing_of}
use Rattle.stream.specs.Page.{page_of, ends, completes}
use Rattle.recording.specs.Pages.{pages_of}
use Rattle.recording_pages.specs.Places.{page_at, header_count, placed, headers_end}
use Rattle.recording_pages.proofs.Places.{At, at_first, at_end_lem, at_next}
use Rattle.recording_pages.proofs.Headers.{comment_count, count_none, count-done, count_on, header-none, header-first}

-- page k begins at a place, and so many pages of the comment packet are left
pub record Left (b : Bytes) (k at : ℕ) : Type 0 where
  pub place : At b k at
  pub count : header_count (pages_of b) ≡ k + comment_count (drop k (pages_of b))

-- after the first page
pub left-first : (b : Bytes) → 0 < length b → Left b 1 (length (page_at b 0))
left-first b h =
    let n = at_next b 0 0 (at_first b) h in
    let z : 0 + length (page_at b 0) ≡ length (page_at b 0) = omega arith in
    record {
      place = rw z at n.next;
      count = ap header_count n.page ∙ header-first (page_at b 0) (drop 1 (pages_of b)) ∙ omega arith;
    }

-- no page is left
pub none_left : (b : Bytes) (k at : ℕ) → Left b k at → length b ≤ at → k ≡ header_count (pages_of b)
none_left b k at l h =
    omega (arith, l.count, ap comment_count (at_end_lem b k at l.place h) ∙ count_none)

module _ (b : Bytes) (k at : ℕ) (l : Left b k at) (more : at < length b) where
  here : comment_count (drop k (pages_of b)) ≡ comment_count (page_at b at ∷ drop (k + 1) (pages_of b))
  here = ap comment_count (at_next b k at l.place more).page

  -- the page completes the comment packet
  pub last-left : ends (lacing_of (page_at b at)) ≡ true → k + 1 ≡ header_count (pages_of b)
  unfolding completes page_of
  last-left e = omega (arith, l.count, here ∙ count-done (page_at b at) (drop (k + 1) (pages_of b)) e)

  pub more_left : ends (lacing_of (page_at b at)) ≡ false → Left b (k + 1) (at + length (page_at b at))
  unfolding completes page_of
  more_left e = record {
    place = (at_next b k at l.place more).next;
    count = omega (arith, l.count, here ∙ count_on (page_at b at) (drop (k + 1) (pages_of b)) e);
  }

-- an empty buffer
pub none-there : (b : Bytes) → length b ≡ 0 → 0 ≡ header_count (pages_of b)
none-there b e = sym (ap header_count (at_end_lem b 0 0 (at_first b) (omega arith)) ∙ header-none)

-- the answer
pub ends-here : (b : Bytes) (k at : ℕ) → At b k at → k ≡ header_count (pages_of b) → record { page = k; at = at } ≡ headers_end b
ends-here b k at a e = ap (λ (x : ℕ). record { page = k; at = x }) a.place ∙ ap (placed b) e
