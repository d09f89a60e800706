-- Where a crop may begin, by the place of the page. Assumes nothing.
use Prim.Native.Nat.{ℕ, ◌+◌, ◌≤◌, ◌<◌}
use mathlib.Core.Path.{◌≡◌, refl, sym}
use mathlib.Core.Bool.{Bool, true, false, ◌&&◌}
use mathlib.Core.List.{[], ◌∷◌}
use native.Mathlib.Omega.{arith}
use borrow.Author.Tests.{lt-leb, le-leb, leb-true, leb-false}
use lib.Dec.{leb}
use lib.ListN.{length, drop, drop_of_length-le}
use Rattle.octets.specs.Octets.{Bytes}
use Rattle.stream.specs.Page.{page_of}
use Rattle.recording.specs.Pages.{pages_of}
use Rattle.recording_pages.specs.Places.{page_at, place_of, header_count}
use Rattle.recording_pages.proofs.Places.{At, at_end_lem, at_next, at_page, past-pages}
use Rattle.crop_rules.specs.Crop.{may_begin, is_start}
use Rattle.crop.specs.Code.{IsPlaced}

and-false : (a : Bool) → a && false ≡ false
and-false true = refl
and-false false = refl

-- a page that begins inside the buffer is there
there : (b : Bytes) (k : ℕ) → place_of (pages_of b) k < length b → At b k (place_of (pages_of b) k)
there b k h = by (leb k (length (pages_of b))) refl
  where
    by : (t : Bool) → leb k (length (pages_of b)) ≡ t → At b k (place_of (pages_of b) k)
    by true e = at_page b k (leb-true k (length (pages_of b)) e)
    by false e = absurd (let z = past-pages b k (let w = leb-false k (length (pages_of b)) e in omega arith) in omega arith)

none-there : (b : Bytes) (k : ℕ) → length b ≤ place_of (pages_of b) k → drop k (pages_of b) ≡ []
none-there b k h = by (leb k (length (pages_of b))) refl
  where
    by : (t : Bool) → leb k (length (pages_of b)) ≡ t → drop k (pages_of b) ≡ []
    by true e = at_end_lem b k (place_of (pages_of b) k) (at_page b k (leb-true k (length (pages_of b)) e)) h
    by false e = let w = leb-false k (length (pages_of b)) e in drop_of_length-le (pages_of b) {i = k} (omega arith)

module _ (b : Bytes) (headers k at : ℕ) (p : IsPlaced b headers k at) where
  pub in_headers_lem : k < headers → false ≡ is_start (pages_of b) k
  unfolding is_start
  in_headers_lem h = rw (lt-leb (header_count (pages_of b)) k (omega (arith, p.headed)))

  pub past_end : length b ≤ at → false ≡ is_start (pages_of b) k
  unfolding is_start
  past_end h = rw (none-there b k (omega (arith, p.place))) (sym (and-false (leb (header_count (pages_of b)) k)))

  pub at_audio : headers ≤ k → at < length b → may_begin (page_of (page_at b at)) ≡ is_start (pages_of b) k
  unfolding is_start
  at_audio low more =
      let q : At b k (place_of (pages_of b) k) = there b k (omega (arith, p.place)) in
      let first : drop k (pages_of b) ≡ page_at b (place_of (pages_of b) k) ∷ drop (k + 1) (pages_of b) =
      (at_next b k (place_of (pages_of b) k) q (omega (arith, p.place))).page in
      rw (le-leb (header_count (pages_of b)) k (omega (arith, p.headed)), first, p.place)
