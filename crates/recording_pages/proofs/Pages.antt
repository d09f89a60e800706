-- The page at a place of a buffer: the first of those from there on, and where it ends. Assumes nothing.
use Prim.Native.Nat.{ℕ, ◌+◌, ◌-◌, ◌≤◌, ◌<◌}
use mathlib.Core.Path.{◌≡◌, refl, ◌∙◌}
use mathlib.Core.List.{[], ◌∷◌}
use mathlib.Core.Option.{Option, none, some}
use native.Mathlib.Omega.{arith}
use lib.ListN.{length, take, drop, length-take, length-drop}
use lib.Seq.{drop-drop, drop-length, length-take-le}
use Rattle.octets.specs.Octets.{Bytes}
use Rattle.page_end.specs.End.{end_at}
use Rattle.page_end.proofs.Ends.{end-inside}
use Rattle.recording.specs.Pages.{rest_of, pages_of}
use Rattle.recording.proofs.Cutting.{pages-cut, pages-next, cut-here, ends-here}
use Rattle.recording.proofs.Places.{no_pages}
use Rattle.recording_pages.specs.Places.{page_to, page_at}

-- the page at a place of b, and the pages after it
pub record Front (b : Bytes) (at : ℕ) : Type 0 where
  pub moves : 0 < length (page_at b at)
  pub inside : at + length (page_at b at) ≤ length b
  pub pages : pages_of (drop at b) ≡ page_at b at ∷ pages_of (drop (at + length (page_at b at)) b)

-- by where it ends
record FrontTo (b : Bytes) (at : ℕ) (p : Bytes) : Type 0 where
  moves : 0 < length p
  inside : at + length p ≤ length b
  pages : pages_of (drop at b) ≡ p ∷ pages_of (drop (at + length p) b)

module _ (b : Bytes) (at : ℕ) (more : at < length b) where
  by-rest : (c : Bytes) → 0 < length c → rest_of c ≡ c ∷ []
  by-rest [] h = absurd (omega arith)
  by-rest (x ∷ c) h = refl

  ended : (e : ℕ) → end_at b at ≡ some e → FrontTo b at (take (e - at) (drop at b))
  ended e q =
      let there = end-inside b at e q in
      let size : length (take (e - at) (drop at b)) ≡ e - at =
      (length-take-le (e - at) (drop at b) (omega (arith, length-drop at b))) in
      let rest : drop (e - at) (drop at b) ≡ drop (at + (e - at)) b = drop-drop (e - at) at b in
      record {
        moves = omega arith;
        inside = omega arith;
        pages = pages-next (drop at b) (e - at) (ends-here b at (omega arith) e q) ∙ rw (size, rest);
      }

  cut : end_at b at ≡ none → FrontTo b at (drop at b)
  cut q =
      let size : length (drop at b) ≡ length b - at = length-drop at b in
      let end : at + length (drop at b) ≡ length b = omega arith in
      record {
        moves = omega arith;
        inside = omega arith;
        pages =
            pages-cut (drop at b) (cut-here b at (omega arith) q)
            ∙ by-rest (drop at b) (omega arith)
            ∙ rw (end, drop-length b, no_pages);
      }

  by_end : (e : Option ℕ) → end_at b at ≡ e → FrontTo b at (page_to b at e)
  by_end none q = cut q
  by_end (some e) q = ended e q

  pub front : Front b at
  unfolding page_at
  front =
      let f = by_end (end_at b at) refl in
      record { moves = f.moves; inside = f.inside; pages = f.pages }

-- at any place
pub page-within : (b : Bytes) (at : ℕ) → length (page_at b at) ≤ length b - at
unfolding page_at
page-within b at = by (end_at b at)
  where
    by : (e : Option ℕ) → length (page_to b at e) ≤ length b - at
    by none = omega (arith, length-drop at b)
    by (some e) = simp (length-take, length-drop) (omega arith)
