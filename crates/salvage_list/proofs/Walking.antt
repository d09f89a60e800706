-- The good pages from a place on, as the search finds them: the page at that place, and those from the next one on. Assumes
-- nothing.
use Prim.Native.Nat.{ℕ, ◌+◌, ◌≤◌, ◌<◌}
use mathlib.Core.Path.{◌≡◌, refl, sym, ap, ◌∙◌}
use mathlib.Core.Bool.{true}
use mathlib.Core.List.{List, [], ◌∷◌}
use native.Mathlib.Omega.{arith}
use lib.ListN.{length, drop, drop_of_length-le}
use lib.Seq.{drop-drop}
use Rattle.octets.specs.Octets.{Bytes}
use Rattle.page_size.specs.Size.{size_of}
use Rattle.salvage_search.specs.Search.{starts_page, next_page}
use Rattle.salvage_search.specs.Statements.{Least}
use Rattle.salvage_search.proofs.Finding.{next_is_least}
use Rattle.salvage_rules.specs.Good.{Good, good_from, good_pages}
use Rattle.salvage_rules.specs.Listed.{good_in}
use Rattle.salvage_rules.proofs.Greedy.{good-next, good-over}
use Rattle.salvage_rules.proofs.Greedy as greedy
use Rattle.salvage_list.specs.Collect.{seen_at}
use Rattle.salvage_list.proofs.There.{within, length-there, good-there}

-- the good pages from a place on
abbrev pub left : (Bytes → ℕ) → Bytes → ℕ → List Good
left crc b at = good_from crc 0 at (drop at b)

-- a page starts at the place, or it is the buffer's length
pub record Found (crc : Bytes → ℕ) (b : Bytes) (at : ℕ) : Type 0 where
  pub inside : at ≤ length b
  pub here : at < length b → starts_page crc (drop at b) ≡ true

module _ (crc : Bytes → ℕ) (b : Bytes) where
  pub found : (from : ℕ) → Found crc b (next_page crc b from)
  found from = let l = next_is_least crc b from in record { inside = l.inside; here = l.here }

  pub all_left : left crc b (next_page crc b 0) ≡ good_pages crc b
  all_left = sym (good-next crc b 0 (omega arith))

  pub none_left : (at : ℕ) → length b ≤ at → left crc b at ≡ []
  none_left at h = ap (good_from crc 0 at) (drop_of_length-le b h) ∙ good-over crc at

  module _ (at : ℕ) (f : Found crc b at) (h : at < length b) where
    ended : (seen_at b at).end ≡ at + size_of (drop at b)
    unfolding seen_at
    ended = ap (λ (k : ℕ). at + k) (length-there crc b at (f.here h))

    -- the next place is further on
    pub nearer : at < next_page crc b (seen_at b at).end
    nearer =
        let w = within crc b at (f.here h) in
        let l : (seen_at b at).end ≤ next_page crc b (seen_at b at).end =
        (next_is_least crc b (seen_at b at).end).after (omega (arith, ended, w.1)) in
        omega (arith, ended, w.0)

    pub one_less : left crc b at ≡ good_in b at ∷ left crc b (next_page crc b (seen_at b at).end)
    one_less =
        let w = within crc b at (f.here h) in
        let size : ℕ = size_of (drop at b) in
        let next : good_from crc 0 (at + size) (drop size (drop at b)) ≡ left crc b (next_page crc b (at + size)) =
        ap (good_from crc 0 (at + size)) (drop-drop size at b) ∙ good-next crc b (at + size) w.1 in
        greedy.good-there crc at (drop at b) (f.here h)
        ∙ ap (λ (g : Good). g ∷ good_from crc 0 (at + size) (drop size (drop at b))) (good-there crc b at (f.here h))
        ∙ ap (λ (l : List Good). good_in b at ∷ l) (next ∙ ap (λ (k : ℕ). left crc b (next_page crc b k)) (sym ended))
