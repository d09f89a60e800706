-- Two ways of working out a checksum that agree on bytes find the same good pages. Assumes nothing.
use Prim.Native.Nat.{ℕ, zero, suc, ◌-◌}
use mathlib.Core.Path.{◌≡◌, refl, ap}
use mathlib.Core.List.{List, [], ◌∷◌}
use Rattle.octets.specs.Pick.{pick}
use Rattle.octets.specs.Octets.{Bytes, Octets}
use Rattle.octets.proofs.Parts.{octets-tail}
use Rattle.page_size.specs.Size.{size_of}
use Rattle.salvage_search.specs.Search.{starts_page}
use Rattle.salvage_search.proofs.Starting.{same_start}
use Rattle.salvage_rules.specs.Good.{Good, good_at, good_from, good_pages, serial_in, of_stream}
use Rattle.salvage_list.specs.Collect.{stream_pages}

module _ (c d : Bytes → ℕ) (agree : (s : Bytes) → Octets s → c s ≡ d s) where
  same_good : (inside at : ℕ) (s : Bytes) → Octets s → good_from c inside at s ≡ good_from d inside at s
  unfolding good_from
  same_good inside at [] o = refl
  same_good (suc inside) at (x ∷ s) o = same_good inside (suc at) s (octets-tail o)
  same_good zero at (x ∷ s) o =
      rw (same_start c d agree (x ∷ s) o, same_good (size_of (x ∷ s) - 1) (suc at) s (octets-tail o), same_good 0 (suc at) s (octets-tail o))

  pub same-pages : (b : Bytes) → Octets b → stream_pages c b ≡ stream_pages d b
  same-pages b o = ap (λ (gs : List Good). of_stream (serial_in gs) gs) (same_good 0 0 b o)
