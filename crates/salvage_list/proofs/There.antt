-- The page at a place where one starts: its bytes, its fields and its end. Assumes nothing.
use Prim.Native.Nat.{ℕ, ◌+◌, ◌-◌, ◌≤◌, ◌<◌}
use mathlib.Core.Path.{◌≡◌, refl, sym, ap, ◌∙◌}
use mathlib.Core.Bool.{true}
use mathlib.Core.Option.{Option, none, some}
use native.Mathlib.Omega.{arith}
use lib.ListN.{length, take, drop, length-take, length-drop}
use Rattle.octets.specs.Octets.{Bytes}
use Rattle.page_size.specs.Size.{size_of}
use Rattle.page_end.specs.End.{end_at}
use Rattle.page_end.specs.Statements.{Inside}
use Rattle.page_end.proofs.Ends.{none-some, end-inside}
use Rattle.recording.proofs.Cutting.{cut-here, ends-here}
use Rattle.stream.specs.Page.{page_of}
use Rattle.salvage_search.specs.Search.{starts_page}
use Rattle.salvage_search.proofs.Starting.{starts-size}
use Rattle.salvage_rules.specs.Good.{Good, good_at}
use Rattle.salvage_rules.specs.Listed.{up_to, bytes_at, good_in}

-- how long the bytes of any page are
pub bytes_fit : (b : Bytes) (at n : ℕ) → length b ≤ n → at ≤ n → at + length (bytes_at b at) ≤ n
unfolding bytes_at
bytes_fit b at n h k = by (end_at b at) refl
  where
    by : (t : Option ℕ) → end_at b at ≡ t → at + length (up_to b at t) ≤ n
    by none e = omega arith
    by (some x) e =
        let i = end-inside b at x e in
        omega (arith, i.after, i.within, length-take (x - at) (drop at b), length-drop at b)

module _ (crc : Bytes → ℕ) (b : Bytes) (at : ℕ) (h : starts_page crc (drop at b) ≡ true) where
  abbrev size : ℕ
  size = size_of (drop at b)

  whole : end_at (drop at b) 0 ≡ some size
  whole = starts-size crc (drop at b) h

  pub within : (0 < size) × (at + size ≤ length b)
  within =
      let i = end-inside (drop at b) 0 size whole in
      let l = length-drop at b in
      (i.after, omega (arith, i.after, i.within))

  ends_there : end_at b at ≡ some (at + size)
  ends_there = by (end_at b at) refl
    where
      by : (t : Option ℕ) → end_at b at ≡ t → t ≡ some (at + size)
      by none e = none-some (sym (cut-here b at (omega (arith, within.1)) e) ∙ whole)
      by (some x) e =
          let i = end-inside b at x e in
          let same : some (x - at) ≡ some size = sym (ends-here b at (omega (arith, within.1)) x e) ∙ whole in
          let z : x - at ≡ size = cc in
          let y : x ≡ at + size = omega (arith, i.after) in
          ap some y

  pub bytes-there : bytes_at b at ≡ take size (drop at b)
  unfolding bytes_at
  bytes-there =
      let z : at + size - at ≡ size = omega arith in
      ap (up_to b at) ends_there ∙ ap (λ (k : ℕ). take k (drop at b)) z

  pub length-there : length (bytes_at b at) ≡ size
  length-there = ap length bytes-there ∙ omega (arith, length-take size (drop at b), length-drop at b, within.1)

  pub good-there : good_at at (drop at b) ≡ good_in b at
  good-there = ap (λ (s : Bytes). good_with s) (sym bytes-there)
    where
      good_with : Bytes → Good
      good_with s = record { place = at; page = page_of s }
