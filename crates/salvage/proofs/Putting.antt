-- What is written fits, or nothing is. Assumes nothing.
use Rattle.std.proofs.Common.{◌≡◌, ℕ, ◌+◌, ◌-◌, ◌*◌, ◌/◌, ◌<◌, ◌≤◌, Bool, true, false, ◌||◌, ltb, List, [], ◌∷◌, ◌++◌, map, length, drop, sym, refl, ap, ◌∙◌, subst, ap₂, true≢false, arith, ltb-false, le-ltb, lt-ltb}
use lib.Seq.{sets, sets-eq}
use Rattle.octets.specs.Pick.{pick}
use Rattle.octets.specs.Octets.{Bytes}
use Rattle.feed_pages.specs.Feedings.{together}
use Rattle.salvage_rules.specs.Good.{Good}
use Rattle.salvage_rules.specs.Tidy.{tidy_from}
use Rattle.salvage_rules.specs.Lines.{Line, skipped, lines_from}
use Rattle.salvage_rules.specs.Listed.{pages_to, pages_from}
use Rattle.salvage.specs.declared.walk.Walk.{Walk}
use Rattle.salvage.specs.Columns.{line_if, one_if}
use Rattle.salvage.specs.Code.{end_after, bytes_left, lines_left, Kept, all_bytes, all_lines, Walked}
use Rattle.salvage.specs.Putting.{is_short}
use Rattle.salvage.proofs.Columns.{map-length}
use Rattle.salvage.proofs.Steps.{bytes_most, lines-most}

-- ---- how much it is

module _ {b : Bytes} {ws : List ℕ} {w : Walk} (x : Walked b ws w) where
  pub walked-bytes : w.bytes ≡ length (all_bytes b ws)
  unfolding tidy_from together
  walked-bytes = omega (arith, x.walks.bytes, ap (λ (l : List Good). length (bytes_left (pages_to b ws w.at) l)) x.over)

  skip-length : (a n : ℕ) → length (skipped a n) ≡ one_if (ltb a n)
  unfolding skipped
  skip-length a n = by (ltb a n)
    where
      by : (t : Bool) → length (line_if t 0 a (n - a)) ≡ one_if t
      by true = refl
      by false = refl

  pub walked_lines : w.lines + one_if (ltb w.end (length b)) ≡ length (all_lines b ws)
  unfolding tidy_from lines_from
  walked_lines =
      let rest : length (skipped w.end (length b)) ≡ length (lines_left (length b) (pages_to b ws w.at) (pages_from b ws w.at)) =
      ap (λ (k : ℕ). length (skipped k (length b))) x.walks.is.end ∙ ap (λ (l : List Good). length (lines_left (length b) (pages_to b ws w.at) l)) (sym x.over) in
      ap (λ (k : ℕ). w.lines + k) (sym (skip-length w.end (length b)) ∙ rest) ∙ x.walks.lines

-- ---- whether it fits

module _ (b : Bytes) (ws : List ℕ) (out room : ℕ) where
  pub surely_fits : Kept b ws → length b ≤ out → length b / 7 < room → is_short b ws out room ≡ false
  surely_fits kept o r =
      let x : ltb out (length (all_bytes b ws)) ≡ false = le-ltb out (length (all_bytes b ws)) (omega (arith, bytes_most b ws kept)) in
      let y : ltb room (length (all_lines b ws)) ≡ false = le-ltb room (length (all_lines b ws)) (omega (arith, lines-most b ws kept)) in
      rw (x, y)

  pub bytes-short : out < length (all_bytes b ws) → is_short b ws out room ≡ true
  bytes-short h = rw (lt-ltb out (length (all_bytes b ws)) h)

  pub lines_decide : length (all_bytes b ws) ≤ out → is_short b ws out room ≡ ltb room (length (all_lines b ws))
  lines_decide h = rw (le-ltb out (length (all_bytes b ws)) h)

  -- where it does
  module _ (e : is_short b ws out room ≡ false) where
    none-short : (x y : Bool) → x || y ≡ false → (x ≡ false) × (y ≡ false)
    none-short true y q = absurd (true≢false q)
    none-short false y q = (refl, q)

    both : (ltb out (length (all_bytes b ws)) ≡ false) × (ltb room (length (all_lines b ws)) ≡ false)
    both = none-short (ltb out (length (all_bytes b ws))) (ltb room (length (all_lines b ws))) e

    pub bytes_fit : length (all_bytes b ws) ≤ out
    bytes_fit = ltb-false out (length (all_bytes b ws)) both.0

    pub lines_fit : length (all_lines b ws) ≤ room
    lines_fit = ltb-false room (length (all_lines b ws)) both.1

-- ---- columns

pub column_stored : (field : Line → ℕ) (ls : List Line) (old new : List ℕ) → length ls ≤ length old → new ≡ sets old 0 (map field ls)
    → new ≡ map field ls ++ drop (length ls) old
column_stored field ls old new h e =
    let k : length (map field ls) ≡ length ls = map-length field ls in
    e ∙ sets-eq (map field ls) old 0 (omega (arith, k)) ∙ ap (λ (i : ℕ). map field ls ++ drop i old) (let z : 0 + length (map field ls) ≡ length ls = omega (arith, k) in z)

pub column_kept : (field : Line → ℕ) (ls : List Line) (old : List ℕ) → length ls ≡ 0 → old ≡ map field ls ++ drop (length ls) old
column_kept field [] old e = refl
column_kept field (l ∷ ls) old e = absurd (omega arith)
