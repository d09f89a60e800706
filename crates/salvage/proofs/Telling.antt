-- What is told of a page is what the rules tell of it. Assumes nothing.
use Rattle.std.proofs.Common.{◌≡◌, ℕ, suc, ◌+◌, ◌-◌, ◌%◌, ◌^◌, ◌<◌, Bool, true, false, not, eqb, ltb, List, [], ◌∷◌, ◌++◌, map, length, sym, refl, ap, ◌∙◌, ap₂, arith, lt-ltb}
use Rattle.octets.specs.Pick.{pick}
use Rattle.octets.specs.Octets.{Bytes}
use Rattle.page_lacing.specs.Lacing.{unfinished}
use Rattle.salvage_rules.specs.declared.Form.{Form}
use Rattle.salvage_rules.specs.Good.{Good}
use Rattle.salvage_rules.specs.Tidy.{first_bytes, first_cut, tidy_page}
use Rattle.salvage_rules.specs.Lines.{Line, line, skipped, changes}
use Rattle.salvage_rules.specs.Links.{link_of, tidied}
use Rattle.salvage_list.specs.declared.Listed.{Listed}
use Rattle.salvage.specs.declared.walk.Walk.{Walk}
use Rattle.salvage.specs.Columns.{line_if, changes_lines, changes_of}
use Rattle.salvage.specs.Code.{lines_of}

some-values : (v : ℕ) (l : Bytes) → ltb 0 (length (v ∷ l)) ≡ true
some-values v l = lt-ltb 0 (length (v ∷ l)) (omega arith)

cut-lines : (place : ℕ) (l : Bytes) (lead trail : Bool)
    → line_if (pick lead (ltb 0 (length l)) false) 3 place (pick lead (first_bytes l) 0) ++ line_if trail 3 place (pick trail (unfinished l) 0)
    ≡ map (line 3 place) (pick lead (first_cut l) [] ++ pick trail (unfinished l ∷ []) [])
cut-lines place [] true true = refl
cut-lines place [] true false = refl
cut-lines place (v ∷ l) true true = rw (some-values v l)
cut-lines place (v ∷ l) true false = rw (some-values v l)
cut-lines place l false true = refl
cut-lines place l false false = refl

number-line : (same : Bool) (place : ℕ) → line_if (not same) 1 place 4 ≡ pick same [] (line 1 place 4 ∷ [])
number-line true place = refl
number-line false place = refl

module _ (g : Good) (next : Listed) (w : Walk) (there : next.place ≡ g.place) (link : next.link ≡ link_of g.page) (small : w.number < 2 ^ 32) where
  pub lines-told : changes_lines w.end next.place (changes_of g.page.lacing next w) ≡ lines_of w.end (tidied next.form w.number g)
  unfolding skipped changes tidy_page
  lines-told =
      let n : w.number % 2 ^ 32 ≡ w.number = omega arith in
      rw (there, link, n, number-line (eqb w.number g.page.header.sequence) g.place, cut-lines g.place g.page.lacing next.form.lead next.form.trail)
