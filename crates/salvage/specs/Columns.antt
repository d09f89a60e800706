-- Lines put into three columns, as far as these go. Assumes nothing.
use Rattle.std.specs.Prelude.{◌≡◌, ℕ, ◌+◌, ◌-◌, ◌≤◌, Bool, false, not, List, [], ◌∷◌, ◌++◌, map, length, ◌==◌, nat_lt}
use Rattle.std.proofs.lemmas.List.Edits.{sets}
use Rattle.octets.specs.Pick.{pick}
use Rattle.octets.specs.Octets.{Bytes}
use Rattle.page_lacing.specs.Lacing.{unfinished}
use Rattle.stream.specs.Lent.{Slice}
use Rattle.salvage_rules.specs.Tidy.{first_bytes}
use Rattle.salvage_rules.specs.Lines.{Line, line}
use Rattle.salvage_list.specs.declared.Listed.{Listed}
use Rattle.salvage.specs.declared.walk.Changes.{Changes}
use Rattle.salvage.specs.declared.walk.Walk.{Walk}
use Rattle.salvage.specs.Salvaging.{what_in, place_in, size_in}

-- a line, where it is told
abbrev pub line_if : Bool → ℕ → ℕ → ℕ → List Line
line_if told what place bytes = pick told (line what place bytes ∷ []) []

-- lines from a place on
pub record LinesStored (ls : List Line) (at : ℕ) (what places sizes : Slice) : Type 0 where
  pub whats : what.exit.now ≡ sets what.entry.now at (map what_in ls)
  pub spots : places.exit.now ≡ sets places.entry.now at (map place_in ls)
  pub counts : sizes.exit.now ≡ sets sizes.entry.now at (map size_in ls)

-- one line or none, and r is the place after it
pub record LinesPut (ls : List Line) (at r : ℕ) (what places sizes : Slice) : Type 0 where
  pub next : r ≡ at + length ls
  pub most : r ≤ at + 1
  pub stored : LinesStored ls at what places sizes

-- ---- one page, at `place`, after a page that ends at `end`

abbrev pub one_if : Bool → ℕ
one_if holds = pick holds 1 0

pub record One (holds : Bool) (r : ℕ) : Type 0 where
  pub same : r ≡ one_if holds
  pub most : r ≤ 1

abbrev pub changes_lines : ℕ → ℕ → Changes → List Line
changes_lines end place c =
    line_if c.skip 0 end c.gap
    ++ ((line_if c.renumbered 1 place 4 ++ line_if c.cleared 2 place 1)
    ++ (line_if c.lead 3 place c.first ++ line_if c.trail 3 place c.last))

-- how many they are
abbrev pub line_count : Changes → ℕ
line_count c = one_if c.skip + one_if c.renumbered + one_if c.cleared + one_if c.lead + one_if c.trail

-- what is told of the next page, which has these lacing values, after the walk w
abbrev pub changes_of : Bytes → Listed → Walk → Changes
changes_of l next w = record {
  skip = nat_lt w.end next.place;
  gap = next.place - w.end;
  renumbered = not (w.number == next.link.sequence);
  cleared = next.form.lead;
  lead = pick next.form.lead (nat_lt 0 (length l)) false;
  first = pick next.form.lead (first_bytes l) 0;
  trail = next.form.trail;
  last = pick next.form.trail (unfinished l) 0;
}
