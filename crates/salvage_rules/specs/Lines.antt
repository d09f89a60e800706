-- The lines that salvage tells: what was skipped and what was changed, in the order of the input (RULES.md, 16).
-- Assumes nothing.
use Rattle.std.specs.Prelude.{ℕ, ◌-◌, List, [], ◌∷◌, ◌++◌, map, ltb, eqb}
use Rattle.octets.specs.Pick.{pick}
use Rattle.salvage_rules.specs.Good.{end_of}
use Rattle.salvage_rules.specs.Tidy.{Tidied}

-- what: 0 skip, 1 number, 2 mark, 3 cut
pub record Line : Type 0 where
  pub what : ℕ
  pub place : ℕ
  pub bytes : ℕ

abbrev pub line : ℕ → ℕ → ℕ → Line
line what place bytes = record { what = what; place = place; bytes = bytes }

-- the bytes between two places, if there are any
unfoldable pub skipped : ℕ → ℕ → List Line
skipped at to = pick (ltb at to) (line 0 at (to - at) ∷ []) []

-- a kept page
unfoldable pub changes : Tidied → List Line
changes t =
    pick (eqb t.page.header.sequence t.old.page.header.sequence) [] (line 1 t.old.place 4 ∷ [])
    ++ pick t.cleared (line 2 t.old.place 1 ∷ []) []
    ++ map (line 3 t.old.place) t.cuts

-- from the place `at` on, the input having n bytes
unfoldable pub lines_from : ℕ → ℕ → List Tidied → List Line
lines_from n at [] = skipped at n
lines_from n at (t ∷ ts) = skipped at t.old.place ++ changes t ++ lines_from n (end_of t.old) ts
