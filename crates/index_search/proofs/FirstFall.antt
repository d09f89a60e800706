-- The search from place to place finds the first fall. Assumes nothing.
use mathlib.Core.Path.{◌≡◌, refl, sym, ap, ◌∙◌}
use mathlib.Core.Bool.{Bool, true, false}
use mathlib.Core.List.{List, [], ◌∷◌}
use mathlib.Core.Option.{some}
use Prim.Native.Nat.{ℕ, suc, ◌+◌, ◌<◌}
use native.Mathlib.Nat.{add-zero, sub-zero}
use native.Mathlib.Omega.{arith}
use borrow.Author.Tests.{lt-ltb, le-ltb}
use lib.Dec.{ltb}
use lib.ListN.{length, get_or, drop}
use lib.Seq.{get_or-drop, drop-drop}
use Rattle.octets.specs.Pick.{pick}
use Rattle.index_search.specs.declared.Search.{Search}
use Rattle.index_search.specs.Index.{fall_after, first_fall}
use Rattle.index_search.specs.Search.{place_of, scanned, step_of, steps, finish, scanning_of, fall_of}
use Rattle.index_search.proofs.Steps.{steps-done, steps_go}

abbrev scan : ℕ → ℕ → ℕ → Search
scan low high before = record { low = low; high = high; number = before; probes = 0; halves = false }

scan_step : (low high before g : ℕ) → low < high
    → step_of (scan low high before) g ≡ pick (ltb g before) (scan low low before) (scan (low + 1) high g)
unfolding step_of scanned
scan_step low high before g h = rw (lt-ltb low high h)

scan_place : (low high before : ℕ) → place_of (scan low high before) ≡ low
unfolding place_of
scan_place low high before = refl

first_of : (gs : List ℕ) (low g : ℕ) (rest : List ℕ) → drop low gs ≡ g ∷ rest → get_or gs low 0 ≡ g
first_of gs low g rest e =
    ap (λ (i : ℕ). get_or gs i 0) (sym (add-zero low)) ∙ sym (get_or-drop low gs 0 0) ∙ ap (λ (l : List ℕ). get_or l 0 0) e

-- at the place `low`, with `before` before it and `rest` behind it
finds_by : (falls : Bool) (gs : List ℕ) (low before g : ℕ) (rest : List ℕ) → low + suc (length rest) ≡ length gs
    → fall_of (steps (length rest) gs (scan (low + 1) (length gs) g)) (length gs) ≡ fall_after (low + 1) g rest
    → fall_of (steps (length rest) gs (pick falls (scan low low before) (scan (low + 1) (length gs) g))) (length gs)
    ≡ pick falls (some low) (fall_after (low + 1) g rest)
finds_by true gs low before g rest size after =
    rw (steps-done (length rest) gs (scan low low before) (omega arith), lt-ltb low (length gs) (omega arith))
finds_by false gs low before g rest size after = after

finds : (gs : List ℕ) (low before : ℕ) (rest : List ℕ) → drop low gs ≡ rest → low + length rest ≡ length gs
    → fall_of (steps (length rest) gs (scan low (length gs) before)) (length gs) ≡ fall_after low before rest
unfolding fall_after
finds gs low before [] e size =
    rw (steps-done 0 gs (scan low (length gs) before) (omega arith), le-ltb low (length gs) (omega arith))
finds gs low before (g ∷ rest) e size =
    rw
    (steps_go (length rest) gs (scan low (length gs) before) (omega arith), scan_place low (length gs) before, first_of gs low g rest e, scan_step low (length gs) before g (omega arith))
    (finds_by (ltb g before) gs low before g rest size (finds gs (low + 1) g rest (sym (drop-drop 1 low gs) ∙ ap (drop 1) e) (omega arith)))

pub scan_finds : (gs : List ℕ) → fall_of (finish gs (scanning_of (length gs))) (length gs) ≡ first_fall gs
unfolding finish first_fall
scan_finds gs = rw (sub-zero (length gs)) (finds gs 0 0 gs refl (omega arith))
