-- The search by halving finds the last one at or before the limit, and counts its probes. Assumes nothing.
use mathlib.Core.Path.{◌≡◌, refl, sym, ap, ◌∙◌}
use mathlib.Core.Bool.{Bool, true, false}
use mathlib.Core.List.{List, [], ◌∷◌}
use Prim.Native.Nat.{ℕ, zero, suc, ◌+◌, ◌-◌, ◌/◌, ◌<◌, ◌≤◌, min}
use native.Mathlib.Nat.{add-zero, zero-add, sub-zero}
use native.Mathlib.Omega.{arith}
use borrow.Author.Tests.{lt-ltb, ltb-true, ltb-false, leb-true, leb-false, ne_eqb}
use lib.Dec.{ltb, leb, eqb}
use lib.ListN.{length, get_or, take, drop, length-take, length-drop}
use lib.Seq.{get_or-drop, get_or-take, drop-drop, take-take, take-nil, take-length}
use Rattle.octets.specs.Pick.{pick}
use Rattle.index_search.specs.declared.Search.{Search}
use Rattle.index_search.specs.Index.{probes}
use Rattle.index_search.specs.Search.{place_of, halved, step_of, steps}
use Rattle.index_search.proofs.Steps.{steps-done, steps_go}

drop-take : (k m : ℕ) (l : List ℕ) → drop k (take m l) ≡ take (m - k) (drop k l)
drop-take zero m l = rw (sub-zero m)
drop-take (suc k) zero l = ap (λ (n : ℕ). take n (drop (suc k) l)) (let z : zero ≡ zero - suc k = omega arith in z)
drop-take (suc k) (suc m) [] = sym (take-nil (suc m - suc k))
drop-take (suc k) (suc m) (x ∷ l) = drop-take k m l ∙ ap (λ (n : ℕ). take n (drop k l)) (let z : m - k ≡ suc m - suc k = omega arith in z)

abbrev half : ℕ → ℕ → ℕ → ℕ → Search
half low high limit p = record { low = low; high = high; number = limit; probes = p; halves = true }

abbrev mid : ℕ → ℕ → ℕ
mid low high = low + (high - low) / 2

half_place : (low high limit p : ℕ) → place_of (half low high limit p) ≡ mid low high
unfolding place_of
half_place low high limit p = refl

half_step : (low high limit p g : ℕ) → low < high → p + 1 ≤ 18446744073709551615
    → step_of (half low high limit p) g
    ≡ pick (leb g limit) (half (mid low high + 1) high limit (p + 1)) (half low (mid low high) limit (p + 1))
unfolding step_of halved place_of
half_step low high limit p g going room =
    let small : min (p + 1) 18446744073709551615 ≡ p + 1 = omega arith in rw (lt-ltb low high going, small)

-- ---- the probes of the definition

probes-zero : (limit : ℕ) (gs : List ℕ) → probes zero limit gs ≡ 0
unfolding probes
probes-zero limit gs = refl

probes-none : (n limit : ℕ) → probes n limit [] ≡ 0
unfolding probes
probes-none zero limit = refl
probes-none (suc n) limit = refl

probes_go : (n limit : ℕ) (gs : List ℕ) → eqb (length gs) 0 ≡ false
    → probes (suc n) limit gs
    ≡ suc
    (probes n limit
    (pick (leb (get_or gs (length gs / 2) 0) limit) (drop (suc (length gs / 2)) gs) (take (length gs / 2) gs)))
unfolding probes
probes_go n limit gs e = rw e

same_part : (gs : List ℕ) (m m' k k' : ℕ) → m ≡ m' → k ≡ k' → take m (drop k gs) ≡ take m' (drop k' gs)
same_part gs m m' k k' e f = rw (e, f)

-- ---- the two together

-- a place past the limit is not counted
not-counted : (gs : List ℕ) (limit u : ℕ) → ((i : ℕ) → i < u → get_or gs i 0 ≤ limit) → (i : ℕ) → limit < get_or gs i 0 → u ≤ i
not-counted gs limit u below i past = by_test (ltb i u) refl
  where
    by_test : (t : Bool) → ltb i u ≡ t → u ≤ i
    by_test true e = let early : get_or gs i 0 ≤ limit = below i (ltb-true i u e) in omega arith
    by_test false e = ltb-false i u e

-- a search that has u between its ends, and at most n places between them, of a list of this size
record Holds (size u n low high p : ℕ) : Type 0 where
  from : low ≤ u
  to : u ≤ high
  inside : high ≤ size
  few : high - low ≤ n
  room : p + n ≤ 18446744073709551615

-- with u places up to the last one at or before the limit
module _ (gs : List ℕ) (limit u : ℕ) (above : (i : ℕ) → i < length gs → get_or gs i 0 ≤ limit → i < u)
    (below : (i : ℕ) → i < u → get_or gs i 0 ≤ limit) where
  abbrev part : ℕ → ℕ → List ℕ
  part low high = take (high - low) (drop low gs)

  -- what n steps do
  abbrev Ends : ℕ → Type 0
  Ends n = (low high p : ℕ) → Holds (length gs) u n low high p
      → steps n gs (half low high limit p) ≡ half u u limit (p + probes n limit (part low high))

  further : (n p : ℕ) (l m : List ℕ) → l ≡ m
      → half u u limit ((p + 1) + probes n limit l) ≡ half u u limit (p + suc (probes n limit m))
  further n p l m e = rw e (ap (half u u limit) (let z : (p + 1) + probes n limit m ≡ p + suc (probes n limit m) = omega arith in z))

  behind : (low high : ℕ) → low < high → part (mid low high + 1) high ≡ drop (suc ((high - low) / 2)) (part low high)
  behind low high on =
      sym
      (drop-take (suc ((high - low) / 2)) (high - low) (drop low gs)
      ∙ rw (drop-drop (suc ((high - low) / 2)) low gs)
      (same_part gs (high - low - suc ((high - low) / 2)) (high - (mid low high + 1)) (low + suc ((high - low) / 2)) (mid low high + 1) (omega arith) (omega arith)))

  before : (low high : ℕ) → low < high → part low (mid low high) ≡ take ((high - low) / 2) (part low high)
  before low high on =
      sym
      (take-take ((high - low) / 2) (high - low) (drop low gs) (omega arith)
      ∙ same_part gs ((high - low) / 2) (mid low high - low) low low (omega arith) refl)

  probed : (early : Bool) (n low high p : ℕ) → Ends n → Holds (length gs) u (suc n) low high p → low < high
      → leb (get_or gs (mid low high) 0) limit ≡ early
      → steps n gs (pick early (half (mid low high + 1) high limit (p + 1)) (half low (mid low high) limit (p + 1)))
      ≡ half u u limit
      (p + suc
      (probes n limit (pick early (drop (suc ((high - low) / 2)) (part low high)) (take ((high - low) / 2) (part low high)))))
  probed true n low high p ends h on t =
      let seen : mid low high < u = above (mid low high) (omega arith) (leb-true (get_or gs (mid low high) 0) limit t) in
      ends (mid low high + 1) high (p + 1)
      (record { from = omega arith; to = h.to; inside = h.inside; few = omega arith; room = omega arith })
      ∙ further n p (part (mid low high + 1) high) (drop (suc ((high - low) / 2)) (part low high)) (behind low high on)
  probed false n low high p ends h on t =
      let past : limit < get_or gs (mid low high) 0 = leb-false (get_or gs (mid low high) 0) limit t in
      let over : u ≤ mid low high = not-counted gs limit u below (mid low high) past in
      ends low (mid low high) (p + 1)
      (record { from = h.from; to = over; inside = omega arith; few = omega arith; room = omega arith })
      ∙ further n p (part low (mid low high)) (take ((high - low) / 2) (part low high)) (before low high on)

  ends_by : (going : Bool) (n low high p : ℕ) → Ends n → Holds (length gs) u (suc n) low high p → ltb low high ≡ going
      → steps (suc n) gs (half low high limit p) ≡ half u u limit (p + probes (suc n) limit (part low high))
  ends_by false n low high p ends h t =
      let off : high ≤ low = ltb-false low high t in
      let eq_low : low ≡ u = omega arith in let eq-high : high ≡ u = omega arith in let no_place : u - u ≡ 0 = omega arith in
      steps-done (suc n) gs (half low high limit p) off
      ∙ rw (eq_low, eq-high, no_place, probes-none (suc n) limit, add-zero p)
  ends_by true n low high p ends h t =
      let on : low < high = ltb-true low high t in
      let size : length (part low high) ≡ high - low = simp (length-take, length-drop) (omega arith) in
      let filled : eqb (length (part low high)) 0 ≡ false = ne_eqb (length (part low high)) 0 (λ z. omega arith) in
      let at : get_or (part low high) ((high - low) / 2) 0 ≡ get_or gs (mid low high) 0 =
      get_or-take (high - low) (drop low gs) ((high - low) / 2) 0 (omega arith) ∙ get_or-drop low gs ((high - low) / 2) 0 in
      rw
      (steps_go n gs (half low high limit p) on, half_place low high limit p, half_step low high limit p (get_or gs (mid low high) 0) on (omega arith), probes_go n limit (part low high) filled, size, at)
      (probed (leb (get_or gs (mid low high) 0) limit) n low high p ends h on refl)

  ends_in : (n : ℕ) → Ends n
  ends_in zero low high p h =
      let eq_low : low ≡ u = omega arith in let eq-high : high ≡ u = omega arith in
      steps-done zero gs (half low high limit p) (omega arith)
      ∙ rw (eq_low, eq-high, probes-zero limit (part u u), add-zero p)
  ends_in (suc n) low high p h = ends_by (ltb low high) n low high p (ends_in n) h refl

  -- all of the list
  pub ends-all : length gs ≤ 18446744073709551615 → u ≤ length gs
      → steps (length gs) gs (half 0 (length gs) limit 0) ≡ half u u limit (probes (length gs) limit gs)
  ends-all room within =
      rw (sub-zero (length gs), take-length gs, zero-add (probes (length gs) limit gs)) at
      (ends_in (length gs) 0 (length gs) 0
      (record { from = omega arith; to = within; inside = omega arith; few = omega arith; room = omega arith }))
