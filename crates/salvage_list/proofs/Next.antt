-- The next page of a list, from an index on: it is there, or it is missing and the search goes on. Assumes nothing.
use Prim.Native.Nat.{ℕ, zero, suc, ◌+◌, ◌-◌, ◌≤◌, ◌<◌, min}
use mathlib.Core.Path.{◌≡◌, refl, sym, ap, ◌∙◌}
use mathlib.Core.Bool.{Bool, true, false}
use mathlib.Core.List.{List, [], ◌∷◌}
use native.Mathlib.Numerals.{add-one}
use native.Mathlib.Omega.{arith}
use borrow.Author.Tests.{leb-true, leb-false}
use lib.Dec.{leb}
use lib.ListN.{length, get_or, drop, drop_of_length-le}
use lib.Seq.{drop-cons}
use Rattle.octets.specs.Pick.{pick}
use Rattle.octets.specs.Octets.{Bytes}
use Rattle.salvage_rules.specs.Good.{Good}
use Rattle.salvage_rules.specs.Listed.{good_in, is_missing, listed_in}
use Rattle.salvage_list.specs.Next.{listed_from, next_listed}
use Rattle.salvage_list.specs.Statements.{NextIs, NextListed}

module _ (ws : List ℕ) where
  step : (at : ℕ) → at < length ws
      → listed_from at (drop at ws) ≡ pick (is_missing (get_or ws at 0)) (listed_from (at + 1) (drop (at + 1) ws)) at
  unfolding listed_from
  step at h = rw (add-one at, drop-cons ws at 0 h)

  pub found : (at : ℕ) → at < length ws → is_missing (get_or ws at 0) ≡ false → listed_from at (drop at ws) ≡ at
  found at h s = step at h ∙ ap (λ (t : Bool). pick t (listed_from (at + 1) (drop (at + 1) ws)) at) s

  pub goes_on : (at : ℕ) → at < length ws → is_missing (get_or ws at 0) ≡ true
      → listed_from at (drop at ws) ≡ listed_from (at + 1) (drop (at + 1) ws)
  goes_on at h s = step at h ∙ ap (λ (t : Bool). pick t (listed_from (at + 1) (drop (at + 1) ws)) at) s

  pub over : (at : ℕ) → length ws ≤ at → listed_from at (drop at ws) ≡ at
  unfolding listed_from
  over at h = rw (drop_of_length-le ws h)

  -- an index past the end counts as the end
  same_drop : (from : ℕ) → drop (min from (length ws)) ws ≡ drop from ws
  same_drop from = by (leb from (length ws)) refl
    where
      by : (t : Bool) → leb from (length ws) ≡ t → drop (min from (length ws)) ws ≡ drop from ws
      by true h =
          let l : from ≤ length ws = leb-true from (length ws) h in
          let same : min from (length ws) ≡ from = omega arith in
          ap (λ (k : ℕ). drop k ws) same
      by false h =
          let l : length ws < from = leb-false from (length ws) h in
          drop_of_length-le ws {i = min from (length ws)} (omega arith) ∙ sym (drop_of_length-le ws {i = from} (omega arith))

  -- where the search begins
  pub begins : (from : ℕ) → listed_from (min from (length ws)) (drop (min from (length ws)) ws) ≡ next_listed ws from
  unfolding next_listed
  begins from = ap (listed_from (min from (length ws))) (same_drop from)

-- ---- the pages from there on

module _ (b : Bytes) (ws : List ℕ) where
  here_or_not : (at : ℕ) → at < length ws
      → listed_in b (drop at ws)
      ≡ pick (is_missing (get_or ws at 0)) (listed_in b (drop (suc at) ws)) (good_in b (get_or ws at 0) ∷ listed_in b (drop (suc at) ws))
  unfolding listed_in
  here_or_not at h = rw (drop-cons ws at 0 h)

  pub no_more : (at : ℕ) → length ws ≤ at → listed_in b (drop at ws) ≡ []
  unfolding listed_in
  no_more at h = rw (drop_of_length-le ws h)

  -- n indices are left
  next_in : (n at : ℕ) → at + n ≡ length ws → NextIs b ws at (listed_from at (drop at ws))
  next_in zero at h =
      rw (over ws at (omega arith))
      (record {
        inside = omega arith;
        after = λ w. omega arith;
        same = refl;
        here = λ w. absurd (omega arith);
        none = λ w. no_more at w;
      })
  next_in (suc n) at h = by (is_missing (get_or ws at 0)) refl (next_in n (at + 1) (omega arith))
    where
      later : List Good
      later = listed_in b (drop (suc at) ws)

      by : (t : Bool) → is_missing (get_or ws at 0) ≡ t → NextIs b ws (at + 1) (listed_from (at + 1) (drop (at + 1) ws))
          → NextIs b ws at (listed_from at (drop at ws))
      by true s l =
          rw (goes_on ws at (omega arith) s)
          (record {
            inside = l.inside;
            after = λ w. let z = l.after (omega arith) in omega arith;
            same =
                here_or_not at (omega arith)
                ∙ ap (λ (t : Bool). pick t later (good_in b (get_or ws at 0) ∷ later)) s
                ∙ ap (λ (k : ℕ). listed_in b (drop k ws)) (sym (add-one at))
                ∙ l.same;
            here = l.here;
            none = l.none;
          })
      by false s l =
          rw (found ws at (omega arith) s)
          (record {
            inside = omega arith;
            after = λ w. omega arith;
            same = refl;
            here = λ w. here_or_not at w ∙ ap (λ (t : Bool). pick t later (good_in b (get_or ws at 0) ∷ later)) s;
            none = λ w. no_more at w;
          })

pub next-listed : NextListed
next-listed b ws from = rw (← begins ws from) (from-there (next_in b ws (length ws - min from (length ws)) (min from (length ws)) (omega arith)))
  where
    from-there : {r : ℕ} → NextIs b ws (min from (length ws)) r → NextIs b ws from r
    from-there {r} l = record {
      inside = l.inside;
      after = λ w. let z = l.after (omega arith) in omega arith;
      same = ap (listed_in b) (sym (same_drop ws from)) ∙ l.same;
      here = l.here;
      none = l.none;
    }

-- a page that is found is at or after `from`
pub further : (ws : List ℕ) (from : ℕ) → next_listed ws from < length ws → from ≤ next_listed ws from
unfolding next_listed listed_from
further ws from h = by (leb from (length ws)) refl
  where
    past : length ws ≤ from → next_listed ws from ≡ min from (length ws)
    past l = rw (drop_of_length-le ws l)

    by : (t : Bool) → leb from (length ws) ≡ t → from ≤ next_listed ws from
    by true e = (next-listed [] ws from).after (leb-true from (length ws) e)
    by false e = let l = leb-false from (length ws) e in omega (arith, past (omega arith))
