-- Sixteen numbers: what is found equal represents readers that agree, and the totals rewritten are those of the whole. Assumes
-- nothing.
use Rattle.std.proofs.Common.{◌≡◌, ℕ, ◌<◌, ◌≤◌, Bool, true, false, ◌||◌, eqb, List, [], ◌∷◌, length, get_or, take, set, sym, refl, ap, ◌∙◌, subst, arith, length-set, length-take-le, get_or-set_other, get_or-set_same, eqb-true, leb-true}
use mathlib.Core.Bool.{false≢true}
use Rattle.octets.specs.Pick.{pick}
use Rattle.octets.specs.Octets.{Bytes}
use Rattle.octets.proofs.Tests.{both, equal-and}
use Rattle.octets.proofs.Beginnings.{begins-take}
use Rattle.stream.specs.declared.Pending.TheVariants.{Nothing, Held, Dropped}
use Rattle.stream.specs.Feedings.{held_of}
use Rattle.feed_numbers.specs.Numbers.{pending_from, reader_from}
use Rattle.stream_parts.specs.Agree.{equal_at, compared, equal_bytes, agreeing}
use Rattle.stream_parts.specs.Totals.{number_after, totals_after}
use Rattle.stream_parts.specs.Statements.{AgreeingAgree, TotalsRewritten}

-- ---- the numbers compared

unfoldable is_in : ℕ → List ℕ → Bool
is_in i [] = false
is_in i (j ∷ js) = eqb i j || is_in i js

equal_in : (is a b : List ℕ) → equal_at is a b ≡ true → (i : ℕ) → is_in i is ≡ true → get_or b i 0 ≡ get_or a i 0
unfolding equal_at is_in
equal_in [] a b e i m = absurd (false≢true m)
equal_in (j ∷ is) a b e i m =
    let t = equal-and (get_or a j 0) (get_or b j 0) (equal_at is a b) e in
    by t.0 (equal_in is a b t.1 i) (eqb i j) refl m
  where
    by : get_or a j 0 ≡ get_or b j 0 → (is_in i is ≡ true → get_or b i 0 ≡ get_or a i 0) → (x : Bool) → eqb i j ≡ x → (x || is_in i is) ≡ true
        → get_or b i 0 ≡ get_or a i 0
    by t later true q w = subst (λ (k : ℕ). get_or b k 0 ≡ get_or a k 0) (sym (eqb-true i j q)) (sym t)
    by t later false q w = later w

-- ---- the held bytes

equal-bytes : (n : ℕ) (c d : Bytes) → equal_bytes n c d ≡ true → take n d ≡ take n c
unfolding equal_bytes
equal-bytes n c d e =
    let t = both _ _ e in
    let size : length (take n c) ≡ n = length-take-le n c (leb-true n (length c) t.0) in
    ap (λ (k : ℕ). take k d) (sym size) ∙ begins-take (take n c) d t.1

held-alike : (k n : ℕ) (c d : Bytes) → take n d ≡ take n c → take (held_of (pending_from k n)) d ≡ take (held_of (pending_from k n)) c
unfolding pending_from
held-alike k n c d e = by (eqb k 0) (eqb k 1)
  where
    by : (x y : Bool) → take (held_of (pick x Nothing (pick y (Held n) Dropped))) d ≡ take (held_of (pick x Nothing (pick y (Held n) Dropped))) c
    by true y = refl
    by false true = e
    by false false = refl

pub agreeing-agree : AgreeingAgree
unfolding agreeing reader_from is_in
agreeing-agree a b c d e =
    let t = both _ _ e in
    let phase = equal_in compared a b t.0 0 refl in
    let pending = equal_in compared a b t.0 1 refl in
    let held = equal_in compared a b t.0 2 refl in
    let position = equal_in compared a b t.0 3 refl in
    let granule = equal_in compared a b t.0 4 refl in
    let serial = equal_in compared a b t.0 5 refl in
    let due = equal_in compared a b t.0 6 refl in
    let streams = equal_in compared a b t.0 7 refl in
    let preskip = equal_in compared a b t.0 8 refl in
    let skip = equal_in compared a b t.0 9 refl in
    record {
      cores = record {
        core = rw (phase, pending, held, position, granule, serial, due, streams, preskip);
        held = held-alike (get_or a 1 0) (get_or a 2 0) c d (equal-bytes (get_or a 2 0) c d t.1);
      };
      skip = rw skip;
    }

-- ---- the totals rewritten

module _ (r o e : List ℕ) (size : length e ≡ 16) where
  abbrev first : List ℕ
  first = set e 10 (number_after r o e 10)

  abbrev second : List ℕ
  second = set first 11 (number_after r o e 11)

  abbrev third : List ℕ
  third = set second 12 (number_after r o e 12)

  -- the last store leaves the others
  above : (i : ℕ) → i < 13 → get_or (totals_after r o e) i 0 ≡ get_or third i 0
  unfolding totals_after
  above i low = get_or-set_other third 13 i _ 0 (λ q. omega arith)

  above_12 : (i : ℕ) → i < 12 → get_or (totals_after r o e) i 0 ≡ get_or second i 0
  above_12 i low = above i (omega arith) ∙ get_or-set_other second 12 i _ 0 (λ q. omega arith)

  above_11 : (i : ℕ) → i < 11 → get_or (totals_after r o e) i 0 ≡ get_or first i 0
  above_11 i low = above_12 i (omega arith) ∙ get_or-set_other first 11 i _ 0 (λ q. omega arith)

  stays : (i : ℕ) → i < 10 → get_or (totals_after r o e) i 0 ≡ get_or e i 0
  stays i low = above_11 i (omega arith) ∙ get_or-set_other e 10 i _ 0 (λ q. omega arith)

  kept-is : get_or (totals_after r o e) 10 0 ≡ number_after r o e 10
  kept-is = above_11 10 (omega arith) ∙ get_or-set_same e 10 _ 0 (omega arith)

  skipped-is : get_or (totals_after r o e) 11 0 ≡ number_after r o e 11
  skipped-is = above_12 11 (omega arith) ∙ get_or-set_same first 11 _ 0 (omega (arith, length-set e 10 (number_after r o e 10)))

  length-second : length second ≡ 16
  length-second = length-set first 11 _ ∙ length-set e 10 _ ∙ size

  trimmed-is : get_or (totals_after r o e) 12 0 ≡ number_after r o e 12
  trimmed-is = above 12 (omega arith) ∙ get_or-set_same second 12 _ 0 (omega (arith, length-second))

  length_third : length third ≡ 16
  length_third = length-set second 12 _ ∙ length-second

  hole-is : get_or (totals_after r o e) 13 0 ≡ number_after r o e 13
  unfolding totals_after
  hole-is = get_or-set_same third 13 _ 0 (omega (arith, length_third))

  length-after : length (totals_after r o e) ≡ length e
  unfolding totals_after
  length-after = length-set third 13 _ ∙ length_third ∙ sym size

pub totals_rewritten : TotalsRewritten
unfolding reader_from
totals_rewritten r o e size =
    let s : (i : ℕ) → i < 10 → get_or (totals_after r o e) i 0 ≡ get_or e i 0 = stays r o e size in
    record {
      core = rw (s 0 (omega arith), s 1 (omega arith), s 2 (omega arith), s 3 (omega arith), s 4 (omega arith), s 5 (omega arith), s 6 (omega arith), s 7 (omega arith), s 8 (omega arith));
      tally = rw (s 9 (omega arith), kept-is r o e size, skipped-is r o e size, trimmed-is r o e size, hole-is r o e size);
      size = length-after r o e size;
    }
