-- When an addition is taken, what the lengths are that it takes, and the count after them. Assumes nothing.
use mathlib.Core.Path.{◌≡◌, ap, ◌∙◌}
use mathlib.Core.Bool.{true, false, ◌&&◌}
use mathlib.Core.List.{List, [], ◌∷◌}
use Prim.Native.Nat.{ℕ, ◌+◌, ◌%◌, ◌≤◌, ◌<◌}
use native.Mathlib.Nat.{add_assoc}
use native.Mathlib.Omega.{arith}
use borrow.Author.Tests.{lt-ltb, le-ltb, leb-true, eqb-true}
use lib.Dec.{leb, eqb}
use Rattle.octets.specs.Octets.{total}
use Rattle.octets.proofs.Tests.{both}
use Rattle.refusal.specs.declared.Refusal.TheVariants.{ClockRange}
use Rattle.refusal.specs.Numbers.{number_of}
use Rattle.refusal.specs.Checks.{first_of}
use Rattle.refusal.specs.Told.{Told, gives, refuses}
use Rattle.old_clock.specs.declared.Clock.{Clock}
use Rattle.old_clock.specs.Clock.{right_length, right_lengths, most_count, advanced, add_samples, record_after, after}
use Rattle.old_clock.specs.Statements.{CountsAll}

pub record Multiple (n : ℕ) : Type 0 where
  pub most : n ≤ 5760
  pub whole : n % 120 ≡ 0

pub right_length_lem : (n : ℕ) → right_length n ≡ true → Multiple n
unfolding right_length
right_length_lem n e =
    let least = both (leb 120 n) (leb n 5760 && eqb (n % 120) 0) e in
    let most = both (leb n 5760) (eqb (n % 120) 0) least.1 in
    record { most = leb-true n 5760 most.0; whole = eqb-true (n % 120) 0 most.1 }

module _ (c : Clock) (n : ℕ) where
  pub wrong-length : right_length n ≡ false → add_samples c n ≡ refuses (number_of ClockRange)
  unfolding add_samples first_of
  wrong-length e = rw e

  pub past-most : most_count < c.count + n → right_length n ≡ true → add_samples c n ≡ refuses (number_of ClockRange)
  unfolding add_samples first_of
  past-most h e = rw (e, lt-ltb most_count (c.count + n) h)

  pub taken : c.count + n ≤ most_count → right_length n ≡ true → add_samples c n ≡ gives (advanced c n)
  unfolding add_samples first_of
  taken h e = rw (e, le-ltb most_count (c.count + n) h)

-- the record after one packet that is taken and those after it
after_taken : (c : Clock) (n : ℕ) (lengths : List ℕ) → c.count + n ≤ most_count → right_length n ≡ true
    → after c (n ∷ lengths) ≡ after (advanced c n) lengths
unfolding after
after_taken c n lengths room right = ap (λ (t : Told Clock). after (record_after c t) lengths) (taken c n room right)

pub counts_all : CountsAll
unfolding right_lengths after total
counts_all c [] e room = omega arith
counts_all c (n ∷ lengths) e room =
    let right = both (right_length n) (right_lengths lengths) e in
    ap (λ (d : Clock). d.count) (after_taken c n lengths (omega arith) right.0)
    ∙ counts_all (advanced c n) lengths right.1 (omega arith)
    ∙ add_assoc c.count n (total lengths)
