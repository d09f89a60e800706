-- Laws of names: where the first "=" is, names compared, and comments. Assumes nothing.
use mathlib.Core.Path.{◌≡◌, refl, ap}
use mathlib.Core.Bool.{Bool, true, false, ◌&&◌}
use mathlib.Core.List.{[], ◌∷◌}
use Prim.Native.Nat.{ℕ, suc, ◌+◌, ◌≤◌, ◌<◌}
use native.Mathlib.Numerals.{add-one}
use native.Mathlib.Omega.{arith}
use Rattle.std.proofs.lemmas.Bool.Decides.{nat_tests}
use Rattle.std.specs.Char.{to_ascii_uppercase}
use Rattle.std.specs.List.{list_all, zip}
use borrow.Author.Tests.{eq-eqb, ne_eqb, lt-ltb, le-ltb}
use lib.Dec.{eqb}
use lib.ListN.{length, get_or, take, drop, drop_of_length-le}
use lib.Seq.{drop-cons}
use Rattle.octets.specs.Octets.{Bytes}
use Rattle.utf8.specs.Characters.{utf8}
use Rattle.tags_comment.specs.Names.{equals, equals_place, right_name, right_comment, upper, same_name, is_named}

-- ---- the first "="

pub no_equals_left : (c : Bytes) (i : ℕ) → length c ≤ i → equals_place (drop i c) ≡ 0
unfolding equals_place
no_equals_left c i h = rw (drop_of_length-le c h)

module _ (c : Bytes) (i : ℕ) (inside : i < length c) where
  pub equals-here : get_or c i 0 ≡ equals → equals_place (drop i c) ≡ 0
  unfolding equals_place
  equals-here e = rw (drop-cons c i 0 inside, eq-eqb (get_or c i 0) equals e)

  pub no_equals_here : (get_or c i 0 ≡ equals → ⊥) → equals_place (drop i c) ≡ suc (equals_place (drop (i + 1) c))
  unfolding equals_place
  no_equals_here n = rw (add-one, drop-cons c i 0 inside, ne_eqb (get_or c i 0) equals n)

-- ---- names compared

pub other_length : (n m : Bytes) → (length n ≡ length m → ⊥) → same_name n m ≡ false
unfolding same_name
other_length [] [] h = absurd (h refl)
other_length [] (b ∷ m) h = refl
other_length (a ∷ n) [] h = refl
other_length (a ∷ n) (b ∷ m) h = rw (other_length n m (λ e. h (ap suc e))) (either (eqb (upper a) (upper b)))
  where
    either : (t : Bool) → t && false ≡ false
    either true = refl
    either false = refl

-- the library's capital letter
pub raised : (b : ℕ) → to_ascii_uppercase b ≡ upper b
raised b = grind (arith, nat_tests)

-- a test of each two letters, in the words of the definition
pub letters : (n m : Bytes) → length n ≡ length m → list_all (λ (p : ℕ × ℕ). eqb (upper p.0) (upper p.1)) (zip n m) ≡ same_name n m
unfolding same_name
letters [] [] e = refl
letters [] (b ∷ m) e = absurd (omega arith)
letters (a ∷ n) [] e = absurd (omega arith)
letters (a ∷ n) (b ∷ m) e = ap (λ (t : Bool). eqb (upper a) (upper b) && t) (letters n m (omega arith))

-- ---- comments, with the place p of the first "="

pub not-utf8 : (c : Bytes) → utf8 c ≡ false → right_comment c ≡ false
unfolding right_comment
not-utf8 c e = rw e

module _ (c : Bytes) (p : ℕ) (place : p ≡ equals_place c) where
  pub without_name : utf8 c ≡ true → length c ≤ p → right_comment c ≡ true
  unfolding right_comment
  without_name text h = rw (text, ← place, le-ltb p (length c) h)

  pub name_decides : utf8 c ≡ true → p < length c → right_comment c ≡ right_name (take p c)
  unfolding right_comment
  name_decides text h = rw (text, ← place, lt-ltb p (length c) h)

  pub nameless : (n : Bytes) → length c ≤ p → is_named n c ≡ false
  unfolding is_named
  nameless n h = rw (← place, le-ltb p (length c) h)

  pub named : (n : Bytes) → p < length c → is_named n c ≡ same_name n (take p c)
  unfolding is_named
  named n h = rw (← place, lt-ltb p (length c) h)
