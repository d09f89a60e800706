-- Checking for C, by what the library promises. Assumes nothing.
use Rattle.std.specs.Prelude.{Result, Ok, Err}
use Prim.Native.Nat.{ℕ, min}
use mathlib.Core.Path.{◌≡◌, refl, sym, ap, ◌∙◌}
use mathlib.Core.List.{List}
use lib.ListN.{length}
use Rattle.octets.specs.Octets.{Bytes}
use Rattle.refusal.specs.declared.Refusal.{Refusal}
use Rattle.refusal.specs.Numbers.{number_of}
use Rattle.refusal.specs.Told.{Told, gives, refuses, number_in, retold, told}
use Rattle.page_crc.specs.Crc.{page_crc}
use Rattle.stream.specs.Readings.{readings}
use Rattle.check_rules.specs.Findings.{Finding}
use Rattle.check_rules.specs.Checking.{checked, Checks}
use Rattle.embulgri.specs.Answers.{stored}
use Rattle.embulgri.specs.Checking.{CheckedIn}

same_number : (t : Told (List Finding)) → number_in (retold length t) ≡ number_in t
same_number (gives c) = refl
same_number (refuses n) = refl

module _ (b : Bytes) (r : Result ℕ Refusal) (kinds kindsEnd pages pagesEnd : List ℕ) (old : ℕ)
    (is : Checks (readings page_crc) b (told r) kinds kindsEnd pages pagesEnd) where
  abbrev the_check : Told (List Finding)
  the_check = checked (readings page_crc) b (min (length kinds) (length pages))

  pub check-found : (n : ℕ) → r ≡ Ok n → CheckedIn b 0 kinds kindsEnd pages pagesEnd old n
  check-found n e =
      let t : gives n ≡ retold length the_check = ap told (sym e) ∙ is.told in
      record { refusal = ap number_in t ∙ same_number the_check; kind = is.kind; page = is.page; count = ap (λ (x : Told ℕ). stored x old) t }

  pub check-refused : (why : Refusal) (number : ℕ) → r ≡ Err why → number ≡ number_of why
      → CheckedIn b number kinds kindsEnd pages pagesEnd old old
  check-refused why number e n =
      let t : refuses (number_of why) ≡ retold length the_check = ap told (sym e) ∙ is.told in
      record { refusal = n ∙ ap number_in t ∙ same_number the_check; kind = is.kind; page = is.page; count = ap (λ (x : Told ℕ). stored x old) t }
