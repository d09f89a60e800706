-- A text laid into a buffer part by part: what is left of it decides. Assumes nothing.
use mathlib.Core.Path.{◌≡◌, refl, sym, ap, ◌∙◌}
use mathlib.Core.List.{[], ◌++◌}
use Prim.Native.Nat.{ℕ, ◌+◌, ◌≤◌}
use native.Mathlib.Omega.{arith}
use lib.ListN.{length, length-append}
use lib.Seq.{paste-zero}
use Rattle.octets.specs.Octets.{Bytes, copied}
use Rattle.octets.proofs.Copying.{copied-fits, copied-append, length-copied}
use Rattle.text_put.specs.Writing.{Laid}

-- of the text t, which goes to place `from` of the buffer d, s is left to go to place `at` of the buffer e
pub record Filling (d : Bytes) (from : ℕ) (t : Bytes) (e : Bytes) (at : ℕ) (s : Bytes) : Type 0 where
  pub output : copied e at s ≡ copied d from t
  pub place : at + length s ≡ from + length t
  pub size : length e ≡ length d

pub filling_first : (d : Bytes) (from : ℕ) (t : Bytes) → Filling d from t d from t
filling_first d from t = record { output = refl; place = refl; size = refl }

-- one part is laid
pub filling_next : {d t e f a s : Bytes} {from at r : ℕ} → Filling d from t e at (a ++ s) → Laid e at a r f → from + length t ≤ length d
    → Filling d from t f r s
filling_next {d} {t} {e} {f} {a} {s} {from} {at} {r} p x room =
    let both : length (a ++ s) ≡ length a + length s = length-append a s in
    let same : length f ≡ length e = ap length x.output ∙ length-copied e at a in
    record {
      output =
          ap (λ (l : Bytes). copied l r s) x.output ∙ copied-append e at a s r x.place (omega (arith, x.place, p.place, p.size)) ∙ p.output;
      place = omega (arith, x.place, p.place);
      size = same ∙ p.size;
    }

-- all of them are
pub filling_done : {d t e : Bytes} {from at : ℕ} → Filling d from t e at [] → from + length t ≤ length d → Laid d from t at e
filling_done {d} {t} {e} {from} {at} p room =
    let inside : at + 0 ≤ length e = omega (arith, p.place, p.size) in
    record {
      place = omega (arith, p.place);
      output = paste-zero e at [] ∙ sym (copied-fits e at [] inside) ∙ p.output;
    }
