-- An escaped text is undone. Assumes nothing.
use mathlib.Core.Path.{◌≡◌, refl}
use mathlib.Core.Bool.{Bool, true, false}
use mathlib.Core.List.{[], ◌∷◌, ◌++◌}
use Prim.Native.Nat.{ℕ, suc, ◌+◌, ◌-◌, ◌*◌, ◌/◌, ◌%◌, ◌≤◌, ◌<◌}
use native.Mathlib.Omega.{arith}
use borrow.Author.Tests.{eqb-true, ne_eqb, eqb-false, lt-ltb, le-ltb, ltb-true, ltb-false}
use lib.Dec.{eqb, ltb}
use Rattle.octets.specs.Pick.{pick}
use Rattle.octets.specs.Octets.{Bytes}
use Rattle.utf8.specs.Characters.{character_length}
use Rattle.utf8.proofs.Lead.{ascii_character}
use Rattle.utf8.proofs.Characters.{some_bytes}
use Rattle.text_escape.specs.Hidden.{is_hidden}
use Rattle.text_escape.specs.Escape.{backslash, hex_digit, escape_of, shown_length, escaped_from, escaped}
use Rattle.text_escape.specs.Undo.{nothing, hex_value, unescaped_from, unescaped}
use Rattle.text_escape.specs.Statements.{EscapeUndone}
use Rattle.text_escape.proofs.Escaping.{escape_backslash, escape_other}
use Rattle.text_escape.proofs.Images.{Shown, at_end_lem, past, as_it_stands, in_escape, by_images}

-- a digit means its value
value-digit : (d : ℕ) → d < 16 → hex_value (hex_digit d) ≡ d
value-digit d h = by (ltb d 10) refl
  where
    by : (t : Bool) → ltb d 10 ≡ t → hex_value (pick t (0x30 + d) (0x37 + d)) ≡ d
    by true e = let low = ltb-true d 10 e in rw (lt-ltb (0x30 + d) 0x3A (omega arith)) (omega arith)
    by false e = let high = ltb-false d 10 e in rw (le-ltb (0x37 + d) 0x3A (omega arith)) (omega arith)

-- a byte that is no backslash
plain : (b : ℕ) (t s : Bytes) → (b ≡ backslash → ⊥) → unescaped_from nothing t ≡ s → unescaped_from nothing (b ∷ t) ≡ b ∷ s
unfolding unescaped_from
plain b t s n e = rw (ne_eqb b backslash n, e)

-- an escape
escape : (b : ℕ) (t s : Bytes) → b < 256 → unescaped_from nothing t ≡ s → unescaped_from nothing (escape_of b ++ t) ≡ b ∷ s
unfolding unescaped_from
escape b t s small e = by (eqb b backslash) refl
  where
    by : (q : Bool) → eqb b backslash ≡ q → unescaped_from nothing (escape_of b ++ t) ≡ b ∷ s
    by true q = rw (escape_backslash b (eqb-true b backslash q), e, eqb-true b backslash q)
    by false q =
        let whole : b / 16 * 16 + b % 16 ≡ b = omega arith in
        rw (
          escape_other b (hex_digit (b / 16)) (hex_digit (b % 16)) (eqb-false b backslash q) refl refl,
          value-digit (b / 16) (omega arith),
          value-digit (b % 16) (omega arith),
          whole,
          e,
        )

-- a backslash is hidden
hides : (b : ℕ) (s : Bytes) → b ≡ backslash → shown_length b s ≡ 0
unfolding shown_length is_hidden
hides b s e = rw (ascii_character b s (omega arith), e)

no_backslash : (b : ℕ) (s : Bytes) → Shown b s → b ≡ backslash → ⊥
no_backslash b s w e = omega (arith, hides b s e, w.size, some_bytes b s w.right)

pub escape_undone : EscapeUndone
unfolding unescaped escaped unescaped_from
escape_undone s o = by_images (λ (k : ℕ) (s : Bytes). unescaped_from nothing (escaped_from k s) ≡ s) none tail char esc s o
  where
    none : (k : ℕ) → unescaped_from nothing (escaped_from k []) ≡ []
    none k = rw (at_end_lem k)

    tail : (k b : ℕ) (s : Bytes) → 0x80 ≤ b → b ≤ 0xBF → unescaped_from nothing (escaped_from k s) ≡ s
        → unescaped_from nothing (escaped_from (suc k) (b ∷ s)) ≡ b ∷ s
    tail k b s low high e = rw (past k b s) (plain b (escaped_from k s) s (λ q. omega arith) e)

    char : (b : ℕ) (s : Bytes) → Shown b s → unescaped_from nothing (escaped_from (character_length b - 1) s) ≡ s
        → unescaped_from nothing (escaped_from 0 (b ∷ s)) ≡ b ∷ s
    char b s w e = rw (as_it_stands b s w) (plain b (escaped_from (character_length b - 1) s) s (no_backslash b s w) e)

    esc : (b : ℕ) (s : Bytes) → b < 256 → shown_length b s ≡ 0 → unescaped_from nothing (escaped_from 0 s) ≡ s
        → unescaped_from nothing (escaped_from 0 (b ∷ s)) ≡ b ∷ s
    esc b s small z e = rw (in_escape b s z) (escape b (escaped_from 0 s) s small e)
