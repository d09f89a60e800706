-- An escaped text can drive nothing. Assumes nothing.
use mathlib.Core.Path.{◌≡◌, refl, ap, ◌∙◌}
use mathlib.Core.Bool.{Bool, true, false, not, ◌||◌, or-true}
use mathlib.Core.List.{[], ◌∷◌, ◌++◌}
use Prim.Native.Nat.{ℕ, zero, suc, ◌+◌, ◌-◌, ◌/◌, ◌%◌, ◌≤◌, ◌<◌}
use native.Mathlib.Nat.{le_of_suc-le-suc}
use native.Mathlib.Omega.{arith}
use borrow.Author.Tests.{eqb-true, eqb-false, ne_eqb, ltb-true, ltb-false, le-leb, lt-leb}
use lib.Dec.{eqb, ltb}
use lib.ListN.{length, get_or}
use Rattle.octets.specs.Pick.{pick}
use Rattle.octets.specs.Octets.{Bytes, Octets}
use Rattle.octets.proofs.Tests.{both}
use Rattle.utf8.specs.Characters.{character_length, number_of, right_character, character_of, utf8_from, utf8}
use Rattle.utf8.proofs.Lead.{ascii, ascii_length, ascii_character, tail-length}
use Rattle.text_escape.specs.Hidden.{is_hidden}
use Rattle.text_escape.specs.Escape.{backslash, hex_digit, escape_of, shown_length, escaped_from, escaped}
use Rattle.text_escape.specs.Statements.{is_harmless, all_harmless, Printable, NothingDrives}
use Rattle.text_escape.proofs.Escaping.{escape_backslash, escape_other}
use Rattle.text_escape.proofs.Images.{Shown, at_end_lem, past, as_it_stands, in_escape, by_images, number-there, right_there}

-- a text is UTF-8 after k bytes, and harmless
pub record Fine (k : ℕ) (t : Bytes) : Type 0 where
  pub text : utf8_from k t ≡ true
  pub characters : all_harmless t ≡ true

fine_end : (k : ℕ) → Fine k []
unfolding utf8_from all_harmless
fine_end k = record { text = refl; characters = refl }

-- ---- one byte of each kind in front

fine_tail : (k b : ℕ) (t : Bytes) → 0x80 ≤ b → b ≤ 0xBF → Fine k t → Fine (suc k) (b ∷ t)
unfolding utf8_from all_harmless character_of right_character
fine_tail k b t low high f = record { text = f.text; characters = rw (tail-length b low high) f.characters }

fine_character : (b : ℕ) (s : Bytes) → Shown b s → Fine (character_length b - 1) (escaped_from (character_length b - 1) s)
    → Fine 0 (b ∷ escaped_from (character_length b - 1) s)
unfolding utf8_from all_harmless character_of
fine_character b s w f =
    let right : right_character b (escaped_from (character_length b - 1) s) ≡ true = right_there b s ∙ w.right in
    let seen : is_hidden (number_of b (escaped_from (character_length b - 1) s)) ≡ false = ap is_hidden (number-there b s) ∙ w.seen in
    record { text = rw right f.text; characters = rw (right, seen, or-true, or-true) f.characters }

-- a byte below 0x80 that is harmless
fine_ascii : (b : ℕ) (t : Bytes) → b < 128 → eqb b backslash || not (is_hidden b) ≡ true → Fine 0 t → Fine 0 (b ∷ t)
unfolding utf8_from all_harmless
fine_ascii b t small h f = record {
  text = rw (ascii b t small, ascii_length b small) f.text;
  characters = rw (ascii_character b t small, h) f.characters;
}

-- ---- an escape in front

seen_low : (b : ℕ) → 0x20 ≤ b → b < 0x5C → is_hidden b ≡ false
unfolding is_hidden
seen_low b low high =
    simp (
      le-leb 0 b (omega arith),
      lt-leb b 0x1F (omega arith),
      lt-leb 0x5C b (omega arith),
      lt-leb 0x7F b (omega arith),
      lt-leb 0xAD b (omega arith),
      lt-leb 0x61C b (omega arith),
      lt-leb 0x180E b (omega arith),
      lt-leb 0x200B b (omega arith),
      lt-leb 0x2028 b (omega arith),
      lt-leb 0x2060 b (omega arith),
      lt-leb 0xE000 b (omega arith),
      lt-leb 0xFEFF b (omega arith),
      lt-leb 0xFFF9 b (omega arith),
      lt-leb 0xFFFE b (omega arith),
      lt-leb 0xE0000 b (omega arith),
      lt-leb 0xF0000 b (omega arith),
    )

digit_range : (d : ℕ) → d < 16 → (0x20 ≤ hex_digit d) × (hex_digit d < 0x5C)
digit_range d h = by (ltb d 10)
  where
    by : (t : Bool) → (0x20 ≤ pick t (0x30 + d) (0x37 + d)) × (pick t (0x30 + d) (0x37 + d) < 0x5C)
    by true = omega arith
    by false = omega arith

fine_digit : (d : ℕ) (t : Bytes) → d < 16 → Fine 0 t → Fine 0 (hex_digit d ∷ t)
fine_digit d t h f =
    let r = digit_range d h in
    fine_ascii (hex_digit d) t (omega arith) (rw (seen_low (hex_digit d) r.0 r.1, or-true)) f

fine_backslash : (t : Bytes) → Fine 0 t → Fine 0 (backslash ∷ t)
fine_backslash t f = fine_ascii backslash t (omega arith) refl f

fine_x : (t : Bytes) → Fine 0 t → Fine 0 (0x78 ∷ t)
unfolding is_hidden
fine_x t f = fine_ascii 0x78 t (omega arith) refl f

fine_escape : (b : ℕ) (t : Bytes) → b < 256 → Fine 0 t → Fine 0 (escape_of b ++ t)
fine_escape b t small f = by (eqb b backslash) refl
  where
    by : (q : Bool) → eqb b backslash ≡ q → Fine 0 (escape_of b ++ t)
    by true q = rw (escape_backslash b (eqb-true b backslash q)) (fine_backslash _ (fine_backslash t f))
    by false q =
        rw (escape_other b (hex_digit (b / 16)) (hex_digit (b % 16)) (eqb-false b backslash q) refl refl)
        (fine_backslash _ (fine_x _ (fine_digit (b / 16) _ (omega arith) (fine_digit (b % 16) t (omega arith) f))))

-- ---- all of a text

fine : (s : Bytes) → Octets s → Fine 0 (escaped_from 0 s)
fine = by_images (λ (k : ℕ) (s : Bytes). Fine k (escaped_from k s)) none tail char esc
  where
    none : (k : ℕ) → Fine k (escaped_from k [])
    none k = rw (at_end_lem k) (fine_end k)

    tail : (k b : ℕ) (s : Bytes) → 0x80 ≤ b → b ≤ 0xBF → Fine k (escaped_from k s) → Fine (suc k) (escaped_from (suc k) (b ∷ s))
    tail k b s low high f = rw (past k b s) (fine_tail k b (escaped_from k s) low high f)

    char : (b : ℕ) (s : Bytes) → Shown b s → Fine (character_length b - 1) (escaped_from (character_length b - 1) s) → Fine 0 (escaped_from 0 (b ∷ s))
    char b s w f = rw (as_it_stands b s w) (fine_character b s w f)

    esc : (b : ℕ) (s : Bytes) → b < 256 → shown_length b s ≡ 0 → Fine 0 (escaped_from 0 s) → Fine 0 (escaped_from 0 (b ∷ s))
    esc b s small z f = rw (in_escape b s z) (fine_escape b (escaped_from 0 s) small f)

-- ---- its bytes

-- the first byte is no control
module _ (b : ℕ) (t : Bytes) (h : is_harmless (character_of b t) ≡ true) where
  no_c0 : b < 0x20 → ⊥
  unfolding is_hidden
  no_c0 low =
      let z : false ≡ true = simp (ascii_character b t (omega arith), ne_eqb b backslash (λ e. omega arith), le-leb 0 b (omega arith), le-leb b 0x1F (omega arith)) at h in
      let no : ◌≡◌ {A = ℕ} 0 1 = cc in
      omega arith

  no_del : b ≡ 0x7F → ⊥
  unfolding is_hidden
  no_del e =
      let z : false ≡ true = rw (ascii_character b t (omega arith), e) at h in
      let no : ◌≡◌ {A = ℕ} 0 1 = cc in
      omega arith

  no_control : Printable b
  no_control = record { least = by (ltb b 0x20) refl; not_delete = no_del }
    where
      by : (q : Bool) → ltb b 0x20 ≡ q → 0x20 ≤ b
      by true q = absurd (no_c0 (ltb-true b 0x20 q))
      by false q = ltb-false b 0x20 q

no_controls : (t : Bytes) → all_harmless t ≡ true → (i : ℕ) → i < length t → Printable (get_or t i 0)
unfolding all_harmless
no_controls [] h i l = absurd (omega arith)
no_controls (b ∷ t) h zero l = no_control b t (both (is_harmless (character_of b t)) (all_harmless t) h).0
no_controls (b ∷ t) h (suc i) l = no_controls t (both (is_harmless (character_of b t)) (all_harmless t) h).1 i (le_of_suc-le-suc l)

pub nothing_drives : NothingDrives
unfolding escaped utf8
nothing_drives s o =
    let f = fine s o in
    record { text = f.text; characters = f.characters; bytes = no_controls (escaped_from 0 s) f.characters }
