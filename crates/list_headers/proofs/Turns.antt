-- One turn of the loops that put entries and comments. Assumes nothing.
use mathlib.Core.Path.{◌≡◌, refl, ap, ◌∙◌}
use mathlib.Core.Bool.{Bool, true, false, not}
use mathlib.Core.List.{List, [], ◌∷◌}
use Prim.Native.Nat.{ℕ, zero, suc, ◌+◌, ◌-◌, ◌≤◌, ◌<◌}
use native.Mathlib.Numerals.{add-one}
use native.Mathlib.Omega.{arith}
use borrow.Author.Tests.{not-false, leb-true}
use lib.Dec.{leb}
use lib.IntN.{ℤ}
use lib.ListN.{length}
use Rattle.octets.specs.Octets.{Bytes}
use Rattle.octets.proofs.Tests.{both}
use Rattle.refusal.specs.declared.Refusal.TheVariants.{BadTags}
use Rattle.refusal.specs.Checks.{◌when◌, first_of}
use Rattle.refusal.specs.Told.{gives, refuses}
use Rattle.refusal.proofs.Checks.{no_refusal, passed}
use Rattle.text_pieces.specs.Pieces.{Laying, laid, lay_all}
use Rattle.head_matrix.specs.Matrix.{entry_at}
use Rattle.head_lines.specs.Lines.{entry_text}
use Rattle.tags_layout.specs.declared.Part.{Part}
use Rattle.tags_layout.specs.Layout.{bytes_of, part_at, next_place, fits_at}
use Rattle.tags_layout.specs.Finding.{find_text}
use Rattle.tags_lines.specs.Lines.{comment_line}
use Rattle.list_headers.specs.Code.{found_entries, found_comments}

-- one piece was put, and those after it are left
pub again : (l next end : Laying) (s : Bytes) (all rest : List Bytes) → next ≡ laid l s → all ≡ s ∷ rest → lay_all l all ≡ end
    → lay_all next rest ≡ end
unfolding lay_all
again l next end s all rest n a e = rw (n) (rw a at e)

pub none_left : (l end : Laying) (all : List Bytes) → all ≡ [] → lay_all l all ≡ end → l ≡ end
unfolding lay_all
none_left l end all a e = rw a at e

less_one : (k : ℕ) → suc k - 1 ≡ k
less_one k = omega arith

module _ (m : Bytes) where
  pub no_entries : (left i : ℕ) → left ≤ 0 → found_entries m left i ≡ []
  unfolding found_entries
  no_entries zero i none = refl
  no_entries (suc k) i none = absurd (omega arith)

  pub entry_next : (left i : ℕ) (x : ℤ) → 0 < left → entry_at m i ≡ gives x
      → found_entries m left i ≡ entry_text x ∷ found_entries m (left - 1) (i + 1)
  unfolding found_entries
  entry_next zero i x some e = absurd (omega arith)
  entry_next (suc k) i x some e = rw (e, less_one k, add-one i)

  pub entry-none : (left i n : ℕ) → 0 < left → entry_at m i ≡ refuses n → found_entries m left i ≡ []
  unfolding found_entries
  entry-none zero i n some e = absurd (omega arith)
  entry-none (suc k) i n some e = rw e

module _ (b : Bytes) where
  pub no_comments : (left at : ℕ) → left ≤ 0 → found_comments b left at ≡ []
  unfolding found_comments
  no_comments zero at none = refl
  no_comments (suc k) at none = absurd (omega arith)

  comment-next : (left at : ℕ) → 0 < left → fits_at b at ≡ true
      → found_comments b left at ≡ comment_line (bytes_of b (part_at b at)) ∷ found_comments b (left - 1) (next_place b at)
  unfolding found_comments
  comment-next zero at some e = absurd (omega arith)
  comment-next (suc k) at some e = rw (e, less_one k)

  comment-none : (left at : ℕ) → 0 < left → fits_at b at ≡ false → found_comments b left at ≡ []
  unfolding found_comments
  comment-none zero at some e = absurd (omega arith)
  comment-none (suc k) at some e = rw e

  fits-inside : (at : ℕ) → fits_at b at ≡ true → next_place b at ≤ length b
  unfolding fits_at
  fits-inside at e = leb-true (next_place b at) (length b) (both (leb (at + 4) (length b)) (leb (next_place b at) (length b)) e).1

  -- what finding a text tells
  text-found : (at : ℕ) (p : Part) → find_text b at ≡ gives p → (fits_at b at ≡ true) × (part_at b at ≡ p)
  unfolding find_text
  text-found at p e =
      let r = no_refusal (first_of (BadTags when not (fits_at b at) ∷ [])) (part_at b at) p e in
      (not-false (fits_at b at) (passed BadTags (not (fits_at b at)) [] r.0).0, r.1)

  text-missing : (at n : ℕ) → find_text b at ≡ refuses n → fits_at b at ≡ false
  unfolding find_text first_of
  text-missing at n e = by (fits_at b at) refl
    where
      by : (t : Bool) → fits_at b at ≡ t → fits_at b at ≡ false
      by false q = q
      by true q =
          let given = rw q at e in
          let no : ◌≡◌ {A = ℕ} 0 1 = cc in
          absurd (omega arith)

  pub comment-found : (left at : ℕ) (p : Part) → 0 < left → find_text b at ≡ gives p
      → found_comments b left at ≡ comment_line (bytes_of b p) ∷ found_comments b (left - 1) (p.start + p.size)
  comment-found left at p some e =
      let f = text-found at p e in
      comment-next left at some f.0
      ∙ ap (λ (q : Part). comment_line (bytes_of b q) ∷ found_comments b (left - 1) (q.start + q.size)) f.1

  pub comment-missing : (left at n : ℕ) → 0 < left → find_text b at ≡ refuses n → found_comments b left at ≡ []
  comment-missing left at n some e = comment-none left at some (text-missing at n e)

  -- a text that is found ends inside the packet
  pub text-inside : (at : ℕ) (p : Part) → find_text b at ≡ gives p → p.start + p.size ≤ length b
  text-inside at p e =
      let f = text-found at p e in
      rw (← f.1) (fits-inside at f.0)
