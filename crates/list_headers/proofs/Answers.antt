-- The ways of writing the lines of both headers, by what reading the packets tells. Assumes nothing.
use Rattle.std.specs.Prelude.{Result, Ok, Err}
use mathlib.Core.Path.{◌≡◌, refl, sym, ap, ◌∙◌}
use mathlib.Core.Bool.{Bool, true, false, ◌&&◌}
use mathlib.Core.List.{List, [], ◌∷◌}
use mathlib.Core.Option.{Option, none, some}
use Prim.Native.Nat.{ℕ, ◌≤◌}
use native.Mathlib.Omega.{arith}
use borrow.Author.Tests.{leb-true, leb-false, le-leb, lt-ltb, le-ltb, ltb-false, not-false}
use lib.Dec.{leb, ltb}
use lib.ListN.{length}
use Rattle.octets.specs.Octets.{Bytes, begins}
use Rattle.octets.proofs.Tests.{both}
use Rattle.refusal.specs.declared.Refusal.{Refusal}
use Rattle.refusal.specs.declared.Refusal.TheVariants.{ShortOutput}
use Rattle.refusal.specs.Checks.{◌when◌, first_of, or_else}
use Rattle.refusal.specs.Numbers.{number_of}
use Rattle.refusal.specs.Told.{gives, refuses, retold, decided}
use Rattle.refusal.proofs.Checks.{first_of-append, no_refusal, passed}
use Rattle.text_pieces.specs.Pieces.{begun, lay_all, joined}
use Rattle.text_pieces.proofs.Whole.{all-fit, whole-text}
use Rattle.head_fields.specs.declared.Head.{Head}
use Rattle.head_reader.specs.Fields.{head_of, matrix_of}
use Rattle.head_reader.specs.Reading as headReading
use Rattle.head_matrix.specs.Matrix.{matrix_in}
use Rattle.tags_layout.specs.Layout.{signature, Tags, vendor_place, first_place, count_of, fits_at, all_fit, is_laid_out, tags_of}
use Rattle.tags_reader.specs.Right.{right_tags, is_tags}
use Rattle.tags_reader.specs.Reading as tagsReading
use Rattle.tags_reader.proofs.Finding.{length_texts}
use Rattle.list_headers.specs.Text.{tags_pieces, header_pieces}
use Rattle.list_headers.specs.Code.{tags_found, both_found}
use Rattle.list_headers.specs.Writing.{pieces_of, text_of, both_checks, write_told, write_out, laid_in, told_laid, BothPut, Wrote}
use Rattle.list_headers.specs.Statements.{WritesText}
use Rattle.list_headers.proofs.Pieces.{all-comments}

-- ---- a packet is refused

module _ (out : Bytes) (ps : List Bytes) (size : ℕ) (n : ℕ) where
  first-told : {A : Type 0} (x : A) (a b c : Option Refusal) → decided a x ≡ refuses n
      → refuses n ≡ decided (or_else (or_else a b) c) size
  first-told x none b c e = let no : ◌≡◌ {A = ℕ} 0 1 = cc in absurd (omega arith)
  first-told x (some r) b c e = cc

  first_out : {A : Type 0} (x : A) (a b : Option Refusal) → decided a x ≡ refuses n → out ≡ laid_in (or_else a b) out ps
  first_out x none b e = let no : ◌≡◌ {A = ℕ} 0 1 = cc in absurd (omega arith)
  first_out x (some r) b e = refl

-- the second one, after a first that is read
module _ (out : Bytes) (ps : List Bytes) (size n : ℕ) (t : Tags) where
  second-told : (b c : Option Refusal) → retold tagsReading.comment_count (decided b t) ≡ refuses n
      → refuses n ≡ decided (or_else b c) size
  second-told none c e = let no : ◌≡◌ {A = ℕ} 0 1 = cc in absurd (omega arith)
  second-told (some r) c e = cc

  second_out : (b : Option Refusal) → retold tagsReading.comment_count (decided b t) ≡ refuses n → out ≡ laid_in b out ps
  second_out none e = let no : ◌≡◌ {A = ℕ} 0 1 = cc in absurd (omega arith)
  second_out (some r) e = refl

counted : (o : Option Refusal) (t : Tags) (n : ℕ) → retold tagsReading.comment_count (decided o t) ≡ gives n
    → (o ≡ none) × (tagsReading.comment_count t ≡ n)
counted none t n e = (refl, (no_refusal none (tagsReading.comment_count t) n e).1)
counted (some r) t n e = let no : ◌≡◌ {A = ℕ} 0 1 = cc in absurd (omega arith)

-- ---- both packets are read

-- what is told of pieces by their text
told-laid : (out : Bytes) (ss : List Bytes)
    → told_laid (lay_all (begun out) ss)
    ≡ decided (first_of (ShortOutput when ltb (length out) (length (joined ss)) ∷ [])) (length (joined ss))
unfolding first_of
told-laid out ss = by (leb (length (joined ss)) (length out)) refl
  where
    by : (t : Bool) → leb (length (joined ss)) (length out) ≡ t
        → told_laid (lay_all (begun out) ss)
        ≡ decided (first_of (ShortOutput when ltb (length out) (length (joined ss)) ∷ [])) (length (joined ss))
    by true e =
        let all = all-fit out ss ∙ e in
        rw (all, le-ltb (length out) (length (joined ss)) (leb-true (length (joined ss)) (length out) e))
        (ap gives (whole-text out ss all).place)
    by false e =
        rw (all-fit out ss ∙ e, lt-ltb (length out) (length (joined ss)) (leb-false (length (joined ss)) (length out) e))

-- the comments that are found are all of them
found-tags : (tags : Bytes) (n : ℕ) → is_tags tags ≡ true → tagsReading.comment_count (tags_of tags) ≡ n
    → tags_found tags n ≡ tags_pieces (tags_of tags)
unfolding is_tags is_laid_out tags_of tags_pieces
found-tags tags n right count =
    let laid_out = (both (is_laid_out tags) (right_tags (tags_of tags)) right).0 in
    let a = both (begins signature tags) (fits_at tags vendor_place && (leb (first_place tags) (length tags) && all_fit tags (count_of tags) (first_place tags))) laid_out in
    let v = both (fits_at tags vendor_place) (leb (first_place tags) (length tags) && all_fit tags (count_of tags) (first_place tags)) a.1 in
    let fit = (both (leb (first_place tags) (length tags)) (all_fit tags (count_of tags) (first_place tags)) v.1).1 in
    let same : n ≡ count_of tags = sym count ∙ length_texts tags (count_of tags) (first_place tags) in
    rw (same, all-comments tags (count_of tags) (first_place tags) fit, length_texts tags (count_of tags) (first_place tags))

module _ (head tags out : Bytes) where
  abbrev room : Option Refusal
  room = first_of (ShortOutput when ltb (length out) (length (text_of head tags)) ∷ [])

  abbrev of_head : Option Refusal
  of_head = first_of (headReading.read_checks head)

  abbrev of_tags : Option Refusal
  of_tags = first_of (tagsReading.read_checks tags)

  told-by : write_told head tags out ≡ decided (or_else (or_else of_head of_tags) room) (length (text_of head tags))
  unfolding write_told
  told-by =
      rw (
        first_of-append (both_checks head tags) (ShortOutput when ltb (length out) (length (text_of head tags)) ∷ []),
        first_of-append (headReading.read_checks head) (tagsReading.read_checks tags),
      )

  out_by : write_out head tags out ≡ laid_in (or_else of_head of_tags) out (pieces_of head tags)
  unfolding write_out
  out_by = rw (first_of-append (headReading.read_checks head) (tagsReading.read_checks tags))

  pub head-refused : (why : Refusal) → headReading.read_head head ≡ refuses (number_of why) → Wrote head tags out (Err why) out
  unfolding headReading.read_head
  head-refused why e = record {
    told = first-told out [] (length (text_of head tags)) (number_of why) (head_of head) of_head of_tags room e ∙ sym told-by;
    output = first_out out (pieces_of head tags) 0 (number_of why) (head_of head) of_head of_tags e ∙ sym out_by;
  }

  module _ (h : Head) (read : headReading.read_head head ≡ gives h) where
    head_clear : (of_head ≡ none) × (head_of head ≡ h)
    unfolding headReading.read_head
    head_clear = no_refusal of_head (head_of head) h read

    pub tags-refused : (why : Refusal) → retold tagsReading.comment_count (tagsReading.read_tags tags) ≡ refuses (number_of why)
        → Wrote head tags out (Err why) out
    unfolding tagsReading.read_tags
    tags-refused why e =
        let clear = head_clear.0 in
        record {
          told = second-told out [] (length (text_of head tags)) (number_of why) (tags_of tags) of_tags room e
              ∙ ap (λ (o : Option Refusal). decided (or_else (or_else o of_tags) room) (length (text_of head tags))) (sym clear)
              ∙ sym told-by;
          output = second_out out (pieces_of head tags) 0 (number_of why) (tags_of tags) of_tags e
              ∙ ap (λ (o : Option Refusal). laid_in (or_else o of_tags) out (pieces_of head tags)) (sym clear)
              ∙ sym out_by;
        }

    clear : of_tags ≡ none → or_else of_head of_tags ≡ none
    clear e = rw (head_clear.0, e)

    same-matrix : (m : Bytes) → m ≡ matrix_in (headReading.read_matrix head) → m ≡ matrix_of head
    unfolding headReading.read_matrix
    same-matrix m e = e ∙ ap (λ (o : Option Refusal). matrix_in (decided o (matrix_of head))) head_clear.0

    same_pieces : (m : Bytes) (n : ℕ) → m ≡ matrix_in (headReading.read_matrix head) → is_tags tags ≡ true
        → tagsReading.comment_count (tags_of tags) ≡ n → both_found h m tags n ≡ pieces_of head tags
    unfolding header_pieces
    same_pieces m n em right count = rw (same-matrix m em, ← head_clear.1, found-tags tags n right count)

    pub both_read : (m : Bytes) (n : ℕ) (r : Result ℕ Refusal) (end : Bytes) → m ≡ matrix_in (headReading.read_matrix head)
        → retold tagsReading.comment_count (tagsReading.read_tags tags) ≡ gives n
        → BothPut (lay_all (begun out) (both_found h m tags n)) r end → Wrote head tags out r end
    unfolding tagsReading.read_tags
    both_read m n r end em en put =
        let tags_clear = counted of_tags (tags_of tags) n en in
        let right = not-false (is_tags tags) (passed _ _ _ tags_clear.0).0 in
        let pieces : both_found h m tags n ≡ pieces_of head tags = same_pieces m n em right tags_clear.1 in
        record {
          told = put.told ∙ ap (λ (ss : List Bytes). told_laid (lay_all (begun out) ss)) pieces
              ∙ told-laid out (pieces_of head tags)
              ∙ ap (λ (o : Option Refusal). decided (or_else o room) (length (text_of head tags))) (sym (clear tags_clear.0))
              ∙ sym told-by;
          output = put.output ∙ ap (λ (ss : List Bytes). (lay_all (begun out) ss).buffer) pieces
              ∙ ap (λ (o : Option Refusal). laid_in o out (pieces_of head tags)) (sym (clear tags_clear.0))
              ∙ sym out_by;
        }

-- ---- the whole text

both-none : (a b : Option Refusal) → or_else a b ≡ none → (a ≡ none) × (b ≡ none)
both-none none b e = (refl, e)
both-none (some r) b e = let no : ◌≡◌ {A = ℕ} 0 1 = cc in absurd (omega arith)

pub writes_text : WritesText
writes_text head tags out n e =
    let ss : List Bytes = pieces_of head tags in
    let size : ℕ = length (text_of head tags) in
    let read = or_else (of_head head tags out) (of_tags head tags out) in
    let clear = (no_refusal (or_else read (room head tags out)) size n (sym (told-by head tags out) ∙ e)).0 in
    let parts = both-none read (room head tags out) clear in
    let fits : size ≤ length out = ltb-false (length out) size (passed _ _ _ parts.1).0 in
    let all = all-fit out ss ∙ le-leb size (length out) fits in
    out_by head tags out ∙ ap (λ (o : Option Refusal). laid_in o out ss) parts.0 ∙ (whole-text out ss all).buffer
