-- The answers to C, by what the library tells. Assumes nothing.
use Rattle.std.specs.Prelude.{⊤, Result, Ok, Err}
use Rattle.std.specs.Prelude.{Result, Ok, Err}
use mathlib.Core.Path.{◌≡◌, refl, sym, ap, ◌∙◌}
use mathlib.Core.Bool.{Bool, true, false, not}
use mathlib.Core.List.{List, [], ◌∷◌}
use mathlib.Core.Option.{some}
use Prim.Native.Nat.{ℕ, ◌<◌}
use borrow.Author.Tests.{lt-ltb}
use lib.ListN.{length}
use Rattle.octets.specs.Octets.{Bytes}
use Rattle.refusal.specs.declared.Refusal.{Refusal}
use Rattle.refusal.specs.Numbers.{number_of}
use Rattle.refusal.specs.declared.Refusal.TheVariants.{UnfitFields}
use Rattle.refusal.specs.Checks.{◌when◌, first_of}
use Rattle.refusal.specs.Told.{Told, gives, refuses, retold, told}
use Rattle.page_crc.specs.Crc.{page_crc}
use Rattle.page_layout.specs.declared.PageHeader.{PageHeader}
use Rattle.page_lacing.specs.Lacing.{is_body}
use Rattle.page_layout.specs.Page.{lacing_of, body_of}
use Rattle.page_reader.specs.Reading.{read_page}
use Rattle.page_writer.specs.Writing.{write_checks, write_told as pageTold, write_out as page_out, Wrote as WrotePage}
use Rattle.head_fields.specs.declared.Head.{Head}
use Rattle.head_numbers.specs.Numbers.{head_numbers, fitting, head_from}
use Rattle.head_reader.specs.declared.HeadRead.{HeadRead}
use Rattle.head_reader.specs.Reading.{read_head, told_by, HeadIs}
use Rattle.head_writer.specs.Writing.{Wrote as WroteHead}
use Rattle.tags_writer.specs.Writing.{Wrote as WroteTags}
use Rattle.embulgri.specs.Answers.{Answered, Wrote, page_numbers, PageIn, PageOut, HeadIn, head_told, head_out, HeadLaid, TagsOut}

-- a call with one output, by what the code's answer tells
module _ {A : Type 0} {told by_code : Told A} (same : by_code ≡ told) {old : A} where
  pub answered : {a : A} → by_code ≡ gives a → Answered told 0 old a
  answered e = rw (← same, e) (record { answer = refl; output = refl })

  pub refused : {m n : ℕ} → by_code ≡ refuses m → n ≡ m → Answered told n old old
  refused e number = rw (← same, e, number) (record { answer = refl; output = refl })

-- a writer
module _ {told by_code : Told ℕ} (same : by_code ≡ told) {laid end : Bytes} (output : end ≡ laid) {old : ℕ} where
  pub wrote : {n : ℕ} → by_code ≡ gives n → Wrote told laid 0 end old n
  wrote e = rw (← same, e) (record { answer = refl; output = output; written = refl })

  pub unwritten : {m n : ℕ} → by_code ≡ refuses m → n ≡ m → Wrote told laid n end old old
  unwritten e number = rw (← same, e, number) (record { answer = refl; output = output; written = refl })

-- what is told of a page, as numbers
abbrev numbers_told : Bytes → Result PageHeader Refusal → Told (List ℕ)
numbers_told p r = retold (page_numbers p) (told r)

module _ (p : Bytes) (old : List ℕ) {r : Result PageHeader Refusal} (same : told r ≡ read_page page_crc p) where
  pub page-read : {h : PageHeader} {l b : Bytes} → l ≡ lacing_of p → b ≡ body_of p → r ≡ Ok h
      → PageIn p 0 old (h.flags ∷ h.granule ∷ h.serial ∷ h.sequence ∷ length l ∷ length b ∷ [])
  page-read el eb e = rw (el, eb) (answered (ap (retold (page_numbers p)) same) (ap (numbers_told p) e))

  pub page-refused : {why : Refusal} {n : ℕ} → r ≡ Err why → n ≡ number_of why → PageIn p n old old
  page-refused e number = refused (ap (retold (page_numbers p)) same) (ap (numbers_told p) e) number

module _ (h : PageHeader) (l b out : Bytes) (old : ℕ) where
  module _ {r : Result ℕ Refusal} {end : Bytes} (is : WrotePage h l b out r end) where
    pub page-written : {n : ℕ} → r ≡ Ok n → PageOut h l b 0 out end old n
    page-written e = wrote is.told is.output (ap told e)

    pub page_unwritten : {why : Refusal} {n : ℕ} → r ≡ Err why → n ≡ number_of why → PageOut h l b n out end old old
    page_unwritten e number = unwritten is.told is.output (ap told e) number

  -- flags above 7 are refused whatever else is wrong, since the checks before theirs give the same number
  flags_decide : 7 < h.flags → first_of (write_checks h l b (length out)) ≡ some UnfitFields
  unfolding first_of
  flags_decide f = rw (lt-ltb 7 h.flags f) (either (not (is_body l b)))
    where
      either : (s : Bool) → first_of (UnfitFields when s ∷ UnfitFields when true ∷ []) ≡ some UnfitFields
      either true = refl
      either false = refl

  pub flags-refused : 7 < h.flags → PageOut h l b (number_of UnfitFields) out out old old
  unfolding pageTold page_out
  flags-refused f = unwritten refl (rw (flags_decide f)) (rw (flags_decide f)) refl

-- what a reading of a header leaves, by its verdict
module _ (p : Bytes) (numbers places : List ℕ) (r : HeadRead) (is : HeadIs p r) where
  pub head_read : {f : List ℕ} → r.verdict ≡ Ok tt → f ≡ head_numbers r.head → HeadIn p 0 numbers f places r.head.mapping
  head_read v f =
      let e : read_head p ≡ gives r.head = sym is.told ∙ ap (λ (x : Result ⊤ Refusal). told_by x r.head) v in
      rw f (record { answer = rw e; numbers = rw e; places = rw e })

  pub head-refused : {why : Refusal} {n : ℕ} → r.verdict ≡ Err why → n ≡ number_of why → HeadIn p n numbers numbers places places
  head-refused v m =
      let e = sym is.told ∙ ap (λ (x : Result ⊤ Refusal). told_by x r.head) v in
      rw m (record { answer = rw e; numbers = rw e; places = rw e })

module _ (f places matrix out : Bytes) (old : ℕ) where
  pub numbers_unfit : fitting f ≡ false → HeadLaid f places matrix (number_of UnfitFields) out out old old
  unfolding head_told head_out
  numbers_unfit e = record { answer = rw e; output = rw e; written = rw e }

  module _ {h : Head} (from : h ≡ head_from f places) (fit : fitting f ≡ true)
      {r : Result ℕ Refusal} {end : Bytes} (is : WroteHead h matrix out r end) where
    -- what holds of the header holds of its numbers
    head-told : told r ≡ head_told f places matrix out
    unfolding head_told
    head-told = rw (fit, ← from) is.told

    output : end ≡ head_out f places matrix out
    unfolding head_out
    output = rw (fit, ← from) is.output

    pub head-written : {n : ℕ} → r ≡ Ok n → HeadLaid f places matrix 0 out end old n
    head-written e = wrote head-told output (ap told e)

    pub head_unwritten : {why : Refusal} {n : ℕ} → r ≡ Err why → n ≡ number_of why → HeadLaid f places matrix n out end old old
    head_unwritten e number = unwritten head-told output (ap told e) number

module _ (vendor text : Bytes) (ns : List ℕ) (out : Bytes) (old : ℕ) where
  module _ {r : Result ℕ Refusal} {end : Bytes} (is : WroteTags vendor text ns out r end) where
    pub tags-written : {n : ℕ} → r ≡ Ok n → TagsOut vendor text ns 0 out end old n
    tags-written e = wrote is.told is.output (ap told e)

    pub tags_unwritten : {why : Refusal} {n : ℕ} → r ≡ Err why → n ≡ number_of why → TagsOut vendor text ns n out end old old
    tags_unwritten e number = unwritten is.told is.output (ap told e) number
