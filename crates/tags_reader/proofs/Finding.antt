-- Laws of what is read and found in a packet. Assumes nothing.
use Rattle.std.specs.Prelude.{Option as CodeOption, None}
use Rattle.std.specs.Option.{is_some}
use mathlib.Core.Path.{◌≡◌, refl, sym, ap, ◌∙◌}
use mathlib.Core.Bool.{Bool, true, false, ◌&&◌}
use mathlib.Core.Option.{Option, none, some}
use Prim.Native.Nat.{ℕ, zero, suc, ◌+◌, ◌-◌, ◌≤◌, ◌<◌}
use native.Mathlib.Omega.{arith}
use borrow.Author.Tests.{le-leb, lt-leb}
use lib.Dec.{leb}
use lib.ListN.{length}
use Rattle.octets.specs.Octets.{Bytes, begins}
use Rattle.octets.proofs.Tests.{both}
use Rattle.refusal.specs.declared.Refusal.{Refusal}
use Rattle.refusal.specs.declared.Refusal.TheVariants.{BadTags, NoSuchPart}
use Rattle.refusal.specs.Numbers.{number_of}
use Rattle.refusal.specs.Checks.{first_of, or_else}
use Rattle.refusal.specs.Told.{gives, refuses, decided, retold}
use Rattle.refusal.proofs.Checks.{first_of-append, no_refusal}
use Rattle.tags_comment.specs.Names.{value_of}
use Rattle.tags_comment.specs.Gain.{gain_of, gain_checks, comment_gain}
use Rattle.tags_layout.specs.declared.Part.{Part}
use Rattle.tags_layout.specs.Layout.{signature, part_at, fits_at, bytes_of, all_fit, texts_from, place_after, vendor_place, count_of, first_place, next_place, is_laid_out, tags_of}
use Rattle.tags_layout.specs.Finding.{find_text}
use Rattle.tags_reader.specs.declared.Walk.{Walk}
use Rattle.tags_reader.specs.Right.{right_tags, is_tags}
use Rattle.tags_reader.specs.Reading.{read_tags, comment_count, find_vendor, find_checks, comment_part, find_comment, comment_of, read_gain}
use Rattle.tags_reader.specs.Code.{walked, begun, place_in}
use Rattle.tags_reader.proofs.Walking.{walked-wrong}
use Rattle.tags_reader.proofs.Checking.{walk_is_tags, walk_plus, still_right, text-fits, start-place}

-- ---- a packet that is no comment header

module _ (b : Bytes) (wrong : is_tags b ≡ false) where
  pub not-read : retold comment_count (read_tags b) ≡ refuses (number_of BadTags)
  unfolding read_tags first_of
  not-read = rw wrong

  pub no_vendor : find_vendor b ≡ refuses (number_of BadTags)
  unfolding find_vendor first_of
  no_vendor = rw wrong

  pub not_found : (i : ℕ) → find_comment b i ≡ refuses (number_of BadTags)
  unfolding find_comment first_of
  not_found i = rw wrong

-- ---- a packet that is one

pub length_texts : (b : Bytes) (n at : ℕ) → length (texts_from b n at) ≡ n
unfolding texts_from
length_texts b zero at = refl
length_texts b (suc n) at = ap suc (length_texts b n (next_place b at))

vendor-fits : (b : Bytes) → is_tags b ≡ true → fits_at b vendor_place ≡ true
unfolding is_tags is_laid_out
vendor-fits b e =
    let laid = (both (is_laid_out b) (right_tags (tags_of b)) e).0 in
    let rest : Bool = leb (first_place b) (length b) && all_fit b (count_of b) (first_place b) in
    (both (fits_at b vendor_place) rest (both (begins signature b) (fits_at b vendor_place && rest) laid).1).0

module _ (b : Bytes) (right : is_tags b ≡ true) where
  pub count-read : (n : ℕ) → n ≡ count_of b → gives n ≡ retold comment_count (read_tags b)
  unfolding read_tags first_of tags_of
  count-read n e = rw right (ap gives (e ∙ sym (length_texts b (count_of b) (first_place b))))

  pub vendor-found : find_text b vendor_place ≡ find_vendor b
  unfolding find_text find_vendor first_of
  vendor-found = rw (right, vendor-fits b right)

  pub no_such_comment : (i : ℕ) → count_of b ≤ i → find_comment b i ≡ refuses (number_of NoSuchPart)
  unfolding find_comment first_of
  no_such_comment i h = rw (right, le-leb (count_of b) i h)

-- ---- comment i: a walk to it, and one to the end

module _ (b : Bytes) (n k : ℕ) (start here end : CodeOption Walk) (count : n ≡ count_of b) (at-start : start ≡ begun b) (at_here : here ≡ walked b k start)
    (at_end_lem : end ≡ walked b (n - k) here) where
  pub end_decides : k ≤ n → is_some end ≡ is_tags b
  end_decides h =
      let whole : k + (n - k) ≡ count_of b = omega (arith, count) in
      let all : end ≡ walked b (count_of b) (begun b) =
      (at_end_lem ∙ ap (walked b (n - k)) at_here ∙ sym (walk_plus b k (n - k) start) ∙ ap (λ (m : ℕ). walked b m start) whole ∙ ap (walked b (count_of b)) at-start) in
      ap (λ (w : CodeOption Walk). is_some w) all ∙ walk_is_tags b

  pub comment-found : k < n → is_tags b ≡ true → is_some end ≡ true → find_text b (place_in here) ≡ find_comment b k
  unfolding find_text find_comment first_of
  comment-found h right goes =
      let more : n - k ≡ suc (n - k - 1) = omega arith in
      let to_end : is_some (walked b (suc (n - k - 1)) here) ≡ true = rw (at_end_lem, more) at goes in
      let fits : fits_at b (place_in here) ≡ true = text-fits b (n - k - 1) here to_end in
      let place : place_in here ≡ place_after b k (first_place b) =
      (ap place_in (at_here ∙ ap (walked b k) at-start)
      ∙ start-place b k (sym (ap (λ (w : CodeOption Walk). is_some w) (at_here ∙ ap (walked b k) at-start)) ∙ still_right b (suc (n - k - 1)) here to_end)) in
      rw (right, fits, lt-leb (count_of b) k (omega (arith, count))) (ap (λ (at : ℕ). gives (part_at b at)) place)

-- no walk, up to the first comment or to comment k
module _ (b : Bytes) where
  pub none-begun : None ≡ begun b → false ≡ is_tags b
  unfolding walked
  none-begun e = end_decides b (count_of b) 0 None None None refl e refl (sym (walked-wrong b (count_of b - 0))) (omega arith)

  pub none-there : (n k : ℕ) (start : CodeOption Walk) → n ≡ count_of b → start ≡ begun b → None ≡ walked b k start → k ≤ n → false ≡ is_tags b
  none-there n k start count s h l = end_decides b n k start None None count s h (sym (walked-wrong b (n - k))) l

-- ---- the gain in it

abbrev found : Bytes → ℕ → Option Refusal
found b i = first_of (find_checks b i)

told-gain : (b : Bytes) (i : ℕ)
    → read_gain b i ≡ decided (or_else (found b i) (first_of (gain_checks (comment_of b i)))) (gain_of (value_of (comment_of b i)))
unfolding read_gain
told-gain b i =
    ap (λ (o : Option Refusal). decided o (gain_of (value_of (comment_of b i)))) (first_of-append (find_checks b i) (gain_checks (comment_of b i)))

pub gain-refused : (b : Bytes) (i n : ℕ) → find_comment b i ≡ refuses n → read_gain b i ≡ refuses n
unfolding find_comment
gain-refused b i n e = told-gain b i ∙ by (found b i) e
  where
    by : (o : Option Refusal) → decided o (comment_part b i) ≡ refuses n
        → decided (or_else o (first_of (gain_checks (comment_of b i)))) (gain_of (value_of (comment_of b i))) ≡ refuses n
    by none e = let no : ◌≡◌ {A = ℕ} 0 1 = cc in absurd (omega arith)
    by (some r) e = cc

pub gain-found : (b : Bytes) (i : ℕ) (p : Part) → find_comment b i ≡ gives p → read_gain b i ≡ comment_gain (bytes_of b p)
unfolding find_comment comment_gain
gain-found b i p e =
    let passed = no_refusal (found b i) (comment_part b i) p e in
    told-gain b i ∙ rw (passed.0, ← passed.1)
