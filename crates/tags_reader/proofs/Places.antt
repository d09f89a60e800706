-- Where the parts of a packet lie that was read. Assumes nothing.
use mathlib.Core.Path.{◌≡◌, refl, ap}
use mathlib.Core.Bool.{Bool, true, not, ◌&&◌}
use mathlib.Core.List.{[]}
use Prim.Native.Nat.{ℕ, zero, suc, ◌≤◌, ◌<◌}
use native.Mathlib.Nat.{not-suc-le-zero, le_of_suc-le-suc, le_refl, eq-or-lt_of_le}
use native.Mathlib.Omega.{arith}
use borrow.Author.Tests.{leb-true, lt-leb, not-false}
use mathlib.Core.Logic.{⊎_elim}
use lib.Dec.{leb}
use lib.ListN.{length, get_or}
use Rattle.octets.specs.Octets.{Bytes, begins}
use Rattle.octets.proofs.Tests.{both}
use Rattle.refusal.specs.declared.Refusal.TheVariants.{BadTags}
use Rattle.refusal.specs.Checks.{first_of}
use Rattle.refusal.specs.Told.{gives}
use Rattle.refusal.proofs.Checks.{passed, no_refusal}
use Rattle.tags_layout.specs.Layout.{Tags, signature, part_at, next_place, fits_at, bytes_of, all_fit, texts_from, place_after, vendor_place, count_of, first_place, comment_place, is_laid_out, tags_of}
use Rattle.tags_layout.specs.Finding.{find_text}
use Rattle.tags_layout.proofs.Fitting.{inside}
use Rattle.tags_reader.specs.Right.{right_tags, is_tags}
use Rattle.tags_reader.specs.Reading.{read_checks, read_tags, find_comment}
use Rattle.tags_reader.specs.Statements.{PartsApart, ListingFinds}
use Rattle.tags_reader.proofs.Finding.{length_texts}

-- ---- n texts from a place on

fits-there : (b : Bytes) (n i at : ℕ) → i < n → all_fit b n at ≡ true → fits_at b (place_after b i at) ≡ true
unfolding all_fit place_after
fits-there b zero i at h e = absurd (not-suc-le-zero h)
fits-there b (suc n) zero at h e = (both (fits_at b at) (all_fit b n (next_place b at)) e).0
fits-there b (suc n) (suc i) at h e =
    fits-there b n i (next_place b at) (le_of_suc-le-suc h) (both (fits_at b at) (all_fit b n (next_place b at)) e).1

text-there : (b : Bytes) (n i at : ℕ) → i < n → bytes_of b (part_at b (place_after b i at)) ≡ get_or (texts_from b n at) i []
unfolding texts_from place_after
text-there b zero i at h = absurd (not-suc-le-zero h)
text-there b (suc n) zero at h = refl
text-there b (suc n) (suc i) at h = text-there b n i (next_place b at) (le_of_suc-le-suc h)

one_more : (b : Bytes) (i at : ℕ) → place_after b (suc i) at ≡ next_place b (place_after b i at)
unfolding place_after
one_more b zero at = refl
one_more b (suc i) at = one_more b i (next_place b at)

not-before : (b : Bytes) (i at : ℕ) → at ≤ place_after b i at
unfolding place_after
not-before b zero at = le_refl at
not-before b (suc i) at = omega (arith, not-before b i (next_place b at))

in_order_lem : (b : Bytes) (i j at : ℕ) → i < j → next_place b (place_after b i at) ≤ place_after b j at
in_order_lem b i zero at h = absurd (not-suc-le-zero h)
in_order_lem b i (suc j) at h =
    ⊎_elim
    (λ e. omega (arith, one_more b j at, ap (λ (k : ℕ). next_place b (place_after b k at)) e))
    (λ l. omega (arith, one_more b j at, in_order_lem b i j at l))
    (eq-or-lt_of_le (le_of_suc-le-suc h))

-- ---- the packet

-- what is known of a packet that was read
pub record Read (b : Bytes) (t : Tags) : Type 0 where
  pub right : is_tags b ≡ true
  pub value : tags_of b ≡ t
  pub starts : begins signature b ≡ true
  pub vendor : fits_at b vendor_place ≡ true
  pub counted : first_place b ≤ length b
  pub comments : all_fit b (count_of b) (first_place b) ≡ true

pub was_read : (b : Bytes) (t : Tags) → read_tags b ≡ gives t → Read b t
unfolding read_tags is_tags is_laid_out
was_read b t e =
    let told = no_refusal (first_of (read_checks b)) (tags_of b) t e in
    let right : is_tags b ≡ true = not-false (is_tags b) (passed BadTags (not (is_tags b)) [] told.0).0 in
    let all : Bool = all_fit b (count_of b) (first_place b) in
    let count : Bool = leb (first_place b) (length b) in
    let laid = (both (is_laid_out b) (right_tags (tags_of b)) right).0 in
    let one = both (begins signature b) (fits_at b vendor_place && (count && all)) laid in
    let two = both (fits_at b vendor_place) (count && all) one.1 in
    let three = both count all two.1 in
    record {
      right = right;
      value = told.1;
      starts = one.0;
      vendor = two.0;
      counted = leb-true (first_place b) (length b) three.0;
      comments = three.1;
    }

-- it has as many comments as it says
pub count_right : (b : Bytes) (t : Tags) → Read b t → length t.comments ≡ count_of b
unfolding tags_of
count_right b t r = rw (← r.value) (length_texts b (count_of b) (first_place b))

pub parts-apart : PartsApart
unfolding tags_of
parts-apart b t e =
    let r = was_read b t e in
    let n = count_right b t r in
    let first : ℕ = first_place b in
    record {
      vendor = rw (← r.value);
      vendor_inside = inside b vendor_place r.vendor;
      comment = λ i h. rw (← r.value) (text-there b (count_of b) i first (omega (arith, n)));
      comment_inside = λ i h. inside b (comment_place b i) (fits-there b (count_of b) i first (omega (arith, n)) r.comments);
      after_vendor = λ i h. omega (arith, not-before b i first);
      in_order = λ i j l h. omega (arith, in_order_lem b i j first l);
    }

pub listing_finds : ListingFinds
unfolding find_text find_comment first_of
listing_finds b t i e h =
    let r = was_read b t e in
    let few : i < count_of b = omega (arith, count_right b t r) in
    record {
      found = rw (r.right, fits-there b (count_of b) i (first_place b) few r.comments, lt-leb (count_of b) i few);
      next = one_more b i (first_place b);
    }
