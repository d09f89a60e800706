-- The walk over all comments decides whether the bytes are a comment header, and finds comment i on its way. Assumes nothing.
use Rattle.std.specs.Prelude.{Option, Some, None}
use Rattle.std.specs.Option.{is_some}
use mathlib.Core.Path.{◌≡◌, refl, sym, ap, ◌∙◌}
use mathlib.Core.Bool.{Bool, true, false, ◌&&◌, ◌||◌}
use Prim.Native.Nat.{ℕ, zero, suc, ◌+◌, ◌≤◌, ◌<◌}
use native.Mathlib.Nat.{zero-add, suc-add}
use native.Mathlib.Omega.{arith}
use borrow.Author.Tests.{le-leb, lt-leb}
use lib.Dec.{leb}
use lib.ListN.{length}
use Rattle.octets.specs.Pick.{pick}
use Rattle.octets.specs.Octets.{Bytes, begins}
use Rattle.utf8.specs.Characters.{utf8}
use Rattle.tags_comment.specs.Names.{is_named}
use Rattle.tags_rules.specs.Right.{track_gain, album_gain, right_comments}
use Rattle.tags_rules.specs.Code.{wrong, seen, goes_on, judged, right_from}
use Rattle.tags_rules.proofs.Counting.{and-false, judging_tells}
use Rattle.tags_layout.specs.Layout.{signature, part_at, next_place, fits_at, bytes_of, all_fit, texts_from, place_after, vendor_place, vendor_part, count_of, first_place, is_laid_out, tags_of}
use Rattle.tags_reader.specs.declared.Walk.{Walk}
use Rattle.tags_reader.specs.Right.{right_tags, is_tags}
use Rattle.tags_reader.specs.Code.{onward, stepped, walked, starts_right, begun, place_in}
use Rattle.tags_reader.proofs.Walking.{walked-wrong}

-- ---- up to the first comment

module _ (b : Bytes) where
  pub no_signature : begins signature b ≡ false → begun b ≡ None
  unfolding begun starts_right
  no_signature e = rw e

  module _ (starts : begins signature b ≡ true) where
    pub no_vendor : fits_at b vendor_place ≡ false → begun b ≡ None
    unfolding begun starts_right
    no_vendor e = rw (starts, e)

    module _ (fits : fits_at b vendor_place ≡ true) where
      pub no_characters : utf8 (bytes_of b (vendor_part b)) ≡ false → begun b ≡ None
      unfolding begun starts_right
      no_characters e = rw (starts, fits, e)

      module _ (right : utf8 (bytes_of b (vendor_part b)) ≡ true) where
        pub no_count : length b < first_place b → begun b ≡ None
        unfolding begun starts_right
        no_count h = rw (starts, fits, right, lt-leb (first_place b) (length b) h)

        pub at_first : first_place b ≤ length b → begun b ≡ (Some (record { at = (first_place b); track = false; album = false }))
        unfolding begun starts_right
        at_first h = rw (starts, fits, right, le-leb (first_place b) (length b) h)

-- ---- over n comments

wrong_stays : (b : Bytes) (n : ℕ) → is_some (walked b n None) ≡ false
wrong_stays b n = ap (λ (w : Option Walk). is_some w) (walked-wrong b n)

-- one step more, where the rest is known
module _ (b : Bytes) (n at : ℕ) (t a : Bool) where
  abbrev c : Bytes
  c = bytes_of b (part_at b at)

  abbrev rest : Option Walk
  rest = (Some (record { at = (next_place b at); track = (t || is_named track_gain c); album = (a || is_named album_gain c) }))

  abbrev rest_test : Bool
  rest_test = all_fit b n (next_place b at) && right_from (t || is_named track_gain c) (a || is_named album_gain c) (texts_from b n (next_place b at))

  -- the comment is right and no gain a second time, or not
  decide : (g : Bool) → goes_on c t a ≡ g → is_some (walked b n rest) ≡ rest_test
      → is_some (walked b n (onward b at (judged c t a))) ≡ (all_fit b n (next_place b at) && right_from t a (texts_from b (suc n) at))
  unfolding judged texts_from right_from
  decide false e h = rw e (wrong_stays b n ∙ sym (and-false (all_fit b n (next_place b at))))
  decide true e h = rw e h

  more : (f : Bool) → fits_at b at ≡ f → is_some (walked b n rest) ≡ rest_test
      → is_some (walked b (suc n) (Some (record { at = at; track = t; album = a }))) ≡ (all_fit b (suc n) at && right_from t a (texts_from b (suc n) at))
  unfolding walked stepped all_fit
  more false e h = rw e (wrong_stays b n)
  more true e h = rw e (decide (goes_on c t a) refl h)

walk_decides : (b : Bytes) (n at : ℕ) (t a : Bool) → is_some (walked b n (Some (record { at = at; track = t; album = a }))) ≡ (all_fit b n at && right_from t a (texts_from b n at))
unfolding walked all_fit right_from texts_from
walk_decides b zero at t a = refl
walk_decides b (suc n) at t a =
    let c = bytes_of b (part_at b at) in
    more b n at t a (fits_at b at) refl
    (walk_decides b n (next_place b at) (t || is_named track_gain c) (a || is_named album_gain c))

-- ---- over all comments

-- the walk tests the vendor before what follows it
reordered : (s f u r a c : Bool) → (s && (f && (u && r))) && (a && c) ≡ (s && (f && (r && a))) && (u && c)
reordered false f u r a c = refl
reordered true false u r a c = refl
reordered true true false r a c = sym (and-false (r && a))
reordered true true true false a c = refl
reordered true true true true a c = refl

from_start : (b : Bytes) (n : ℕ) (t : Bool) → starts_right b ≡ t
    → is_some (walked b n (begun b)) ≡ (starts_right b && is_some (walked b n (Some (record { at = (first_place b); track = false; album = false }))))
unfolding begun
from_start b n true e = rw e
from_start b n false e = rw e (wrong_stays b n)

pub walk_is_tags : (b : Bytes) → is_some (walked b (count_of b) (begun b)) ≡ is_tags b
unfolding starts_right is_tags is_laid_out right_tags tags_of
walk_is_tags b =
    let n : ℕ = count_of b in
    let first : ℕ = first_place b in
    from_start b n (starts_right b) refl
    ∙ ap (λ (t : Bool). starts_right b && t)
    (walk_decides b n first false false ∙ ap (λ (t : Bool). all_fit b n first && t) (judging_tells (texts_from b n first)))
    ∙ reordered (begins signature b) (fits_at b vendor_place) (utf8 (bytes_of b (vendor_part b))) (leb first (length b)) (all_fit b n first)
    (right_comments (texts_from b n first))

-- ---- comment i on the way

-- the first k comments, then j more
pub walk_plus : (b : Bytes) (k j : ℕ) (w : Option Walk) → walked b (k + j) w ≡ walked b j (walked b k w)
unfolding walked
walk_plus b zero j w = rw (zero-add j)
walk_plus b (suc k) j w = rw (suc-add k j) (walk_plus b k j (stepped b w))

not-wrong : (b : Bytes) (n : ℕ) → is_some (walked b n None) ≡ true → ⊥
not-wrong b n e = let z : false ≡ true = sym (wrong_stays b n) ∙ e in let no : ◌≡◌ {A = ℕ} 0 1 = cc in omega arith

-- where a walk goes on, it was right so far
pub still_right : (b : Bytes) (n : ℕ) (w : Option Walk) → is_some (walked b n w) ≡ true → is_some w ≡ true
still_right b n None e = absurd (not-wrong b n e)
still_right b n (Some w) e = refl

-- where it goes on by one more comment at least, a text fits
pub text-fits : (b : Bytes) (n : ℕ) (w : Option Walk) → is_some (walked b (suc n) w) ≡ true → fits_at b (place_in w) ≡ true
unfolding walked stepped
text-fits b n None e = absurd (not-wrong b n e)
text-fits b n (Some w) e = by (fits_at b w.at) refl
  where
    by : (f : Bool) → fits_at b w.at ≡ f → f ≡ true
    by true h = refl
    by false h = absurd (not-wrong b n (rw h at e))

-- the place of a walk that is still right: after one comment, after n
module _ (b : Bytes) (at : ℕ) (t a : Bool) where
  step_place : is_some (stepped b (Some (record { at = at; track = t; album = a }))) ≡ true → place_in (stepped b (Some (record { at = at; track = t; album = a }))) ≡ next_place b at
  unfolding stepped judged
  step_place = by (fits_at b at) (goes_on (bytes_of b (part_at b at)) t a)
    where
      by : (f g : Bool) → (let w = pick f (onward b at (pick g (seen (t || is_named track_gain (bytes_of b (part_at b at))) (a || is_named album_gain (bytes_of b (part_at b at)))) wrong)) None in is_some w ≡ true → place_in w ≡ next_place b at)
      by true true e = refl
      by true false e = let no : ◌≡◌ {A = ℕ} 0 1 = cc in absurd (omega arith)
      by false g e = let no : ◌≡◌ {A = ℕ} 0 1 = cc in absurd (omega arith)

  onward-place : (n : ℕ) (w : Option Walk) → stepped b (Some (record { at = at; track = t; album = a })) ≡ w → is_some (walked b n w) ≡ true
      → ((at' : ℕ) (t' a' : Bool) → is_some (walked b n (Some (record { at = at'; track = t'; album = a' }))) ≡ true → place_in (walked b n (Some (record { at = at'; track = t'; album = a' }))) ≡ place_after b n at')
      → place_in (walked b n w) ≡ place_after b n (next_place b at)
  onward-place n None h e later = absurd (not-wrong b n e)
  onward-place n (Some w) h e later =
      later w.at w.track w.album e ∙ ap (place_after b n) (sym (ap place_in h) ∙ step_place (ap (λ (w : Option Walk). is_some w) h))

place_after_lem : (b : Bytes) (n at : ℕ) (t a : Bool) → is_some (walked b n (Some (record { at = at; track = t; album = a }))) ≡ true → place_in (walked b n (Some (record { at = at; track = t; album = a }))) ≡ place_after b n at
unfolding walked place_after
place_after_lem b zero at t a e = refl
place_after_lem b (suc n) at t a e = onward-place b at t a n (stepped b (Some (record { at = at; track = t; album = a }))) refl e (place_after_lem b n)

pub start-place : (b : Bytes) (n : ℕ) → is_some (walked b n (begun b)) ≡ true → place_in (walked b n (begun b)) ≡ place_after b n (first_place b)
unfolding begun
start-place b n e = by (starts_right b) refl
  where
    by : (t : Bool) → starts_right b ≡ t → place_in (walked b n (begun b)) ≡ place_after b n (first_place b)
    by true h = rw h (place_after_lem b n (first_place b) false false (rw h at e))
    by false h = absurd (not-wrong b n (rw h at e))
