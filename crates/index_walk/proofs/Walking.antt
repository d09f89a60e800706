-- A turn of the walk: what is left makes the same index. Assumes nothing.
use Rattle.std.proofs.Common.{◌≡◌, ℕ, ◌+◌, ◌-◌, ◌^◌, ◌<◌, ◌≤◌, Bool, true, false, List, [], ◌∷◌, length, drop, refl, ap, ◌∙◌, arith, drop_of_length-le}
use Rattle.octets.specs.Pick.{pick}
use Rattle.octets.specs.Octets.{Bytes}
use Rattle.stream.specs.Page.{page_of, completes}
use Rattle.stream.specs.Stream.{after_comment, audio_pages}
use Rattle.recording.specs.Pages.{pages_of}
use Rattle.recording.proofs.Places.{no_pages}
use Rattle.recording_pages.specs.Places.{page_at}
use Rattle.recording_pages.proofs.Pages.{front}
use Rattle.index_search.specs.Index.{Index}
use Rattle.index_walk.specs.declared.Due.{Due}
use Rattle.index_walk.specs.declared.Due.TheVariants.{Head, Comment, Audio}
use Rattle.index_walk.specs.declared.Walk.{Walk}
use Rattle.index_walk.specs.Records.{placed_from, record_of, records_of, index_of}
use Rattle.index_walk.specs.Walk.{due_after, is_recorded, nowhere, next_of, begun_at, index_from}

-- the records that are left at a place of the buffer b
abbrev pub left_at : Bytes → Walk → Index
left_at b w = index_from w.due w.at (pages_of (drop w.at b))

-- one page and those after it
one-page : (due : Due) (at : ℕ) (p : Bytes) (S : List Bytes) (done : Bool) → completes (page_of p) ≡ done
    → index_from due at (p ∷ S)
    ≡ pick (is_recorded due done)
    (record_of (record { place = at; bytes = p }) ∷ index_from (due_after due done) (at + length p) S)
    (index_from (due_after due done) (at + length p) S)
unfolding index_from records_of placed_from after_comment audio_pages
one-page Head at p S done e = refl
one-page Comment at p S true e = rw e
one-page Comment at p S false e = rw e
one-page Audio at p S done e = rw e

-- at the end nothing is left
pub nothing_left : (b : Bytes) (w : Walk) → length b ≤ w.at → left_at b w ≡ []
unfolding index_from records_of placed_from after_comment audio_pages
nothing_left b w h = rw (drop_of_length-le b h, no_pages) (by w.due)
  where
    by : (due : Due) → index_from due w.at [] ≡ []
    by Head = refl
    by Comment = refl
    by Audio = refl

-- at the beginning all is
pub all_left : (b : Bytes) → left_at b (begun_at 0) ≡ index_of (pages_of b)
unfolding index_from index_of
all_left b = refl

-- ---- one turn

-- a turn of the walk over b makes a record, or none
pub data Turned (b : Bytes) (w : Walk) : Type 0 where
  makes : (next_of b w).slot ≡ w.count → (next_of b w).count ≡ w.count + 1 → left_at b w ≡ (next_of b w).made ∷ left_at b (next_of b w)
      → Turned b w
  passes : (next_of b w).slot ≡ nowhere → (next_of b w).count ≡ w.count → left_at b w ≡ left_at b (next_of b w) → Turned b w

module _ (b : Bytes) (w : Walk) (more : w.at < length b) where
  pub moves : w.at < (next_of b w).at
  unfolding next_of
  moves = omega (arith, (front b w.at more).moves)

  pub stays : (next_of b w).at ≤ length b
  unfolding next_of
  stays = (front b w.at more).inside

  pub nearer : length b - (next_of b w).at < length b - w.at
  nearer = omega (arith, moves, stays)

  abbrev page : Bytes
  page = page_at b w.at

  left : (made : Bool) → is_recorded w.due (completes (page_of page)) ≡ made
      → left_at b w ≡ pick made ((next_of b w).made ∷ left_at b (next_of b w)) (left_at b (next_of b w))
  unfolding next_of
  left made e =
      ap (index_from w.due w.at) (front b w.at more).pages
      ∙ one-page w.due w.at page (pages_of (drop (w.at + length page) b)) (completes (page_of page)) refl
      ∙ rw e

  by : (made : Bool) → is_recorded w.due (completes (page_of page)) ≡ made → length b < 2 ^ 64 → w.count ≤ w.at → Turned b w
  unfolding next_of
  by true e fits few = makes (rw e) (rw e (omega arith)) (left true e)
  by false e fits few = passes (rw e) (rw e) (left false e)

  pub turned : length b < 2 ^ 64 → w.count ≤ w.at → Turned b w
  turned = by (is_recorded w.due (completes (page_of page))) refl

-- ---- how far it has come

-- w is a walk over b that has made some of n records
pub record Counts (b : Bytes) (n : ℕ) (w : Walk) : Type 0 where
  pub inside : w.at ≤ length b
  pub few : w.count ≤ w.at
  pub sum : w.count + length (left_at b w) ≡ n

pub counts_on_lem : (b : Bytes) (n : ℕ) (w : Walk) → w.at < length b → length b < 2 ^ 64 → Counts b n w → Counts b n (next_of b w)
counts_on_lem b n w more fits g = by (turned b w more fits g.few)
  where
    by : Turned b w → Counts b n (next_of b w)
    by (makes slot count left) = record {
      inside = stays b w more;
      few = omega (arith, g.few, moves b w more);
      sum = omega (arith, g.sum, ap length left);
    }
    by (passes slot count left) = record {
      inside = stays b w more;
      few = omega (arith, g.few, moves b w more);
      sum = omega (arith, g.sum, ap length left);
    }
