-- A whole stream has two pages more than records at least: its first page and one of the comment header have none. Assumes
-- nothing.
use Prim.Native.Nat.{ℕ, ◌+◌, ◌≤◌}
use mathlib.Core.Path.{◌≡◌, refl}
use mathlib.Core.Bool.{Bool, true, false}
use mathlib.Core.List.{List, [], ◌∷◌}
use native.Mathlib.Omega.{arith}
use borrow.Author.Tests.{le-ltb}
use lib.ListN.{length}
use Rattle.octets.specs.Pick.{pick}
use Rattle.octets.specs.Octets.{Bytes}
use Rattle.refusal.specs.Told.{gives}
use Rattle.stream.specs.Page.{page_of, completes}
use Rattle.stream.specs.Readings.{Readings}
use Rattle.stream.specs.State.{in_headers}
use Rattle.stream.specs.Stream.{after_comment, audio_pages, ended_after, audio_phase, comment_phase, phase_of}
use Rattle.recording.specs.Pages.{pages_of}
use Rattle.recording.specs.Judging.{whole, judge_buffer}
use Rattle.recording.proofs.Streams.{whole_is}
use Rattle.index_walk.specs.Records.{PlacedPage, placed_from, record_of, records_of, index_of}
use Rattle.index_builder.specs.Building.{fitting}

abbrev bytes_in : PlacedPage → Bytes
bytes_in x = x.bytes

placed-length : (at : ℕ) (S : List Bytes) → length (placed_from at S) ≡ length S
unfolding placed_from
placed-length at [] = refl
placed-length at (b ∷ bs) = let e = placed-length (at + length b) bs in omega arith

no_more-records : (xs : List PlacedPage) → length (records_of xs) ≤ length xs
unfolding records_of
no_more-records [] = omega arith
no_more-records (x ∷ xs) = by (completes (page_of x.bytes)) (no_more-records xs)
  where
    by : (done : Bool) → length (records_of xs) ≤ length xs
        → length (pick done (record_of x ∷ records_of xs) (records_of xs)) ≤ length (x ∷ xs)
    by true h = omega arith
    by false h = omega arith

not-false : {A : Type 0} → true ≡ false → A
not-false e = let z : ◌≡◌ {A = ℕ} 0 1 = cc in absurd (omega arith)

-- after the first page
after-comment : (at : ℕ) (S : List Bytes) → in_headers (comment_phase S) ≡ false
    → length (after_comment bytes_in (placed_from at S)) + 1 ≤ length S
unfolding comment_phase after_comment placed_from
after-comment at [] h = not-false h
after-comment at (b ∷ bs) h =
    by (completes (page_of b)) (after-comment (at + length b) bs) (placed-length (at + length b) bs) h
  where
    by : (done : Bool)
        → (in_headers (comment_phase bs) ≡ false → length (after_comment bytes_in (placed_from (at + length b) bs)) + 1 ≤ length bs)
        → length (placed_from (at + length b) bs) ≡ length bs
        → in_headers (pick done (audio_phase (ended_after false bs)) (comment_phase bs)) ≡ false
        → length (pick done (placed_from (at + length b) bs) (after_comment bytes_in (placed_from (at + length b) bs))) + 1
        ≤ length (b ∷ bs)
    by true later same h = omega (arith, same)
    by false later same h = omega (arith, later h)

-- of all pages
audio-pages : (S : List Bytes) → in_headers (phase_of S) ≡ false → length (audio_pages bytes_in (placed_from 0 S)) + 2 ≤ length S
unfolding phase_of audio_pages placed_from
audio-pages [] h = not-false h
audio-pages (b ∷ bs) h = omega (arith, after-comment (0 + length b) bs h)

pub records-fit : (R : Readings) (b : Bytes) (pages packets : ℕ) → judge_buffer R b ≡ whole pages packets
    → length (index_of (pages_of b)) + 2 ≤ pages
unfolding index_of
records-fit R b pages packets e =
    let is = whole_is R (pages_of b) pages packets e in
    omega
    (arith, is.1, audio-pages (pages_of b) is.0.headed, no_more-records (audio_pages bytes_in (placed_from 0 (pages_of b))))

-- where the pages are no more than the places and two, the records fit
pub surely_fits : (n pages room : ℕ) → n + 2 ≤ pages → pages ≤ room + 2 → gives n ≡ fitting n room
surely_fits n pages room few enough = rw (le-ltb room n (omega arith))
