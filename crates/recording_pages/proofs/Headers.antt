-- The pages of the headers: the first, and those up to the one that completes the comment packet. Assumes nothing.
use Prim.Native.Nat.{ℕ, suc, ◌-◌, ◌≤◌}
use mathlib.Core.Path.{◌≡◌}
use mathlib.Core.Bool.{Bool, true, false}
use mathlib.Core.List.{List, [], ◌∷◌}
use native.Mathlib.Omega.{arith}
use lib.ListN.{length}
use Rattle.octets.specs.Pick.{pick}
use Rattle.octets.specs.Octets.{Bytes}
use Rattle.stream.specs.Page.{page_of, completes}
use Rattle.stream.specs.Stream.{after_comment, audio_pages}
use Rattle.recording_pages.specs.Places.{header_count}

abbrev pub itself : Bytes → Bytes
itself b = b

pub after-short : (bs : List Bytes) → length (after_comment itself bs) ≤ length bs
unfolding after_comment
after-short [] = omega arith
after-short (b ∷ bs) = by (completes (page_of b)) (after-short bs)
  where
    by : (t : Bool) → length (after_comment itself bs) ≤ length bs → length (pick t bs (after_comment itself bs)) ≤ suc (length bs)
    by true h = omega arith
    by false h = omega arith

-- the pages of the comment packet, of those after the first
abbrev pub comment_count : List Bytes → ℕ
comment_count bs = length bs - length (after_comment itself bs)

pub count_none : comment_count [] ≡ 0
unfolding after_comment
count_none = omega arith

pub count-done : (b : Bytes) (bs : List Bytes) → completes (page_of b) ≡ true → comment_count (b ∷ bs) ≡ 1
unfolding after_comment
count-done b bs e = rw e (omega arith)

pub count_on : (b : Bytes) (bs : List Bytes) → completes (page_of b) ≡ false → comment_count (b ∷ bs) ≡ suc (comment_count bs)
unfolding after_comment
count_on b bs e = rw e (omega (arith, after-short bs))

pub header-none : header_count [] ≡ 0
unfolding header_count audio_pages
header-none = omega arith

pub header-first : (b : Bytes) (bs : List Bytes) → header_count (b ∷ bs) ≡ suc (comment_count bs)
unfolding header_count audio_pages
header-first b bs = omega (arith, after-short bs)

pub header-few : (S : List Bytes) → header_count S ≤ length S
unfolding header_count
header-few S = omega arith
