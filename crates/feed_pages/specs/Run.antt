-- The pages of a buffer fed one by one, each with the parts of the four lists past the places already filled. A run stops at a
-- refusal, at a page that the buffer's end cuts, or where fewer than 255 places are left (RULES.md, 7, for each page). Assumes
-- nothing.
use Rattle.std.specs.Prelude.{ℕ, zero, suc, ◌+◌, ◌-◌, ◌≤◌, Bool, ◌++◌, length, take, drop}
use Rattle.std.proofs.Math.Option.{Option, none, some}
use Rattle.octets.specs.Pick.{pick}
use Rattle.octets.specs.Octets.{Bytes}
use Rattle.refusal.specs.Told.{Told, gives, refuses}
use Rattle.page_end.specs.End.{end_at}
use Rattle.stream.specs.Readings.{Readings}
use Rattle.stream.specs.Feed.{Reader, Taken, Fed, feed}
use Rattle.stream.specs.Lent.{Lent, lent_of, short_lists}

-- ---- the lent memory

-- fewer than 255 places are left where n are filled
unfoldable pub is_full : ℕ → Lent → Bool
is_full n m =
    short_lists (length m.ends - n) (length m.lengths - n) (length m.kept - n) (length m.frames - n)

-- the lists past the n places filled
abbrev pub past : ℕ → Lent → Lent
past n m = lent_of m.carry (drop n m.ends) (drop n m.lengths) (drop n m.kept) (drop n m.frames)

-- the whole lists again, e being what a feeding made of those parts
abbrev pub whole : ℕ → Lent → Lent → Lent
whole n m e = record {
  carry = e.carry;
  ends = take n m.ends ++ e.ends;
  lengths = take n m.lengths ++ e.lengths;
  kept = take n m.kept ++ e.kept;
  frames = take n m.frames ++ e.frames;
}

-- ---- one page

-- how far a run has come: the bytes and the number of the pages accepted, and the places filled
pub record Reached : Type 0 where
  pub reader : Reader
  pub bytes : ℕ
  pub pages : ℕ
  pub packets : ℕ

pub data Why : Type 0 where
  refused : ℕ → Why
  cut full : Why

pub data Turn : Type 0 where
  goes : Reached → Lent → Turn
  stops : Why → Lent → Turn

-- the page that ends at e was fed
abbrev pub after : Reached → ℕ → Told Taken → Lent → Turn
after a e (gives t) m = goes (record {
  reader = t.reader;
  bytes = e;
  pages = a.pages + 1;
  packets = a.packets + t.counts.packets;
}) m
after a e (refuses n) m = stops (refused n) m

abbrev pub fed_to : Reached → Lent → ℕ → Fed → Turn
fed_to a m e f = after a e f.told (whole a.packets m f.lent)

abbrev pub turn_to : Readings → Bytes → Reached → Lent → Option ℕ → Turn
turn_to R b a m none = stops cut m
turn_to R b a m (some e) = fed_to a m e (feed R a.reader (past a.packets m) (take (e - a.bytes) (drop a.bytes b)))

unfoldable pub turn : Readings → Bytes → Reached → Lent → Turn
turn R b a m = pick (is_full a.packets m) (stops full m) (turn_to R b a m (end_at b a.bytes))

-- ---- the pages, one by one

pub record Ended : Type 0 where
  pub reached : Reached
  pub why : Why
  pub lent : Lent

abbrev pub follow : (Reached → Lent → Ended) → Reached → Turn → Ended
follow on a (goes next m) = on next m
follow on a (stops why m) = record { reached = a; why = why; lent = m }

-- at most n pages
unfoldable pub runs : ℕ → Readings → Bytes → Reached → Lent → Ended
runs zero R b a m = record { reached = a; why = cut; lent = m }
runs (suc n) R b a m = follow (runs n R b) a (turn R b a m)

abbrev pub started : Reader → Reached
started r = record { reader = r; bytes = 0; pages = 0; packets = 0 }

-- a page has a byte at least, so that there are no more pages than bytes
unfoldable pub feed_pages : Readings → Reader → Lent → Bytes → Ended
feed_pages R r m b = runs (suc (length b)) R b (started r) m

-- ---- what holds of every run

-- it is within its buffer b and its lists, and has no more pages than bytes
pub record Inside (a : Reached) (b : Bytes) (m : Lent) : Type 0 where
  pub bytes : a.bytes ≤ length b
  pub few : a.pages ≤ a.bytes
  pub ends : a.packets ≤ length m.ends
  pub lengths : a.packets ≤ length m.lengths
  pub kept : a.packets ≤ length m.kept
  pub frames : a.packets ≤ length m.frames
