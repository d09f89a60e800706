-- What the code has after some of the kept pages, and what the next ones come to. Assumes nothing.
use Rattle.std.specs.Prelude.{◌≡◌, ℕ, suc, ◌+◌, ◌%◌, ◌^◌, ◌<◌, ◌≤◌, Bool, true, false, List, [], ◌∷◌, ◌++◌, map, length, ◌==◌, slice_index}
use Rattle.octets.specs.Pick.{pick}
use Rattle.octets.specs.Octets.{Bytes, copied}
use Rattle.page_crc.specs.Crc.{page_crc}
use Rattle.page_size.specs.Size.{is_one_page}
use Rattle.page_reader.specs.Reading.{read_page}
use Rattle.stream.specs.Page.{page_of}
use Rattle.salvage_search.specs.Search.{is_good}
use Rattle.salvage_page.specs.Statements.{kept_size}
use Rattle.feed_pages.specs.Feedings.{together}
use Rattle.salvage_rules.specs.Good.{Good, end_of}
use Rattle.salvage_rules.specs.Tidy.{no_page, Tidied, tidy_from}
use Rattle.salvage_rules.specs.Lines.{Line, skipped, changes, lines_from}
use Rattle.salvage_rules.specs.Rounds.{page_out, kept_in}
use Rattle.salvage_rules.specs.Steps.{past_all}
use Rattle.salvage_rules.specs.Links.{link_of, link_cut, no_prior, prior_of, next_prior, form_of}
use Rattle.salvage_rules.specs.Listed.{good_in, listed_in, pages_to, pages_from, NextIs}
use Rattle.salvage_list.specs.declared.Listed.{Listed}
use Rattle.salvage.specs.declared.walk.Walk.{Walk}

-- ---- the pages B after the pages K

abbrev pub tidy_after : List Good → List Good → List Tidied
tidy_after K B = tidy_from (past_all no_page K) (length K) B

-- where the last of them ends in the input
unfoldable pub end_after : ℕ → List Good → ℕ
end_after at [] = at
end_after at (g ∷ gs) = end_after (end_of g) gs

-- the bytes and the lines that they come to, in an input of n bytes
abbrev pub bytes_left : List Good → List Good → Bytes
bytes_left K B = together (map page_out (tidy_after K B))

abbrev pub lines_left : ℕ → List Good → List Good → List Line
lines_left n K B = lines_from n (end_after 0 K) (tidy_after K B)

-- the lines of one page, the last page ending at this place
abbrev pub lines_of : ℕ → Tidied → List Line
lines_of end t = skipped end t.old.place ++ changes t

-- ---- the walk

abbrev pub begun : Walk
begun = record { prior = no_prior; cut = false; at = 0; number = 0; end = 0; bytes = 0; lines = 0 }

-- the walk w over the list ws has come past the pages K
pub record WalkIs (K : List Good) (w : Walk) : Type 0 where
  pub prior : w.prior ≡ prior_of (past_all no_page K)
  pub number : w.number ≡ length K % 2 ^ 32
  pub end : w.end ≡ end_after 0 K

-- the list ws has the kept pages of the buffer b
abbrev pub Kept : Bytes → List ℕ → Type 0
Kept b ws = listed_in b ws ≡ kept_in page_crc b

-- all bytes and lines
abbrev pub all_bytes : Bytes → List ℕ → Bytes
all_bytes b ws = bytes_left [] (listed_in b ws)

abbrev pub all_lines : Bytes → List ℕ → List Line
all_lines b ws = lines_left (length b) [] (listed_in b ws)

-- the walk w over the list ws in the buffer b
pub record Walks (b : Bytes) (ws : List ℕ) (w : Walk) : Type 0 where
  pub inside : w.at ≤ length ws
  pub known : w.cut ≡ link_cut w.prior.link (pages_from b ws w.at)
  pub is : WalkIs (pages_to b ws w.at) w
  pub bytes : w.bytes + length (bytes_left (pages_to b ws w.at) (pages_from b ws w.at)) ≡ length (all_bytes b ws)
  pub lines : w.lines + length (lines_left (length b) (pages_to b ws w.at) (pages_from b ws w.at)) ≡ length (all_lines b ws)

-- it has come past one page more, which ends at this place of the input and comes to so many bytes and lines
abbrev pub walk_by : Walk → Listed → ℕ → ℕ → ℕ → Walk
walk_by w next end bytes lines = record {
  prior = next_prior w.prior next.link;
  cut = next.cut;
  at = suc next.index;
  number = (w.number + 1) % 2 ^ 32;
  end = end;
  bytes = w.bytes + bytes;
  lines = w.lines + lines;
}

-- what `next` tells is so of the page at its index, which is the next one
pub record NextHas (b : Bytes) (ws : List ℕ) (w : Walk) (next : Listed) : Type 0 where
  pub is : NextIs b ws w.at next.index
  pub place : next.place ≡ slice_index ws next.index
  pub link : next.link ≡ link_of (good_in b next.place).page
  pub cut : next.cut ≡ link_cut next.link (pages_from b ws (suc next.index))
  pub form : next.form ≡ form_of w.prior next.link next.cut

-- ---- what the functions ask and promise

-- nothing passes the widest number
pub record CanWalk (p : Bytes) (next : Listed) (w : Walk) : Type 0 where
  pub one : is_one_page p ≡ true
  pub index : next.index + 1 < 2 ^ 64
  pub end : next.place + length p < 2 ^ 64
  pub bytes : w.bytes + kept_size next.form p < 2 ^ 64
  pub lines : w.lines + 5 < 2 ^ 64

-- nothing is done to the page
abbrev pub is_same : Listed → ℕ → Bool
is_same next number =
    pick next.form.lead false (pick next.form.trail false (next.link.sequence == number))

-- the page p has a right checksum, `next` is its, and the output has room for it
pub record CanPut (p : Bytes) (next : Listed) (w : Walk) (out : Bytes) : Type 0 where
  pub good : is_good (read_page page_crc p) ≡ true
  pub link : next.link ≡ link_of (page_of p)
  pub number : w.number < 2 ^ 32
  pub room : w.bytes + kept_size next.form p ≤ length out

pub record CanWrite (b : Bytes) (ws : List ℕ) (out : Bytes) : Type 0 where
  pub kept : Kept b ws
  pub room : length (all_bytes b ws) ≤ length out

-- the walk is at the end of the list
pub record Walked (b : Bytes) (ws : List ℕ) (w : Walk) : Type 0 where
  pub walks : Walks b ws w
  pub over : pages_from b ws w.at ≡ []

-- and all pages are written
pub record PagesWritten (b : Bytes) (ws : List ℕ) (old : Bytes) (w : Walk) (out : Bytes) : Type 0 where
  pub walked : Walked b ws w
  pub output : out ≡ copied old 0 (all_bytes b ws)
