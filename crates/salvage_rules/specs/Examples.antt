-- Twelve worked examples of salvage (RULES.md, 16), each after two good header pages. They are computed with readings by which
-- every header and packet is right, in place of the real ones, so that no checksum is computed. Assumes nothing.
use Rattle.std.specs.Prelude.{ℕ, zero, suc, ◌+◌, ◌*◌, ◌≡◌, true, false, List, [], ◌∷◌, map, replicate}
use Rattle.octets.specs.Pick.{pick}
use Rattle.octets.specs.Octets.{Bytes, total}
use Rattle.head_reader.specs.Reading.{no_head}
use Rattle.stream.specs.Page.{Page, ends}
use Rattle.stream.specs.Readings.{Readings}
use Rattle.granule.specs.Judging.{no_granule}
use Rattle.salvage_rules.specs.Good.{Good, end_of}
use Rattle.salvage_rules.specs.Tidy.{Tidied, tidy}
use Rattle.salvage_rules.specs.Lines.{Line, line, lines_from}
use Rattle.salvage_rules.specs.Rounds.{settled}

-- every packet has 960 samples
abbrev R : Readings
R = record {
  is_page = λ (b : Bytes). true;
  is_checksummed = λ (b : Bytes). true;
  is_head = λ (b : Bytes). true;
  is_mapped = λ (b : Bytes). true;
  head_of = λ (b : Bytes). no_head;
  is_tags = λ (b : Bytes). true;
  is_legal = λ (n : ℕ) (b : Bytes). true;
  is_mixed = λ (n : ℕ) (b : Bytes). false;
  measure_of = λ (n : ℕ) (b : Bytes). record { samples = 960; frames = 1 };
}

-- a page by its number, its flags and its lacing values
pub record Plain : Type 0 where
  pub number : ℕ
  pub flags : ℕ
  pub lacing : Bytes

abbrev p : ℕ → Bytes → Plain
p n l = record { number = n; flags = 0; lacing = l }

-- marked continued
abbrev c : ℕ → Bytes → Plain
c n l = record { number = n; flags = 1; lacing = l }

-- with a flag that no page may have (7)
abbrev odd : Plain → Plain
odd x = record { number = x.number; flags = x.flags + 8; lacing = x.lacing }

-- ---- pages one after the other

abbrev page_with : ℕ → ℕ → ℕ → Bytes → Page
page_with flags granule n l = record {
  header = record { flags = flags; granule = granule; serial = 7; sequence = n };
  lacing = l;
  body = replicate (total l) 0;
}

-- a granule position that grows, or all ones where no packet completes
abbrev audio_page : Plain → Page
audio_page x = page_with x.flags (pick (ends x.lacing) (x.number * 100000) no_granule) x.number x.lacing

unfoldable pub laid : ℕ → List Page → List Good
laid at [] = []
laid at (x ∷ xs) = record { place = at; page = x } ∷ laid (end_of (record { place = at; page = x })) xs

unfoldable pub list_of : List Plain → List Good
list_of xs = laid 0 (page_with 2 0 0 (19 ∷ []) ∷ page_with 0 0 1 (16 ∷ []) ∷ map audio_page xs)

-- ---- rows

-- lines with the page's place in the list for that in the input, the headers being 0 and 1
pub record Row : Type 0 where
  pub given : List Plain
  pub settled : List Plain
  pub lines : List Line

pub record Result : Type 0 where
  pub settled : List Plain
  pub lines : List Line

unfoldable pub place_of : List Good → ℕ → ℕ
place_of [] k = 0
place_of (g ∷ gs) zero = g.place
place_of (g ∷ gs) (suc k) = place_of gs k

unfoldable pub last_end : ℕ → List Good → ℕ
last_end n [] = n
last_end n (g ∷ gs) = last_end (end_of g) gs

abbrev shown : Tidied → Plain
shown t = record { number = t.page.header.sequence; flags = t.page.header.flags; lacing = t.page.lacing }

unfoldable pub found : Row → Result
found r = record {
  settled = map shown (tidy (settled R (list_of r.given)));
  lines = lines_from (last_end 0 (list_of r.given)) 0 (tidy (settled R (list_of r.given)));
}

unfoldable pub wanted : Row → Result
wanted r = record {
  settled = record { number = 0; flags = 2; lacing = 19 ∷ [] } ∷ p 1 (16 ∷ []) ∷ r.settled;
  lines = map (λ (l : Line). line l.what (place_of (list_of r.given) l.place) l.bytes) r.lines;
}

abbrev skip : ℕ → ℕ → Line
skip k n = line 0 k n

abbrev number : ℕ → Line
number k = line 1 k 4

abbrev mark : ℕ → Line
mark k = line 2 k 1

abbrev cut : ℕ → ℕ → Line
cut k n = line 3 k n

abbrev row : List Plain → List Plain → List Line → Row
row given settled lines = record { given = given; settled = settled; lines = lines }

-- ---- the table

abbrev pub table : List Row
table =
    -- a packet cut in the middle
    row
    (p 2 (3 ∷ 255 ∷ []) ∷ c 4 (4 ∷ 9 ∷ []) ∷ [])
    (p 2 (3 ∷ []) ∷ p 3 (9 ∷ []) ∷ [])
    (cut 2 255 ∷ number 3 ∷ mark 3 ∷ cut 3 4 ∷ [])
    -- a page left with nothing stays
    ∷ row
    (p 2 (3 ∷ 255 ∷ []) ∷ c 3 (255 ∷ []) ∷ p 5 (9 ∷ []) ∷ [])
    (p 2 (3 ∷ []) ∷ p 3 [] ∷ p 4 (9 ∷ []) ∷ [])
    (cut 2 255 ∷ mark 3 ∷ cut 3 255 ∷ number 4 ∷ [])
    -- unless it has a granule position, which is 11
    ∷ row
    (p 2 (3 ∷ 255 ∷ []) ∷ c 4 (4 ∷ []) ∷ p 5 (9 ∷ []) ∷ [])
    (p 2 (3 ∷ []) ∷ p 3 (9 ∷ []) ∷ [])
    (cut 2 255 ∷ skip 3 32 ∷ number 4 ∷ [])
    -- a page that is there twice is 17, and no break is left without it
    ∷ row
    (p 2 (3 ∷ 255 ∷ []) ∷ p 2 (3 ∷ 255 ∷ []) ∷ c 3 (4 ∷ 9 ∷ []) ∷ [])
    (p 2 (3 ∷ 255 ∷ []) ∷ c 3 (4 ∷ 9 ∷ []) ∷ [])
    (skip 3 287 ∷ [])
    -- a piece of no bytes
    ∷ row
    (p 2 (3 ∷ []) ∷ c 4 (0 ∷ 9 ∷ []) ∷ [])
    (p 2 (3 ∷ []) ∷ p 3 (9 ∷ []) ∷ [])
    (number 3 ∷ mark 3 ∷ cut 3 0 ∷ [])
    -- one cut packet over four pages
    ∷ row
    (p 2 (3 ∷ []) ∷ c 4 [] ∷ c 5 [] ∷ c 6 (255 ∷ []) ∷ c 7 [] ∷ p 9 (3 ∷ []) ∷ [])
    (p 2 (3 ∷ []) ∷ p 3 [] ∷ p 4 [] ∷ p 5 [] ∷ p 6 [] ∷ p 7 (3 ∷ []) ∷ [])
    (number 3 ∷ mark 3 ∷ number 4 ∷ mark 4 ∷ number 5 ∷ mark 5 ∷ cut 5 255 ∷ number 6 ∷ mark 6 ∷ number 7 ∷ [])
    -- a packet that an earlier break cut, over two pages
    ∷ row
    (p 2 (3 ∷ []) ∷ c 4 (255 ∷ []) ∷ c 5 (4 ∷ 9 ∷ []) ∷ [])
    (p 2 (3 ∷ []) ∷ p 3 [] ∷ p 4 (9 ∷ []) ∷ [])
    (number 3 ∷ mark 3 ∷ cut 3 255 ∷ number 4 ∷ mark 4 ∷ cut 4 4 ∷ [])
    -- a page that contradicts the one before is 8, and without it there is a break
    ∷ row
    (p 2 (3 ∷ 255 ∷ []) ∷ p 3 (4 ∷ []) ∷ p 4 (9 ∷ []) ∷ [])
    (p 2 (3 ∷ []) ∷ p 3 (9 ∷ []) ∷ [])
    (cut 2 255 ∷ skip 3 32 ∷ number 4 ∷ [])
    -- unless a break cuts what it is to continue
    ∷ row
    (p 2 (3 ∷ []) ∷ c 3 (255 ∷ []) ∷ p 5 (9 ∷ []) ∷ [])
    (p 2 (3 ∷ []) ∷ p 3 [] ∷ p 4 (9 ∷ []) ∷ [])
    (mark 3 ∷ cut 3 255 ∷ number 4 ∷ [])
    -- the very end cuts nothing
    ∷ row (p 2 (3 ∷ 255 ∷ []) ∷ []) (p 2 (3 ∷ 255 ∷ []) ∷ []) []
    -- a kept page that is refused later: page 3 passes while the break after it cuts its last piece, of 61,455 bytes; page 20 is
    -- 7, then there is no break before page 4, and page 3 is 9
    ∷ row
    (p 2 (3 ∷ 255 ∷ []) ∷ c 3 (4 ∷ 9 ∷ replicate 241 255) ∷ odd (p 20 (3 ∷ [])) ∷ c 4 (5 ∷ 6 ∷ []) ∷ [])
    (p 2 (3 ∷ []) ∷ p 3 (6 ∷ []) ∷ [])
    (cut 2 255 ∷ skip 3 61769 ∷ number 5 ∷ mark 5 ∷ cut 5 5 ∷ [])
    -- a missing page that would pass later: page 3 is 9, since page 4 goes on with its packet; then page 4 is 7
    ∷ row
    (p 2 (3 ∷ 255 ∷ []) ∷ c 3 (replicate 241 255) ∷ odd (c 4 (5 ∷ 6 ∷ [])) ∷ p 20 (6 ∷ []) ∷ [])
    (p 2 (3 ∷ []) ∷ p 3 (6 ∷ []) ∷ [])
    (cut 2 255 ∷ skip 3 61763 ∷ number 5 ∷ [])
    ∷ []

abbrev pub Examples : Type 0
Examples = map found table ≡ map wanted table
