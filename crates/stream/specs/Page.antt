-- A page as feeding sees it: its fields, its lacing values and its body, and the pieces of packets in it (RFC 3533, 5 and 6;
-- RULES.md, 3). Assumes nothing.
use Rattle.std.specs.Prelude.{ℕ, Bool, false, ◌||◌, List, [], ◌∷◌, ltb, eqb}
use Rattle.std.proofs.Math.Option.{Option, none, some}
use Rattle.octets.specs.Pick.{pick}
use Rattle.octets.specs.Octets.{Bytes}
use Rattle.page_flags.specs.Flags.{is_continued, is_last_page}
use Rattle.page_layout.specs.declared.PageHeader.{PageHeader}
use Rattle.page_layout.specs.Page.{header_of, lacing_of, body_of}
use Rattle.page_lacing.specs.Lacing.{cut_from, unfinished_from}

pub record Page : Type 0 where
  pub header : PageHeader
  pub lacing : Bytes
  pub body : Bytes

-- the page that these parts make
abbrev pub page_with : PageHeader → Bytes → Bytes → Page
page_with h lacing body = record { header = h; lacing = lacing; body = body }

unfoldable pub page_of : Bytes → Page
page_of b = record { header = header_of b; lacing = lacing_of b; body = body_of b }

unfoldable pub continued : Page → Bool
continued p = is_continued p.header.flags

unfoldable pub last : Page → Bool
last p = is_last_page p.header.flags

abbrev pub granule_of : Page → ℕ
granule_of p = p.header.granule

-- a lacing value below 255 ends a packet
unfoldable pub ends : Bytes → Bool
ends [] = false
ends (v ∷ l) = ltb v 255 || ends l

-- a packet completes on the page
unfoldable pub completes : Page → Bool
completes p = ends p.lacing

-- the body's pieces: those that end a packet here, in order, and the one after them that does not; n bytes belong to values
-- already read, all of them 255
abbrev pub whole_from : ℕ → Bytes → Bytes → List Bytes
whole_from n l body = (cut_from n l body).whole

abbrev pub rest_from : ℕ → Bytes → Bytes → Option Bytes
rest_from n l body = pick (eqb (unfinished_from n l) 0) none (some (cut_from n l body).rest)

unfoldable pub whole : Page → List Bytes
whole p = whole_from 0 p.lacing p.body

unfoldable pub rest : Page → Option Bytes
rest p = rest_from 0 p.lacing p.body
