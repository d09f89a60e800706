-- What is proved of written pages, in addition to the contracts. Assumes nothing.
use Rattle.std.specs.Prelude.{◌^◌, ◌≤◌, ◌<◌, ◌≡◌, length, take}
use Rattle.octets.specs.Octets.{Bytes, Octets, copied}
use Rattle.refusal.specs.Told.{gives}
use Rattle.page_crc.specs.Crc.{page_crc}
use Rattle.page_layout.specs.declared.PageHeader.{PageHeader}
use Rattle.page_layout.specs.Page.{lacing_of, body_of}
use Rattle.page_reader.specs.Reading.{read_page}
use Rattle.page_writer.specs.Writing.{page_size, write_told, write_out}

-- numbers that the fields' widths hold
pub record Fit (h : PageHeader) : Type 0 where
  pub flags : h.flags < 2 ^ 8
  pub granule : h.granule < 2 ^ 64
  pub serial : h.serial < 2 ^ 32
  pub sequence : h.sequence < 2 ^ 32

-- the bytes p read as a page of these fields, lacing values and body
pub record ReadsAs (p : Bytes) (h : PageHeader) (l b : Bytes) : Type 0 where
  pub header : read_page page_crc p ≡ gives h
  pub lacing : lacing_of p ≡ l
  pub body : body_of p ≡ b

-- reading what was written gives the same fields, lacing values and body
abbrev pub ReadsBack : Type 0
ReadsBack =
    (h : PageHeader) (l b out : Bytes) → Fit h → write_told h l b out ≡ gives (page_size l b)
    → ReadsAs (take (page_size l b) (write_out h l b out)) h l b

-- the page of the fields h with the lacing values and the body of p is written to `out` as the bytes p
pub record WritesAs (h : PageHeader) (p out : Bytes) : Type 0 where
  pub told : write_told h (lacing_of p) (body_of p) out ≡ gives (length p)
  pub output : write_out h (lacing_of p) (body_of p) out ≡ copied out 0 p

-- writing what was read gives the same bytes, for flags at most 7: the writer takes no others
abbrev pub WritesBack : Type 0
WritesBack =
    (p out : Bytes) (h : PageHeader) → Octets p → read_page page_crc p ≡ gives h → h.flags ≤ 7 → length p ≤ length out
    → WritesAs h p out
