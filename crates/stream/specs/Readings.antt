-- What feeding asks of pages, headers and packets: parameters of all that follows, and the real ones (RULES.md, refusals 3,
-- 4 and 12 to 16). Assumes nothing.
use Rattle.std.specs.Prelude.{ℕ, ◌-◌, Bool, not, eqb}
use Rattle.octets.specs.Octets.{Bytes}
use Rattle.page_layout.specs.Page.{checksum_of}
use Rattle.page_size.specs.Size.{is_one_page}
use Rattle.head_fields.specs.declared.Head.{Head}
use Rattle.head_reader.specs.Fields.{head_of}
use Rattle.head_fields.specs.Right.{right_mapping}
use Rattle.head_reader.specs.Reading.{is_head}
use Rattle.tags_reader.specs.Right.{is_tags}
use Rattle.packet_reader.specs.declared.Measure.{Measure}
use Rattle.packet_reader.specs.Streams.{measured_of, is_illegal, is_mixed, first_contents}

pub record Readings : Type 0 where
  pub is_page : Bytes → Bool  -- exactly one whole page, of version 0 (3)
  pub is_checksummed : Bytes → Bool  -- its checksum is right (4)
  pub is_head : Bytes → Bool  -- an identification header right in signature, version and length (12)
  pub is_mapped : Bytes → Bool  -- its channel mapping is right (13)
  pub head_of : Bytes → Head
  pub is_tags : Bytes → Bool  -- a right comment header (14)
  pub is_legal : ℕ → Bytes → Bool  -- an audio packet of so many streams is legal (15)
  pub is_mixed : ℕ → Bytes → Bool  -- its Opus packets differ in length (16)
  pub measure_of : ℕ → Bytes → Measure  -- what feeding lists of it: its length in samples, and its frames

-- The real ones; how a page's checksum is worked out is a parameter still, as where pages are read. A reader that has its
-- headers has 1 to 255 streams; the number 0 is read as 1.
unfoldable pub readings : (Bytes → ℕ) → Readings
readings crc = record {
  is_page = is_one_page;
  is_checksummed = λ (b : Bytes). eqb (crc b) (checksum_of b);
  is_head = is_head;
  is_mapped = λ (b : Bytes). right_mapping (head_of b);
  head_of = head_of;
  is_tags = is_tags;
  is_legal = λ (n : ℕ) (b : Bytes). not (is_illegal (measured_of (n - 1) b));
  is_mixed = λ (n : ℕ) (b : Bytes). is_mixed (measured_of (n - 1) b);
  measure_of = λ (n : ℕ) (b : Bytes). (first_contents (measured_of (n - 1) b)).measure;
}
