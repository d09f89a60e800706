-- The stream that the writers make of a header, no comments and one audio packet (RULES.md, 18): three pages, each with one
-- packet. Assumes nothing.
use Rattle.std.specs.Prelude.{ℕ, zero, suc, ◌/◌, ◌%◌, ◌^◌, ◌≤◌, ◌<◌, ◌≡◌, true, false, List, [], ◌∷◌, length, take, replicate}
use Rattle.octets.specs.Octets.{Bytes}
use Rattle.limits.specs.Limits.{packet_max}
use Rattle.utf8.specs.Characters.{utf8}
use Rattle.page_crc.specs.Crc.{page_crc}
use Rattle.page_writer.specs.Writing.{page_bytes}
use Rattle.head_fields.specs.declared.Head.{Head}
use Rattle.head_fields.specs.Widths.{WideFields}
use Rattle.head_fields.specs.Layout.{head_size}
use Rattle.head_writer.specs.Writing.{writable_with, write_out as writeHead}
use Rattle.tags_writer.specs.Writing.{packet_of, write_out as writeTags}
use Rattle.stream.specs.Readings.{Readings, readings}
use Rattle.recording.specs.Judging.{whole, judge_pages}
use Rattle.check_rules.specs.Findings.{findings}

-- q values of 255, and then r
unfoldable pub fulls : ℕ → ℕ → Bytes
fulls zero r = r ∷ []
fulls (suc q) r = 255 ∷ fulls q r

-- the lacing values of one packet of n bytes
abbrev pub laced_as : ℕ → Bytes
laced_as n = fulls (n / 255) (n % 255)

-- a page with one packet
abbrev pub page_for : ℕ → ℕ → ℕ → ℕ → Bytes → Bytes
page_for flags granule serial sequence packet =
    page_bytes (record { flags = flags; granule = granule; serial = serial; sequence = sequence }) (laced_as (length packet)) packet

-- what the writer of identification headers makes of the fields h and the matrix m, in an output that is just long enough
unfoldable pub head_packet : Head → Bytes → Bytes
head_packet h m = take (head_size h) (writeHead h m (replicate (head_size h) 0))

-- what the writer of comment headers makes of a vendor and no comments
abbrev pub tags_size : Bytes → ℕ
tags_size vendor = length (packet_of vendor [] [])

unfoldable pub tags_packet : Bytes → Bytes
tags_packet vendor = take (tags_size vendor) (writeTags vendor [] [] (replicate (tags_size vendor) 0))

-- the three pages; the last one has the audio packet, the granule position 960, and is marked last
unfoldable pub written_pages : ℕ → Head → Bytes → Bytes → Bytes → List Bytes
written_pages serial h m vendor packet =
    page_for 2 0 serial 0 (head_packet h m)
    ∷ page_for 0 0 serial 1 (tags_packet vendor)
    ∷ page_for 4 960 serial 2 packet
    ∷ []

abbrev R : Readings
R = readings page_crc

-- what the writers take, with a pre-skip of 312 and a legal packet of 960 samples
pub record Given (serial : ℕ) (h : Head) (m vendor packet : Bytes) : Type 0 where
  pub small : serial < 2 ^ 32
  pub wide : WideFields h
  pub mapping : length h.mapping ≡ 255
  pub head : writable_with h m ≡ true
  pub preskip : h.preskip ≡ 312
  pub text : utf8 vendor ≡ true
  pub room : length vendor ≤ 61424
  pub legal : R.is_legal h.streams packet ≡ true
  pub alike : R.is_mixed h.streams packet ≡ false
  pub samples : (R.measure_of h.streams packet).samples ≡ 960
  pub size : length packet ≤ packet_max

-- the stream is whole, of three pages and one packet, and there is no finding
pub record Clean (S : List Bytes) : Type 0 where
  pub judged : judge_pages R S ≡ whole 3 1
  pub none : findings R S ≡ []

abbrev pub WrittenClean : Type 0
WrittenClean =
    (serial : ℕ) (h : Head) (m vendor packet : Bytes) → Given serial h m vendor packet
    → Clean (written_pages serial h m vendor packet)
