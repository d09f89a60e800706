-- A page with a right checksum is written as it is. Assumes nothing.
use mathlib.Core.Path.{◌≡◌}
use borrow.Author.Tests.{eqb-true}
use lib.ListN.{length}
use Rattle.octets.specs.Octets.{Bytes, Octets}
use Rattle.page_crc.specs.Crc.{page_crc}
use Rattle.page_writer.specs.Writing.{page_bytes, page_size}
use Rattle.page_writer.proofs.RoundTrip.{size_same, page-again}
use Rattle.stream.specs.Page.{page_of}
use Rattle.stream.specs.Readings.{readings}
use Rattle.recording.specs.Statements.{Good as GoodBy}

-- its size, and its bytes
pub record Same (p : Bytes) : Type 0 where
  pub size : page_size (page_of p).lacing (page_of p).body ≡ length p
  pub bytes : page_bytes (page_of p).header (page_of p).lacing (page_of p).body ≡ p

pub same : (p : Bytes) → Octets p → GoodBy (readings page_crc) p → Same p
unfolding page_of readings
same p o good = record { size = size_same p good.page; bytes = page-again p o good.page (eqb-true _ _ good.checksummed) }
