-- The fields of a page of bytes fit their widths. Assumes nothing.
use Prim.Native.Nat.{◌≤◌}
use mathlib.Core.Path.{◌≡◌}
use mathlib.Core.Bool.{true}
use native.Mathlib.Omega.{arith}
use lib.ListN.{length}
use Rattle.octets.specs.Octets.{Bytes, Octets}
use Rattle.octets.proofs.Fields.{field_fits}
use Rattle.page_layout.specs.Places.{flags_at, granule_at, serial_at, sequence_at, lacing_at}
use Rattle.page_layout.specs.Page.{header_of}
use Rattle.page_size.specs.Size.{is_one_page}
use Rattle.page_writer.specs.Statements.{Fit}
use Rattle.page_writer.proofs.RoundTrip.{size_same}

module _ (p : Bytes) (o : Octets p) (one : is_one_page p ≡ true) where
  long : lacing_at ≤ length p
  long = omega (arith, size_same p one)

  pub header-fit : Fit (header_of p)
  unfolding header_of
  header-fit = record {
    flags = o.below flags_at;
    granule = field_fits 8 granule_at p o (omega (arith, long));
    serial = field_fits 4 serial_at p o (omega (arith, long));
    sequence = field_fits 4 sequence_at p o (omega (arith, long));
  }
