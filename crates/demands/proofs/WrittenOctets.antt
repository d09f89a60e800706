-- What the page writer writes of a page of bytes is bytes. Assumes nothing.
use Prim.Native.Nat.{ℕ, zero, suc, ◌<◌}
use mathlib.Core.Path.{◌≡◌}
use mathlib.Core.Bool.{Bool, true, ◌&&◌}
use mathlib.Core.List.{[], ◌∷◌, ◌++◌}
use mathlib.Core.Option.{Option, none, some}
use borrow.Author.Tests.{ltb-true}
use lib.Dec.{ltb, lit<}
use lib.ListN.{length, get_or, replicate}
use Rattle.octets.specs.Octets.{Bytes, Octets}
use Rattle.octets.specs.Numbers.{octets}
use Rattle.octets.proofs.Tests.{both}
use Rattle.octets.proofs.Numbers.{octets-below}
use Rattle.octets.proofs.Parts.{octets-take}
use Rattle.refusal.specs.declared.Refusal.{Refusal}
use Rattle.refusal.specs.Checks.{first_of}
use Rattle.page_crc.specs.Crc.{page_crc}
use Rattle.page_writer.specs.Writing.{with_checksum, start_of, page_bytes, page_size, write_checks, written as written_by, write_out}
use Rattle.page_writer.proofs.Octets.{octets-copied}
use Rattle.stream.specs.Page.{Page}
use Rattle.demands.specs.Example.{written}

abbrev all_below : Bytes → Bool
all_below [] = true
all_below (b ∷ s) = ltb b 256 && all_below s

below-octets : (s : Bytes) → all_below s ≡ true → (i : ℕ) → get_or s i 0 < 256
below-octets [] e i = lit< tt
below-octets (b ∷ s) e zero = ltb-true b 256 (both (ltb b 256) (all_below s) e).0
below-octets (b ∷ s) e (suc i) = below-octets s (both (ltb b 256) (all_below s) e).1 i

zero-below : (n i : ℕ) → get_or (replicate n 0) i 0 < 256
zero-below zero i = lit< tt
zero-below (suc n) zero = lit< tt
zero-below (suc n) (suc i) = zero-below n i

zeros : (n : ℕ) → Octets (replicate n 0)
zeros n = record { below = zero-below n }

pub page-octets : (p : Page) → all_below (start_of p.header (length p.lacing) ++ p.lacing ++ p.body) ≡ true → Octets (written p)
unfolding written write_out page_bytes with_checksum
page-octets p e =
    octets-take (page_size p.lacing p.body) _
    (by (first_of (write_checks p.header p.lacing p.body (length (replicate (page_size p.lacing p.body) 0)))))
  where
    by : (v : Option Refusal) → Octets (written_by v (replicate (page_size p.lacing p.body) 0) (page_bytes p.header p.lacing p.body))
    by none =
        octets-copied (replicate (page_size p.lacing p.body) 0) 0 (page_bytes p.header p.lacing p.body)
        (zeros (page_size p.lacing p.body))
        (octets-copied (start_of p.header (length p.lacing) ++ p.lacing ++ p.body) 22
        (octets 4 (page_crc (start_of p.header (length p.lacing) ++ p.lacing ++ p.body)))
        (record { below = below-octets (start_of p.header (length p.lacing) ++ p.lacing ++ p.body) e })
        (octets-below 4 (page_crc (start_of p.header (length p.lacing) ++ p.lacing ++ p.body))))
    by (some n) = zeros (page_size p.lacing p.body)
