-- The three ways of reading a page, by its tests. Assumes nothing.
use mathlib.Core.Path.{◌≡◌}
use mathlib.Core.Bool.{true, false}
use Prim.Native.Nat.{ℕ}
use lib.Dec.{eqb}
use Rattle.octets.specs.Octets.{Bytes}
use Rattle.refusal.specs.declared.Refusal.TheVariants.{NotOnePage, WrongChecksum}
use Rattle.refusal.specs.Numbers.{number_of}
use Rattle.refusal.specs.Checks.{first_of}
use Rattle.refusal.specs.Told.{gives, refuses}
use Rattle.page_layout.specs.Page.{checksum_of, header_of}
use Rattle.page_size.specs.Size.{is_one_page}
use Rattle.page_reader.specs.Reading.{read_page}

module _ (crc : Bytes → ℕ) (b : Bytes) where
  pub not_one_page : is_one_page b ≡ false → read_page crc b ≡ refuses (number_of NotOnePage)
  unfolding read_page first_of
  not_one_page h = rw h

  pub wrong_checksum : is_one_page b ≡ true → eqb (crc b) (checksum_of b) ≡ false → read_page crc b ≡ refuses (number_of WrongChecksum)
  unfolding read_page first_of
  wrong_checksum h e = rw (h, e)

  pub right_page : is_one_page b ≡ true → eqb (crc b) (checksum_of b) ≡ true → read_page crc b ≡ gives (header_of b)
  unfolding read_page first_of
  right_page h e = rw (h, e)
