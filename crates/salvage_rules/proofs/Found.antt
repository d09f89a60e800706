-- A good page where it is found: its bytes in the input, and where it ends. Assumes nothing.
use Prim.Native.Nat.{ℕ, zero, suc, ◌+◌, ◌-◌}
use mathlib.Core.Path.{◌≡◌, refl, sym, ap, ◌∙◌}
use mathlib.Core.Bool.{Bool, true, false}
use mathlib.Core.List.{List, [], ◌∷◌}
use native.Mathlib.Numerals.{add-one}
use native.Mathlib.Omega.{arith}
use borrow.Author.Tests.{eqb-true}
use lib.ListN.{length, take, drop, length-take}
use lib.Seq.{drop-drop}
use Rattle.octets.specs.Pick.{pick}
use Rattle.octets.specs.Octets.{Bytes}
use Rattle.page_size.specs.Size.{size_of, is_one_page}
use Rattle.page_end.specs.Statements.{Inside}
use Rattle.page_end.proofs.Ends.{end-inside}
use Rattle.page_reader.specs.Reading.{read_page}
use Rattle.page_reader.proofs.Reading.{not_one_page}
use Rattle.page_writer.specs.Writing.{page_size}
use Rattle.page_writer.proofs.RoundTrip.{size_same}
use Rattle.stream.specs.Page.{page_of}
use Rattle.stream.specs.Readings.{readings}
use Rattle.salvage_search.specs.Search.{is_good, starts_page}
use Rattle.salvage_search.proofs.Starting.{starts-whole, starts-size}
use Rattle.salvage_rules.specs.Good.{Good, end_of, good_at, good_from, good_pages, serial_in, has_serial, of_serial, of_stream}
use Rattle.salvage_rules.specs.Statements.{Each, bytes_in, Read, KeptRead, KeptSerial}
use Rattle.salvage_rules.proofs.Every.{each-settled, each-kept}

-- bytes that are read are one page
pub read_one : (crc : Bytes → ℕ) (p : Bytes) → is_good (read_page crc p) ≡ true → is_one_page p ≡ true
read_one crc p good = by (is_one_page p) refl
  where
    by : (t : Bool) → is_one_page p ≡ t → is_one_page p ≡ true
    by true e = e
    by false e = let z : ◌≡◌ {A = Bool} false true = sym (ap is_good (not_one_page crc p e)) ∙ good in e ∙ z

page-size : (p : Bytes) → is_one_page p ≡ true → page_size (page_of p).lacing (page_of p).body ≡ length p
unfolding page_of
page-size p one = size_same p one

module _ (crc : Bytes → ℕ) (s : Bytes) (h : starts_page crc s ≡ true) where
  good : is_good (read_page crc (take (size_of s) s)) ≡ true
  good = sym (starts-whole crc s (starts-size crc s h)) ∙ h

  pub there : Inside 0 (size_of s) (length s)
  there = end-inside s 0 (size_of s) (starts-size crc s h)

  pub good-end : (at : ℕ) → end_of (good_at at s) ≡ at + size_of s
  good-end at =
      let e = page-size (take (size_of s) s) (read_one crc (take (size_of s) s) good) in
      let l : length (take (size_of s) s) ≡ size_of s = omega (arith, length-take (size_of s) s, there.within) in
      ap (λ (k : ℕ). at + k) (e ∙ l)

  reads : (b : Bytes) (at : ℕ) → drop at b ≡ s → Read crc b (good_at at s)
  reads b at e =
      let size : end_of (good_at at s) - at ≡ size_of s = omega (arith, good-end at) in
      let same : bytes_in b (good_at at s) ≡ take (size_of s) s = rw (size, e) in
      record { good = rw same good; page = ap page_of same }

-- ---- all of them

pub one_later : (b : Bytes) (at x : ℕ) (s : Bytes) → drop at b ≡ x ∷ s → drop (suc at) b ≡ s
one_later b at x s e = ap (λ (k : ℕ). drop k b) (sym (add-one at)) ∙ sym (drop-drop 1 at b) ∙ ap (drop 1) e

pub good-read : (crc : Bytes → ℕ) (b : Bytes) (inside at : ℕ) (s : Bytes) → drop at b ≡ s → Each (Read crc b) (good_from crc inside at s)
unfolding good_from Each
good-read crc b inside at [] e = tt
good-read crc b (suc inside) at (x ∷ s) e = good-read crc b inside (suc at) s (one_later b at x s e)
good-read crc b zero at (x ∷ s) e =
    by (starts_page crc (x ∷ s)) refl (good-read crc b (size_of (x ∷ s) - 1) (suc at) s (one_later b at x s e)) (good-read crc b 0 (suc at) s (one_later b at x s e))
  where
    by : (t : Bool) → starts_page crc (x ∷ s) ≡ t → Each (Read crc b) (good_from crc (size_of (x ∷ s) - 1) (suc at) s)
        → Each (Read crc b) (good_from crc 0 (suc at) s)
        → Each (Read crc b) (pick t (good_at at (x ∷ s) ∷ good_from crc (size_of (x ∷ s) - 1) (suc at) s) (good_from crc 0 (suc at) s))
    by true h k l = (reads crc (x ∷ s) h b at e, k)
    by false h k l = l

pub kept_read : KeptRead
kept_read crc b = each-kept (Read crc b) crc b (good-read crc b 0 0 b refl)

-- ---- of one serial

serial-all : (n : ℕ) (gs : List Good) → Each (λ (g : Good). g.page.header.serial ≡ n) (of_serial n gs)
unfolding of_serial Each
serial-all n [] = tt
serial-all n (g ∷ gs) = by (has_serial n g) refl (serial-all n gs)
  where
    by : (t : Bool) → has_serial n g ≡ t → Each (λ (g : Good). g.page.header.serial ≡ n) (of_serial n gs)
        → Each (λ (g : Good). g.page.header.serial ≡ n) (pick t (g ∷ of_serial n gs) (of_serial n gs))
    by true e l = (eqb-true g.page.header.serial n e, l)
    by false e l = l

pub kept-serial : KeptSerial
kept-serial crc b n e = each-settled (λ (g : Good). g.page.header.serial ≡ n) (readings crc) (of_stream (serial_in (good_pages crc b)) (good_pages crc b)) (rw e (serial-all n (good_pages crc b)))
