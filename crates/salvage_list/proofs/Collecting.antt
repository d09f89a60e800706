-- One turn of each loop of collecting, and its end. Assumes nothing.
use Rattle.octets.specs.Given.{given}
use Rattle.std.specs.Prelude.{Option, Some, None}
use Prim.Native.Nat.{ℕ, suc, ◌+◌, ◌≤◌, ◌<◌}
use mathlib.Core.Path.{◌≡◌, refl, sym, ap, ◌∙◌}
use mathlib.Core.Bool.{Bool, true, false}
use mathlib.Core.List.{List, [], ◌∷◌}
use mathlib.Core.Option.{some, none}
use native.Mathlib.Numerals.{add-one}
use native.Mathlib.Omega.{arith}
use lib.Dec.{eqb}
use lib.ListN.{length, drop, set, length-set}
use lib.Seq.{sets}
use Rattle.octets.specs.Pick.{pick}
use Rattle.octets.specs.Octets.{Bytes}
use Rattle.page_flags.specs.Flags.{is_first_page}
use Rattle.stream.specs.Page.{page_of}
use Rattle.salvage_search.specs.Search.{next_page}
use Rattle.salvage_rules.specs.Good.{Good, good_pages, serial_in, of_serial, of_stream}
use Rattle.salvage_rules.specs.Listed.{good_in}
use Rattle.salvage_list.specs.Collect.{places_of, seen_at, Kept, Collected}
use Rattle.salvage_list.proofs.Walking.{left, Found, found, all_left, none_left, nearer, one_less}

-- ---- the serial

module _ (crc : Bytes → ℕ) (b : Bytes) (at : ℕ) where
  abbrev later : List Good
  later = left crc b (next_page crc b (seen_at b at).end)

  pub no_serial : length b ≤ at → serial_in (left crc b at) ≡ none
  unfolding serial_in
  no_serial h = rw (none_left crc b at h)

  module _ (f : Found crc b at) (h : at < length b) where
    serial_step : serial_in (left crc b at) ≡ pick (is_first_page (seen_at b at).header.flags) (some (seen_at b at).header.serial) (serial_in later)
    unfolding serial_in seen_at page_of
    serial_step = rw (one_less crc b at f h)

    pub serial-here : is_first_page (seen_at b at).header.flags ≡ true → serial_in (left crc b at) ≡ some (seen_at b at).header.serial
    serial-here e = serial_step ∙ ap (λ (t : Bool). pick t (some (seen_at b at).header.serial) (serial_in later)) e

    pub serial-later : is_first_page (seen_at b at).header.flags ≡ false → serial_in (left crc b at) ≡ serial_in later
    serial-later e = serial_step ∙ ap (λ (t : Bool). pick t (some (seen_at b at).header.serial) (serial_in later)) e

-- ---- the pages of a serial

-- with the pages of the serial n from the place `at` on, the list l, which has `count` places, becomes what `old` has to become
pub record Collecting (crc : Bytes → ℕ) (b : Bytes) (n : ℕ) (old : List ℕ) (at count : ℕ) (l : List ℕ) : Type 0 where
  pub there : Found crc b at
  pub few : count ≤ at
  pub long : length l ≡ length old
  pub sum : count + length (of_serial n (left crc b at)) ≡ length (of_serial n (good_pages crc b))
  pub same : sets l count (places_of (of_serial n (left crc b at))) ≡ sets old 0 (places_of (of_serial n (good_pages crc b)))

module _ (crc : Bytes → ℕ) (b : Bytes) (n : ℕ) (old : List ℕ) where
  pub begins : Collecting crc b n old (next_page crc b 0) 0 old
  begins = record {
    there = found crc b 0;
    few = omega arith;
    long = refl;
    sum = rw (all_left crc b) (omega arith);
    same = rw (all_left crc b);
  }

  module _ (at count : ℕ) (l : List ℕ) (g : Collecting crc b n old at count l) where
    pub ends : length b ≤ at → Collected (of_serial n (good_pages crc b)) count old l
    unfolding of_serial
    ends h =
        let no : of_serial n (left crc b at) ≡ [] = rw (none_left crc b at h) in
        record { count = omega (arith, g.sum, ap length no); stored = sym (ap (λ (gs : List Good). sets l count (places_of gs)) no) ∙ g.same }

    module _ (h : at < length b) where
      step : of_serial n (left crc b at)
          ≡ pick (eqb (seen_at b at).header.serial n) (good_in b at ∷ of_serial n (later crc b at)) (of_serial n (later crc b at))
      unfolding of_serial seen_at page_of
      step = rw (one_less crc b at g.there h)

      pub turns : {r : ℕ} {new : List ℕ} → Kept (eqb (seen_at b at).header.serial n) count at r l new
          → Collecting crc b n old (next_page crc b (seen_at b at).end) r new
      turns {r} {new} k = by (eqb (seen_at b at).header.serial n) step k.many k.stored
        where
          rest : List Good
          rest = of_serial n (later crc b at)

          by : (t : Bool) → of_serial n (left crc b at) ≡ pick t (good_in b at ∷ rest) rest → r ≡ pick t (count + 1) count
              → new ≡ pick t (set l count at) l → Collecting crc b n old (next_page crc b (seen_at b at).end) r new
          by true e p q =
              rw (p, q)
              (record {
                there = found crc b (seen_at b at).end;
                few = omega (arith, g.few, nearer crc b at g.there h);
                long = length-set l count at ∙ g.long;
                sum = omega (arith, g.sum, ap length e);
                same = rw (add-one count) (sym (ap (λ (gs : List Good). sets l count (places_of gs)) e) ∙ g.same);
              })
          by false e p q =
              rw (p, q)
              (record {
                there = found crc b (seen_at b at).end;
                few = omega (arith, g.few, nearer crc b at g.there h);
                long = g.long;
                sum = omega (arith, g.sum, ap length e);
                same = sym (ap (λ (gs : List Good). sets l count (places_of gs)) e) ∙ g.same;
              })

-- ---- the pages of the stream

module _ (gs : List Good) (x : Option ℕ) (h : given x ≡ serial_in gs) where
  pub of_serial_lem : {n r : ℕ} {old new : List ℕ} → x ≡ Some n → Collected (of_serial n gs) r old new
      → Collected (of_stream (serial_in gs) gs) r old new
  of_serial_lem e k = rw (← h, e) k

  pub of_none : {old : List ℕ} → x ≡ None → Collected (of_stream (serial_in gs) gs) 0 old old
  of_none e = rw (← h, e) (record { count = refl; stored = refl })
