-- What is saved of bytes is bytes, and so it is saved again as it is. Assumes nothing.
use Prim.Native.Nat.{ℕ, zero, suc, ◌+◌, ◌-◌, ◌≤◌, ◌<◌}
use mathlib.Core.Bool.{Bool, true, false}
use mathlib.Core.List.{List, [], ◌∷◌, map}
use native.Mathlib.Omega.{arith}
use lib.Dec.{ltb}
use lib.ListN.{length, take, drop, length-take}
use Rattle.octets.specs.Pick.{pick}
use Rattle.octets.specs.Octets.{Bytes, Octets, total}
use Rattle.octets.proofs.Parts.{octets-tail, octets-take, octets-drop}
use Rattle.page_crc.specs.Crc.{page_crc}
use Rattle.page_layout.specs.Places.{flags_at, count_at, lacing_at}
use Rattle.page_layout.specs.Page.{count_of, header_of, lacing_of, body_of}
use Rattle.page_size.specs.Size.{size_of}
use Rattle.page_writer.proofs.Octets.{octets-append, octets_cons, octets-none, page-octets}
use Rattle.stream.specs.Page.{Page, page_of, ends}
use Rattle.stream.specs.Packets.{after_first}
use Rattle.feed_pages.specs.Feedings.{together}
use Rattle.salvage_search.specs.Search.{starts_page}
use Rattle.salvage_rules.specs.Good.{Good, good_from}
use Rattle.salvage_rules.specs.Tidy.{Before, no_page, leading_cut, trailing_cut, up_to_last, without_first, without_last, without, numbered, tidy_page, tidy_from}
use Rattle.salvage_rules.specs.Rounds.{page_out, pages_out}
use Rattle.salvage_rules.specs.Statements.{Each, SavedStays}
use Rattle.salvage_rules.proofs.Every.{each-kept}
use Rattle.salvage_rules.proofs.Accepted.{accepted_unchanged}
use Rattle.salvage_rules.proofs.Saved.{out_of, saved-whole}

-- ---- pages of bytes

record OfBytes (p : Page) : Type 0 where
  pub flags : p.header.flags < 256
  pub count : length p.lacing < 256
  pub lacing : Octets p.lacing
  pub body : Octets p.body

abbrev PageOfBytes : Good → Type 0
PageOfBytes g = OfBytes g.page

page_of-bytes : (t : Bytes) → Octets t → OfBytes (page_of t)
unfolding page_of header_of lacing_of body_of
page_of-bytes t o = record {
  flags = o.below flags_at;
  count = omega (arith, o.below count_at, length-take (count_of t) (drop lacing_at t));
  lacing = octets-take (count_of t) (drop lacing_at t) (octets-drop lacing_at t o);
  body = octets-drop (lacing_at + count_of t) t o;
}

good_of_bytes : (crc : Bytes → ℕ) (inside at : ℕ) (s : Bytes) → Octets s → Each PageOfBytes (good_from crc inside at s)
unfolding good_from Each
good_of_bytes crc inside at [] o = tt
good_of_bytes crc (suc inside) at (x ∷ s) o = good_of_bytes crc inside (suc at) s (octets-tail o)
good_of_bytes crc zero at (x ∷ s) o =
    by (starts_page crc (x ∷ s)) (good_of_bytes crc (size_of (x ∷ s) - 1) (suc at) s (octets-tail o)) (good_of_bytes crc 0 (suc at) s (octets-tail o))
  where
    by : (t : Bool) → Each PageOfBytes (good_from crc (size_of (x ∷ s) - 1) (suc at) s) → Each PageOfBytes (good_from crc 0 (suc at) s)
        → Each PageOfBytes (pick t (record { place = at; page = page_of (take (size_of (x ∷ s)) (x ∷ s)) } ∷ good_from crc (size_of (x ∷ s) - 1) (suc at) s) (good_from crc 0 (suc at) s))
    by true a b = (page_of-bytes (take (size_of (x ∷ s)) (x ∷ s)) (octets-take (size_of (x ∷ s)) (x ∷ s) o), a)
    by false a b = b

-- ---- tidied pages of bytes

first-octets : (l : Bytes) → Octets l → Octets (after_first l)
unfolding after_first
first-octets [] o = o
first-octets (v ∷ l) o = by (ltb v 255) (first-octets l (octets-tail o))
  where
    by : (t : Bool) → Octets (after_first l) → Octets (pick t l (after_first l))
    by true r = octets-tail o
    by false r = r

pub first-length : (l : Bytes) → length (after_first l) ≤ length l
unfolding after_first
first-length [] = omega arith
first-length (v ∷ l) = by (ltb v 255) (first-length l)
  where
    by : (t : Bool) → length (after_first l) ≤ length l → length (pick t l (after_first l)) ≤ length (v ∷ l)
    by true r = omega arith
    by false r = omega arith

last-octets : (l : Bytes) → Octets l → Octets (up_to_last l)
unfolding up_to_last
last-octets [] o = o
last-octets (v ∷ l) o = by (ends (v ∷ l)) (last-octets l (octets-tail o))
  where
    by : (t : Bool) → Octets (up_to_last l) → Octets (pick t (v ∷ up_to_last l) [])
    by true r = octets_cons v (up_to_last l) (o.below 0) r
    by false r = octets-none

pub last-length : (l : Bytes) → length (up_to_last l) ≤ length l
unfolding up_to_last
last-length [] = omega arith
last-length (v ∷ l) = by (ends (v ∷ l)) (last-length l)
  where
    by : (t : Bool) → length (up_to_last l) ≤ length l → length (pick t (v ∷ up_to_last l) []) ≤ length (v ∷ l)
    by true r = omega arith
    by false r = omega arith

without_of_bytes : (lead trail : Bool) (p : Page) → OfBytes p → OfBytes (without lead trail p)
without_of_bytes lead trail p s = first lead (second trail)
  where
    second : (t : Bool) → OfBytes (pick t (without_last p) p)
    second true = record {
      flags = s.flags;
      count = omega (arith, s.count, last-length p.lacing);
      lacing = last-octets p.lacing s.lacing;
      body = octets-take (total (up_to_last p.lacing)) p.body s.body;
    }
    second false = s

    first : (t : Bool) {q : Page} → OfBytes q → OfBytes (pick t (without_first q) q)
    first true {q} r = record {
      flags = r.flags;
      count = omega (arith, r.count, first-length q.lacing);
      lacing = first-octets q.lacing r.lacing;
      body = octets-drop (total q.lacing - total (after_first q.lacing)) q.body r.body;
    }
    first false r = r

numbered_of_bytes : (lead : Bool) (n : ℕ) (p : Page) → OfBytes p → OfBytes (numbered lead n p)
numbered_of_bytes true n p s = record { flags = omega (arith, s.flags); count = s.count; lacing = s.lacing; body = s.body }
numbered_of_bytes false n p s = record { flags = s.flags; count = s.count; lacing = s.lacing; body = s.body }

out_octets : (n : ℕ) (x : Before) (gs : List Good) → Each PageOfBytes gs → Octets (together (map page_out (tidy_from x n gs)))
unfolding Each tidy_from tidy_page together
out_octets n x [] a = octets-none
out_octets n x (g ∷ gs) a =
    let lead : Bool = leading_cut x g.page gs in
    let trail : Bool = trailing_cut g.page gs in
    let p : Page = numbered lead n (without lead trail g.page) in
    let s : OfBytes p = numbered_of_bytes lead n (without lead trail g.page) (without_of_bytes lead trail g.page a.0) in
    octets-append _ _ (page-octets p.header s.flags p.lacing p.body s.count s.lacing s.body)
    (out_octets (suc n) _ gs a.1)

-- ---- all together

pub saved-stays : SavedStays
unfolding pages_out
saved-stays b out ls o e =
    let x = out_of page_crc b out ls e in
    let kept : Each PageOfBytes x.kept = rw x.is (each-kept PageOfBytes page_crc b (good_of_bytes page_crc 0 0 b o)) in
    let bytes : Octets out = rw x.bytes at (out_octets 0 no_page x.kept kept) in
    accepted_unchanged out _ _ bytes (saved-whole page_crc b out ls e)
