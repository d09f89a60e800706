-- The pages that are collected: their places are a list of them, they are few, and each is read. Assumes nothing.
use Prim.Native.Nat.{ℕ, zero, suc, ◌+◌, ◌*◌, ◌-◌, ◌^◌, ◌≤◌, ◌<◌}
use mathlib.Core.Path.{◌≡◌, refl, sym, ap, ◌∙◌}
use mathlib.Core.Bool.{Bool, true, false}
use mathlib.Core.List.{List, [], ◌∷◌}
use native.Mathlib.Omega.{arith}
use borrow.Author.Tests.{ne_eqb}
use lib.ListN.{length, drop}
use Rattle.octets.specs.Pick.{pick}
use Rattle.octets.specs.Octets.{Bytes}
use Rattle.page_size.specs.Size.{size_of}
use Rattle.page_reader.specs.Reading.{read_page}
use Rattle.salvage_search.specs.Search.{is_good, starts_page}
use Rattle.salvage_search.proofs.Starting.{starts-whole, starts-size}
use Rattle.salvage_rules.specs.Good.{Good, end_of, good_at, good_from, good_pages, serial_in}
use Rattle.salvage_rules.specs.Listed.{bytes_at, good_in, missing_place, listed_in}
use Rattle.salvage_rules.specs.Statements.{Each, Apart, Read}
use Rattle.salvage_rules.proofs.Every.{each-stream}
use Rattle.salvage_rules.proofs.Found.{one_later, good-read}
use Rattle.salvage_rules.proofs.Covering.{good-apart, stream-apart}
use Rattle.salvage_list.specs.Collect.{stream_pages, places_of}
use Rattle.salvage_list.specs.Statements.{CollectedListed, FewPages, EachRead, EachGood}
use Rattle.salvage_list.proofs.There.{within, bytes-there, good-there}

-- ---- each page is where it starts

pub record Here (crc : Bytes → ℕ) (b : Bytes) (g : Good) : Type 0 where
  pub starts : starts_page crc (drop g.place b) ≡ true
  pub same : g ≡ good_in b g.place

module _ (crc : Bytes → ℕ) (b : Bytes) where
  here : (at : ℕ) (s : Bytes) → drop at b ≡ s → starts_page crc s ≡ true → Here crc b (good_at at s)
  here at s e h =
      let starts : starts_page crc (drop at b) ≡ true = ap (starts_page crc) e ∙ h in
      record { starts = starts; same = ap (good_at at) (sym e) ∙ good-there crc b at starts }

  each-here : (inside at : ℕ) (s : Bytes) → drop at b ≡ s → Each (Here crc b) (good_from crc inside at s)
  unfolding good_from Each
  each-here inside at [] e = tt
  each-here (suc inside) at (x ∷ s) e = each-here inside (suc at) s (one_later b at x s e)
  each-here zero at (x ∷ s) e =
      by (starts_page crc (x ∷ s)) refl (each-here (size_of (x ∷ s) - 1) (suc at) s (one_later b at x s e)) (each-here 0 (suc at) s (one_later b at x s e))
    where
      by : (t : Bool) → starts_page crc (x ∷ s) ≡ t → Each (Here crc b) (good_from crc (size_of (x ∷ s) - 1) (suc at) s)
          → Each (Here crc b) (good_from crc 0 (suc at) s)
          → Each (Here crc b) (pick t (good_at at (x ∷ s) ∷ good_from crc (size_of (x ∷ s) - 1) (suc at) s) (good_from crc 0 (suc at) s))
      by true h k l = (here at (x ∷ s) e h, k)
      by false h k l = l

  pub all_here : Each (Here crc b) (stream_pages crc b)
  all_here = each-stream (Here crc b) (serial_in (good_pages crc b)) (good_pages crc b) (each-here 0 0 b refl)

-- ---- the list

listed : (crc : Bytes → ℕ) (b : Bytes) (gs : List Good) → length b < 2 ^ 64 → Each (Here crc b) gs → listed_in b (places_of gs) ≡ gs
unfolding listed_in Each
listed crc b [] h e = refl
listed crc b (g ∷ gs) h e =
    let w = within crc b g.place e.0.starts in
    let there = ne_eqb g.place missing_place (λ q. omega (arith, w.0, w.1)) in
    rw there
    (ap (λ (x : Good). x ∷ listed_in b (places_of gs)) (sym e.0.same) ∙ ap (λ (l : List Good). g ∷ l) (listed crc b gs h e.1))

pub collected_listed : CollectedListed
collected_listed crc b h = listed crc b (stream_pages crc b) h (all_here crc b)

-- ---- how many there are

few : (lo n : ℕ) (gs : List Good) → Apart lo n gs → lo + 27 * length gs ≤ n
unfolding Apart
few lo n [] w = omega arith
few lo n (g ∷ gs) w = let later = few (end_of g) n gs w.1 in omega (arith, w.0)

pub few-pages : FewPages
few-pages crc b =
    let gs : List Good = good_pages crc b in
    let apart : Apart 0 (length b) gs = good-apart crc 0 0 (length b) b (omega arith) (omega arith) in
    omega (arith, few 0 (length b) (stream_pages crc b) (stream-apart (serial_in gs) 0 (length b) gs apart))

-- ---- each is read

pub each_read : EachRead
each_read crc b = each-stream (Read crc b) (serial_in (good_pages crc b)) (good_pages crc b) (good-read crc b 0 0 b refl)

module _ (crc : Bytes → ℕ) (b : Bytes) where
  good : (g : Good) → Here crc b g → is_good (read_page crc (bytes_at b g.place)) ≡ true
  good g e =
      let s : Bytes = drop g.place b in
      rw (bytes-there crc b g.place e.starts) (sym (starts-whole crc s (starts-size crc s e.starts)) ∙ e.starts)

  goods : (gs : List Good) → Each (Here crc b) gs → Each (λ (g : Good). is_good (read_page crc (bytes_at b g.place)) ≡ true) gs
  unfolding Each
  goods [] e = tt
  goods (g ∷ gs) e = (good g e.0, goods gs e.1)

pub each-good : EachGood
each-good crc b = goods crc b (stream_pages crc b) (all_here crc b)
