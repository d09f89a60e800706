-- A kept page differs from its old one as its lines tell. Assumes nothing.
use Prim.Native.Nat.{ℕ, suc, ◌+◌, ◌-◌, ◌%◌}
use mathlib.Core.Path.{◌≡◌, refl, sym, ap, ◌∙◌}
use mathlib.Core.Logic.{inl, inr}
use mathlib.Core.Bool.{Bool, true, false, not, ◌&&◌, ◌||◌}
use mathlib.Core.List.{List, [], ◌∷◌, ◌++◌}
use native.Mathlib.Omega.{arith}
use borrow.Author.Tests.{eqb-true, not-false}
use lib.ListN.{drop}
use Rattle.octets.specs.Pick.{pick}
use Rattle.octets.specs.Octets.{Bytes, Octets}
use Rattle.octets.proofs.Tests.{both}
use Rattle.page_lacing.specs.Lacing.{unfinished}
use Rattle.page_layout.specs.declared.PageHeader.{PageHeader}
use Rattle.page_writer.specs.Statements.{Fit}
use Rattle.octets.proofs.Parts.{octets-take, octets-drop}
use Rattle.page_size.specs.Size.{is_one_page}
use Rattle.page_size.proofs.Whole.{body-length}
use Rattle.page_writer.proofs.RoundTrip.{bytes_read}
use Rattle.page_writer.proofs.Fitting.{header-fit}
use Rattle.page_writer.proofs.Written.{page}
use Rattle.stream.specs.Page.{Page, page_of, continued, ends}
use Rattle.salvage_search.proofs.Starting.{true-false}
use Rattle.salvage_rules.specs.Good.{Good, end_of}
use Rattle.salvage_rules.specs.Tidy.{goes_on, goes_through, open_after, cut_after, Before, cut_before, no_page, page_before, leading_cut, trailing_cut, first_cut, tidy_page, tidy_from, without, renewed}
use Rattle.salvage_rules.specs.Statements.{Each, bytes_in, Read}
use Rattle.salvage_rules.specs.Rounds.{kept_in}
use Rattle.salvage_rules.specs.Changes.{Marked, Differs, KeptDiffers}
use Rattle.salvage_rules.proofs.Telling.{told_cuts, told-mark, told-number}
use Rattle.salvage_rules.proofs.Removing.{Fits, Pieces, pieces, without-fits}
use Rattle.salvage_rules.proofs.Found.{read_one, kept_read}

-- ---- an old page, read from the input

record Old (g : Good) : Type 0 where
  fit : Fit g.page.header
  fits : Fits g.page

module _ (p : Bytes) (o : Octets p) (one : is_one_page p ≡ true) where
  pub old-page : Fit (page_of p).header × Fits (page_of p)
  unfolding page_of
  old-page = (header-fit p o one, body-length p one)

old_of : (crc : Bytes → ℕ) (b : Bytes) (g : Good) → Octets b → Read crc b g → Old g
old_of crc b g o r =
    let p : Bytes = bytes_in b g in
    let z = old-page p (octets-take (end_of g - g.place) (drop g.place b) (octets-drop g.place b o)) (read_one crc p r.good) in
    record { fit = rw r.page at z.0; fits = rw r.page at z.1 }

all_old : (crc : Bytes → ℕ) (b : Bytes) (gs : List Good) → Octets b → Each (Read crc b) gs → Each Old gs
unfolding Each
all_old crc b [] o a = tt
all_old crc b (g ∷ gs) o a = (old_of crc b g o a.0, all_old crc b gs o a.1)

-- ---- when pieces are cut

module _ (p : Page) (qs : List Good) where
  lead-continued : (x : Before) → leading_cut x p qs ≡ true → continued p ≡ true
  unfolding leading_cut goes_through
  lead-continued x h = by (continued p) refl
    where
      none : (x : Before) → continued p ≡ false → cut_before x p || ((continued p && not (ends p.lacing)) && cut_after p qs) ≡ false
      none no_page e = rw e
      none (page_before a c) e = rw e

      by : (t : Bool) → continued p ≡ t → continued p ≡ true
      by true e = e
      by false e = true-false (sym h ∙ none x e)

  pub trail_through : trailing_cut p qs ≡ true → goes_through p ≡ false
  unfolding trailing_cut
  trail_through h = by (goes_through p) (both (not (goes_through p)) (cut_after p qs) h).0
    where
      by : (t : Bool) → not t ≡ true → t ≡ false
      by true e = sym e
      by false e = refl

goes_on-cut : (p : Page) (qs : List Good) → cut_after p qs ≡ true → goes_on p ≡ true
unfolding cut_after
goes_on-cut p [] h = true-false (sym h)
goes_on-cut p (q ∷ qs) h = (both (goes_on p) _ h).0

module _ (p : Page) (qs : List Good) (h : trailing_cut p qs ≡ true) where
  pub trail_open : open_after (continued p) p.lacing ≡ true
  unfolding trailing_cut goes_on
  trail_open = goes_on-cut p qs (both (not (goes_through p)) (cut_after p qs) h).1

  -- a page that continues a packet, and on which another begins
  both_end : continued p ≡ true → ends p.lacing ≡ true
  unfolding goes_through
  both_end c = not-false (ends p.lacing) (rw c at (trail_through p qs h))

-- ---- one page

pub renewed-fit : (lead : Bool) (n : ℕ) (h : PageHeader) → Fit h → Fit (renewed lead n h)
renewed-fit true n h f = record { flags = omega (arith, f.flags); granule = f.granule; serial = f.serial; sequence = omega arith }
renewed-fit false n h f = record { flags = f.flags; granule = f.granule; serial = f.serial; sequence = omega arith }

pub same-header : (lead trail : Bool) (p : Page) → (without lead trail p).header ≡ p.header
same-header true true p = refl
same-header true false p = refl
same-header false true p = refl
same-header false false p = refl

one_less : (p : Page) → continued p ≡ true → p.header.flags - 1 + 1 ≡ p.header.flags
unfolding continued
one_less p c = let e : p.header.flags % 2 ≡ 1 = eqb-true (p.header.flags % 2) 1 c in omega arith

marked : (lead trail : Bool) (n : ℕ) (g : Good) → (lead ≡ true → continued g.page ≡ true) → Marked (tidy_page lead trail n g)
unfolding tidy_page
marked true true n g c = inr (told-mark (tidy_page true true n g), c refl, one_less g.page (c refl))
marked true false n g c = inr (told-mark (tidy_page true false n g), c refl, one_less g.page (c refl))
marked false true n g c = inl (told-mark (tidy_page false true n g), refl)
marked false false n g c = inl (told-mark (tidy_page false false n g), refl)

differs : (lead trail : Bool) (n : ℕ) (g : Good) → Old g → (lead ≡ true → continued g.page ≡ true)
    → Pieces g.page (without lead trail g.page) (pick lead (first_cut g.page.lacing) [] ++ pick trail (unfinished g.page.lacing ∷ []) [])
    → Differs (tidy_page lead trail n g)
unfolding tidy_page
differs lead trail n g o c x = record {
  reads =
      bytes_read (renewed lead n new.header) new.lacing new.body (sym (without-fits lead trail g.page o.fits))
      (renewed-fit lead n new.header (same-fit lead trail));
  granule = ap (λ (h : PageHeader). h.granule) (same-header lead trail g.page);
  serial = ap (λ (h : PageHeader). h.serial) (same-header lead trail g.page);
  number = told-number (tidy_page lead trail n g);
  mark = marked lead trail n g c;
  lead = x.lead;
  trail = x.trail;
  lacing = x.lacing;
  body = x.body;
  cuts = told_cuts (tidy_page lead trail n g) ∙ x.told;
}
  where
    new : Page
    new = without lead trail g.page

    same-fit : (s t : Bool) → Fit (without s t g.page).header
    same-fit s t = rw (same-header s t g.page) o.fit

-- ---- all of them

all-differ : (n : ℕ) (x : Before) (gs : List Good) → Each Old gs → Each Differs (tidy_from x n gs)
unfolding tidy_from Each
all-differ n x [] a = tt
all-differ n x (g ∷ gs) a =
    let p : Page = g.page in
    let c = lead-continued p gs x in (
      differs (leading_cut x p gs) (trailing_cut p gs) n g a.0 c (
          pieces (leading_cut x p gs) (trailing_cut p gs) p a.0.fits (trail_open p gs) (trail_through p gs) (λ l t. both_end p gs t (c l))
          ),
      all-differ (suc n) _ gs a.1,
    )

pub kept_differs : KeptDiffers
kept_differs crc b o = all-differ 0 no_page (kept_in crc b) (all_old crc b (kept_in crc b) o (kept_read crc b))
