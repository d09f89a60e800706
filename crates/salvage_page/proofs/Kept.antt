-- The lacing values and the body of a page without its removed pieces, one piece at a time. Assumes nothing.
use Rattle.refusal.specs.declared.Refusal.{Refusal}
use Rattle.std.specs.Prelude.{Result, Ok, Err}
use Rattle.std.proofs.Common.{◌≡◌, ℕ, ◌-◌, ◌%◌, ◌^◌, ◌<◌, ◌≤◌, Bool, true, false, length, get_or, take, drop, refl, ◌∙◌, arith, length-drop, length-take, take_all}
use Rattle.octets.specs.Pick.{pick}
use Rattle.octets.specs.Octets.{Bytes}
use Rattle.page_layout.specs.declared.PageHeader.{PageHeader}
use Rattle.page_layout.specs.Places.{count_at, lacing_at}
use Rattle.page_layout.specs.Page.{count_of, header_of, lacing_of}
use Rattle.page_writer.specs.Writing.{WroteAny}
use Rattle.stream.specs.Page.{Page, page_of}
use Rattle.salvage_rules.specs.declared.Form.{Form}
use Rattle.salvage_rules.specs.Tidy.{without, renewed, tidy_page}
use Rattle.salvage_rules.specs.Links.{kept_of}
use Rattle.salvage_rules.proofs.Bytes.{last-length}
use Rattle.salvage_page.specs.Tidied.{lastless, firstless, lastless_body, firstless_body, tidied_of, WroteTidied}

-- ---- both pieces

pub kept-lacing : (lead trail : Bool) (p : Page) → firstless lead (lastless trail p.lacing) ≡ (without lead trail p).lacing
kept-lacing true true p = refl
kept-lacing true false p = refl
kept-lacing false true p = refl
kept-lacing false false p = refl

pub kept-body : (lead trail : Bool) (p : Page)
    → firstless_body lead (lastless trail p.lacing) (lastless_body trail p.lacing p.body) ≡ (without lead trail p).body
kept-body true true p = refl
kept-body true false p = refl
kept-body false true p = refl
kept-body false false p = refl

same-header : (lead trail : Bool) (p : Page) → (without lead trail p).header ≡ p.header
same-header true true p = refl
same-header true false p = refl
same-header false true p = refl
same-header false false p = refl

-- ---- how many values there are

pub few-values : (p : Bytes) → get_or p count_at 0 < 256 → length (lacing_of p) ≤ 255
unfolding lacing_of
few-values p h = omega (arith, length-take (count_of p) (drop lacing_at p))

pub few-kept : (trail : Bool) (l : Bytes) → length l ≤ 255 → length (lastless trail l) ≤ 255
few-kept true l h = omega (arith, last-length l)
few-kept false l h = h

-- ---- a part up to the end

pub rest_of : (n : ℕ) (s : Bytes) → take (length s) (drop n s) ≡ drop n s
rest_of n s = take_all (length s) (drop n s) (simp length-drop (omega arith))

-- ---- the fields

-- the number fits its field
pub renewed_as : (lead : Bool) (n : ℕ) {f : ℕ} {g h : PageHeader} → f ≡ pick lead (h.flags - 1) h.flags → g ≡ h → n < 2 ^ 32
    → record { flags = f; granule = g.granule; serial = g.serial; sequence = n } ≡ renewed lead n h
renewed_as lead n e same fits = let whole : n % 2 ^ 32 ≡ n = omega arith in rw (e, same, whole)

-- ---- the page tidied

module _ (f : Form) (n : ℕ) (p : Bytes) where
  tidied-header : renewed f.lead n (header_of p) ≡ (tidied_of f n p).page.header
  unfolding tidy_page page_of
  tidied-header = rw (same-header f.lead f.trail (page_of p))

  tidied-lacing : (kept_of f (page_of p)).lacing ≡ (tidied_of f n p).page.lacing
  unfolding tidy_page
  tidied-lacing = refl

  tidied-body : (kept_of f (page_of p)).body ≡ (tidied_of f n p).page.body
  unfolding tidy_page
  tidied-body = refl

  -- what was written of the parts was written of it
  pub wrote_as : (out : Bytes) {h : PageHeader} {l b : Bytes} {r : Result ℕ Refusal} {end : Bytes}
      → h ≡ renewed f.lead n (header_of p) → l ≡ (kept_of f (page_of p)).lacing → b ≡ (kept_of f (page_of p)).body
      → WroteAny h l b out r end → WroteTidied f n p out r end
  wrote_as out {h} {l} {b} {r} {end} eh el eb w =
      let x = eh ∙ tidied-header in
      let y = el ∙ tidied-lacing in
      let z = eb ∙ tidied-body in
      rw (← x, ← y, ← z) w
