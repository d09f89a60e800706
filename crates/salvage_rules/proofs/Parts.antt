-- A tidied page by its parts: its bytes are read as what is kept of the page. Assumes nothing.
use Prim.Native.Nat.{ℕ, ◌≤◌}
use mathlib.Core.Path.{◌≡◌, sym, ap, subst, ◌∙◌}
use mathlib.Core.Bool.{Bool, true, false}
use native.Mathlib.Omega.{arith}
use lib.ListN.{length, length-append}
use Rattle.octets.specs.Octets.{Bytes, Octets}
use Rattle.page_layout.specs.declared.PageHeader.{PageHeader}
use Rattle.page_layout.specs.Places.{count_at}
use Rattle.page_layout.specs.Page.{header_of}
use Rattle.page_size.specs.Size.{is_one_page}
use Rattle.page_size.proofs.Whole.{lacing-length}
use Rattle.page_writer.specs.Writing.{page_bytes}
use Rattle.page_writer.specs.Statements.{ReadsAs}
use Rattle.page_writer.proofs.RoundTrip.{bytes_read}
use Rattle.stream.specs.Page.{Page, page_of}
use Rattle.salvage_rules.specs.declared.Form.{Form}
use Rattle.salvage_rules.specs.Tidy.{up_to_last, without_first, without_last, without, renewed, tidy_page}
use Rattle.stream.specs.Packets.{after_first}
use Rattle.salvage_rules.specs.Links.{kept_of, tidied}
use Rattle.salvage_rules.specs.Rounds.{page_out}
use Rattle.salvage_rules.proofs.Pieces.{first_part, first-apart, last_part, last_apart}
use Rattle.salvage_rules.proofs.Removing.{without-fits}
use Rattle.salvage_rules.proofs.Differing.{old-page, renewed-fit, same-header}

-- ---- no more lacing values than before

first_fewer : (p : Page) → length (without_first p).lacing ≤ length p.lacing
first_fewer p = omega (arith, ap length (first-apart p.lacing) ∙ length-append (first_part p.lacing) (after_first p.lacing))

last_fewer : (p : Page) → length (without_last p).lacing ≤ length p.lacing
last_fewer p = omega (arith, ap length (last_apart p.lacing) ∙ length-append (up_to_last p.lacing) (last_part p.lacing))

fewer : (lead trail : Bool) (p : Page) → length (without lead trail p).lacing ≤ length p.lacing
fewer true true p = omega (arith, first_fewer (without_last p), last_fewer p)
fewer true false p = first_fewer p
fewer false true p = last_fewer p
fewer false false p = omega arith

-- ---- a page of the input

module _ (p : Bytes) (o : Octets p) (one : is_one_page p ≡ true) (f : Form) where
  -- a byte tells at most 255 values
  pub kept-few : length (kept_of f (page_of p)).lacing ≤ 255
  unfolding page_of
  kept-few = omega (arith, fewer f.lead f.trail (page_of p), lacing-length p one, o.below count_at)

  pub tidied-reads : (n : ℕ)
      → ReadsAs (page_out (tidied f n (record { place = 0; page = page_of p }))) (renewed f.lead n (header_of p))
      (kept_of f (page_of p)).lacing (kept_of f (page_of p)).body
  unfolding page_of tidy_page
  tidied-reads n =
      let old = old-page p o one in
      let new : Page = without f.lead f.trail (page_of p) in
      let same : new.header ≡ header_of p = same-header f.lead f.trail (page_of p) in
      let out : PageHeader = renewed f.lead n new.header in
      subst (λ (h : PageHeader). ReadsAs (page_bytes out new.lacing new.body) (renewed f.lead n h) new.lacing new.body) same
      (bytes_read out new.lacing new.body (sym (without-fits f.lead f.trail (page_of p) old.1)) (renewed-fit f.lead n new.header (rw same old.0)))
