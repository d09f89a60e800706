-- A page tidied is written whole where there is room, and it is no longer than the page. Assumes nothing.
use Rattle.std.proofs.Common.{◌≡◌, ◌≤◌, length, sym, ap, ◌∙◌, arith}
use mathlib.Core.Option.{none}
use Rattle.octets.specs.Octets.{Bytes}
use Rattle.refusal.specs.Checks.{first_of}
use Rattle.page_layout.specs.Places.{count_at}
use Rattle.page_lacing.proofs.Bodies.{is_body_lem}
use Rattle.page_size.proofs.Whole.{body-length}
use Rattle.page_writer.specs.Writing.{page_bytes, any_checks, write_any_told, write_any_out}
use Rattle.page_writer.proofs.Writing.{any_writable}
use Rattle.page_writer.proofs.RoundTrip.{size_same}
use Rattle.stream.specs.Page.{Page, page_of}
use Rattle.salvage_rules.specs.Tidy.{without, numbered, tidy_page}
use Rattle.salvage_rules.specs.Links.{kept_of}
use Rattle.salvage_rules.proofs.Removing.{Fits, without-fits}
use Rattle.salvage_rules.proofs.Room.{shorter}
use Rattle.salvage_page.specs.Statements.{PageSaved, NoLonger, AnyPlace}
use Rattle.salvage_page.proofs.Kept.{few-values}

-- ---- no longer

pub no_longer : NoLonger
unfolding page_of
no_longer f p one = let s = shorter f.lead f.trail (page_of p) in omega (arith, size_same p one, s.lacing, s.body)

-- ---- written whole

pub page-saved : PageSaved
unfolding write_any_told write_any_out tidy_page page_of
page-saved f n p out r end o one room w =
    let k : Page = kept_of f (page_of p) in
    let s = shorter f.lead f.trail (page_of p) in
    let few : length k.lacing ≤ 255 = omega (arith, s.lacing, few-values p (o.below count_at)) in
    let fits : Fits k = without-fits f.lead f.trail (page_of p) (body-length p one) in
    let clear : first_of (any_checks k.lacing k.body (length out)) ≡ none =
    (any_writable k.lacing k.body (length out) (is_body_lem k.lacing k.body few (sym fits)) room) in
    record { told = w.told ∙ rw clear; output = w.output ∙ rw clear }

pub any_place : AnyPlace
unfolding tidy_page
any_place f n p g e =
    let out : Page → Bytes = λ (q : Page). page_bytes q.header q.lacing q.body in
    ap (λ (q : Page). out (numbered f.lead n (without f.lead f.trail q))) e
