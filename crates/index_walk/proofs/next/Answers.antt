-- `index_walk::next` meets its contract. Assumes nothing.
use Rattle.std.proofs.Common.{◌≡◌, ◌+◌, Bool, length, ap, ◌∙◌, arith, rules}
use Rattle.octets.specs.Octets.{Bytes}
use Rattle.page_layout.specs.declared.PageHeader.{PageHeader}
use Rattle.page_layout.specs.Page.{header_of, lacing_of}
use Rattle.stream.specs.Page.{page_of, ends, completes}
use Rattle.recording_pages.specs.Places.{page_at}
use Rattle.recording_pages.proofs.Pages.{page-within}
use Rattle.index_walk.specs.declared.Walk.{Walk}
use Rattle.index_walk.specs.Walk.{stepped_to, next_of}
use Rattle.index_walk.proofs.next.Goals as goal

stepped : (b : Bytes) (w : Walk) (p : Bytes) (h : PageHeader) (l : Bytes) (done : Bool)
    → p ≡ page_at b w.at → h ≡ header_of p → l ≡ lacing_of p → done ≡ ends l
    → stepped_to w (w.at + length p) done (record { granule = h.granule; place = w.at; sequence = h.sequence }) ≡ next_of b w
unfolding next_of page_of completes
stepped b w p h l done page header lacing e = rw (e, lacing, header, page)

pub overflow_add-end : goal.overflow_add-end
overflow_add-end c =
    omega (arith, ap length c.page_at-page.ensures, page-within c.args.stream.now c.args.w.at)

pub returns : goal.returns
returns c =
    c.step.ensures
    ∙ stepped c.args.stream.now c.args.w c.page_at-page.result.now c.header_of-header.result
    c.lacing_of.result.now c.has_end-done.result
    c.page_at-page.ensures c.header_of-header.ensures c.lacing_of.ensures c.has_end-done.ensures
