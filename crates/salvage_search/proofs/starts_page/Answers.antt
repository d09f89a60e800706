-- `salvage_search::starts_page` meets its contract. Assumes nothing.
use Rattle.octets.specs.Given.{given}
use Prim.Native.Nat.{ℕ}
use mathlib.Core.Path.{◌≡◌, sym, ap, ◌∙◌}
use mathlib.Core.Option.{some}
use native.Mathlib.Omega.{arith}
use lib.ListN.{length-take}
use Rattle.octets.specs.Octets.{Bytes}
use Rattle.page_end.specs.End.{end_at}
use Rattle.page_crc_tables.specs.Table.{entry_in}
use Rattle.page_crc.specs.Sliced.{page_sliced}
use Rattle.salvage_search.specs.Search.{is_good, starts_page}
use Rattle.page_end.proofs.Ends.{end-inside}
use Rattle.salvage_search.proofs.Starting.{good_told, starts-cut, starts-whole}
use Rattle.salvage_search.proofs.starts_page.Goals as goal

pub slice_bounds-read_page_with-end : goal.slice_bounds-read_page_with-end
slice_bounds-read_page_with-end c =
    let s : Bytes = c.args.s.now in
    let e : ℕ = c.in-Some.end in
    let there : end_at s 0 ≡ some e = sym c.end_at.ensures ∙ ap given c.in-Some.is in
    omega (arith, (end-inside s 0 e there).within, length-take e s)

pub returns-in-None : goal.returns-in-None
returns-in-None c =
    sym (starts-cut _ c.args.s.now (sym c.end_at.ensures ∙ ap given c.in-None.is))

pub returns-in-Some : goal.returns-in-Some
returns-in-Some c =
    let good : c.is_ok.result ≡ starts_page (page_sliced (entry_in c.args.tables.now)) c.args.s.now =
    c.is_ok.ensures.value
    ∙ good_told c.read_page_with.result
    ∙ sym (starts-whole _ c.args.s.now (sym c.end_at.ensures ∙ ap given c.in-Some.is)
    ∙ ap is_good (sym c.read_page_with.ensures)) in
    grind (arith, good)
