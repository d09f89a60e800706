-- `salvage_list::listed_at` meets its contract. Assumes nothing.
use mathlib.Core.Path.{ap, ◌∙◌}
use mathlib.Core.List.{[]}
use native.Mathlib.Omega.{arith}
use Rattle.std.proofs.Common.{◌≡◌, get_or, rules}
use Rattle.octets.specs.Octets.{Bytes}
use Rattle.stream.specs.Page.{page_of}
use Rattle.salvage_rules.specs.Links.{link_of}
use Rattle.salvage_list.proofs.Next.{next-listed}
use Rattle.salvage_list.proofs.listed_at.Goals as goal

pub cut_by-cut-requires : goal.cut_by-cut-requires
cut_by-cut-requires c =
    let a = c.args in
    omega (arith, c.next_listed-index.ensures, (next-listed [] a.list.now a.from).inside)

pub returns : goal.returns
returns c =
    let a = c.args in
    let next = c.next_listed-index in
    let linked = c.link_of-link in
    let place : c.unwrap_or-place.result ≡ get_or a.list.now next.result 0 = search rules in
    record {
      index = next.ensures;
      place = place;
      link = linked.ensures ∙ ap (λ (s : Bytes). link_of (page_of s)) c.page_at.ensures;
      cut = c.cut_by-cut.ensures;
      form = c.form_of-form.ensures;
    }
