-- `salvage::put_page` meets its contract. Assumes nothing.
use Rattle.std.proofs.Common.{sym, ap, ◌∙◌, rules}
use Rattle.page_crc.specs.Crc.{page_crc}
use Rattle.salvage_rules.proofs.Found.{read_one}
use Rattle.octets.specs.Octets.{copied}
use Rattle.salvage.proofs.Pages.{as_it_is_lem, put-tidied}
use Rattle.salvage.proofs.put_page.Goals as goal

pub returns-then-is_same : goal.returns-then-is_same
returns-then-is_same c =
    let a = c.args in
    c.copy_at.ensures
    ∙ ap (copied a.out.now a.walk.bytes)
    (sym (as_it_is_lem a.page.now a.next a.walk.number (record { below = λ i. (c.shared_slice_known-1.given i).fits }) c.requires.good c.requires.link c.requires.number
    (sym c.is_same.ensures ∙ c.if-is_same.true)))

pub returns : goal.returns
returns c =
    let a = c.args in
    put-tidied a.page.now a.next.form a.walk.number a.out.now a.walk.bytes c.write_tidied.result _
    (record { below = λ i. (c.shared_slice_known-1.given i).fits }) (read_one page_crc a.page.now c.requires.good) c.requires.room c.write_tidied.ensures
