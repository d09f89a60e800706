-- `salvage_page::goes_on` meets its contract: the last value decides. Assumes nothing.
use Rattle.std.proofs.Common.{ℕ, ◌-◌, length, get_or, sym, ◌∙◌, arith, rules}
use Rattle.octets.specs.Octets.{Bytes}
use Rattle.salvage_page.proofs.Values.{open_none, open_last, full}
use Rattle.salvage_page.proofs.goes_on.Goals as goal

pub returns-then-n-eq0 : goal.returns-then-n-eq0
returns-then-n-eq0 c = sym (open_none c.args.continued c.args.lacing.now c.if-n-eq0.true)

pub returns : goal.returns
returns c =
    let a = c.args in
    let l : Bytes = a.lacing.now in
    let n : ℕ = length l - 1 in
    full (get_or l n 0) (c.shared_slice_known-1.given n).fits ∙ sym (open_last a.continued l n (omega (arith, c.if-n-eq0.false)))
