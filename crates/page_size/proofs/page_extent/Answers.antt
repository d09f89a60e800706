-- `page_size::page_extent` meets its contract: past the buffer's end there are no bytes. Assumes nothing.
use mathlib.Core.Path.{sym, ap, ◌∙◌}
use Prim.Native.Nat.{◌-◌}
use native.Mathlib.Omega.{arith}
use borrow.Author.Rules.{rules}
use lib.ListN.{length, drop, length-drop}
use lib.Seq.{take_all}
use Rattle.octets.specs.Octets.{Bytes}
use Rattle.page_size.specs.Extent.{extent_in, page_extent}
use Rattle.page_size.proofs.Extents.{short-header}
use Rattle.page_size.proofs.page_extent.Goals as goal

pub returns-then-buffer-at : goal.returns-then-buffer-at
unfolding page_extent
returns-then-buffer-at c =
    let a = c.args in
    sym (short-header (drop a.at a.buffer.now) a.at (omega (arith, length-drop a.at a.buffer.now)))

pub returns : goal.returns
unfolding page_extent
returns c =
    let a = c.args in
    let s : Bytes = drop a.at a.buffer.now in
    c.extent_in.ensures
    ∙ ap (λ (t : Bytes). extent_in t a.at) (take_all (length a.buffer.now - a.at) s (omega (arith, length-drop a.at a.buffer.now)))
