-- `head_writer::start_of` meets its contract: byte by byte. Assumes nothing.
use mathlib.Core.Path.{◌≡◌, ap, ◌∙◌}
use borrow.Author.Rules.{rules}
use mir.Syntax.{w16}
use mir.Val.{to_z, of_z}
use Rattle.octets.specs.Numbers.{octets}
use Rattle.head_writer.specs.Writing.{start_of}
use Rattle.head_writer.proofs.start_of.Goals as goal

pub returns : goal.returns
unfolding octets start_of
returns c =
    let h = c.args.h in
    let kept : to_z w16 (of_z w16 h.gain) ≡ h.gain = search rules in
    let bits : c.unsigned16.result ≡ of_z w16 h.gain = c.unsigned16.ensures ∙ ap (of_z w16) kept in
    rw (c.octets64-p.ensures, c.octets64-r.ensures, c.octets64-g.ensures, bits)
