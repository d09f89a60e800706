-- `tags_writer::right_fields` meets its contract. Assumes nothing.
use mathlib.Core.Path.{sym, ◌∙◌}
use native.Mathlib.Omega.{arith}
use Rattle.octets.proofs.Tests.{failed, held}
use Rattle.tags_writer.proofs.Taking.{too_big, wrong-vendor, lengths_decide}
use Rattle.tags_writer.proofs.right_fields.Goals as goal

pub returns-then-vendor-gt-PACKET_MAX : goal.returns-then-vendor-gt-PACKET_MAX
returns-then-vendor-gt-PACKET_MAX c =
    let a = c.args in
    sym (too_big a.vendor.now a.text.now a.lengths.now (omega arith))

pub returns-then-text-gt-PACKET_MAX : goal.returns-then-text-gt-PACKET_MAX
returns-then-text-gt-PACKET_MAX c =
    let a = c.args in
    sym (too_big a.vendor.now a.text.now a.lengths.now (omega arith))

pub returns-then-lengths-gt-PACKET_MAX : goal.returns-then-lengths-gt-PACKET_MAX
returns-then-lengths-gt-PACKET_MAX c =
    let a = c.args in
    sym (too_big a.vendor.now a.text.now a.lengths.now (omega arith))

pub returns-then-long : goal.returns-then-long
returns-then-long c =
    let a = c.args in
    sym (too_big a.vendor.now a.text.now a.lengths.now (omega (arith, c.packet_size-long.ensures)))

pub returns-then-not-is_utf8 : goal.returns-then-not-is_utf8
returns-then-not-is_utf8 c =
    let a = c.args in
    sym (wrong-vendor a.vendor.now a.text.now a.lengths.now (failed c.is_utf8.ensures c.if-not-is_utf8.true))

pub returns : goal.returns
returns c =
    let a = c.args in
    c.right_lengths.ensures
    ∙ lengths_decide a.vendor.now a.text.now a.lengths.now (held c.is_utf8.ensures c.if-not-is_utf8.false)
    (omega (arith, c.packet_size-long.ensures))
