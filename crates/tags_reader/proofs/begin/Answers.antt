-- `tags_reader::begin` meets its contract. Assumes nothing.
use Rattle.std.specs.Prelude.{Some}
use mathlib.Core.Path.{sym, ap, ◌∙◌}
use mathlib.Core.Bool.{false}
use native.Mathlib.Omega.{arith}
use Prim.Native.Nat.{ℕ}
use Rattle.octets.proofs.Tests.{failed, held}
use Rattle.tags_reader.proofs.Checking.{no_signature, no_vendor, no_characters, no_count, at_first}
use Rattle.tags_reader.proofs.begin.Goals as goal

pub returns-then-not-begins_with : goal.returns-then-not-begins_with
returns-then-not-begins_with c = sym (no_signature c.args.b.now (failed c.begins_with.ensures c.if-not-begins_with.true))

pub returns-then-not-fits_at : goal.returns-then-not-fits_at
returns-then-not-fits_at c =
    sym
    (no_vendor c.args.b.now (held c.begins_with.ensures c.if-not-begins_with.false)
    (failed c.fits_at.ensures c.if-not-fits_at.true))

pub returns-then-not-is_utf8 : goal.returns-then-not-is_utf8
returns-then-not-is_utf8 c =
    sym
    (no_characters c.args.b.now (held c.begins_with.ensures c.if-not-begins_with.false)
    (held c.fits_at.ensures c.if-not-fits_at.false)
    (failed (rw (c.part_of.ensures, c.vendor_size-vendor.ensures) at c.is_utf8.ensures) c.if-not-is_utf8.true))

pub returns-then-short : goal.returns-then-short
returns-then-short c =
    sym
    (no_count c.args.b.now (held c.begins_with.ensures c.if-not-begins_with.false)
    (held c.fits_at.ensures c.if-not-fits_at.false)
    (held (rw (c.part_of.ensures, c.vendor_size-vendor.ensures) at c.is_utf8.ensures) c.if-not-is_utf8.false)
    (omega (arith, c.first_comment-first.ensures)))

pub returns : goal.returns
returns c =
    ap (λ (k : ℕ). Some (record { at = k; track = false; album = false })) c.first_comment-first.ensures
    ∙ sym
    (at_first c.args.b.now (held c.begins_with.ensures c.if-not-begins_with.false)
    (held c.fits_at.ensures c.if-not-fits_at.false)
    (held (rw (c.part_of.ensures, c.vendor_size-vendor.ensures) at c.is_utf8.ensures) c.if-not-is_utf8.false)
    (omega (arith, c.first_comment-first.ensures)))
