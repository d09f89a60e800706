-- `head_reader::is_head` meets its contract: the first test that fails decides, and the length last. Assumes nothing.
use mathlib.Core.Path.{sym, ap, ap₂, ◌∙◌}
use Prim.Native.Nat.{ℕ}
use lib.ListN.{length}
use Rattle.octets.proofs.Tests.{failed, held}
use Rattle.head_fields.specs.Right.{readable_version, right_length}
use Rattle.head_reader.proofs.Places.{no_signature, other-version, short-head, long-head, length_decides}
use Rattle.head_reader.proofs.is_head.Goals as goal

pub returns-then-not-begins_with : goal.returns-then-not-begins_with
returns-then-not-begins_with c = sym (no_signature c.args.b.now (failed c.begins_with.ensures c.if-not-begins_with.true))

pub returns-then-not-readable_version : goal.returns-then-not-readable_version
returns-then-not-readable_version c =
    sym
    (other-version c.args.b.now (held c.begins_with.ensures c.if-not-begins_with.false)
    (failed (c.readable_version.ensures ∙ ap readable_version c.byte_at-version.ensures) c.if-not-readable_version.true))

pub returns-then-b-lt-START_LENGTH : goal.returns-then-b-lt-START_LENGTH
returns-then-b-lt-START_LENGTH c =
    sym
    (short-head c.args.b.now (held c.begins_with.ensures c.if-not-begins_with.false)
    (held (c.readable_version.ensures ∙ ap readable_version c.byte_at-version.ensures) c.if-not-readable_version.false)
    c.if-b-lt-START_LENGTH.true)

pub returns-then-long : goal.returns-then-long
returns-then-long c =
    let b = c.args.b.now in
    let begun = held c.begins_with.ensures c.if-not-begins_with.false in
    let readable = held (c.readable_version.ensures ∙ ap readable_version c.byte_at-version.ensures) c.if-not-readable_version.false in
    sym (long-head b begun readable c.if-b-lt-START_LENGTH.false (rw c.length_of-fields.ensures at c.if-long.true))

pub returns : goal.returns
returns c =
    let b = c.args.b.now in
    let begun = held c.begins_with.ensures c.if-not-begins_with.false in
    let readable = held (c.readable_version.ensures ∙ ap readable_version c.byte_at-version.ensures) c.if-not-readable_version.false in
    c.right_length.ensures
    ∙ ap₂ (λ (v n : ℕ). right_length v n (length b)) c.byte_at-version.ensures c.length_of-fields.ensures
    ∙ sym
    (length_decides b begun readable c.if-b-lt-START_LENGTH.false
    (rw c.length_of-fields.ensures at c.if-long.false))
