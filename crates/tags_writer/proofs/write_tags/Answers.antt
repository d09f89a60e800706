-- `tags_writer::write_tags` meets its contract. Assumes nothing.
use mathlib.Core.Path.{◌≡◌}
use mathlib.Core.Bool.{true}
use mathlib.Core.List.{List}
use Prim.Native.Nat.{ℕ, ◌≤◌}
use native.Mathlib.Omega.{arith}
use borrow.Author.Rules.{rules}
use Rattle.octets.specs.Octets.{Bytes}
use Rattle.octets.proofs.Tests.{failed, held}
use Rattle.limits.specs.Limits.{packet_max}
use Rattle.tags_writer.specs.Code.{packet_size, right_fields}
use Rattle.tags_writer.proofs.Taking.{sums_right, size_right, refused-fields, refused-room, wrote_packet}
use Rattle.tags_writer.proofs.write_tags.Goals as goal

pub returns-then-not-right_fields : goal.returns-then-not-right_fields
returns-then-not-right_fields c =
    let a = c.args in
    refused-fields a.vendor.now a.text.now a.lengths.now a.out.now (failed c.right_fields.ensures c.if-not-right_fields.true)

pub packet_size-size-requires : goal.packet_size-size-requires
packet_size-size-requires c =
    -- the fields are right, where the first test was held
    let vendor : Bytes = c.args.vendor.now in
    let text : Bytes = c.args.text.now in
    let lengths : List ℕ = c.args.lengths.now in
    let right : right_fields vendor text lengths ≡ true = held c.right_fields.ensures c.if-not-right_fields.false in
    let small : packet_size vendor text lengths ≤ packet_max = (size_right vendor text lengths right).1 in
    let most = small in search rules

pub returns-then-short : goal.returns-then-short
returns-then-short c =
    let vendor : Bytes = c.args.vendor.now in
    let text : Bytes = c.args.text.now in
    let lengths : List ℕ = c.args.lengths.now in
    let right : right_fields vendor text lengths ≡ true = held c.right_fields.ensures c.if-not-right_fields.false in
    let a = c.args in
    refused-room a.vendor.now a.text.now a.lengths.now a.out.now right
    (omega (arith, c.packet_size-size.ensures, c.if-short.true))

pub put_tags-requires : goal.put_tags-requires
put_tags-requires c =
    let vendor : Bytes = c.args.vendor.now in
    let text : Bytes = c.args.text.now in
    let lengths : List ℕ = c.args.lengths.now in
    let right : right_fields vendor text lengths ≡ true = held c.right_fields.ensures c.if-not-right_fields.false in
    let small : packet_size vendor text lengths ≤ packet_max = (size_right vendor text lengths right).1 in
    let a = c.args in
    record {
      sum = sums_right a.vendor.now a.text.now a.lengths.now right;
      small = small;
      room = omega (arith, c.packet_size-size.ensures, c.if-short.false);
    }

pub returns : goal.returns
returns c =
    let vendor : Bytes = c.args.vendor.now in
    let text : Bytes = c.args.text.now in
    let lengths : List ℕ = c.args.lengths.now in
    let right : right_fields vendor text lengths ≡ true = held c.right_fields.ensures c.if-not-right_fields.false in
    let a = c.args in
    let size = c.packet_size-size in
    rw size.ensures
    (wrote_packet a.vendor.now a.text.now a.lengths.now a.out.now c.put_tags.new.out right
    (omega (arith, size.ensures, c.if-short.false)) c.put_tags.ensures)
