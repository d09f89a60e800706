-- `list_entries::bytes_of` meets its contract. Assumes nothing.
use mathlib.Core.Path.{◌≡◌, refl}
use Prim.Native.Nat.{◌+◌, ◌/◌}
use native.Mathlib.Omega.{arith}
use lib.ListN.{length}
use Rattle.octets.specs.Octets.{Octets}
use Rattle.text_decimal.specs.Decimal.{decimal}
use Rattle.list_entries.proofs.Reading.{whole, has}
use Rattle.list_entries.proofs.bytes_of.Goals as goal

pub overflow_sub-tail : goal.overflow_sub-tail
overflow_sub-tail c =
    -- where the bytes are read
    let bytes : Octets c.args.out.now = record { below = λ i. (c.type_inv.out i).fits } in
    let ends : let a = c.args in a.next ≡ a.at + length (decimal (a.end / 10000)) + 4 + c.bytes_after-bytes.result = let a = c.args in
    whole a.end a.samples a.frames a.kept c.requires bytes
    c.if-end-lt10000000.false c.if-end-ge1000000000000.false c.bytes_after-bytes.ensures c.if-bytes-lt8.false in
    omega (arith, ends)

pub overflow_sub-result : goal.overflow_sub-result
overflow_sub-result c =
    let bytes : Octets c.args.out.now = record { below = λ i. (c.type_inv.out i).fits } in
    let ends : let a = c.args in a.next ≡ a.at + length (decimal (a.end / 10000)) + 4 + c.bytes_after-bytes.result = let a = c.args in
    whole a.end a.samples a.frames a.kept c.requires bytes
    c.if-end-lt10000000.false c.if-end-ge1000000000000.false c.bytes_after-bytes.ensures c.if-bytes-lt8.false in
    omega (arith, ends)

pub overflow_sub-result-2 : goal.overflow_sub-result-2
overflow_sub-result-2 c =
    let bytes : Octets c.args.out.now = record { below = λ i. (c.type_inv.out i).fits } in
    let ends : let a = c.args in a.next ≡ a.at + length (decimal (a.end / 10000)) + 4 + c.bytes_after-bytes.result = let a = c.args in
    whole a.end a.samples a.frames a.kept c.requires bytes
    c.if-end-lt10000000.false c.if-end-ge1000000000000.false c.bytes_after-bytes.ensures c.if-bytes-lt8.false in
    omega (arith, ends)

pub overflow_sub-next : goal.overflow_sub-next
overflow_sub-next c =
    let bytes : Octets c.args.out.now = record { below = λ i. (c.type_inv.out i).fits } in
    let ends : let a = c.args in a.next ≡ a.at + length (decimal (a.end / 10000)) + 4 + c.bytes_after-bytes.result = let a = c.args in
    whole a.end a.samples a.frames a.kept c.requires bytes
    c.if-end-lt10000000.false c.if-end-ge1000000000000.false c.bytes_after-bytes.ensures c.if-bytes-lt8.false in
    omega (arith, ends, c.if-bytes-lt8.false)

pub returns : goal.returns
returns c =
    let bytes : Octets c.args.out.now = record { below = λ i. (c.type_inv.out i).fits } in
    let a = c.args in
    λ h.
    has a.end a.samples a.frames a.kept c.requires bytes
    c.if-end-lt10000000.false c.if-end-ge1000000000000.false c.bytes_after-bytes.ensures c.if-bytes-lt8.false _ c.if-bytes-gt16.false
    refl refl refl refl refl refl c.number64.ensures c.number64-2.ensures c.number64-3.ensures
