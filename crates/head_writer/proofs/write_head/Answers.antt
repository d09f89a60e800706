-- `head_writer::write_head` meets its contract: the first check that refuses decides. Assumes nothing.
use mathlib.Core.Path.{◌≡◌, ◌∙◌}
use mathlib.Core.Bool.{true}
use lib.ListN.{length}
use Rattle.refusal.specs.declared.Refusal.TheVariants.{ShortOutput, UnfitFields}
use Rattle.octets.proofs.Tests.{failed, held}
use Rattle.head_fields.specs.Layout.{matrix_size}
use Rattle.head_fields.specs.Right.{writable_head}
use Rattle.head_writer.proofs.Answers.{unfit, other-matrix, short-output, writable, not_written, wrote}
use Rattle.head_writer.proofs.write_head.Goals as goal

pub returns-then-not-writable_head : goal.returns-then-not-writable_head
returns-then-not-writable_head c =
    let a = c.args in
    not_written a.h a.matrix.now a.out.now UnfitFields
    (unfit a.h a.matrix.now a.out.now (failed c.writable_head.ensures c.if-not-writable_head.true))

pub returns-then-other : goal.returns-then-other
returns-then-other c =
    let right : writable_head c.args.h ≡ true = held c.writable_head.ensures c.if-not-writable_head.false in
    let a = c.args in
    not_written a.h a.matrix.now a.out.now UnfitFields
    (other-matrix a.h a.matrix.now a.out.now c.matrix_length.ensures right c.if-other.true)

pub returns-then-out-size : goal.returns-then-out-size
returns-then-out-size c =
    let right : writable_head c.args.h ≡ true = held c.writable_head.ensures c.if-not-writable_head.false in
    -- the matrix has the length that the fields say
    let sized : length c.args.matrix.now
    ≡ matrix_size c.args.h = c.if-other.false ∙ c.matrix_length.ensures in
    let a = c.args in
    not_written a.h a.matrix.now a.out.now ShortOutput
    (short-output a.h a.matrix.now a.out.now right sized c.head_length-size.ensures c.if-out-size.true)

pub put_head-requires : goal.put_head-requires
put_head-requires c =
    let sized : length c.args.matrix.now
    ≡ matrix_size c.args.h = c.if-other.false ∙ c.matrix_length.ensures in
    record { matrix = sized; room = rw c.head_length-size.ensures at c.if-out-size.false }

pub returns : goal.returns
returns c =
    let right : writable_head c.args.h ≡ true = held c.writable_head.ensures c.if-not-writable_head.false in
    let sized : length c.args.matrix.now
    ≡ matrix_size c.args.h = c.if-other.false ∙ c.matrix_length.ensures in
    let a = c.args in
    wrote a.h a.matrix.now a.out.now c.head_length-size.ensures c.put_head.ensures
    (writable a.h a.matrix.now a.out.now right sized c.head_length-size.ensures c.if-out-size.false)
