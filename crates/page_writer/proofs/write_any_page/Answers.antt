-- `page_writer::write_any_page` meets its contract: the first check that refuses decides. Assumes nothing.
use native.Mathlib.Omega.{arith}
use lib.ListN.{length}
use Rattle.octets.proofs.Tests.{failed, held}
use Rattle.refusal.specs.declared.Refusal.TheVariants.{ShortOutput, UnfitFields}
use Rattle.page_lacing.proofs.Bodies.{body-few}
use Rattle.page_writer.proofs.Writing.{no_body, short-output, any_writable, refused, wrote}
use Rattle.page_writer.proofs.write_any_page.Goals as goal

pub returns-then-not-is_body : goal.returns-then-not-is_body
returns-then-not-is_body c =
    let a = c.args in
    refused a.h a.lacing.now a.body.now a.out.now UnfitFields
    (no_body a.lacing.now a.body.now (length a.out.now) (failed c.is_body.ensures c.if-not-is_body.true))

pub overflow_add-size : goal.overflow_add-size
overflow_add-size c = omega (arith, body-few _ _ (held c.is_body.ensures c.if-not-is_body.false))

pub overflow_add-size-2 : goal.overflow_add-size-2
overflow_add-size-2 c = omega (arith, body-few _ _ (held c.is_body.ensures c.if-not-is_body.false))

pub returns-then-out-size : goal.returns-then-out-size
returns-then-out-size c =
    let a = c.args in
    refused a.h a.lacing.now a.body.now a.out.now ShortOutput
    (short-output a.lacing.now a.body.now (length a.out.now) (held c.is_body.ensures c.if-not-is_body.false) c.if-out-size.true)

pub put_page-requires : goal.put_page-requires
put_page-requires c = record { lacing_len_bound = body-few _ _ (held c.is_body.ensures c.if-not-is_body.false); body_in_bounds = omega arith }

pub returns : goal.returns
returns c =
    let a = c.args in
    rw c.put_page.ensures
    (wrote a.h a.lacing.now a.body.now a.out.now
    (any_writable a.lacing.now a.body.now (length a.out.now) (held c.is_body.ensures c.if-not-is_body.false) c.if-out-size.false))
