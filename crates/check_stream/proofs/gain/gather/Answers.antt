-- `check_stream::gain::gather` meets its contract. The loop's invariant: the bodies from a page on are left. Assumes nothing.
use Prim.Native.Nat.{◌-◌}
use mathlib.Core.Path.{ap}
use native.Mathlib.Omega.{arith}
use borrow.Author.Rules.{rules}
use lib.ListN.{length}
use Rattle.check_stream.proofs.Gathering.{Gathers, gathers_first, gathers_end, body-fits, page-inside, gathers_on}
use Rattle.check_stream.proofs.gain.gather.Goals as goal

pub loop-page-init : goal.loop-page-init
loop-page-init c =
    let a = c.args in
    gathers_first a.stream.now a.packet.now (length c.page_at-at.result.now) (ap length c.page_at-at.ensures)

pub overflow_add-size : goal.overflow_add-size
overflow_add-size c =
    omega (
      arith,
      body-fits c.args.stream.now c.args.packet.now c.loop-page.packet c.loop-page.page c.loop-page.at c.loop-page.size c.args.headers
          c.requires c.loop-page.invariant (omega arith) c.page_at-bytes.result.now c.body_of-body.result.now c.page_at-bytes.ensures c.body_of-body.ensures,
    )

pub overflow_add-at : goal.overflow_add-at
overflow_add-at c =
    omega (
      arith,
      (page-inside c.args.stream.now c.args.packet.now c.loop-page.packet c.loop-page.page c.loop-page.at c.loop-page.size c.args.headers
          c.requires c.loop-page.invariant (omega arith) c.page_at-bytes.result.now c.body_of-body.result.now c.page_at-bytes.ensures c.body_of-body.ensures).0,
    )

pub overflow_add-page : goal.overflow_add-page
overflow_add-page c = omega arith

pub loop-page-smaller : goal.loop-page-smaller
loop-page-smaller c = omega arith

pub loop-page-preserved : goal.loop-page-preserved
loop-page-preserved c =
    gathers_on c.args.stream.now c.args.packet.now c.loop-page.packet c.loop-page.page c.loop-page.at c.loop-page.size c.args.headers
    c.requires c.loop-page.invariant (omega arith) c.page_at-bytes.result.now c.body_of-body.result.now c.page_at-bytes.ensures c.body_of-body.ensures
    c.copy_at.new.d c.copy_at.ensures

pub shape_of-packet : goal.shape_of-packet
shape_of-packet c = c.loop-page.invariant.filling.size

pub returns : goal.returns
returns c =
    let loop = c.loop-page in
    gathers_end c.args.stream.now c.args.packet.now loop.packet loop.page loop.at loop.size c.args.headers c.requires loop.invariant (omega arith)
