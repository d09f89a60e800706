-- `salvage_feed::feed_tidied` meets its contract: `Feeding` has the tidied page's parts and the step. Assumes nothing.
use Prim.Native.Nat.{ℕ}
use borrow.Author.Rules.{rules}
use Rattle.octets.specs.Octets.{Bytes}
use Rattle.page_crc.specs.Crc.{page_crc}
use Rattle.stream.specs.Lent.{Lent, lent_of}
use Rattle.feed_page.specs.Stages.{PartsOf}
use Rattle.salvage_feed.specs.Feeding.{tidied_bytes}
use Rattle.salvage_feed.proofs.Feeding.{parts_of, accepts, refused}
use Rattle.salvage_feed.proofs.feed_tidied.Goals as goal

pub returns-in-Ok : goal.returns-in-Ok
returns-in-Ok c =
    λ good room.
    let a = c.args in
    let m : Lent = lent_of a.carry.now a.ends.now a.lengths.now a.kept.now a.frames.now in
    let b : Bytes = tidied_bytes a.form a.number a.page.now in
    -- what is fed are the parts of the tidied page
    let parts : PartsOf page_crc b c.header_kept-h.result c.lacing_kept-lacing.result.now c.body_kept-body.result.now =
    parts_of a.page.now a.form a.number (record { below = λ (i : ℕ). (c.shared_slice_known-1.given i).fits }) good _ _ _
    c.header_kept-h.ensures c.lacing_kept-lacing.ensures c.body_kept-body.ensures in
    accepts a.core c.no_tally-tally.result m _ b room c.in-Ok.is
    (c.feed_parts.ensures page_crc b parts)

pub returns-in-Err : goal.returns-in-Err
returns-in-Err c =
    λ good room.
    let a = c.args in
    let m : Lent = lent_of a.carry.now a.ends.now a.lengths.now a.kept.now a.frames.now in
    let b : Bytes = tidied_bytes a.form a.number a.page.now in
    -- what is fed are the parts of the tidied page
    let parts : PartsOf page_crc b c.header_kept-h.result c.lacing_kept-lacing.result.now c.body_kept-body.result.now =
    parts_of a.page.now a.form a.number (record { below = λ (i : ℕ). (c.shared_slice_known-1.given i).fits }) good _ _ _
    c.header_kept-h.ensures c.lacing_kept-lacing.ensures c.body_kept-body.ensures in
    refused a.core c.no_tally-tally.result m _ b room c.in-Err.is
    (c.feed_parts.ensures page_crc b parts)
