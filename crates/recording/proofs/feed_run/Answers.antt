-- `recording::feed_run` meets its contract. Assumes nothing.
use borrow.Author.Rules.{rules}
use Rattle.page_crc.specs.Crc.{page_crc}
use Rattle.stream.specs.Lent.{lent_of}
use Rattle.recording.proofs.Steps.{sums-fit, step_is}
use Rattle.recording.proofs.feed_run.Goals as goal

pub judge_run-requires : goal.judge_run-requires
judge_run-requires c =
    sums-fit page_crc c.args.buffer.now c.args.before (lent_of c.args.carry.now c.args.ends.now c.args.lengths.now c.args.kept.now c.args.frames.now) (let l = c.feed_pages-fed.new in lent_of l.carry l.ends l.lengths l.kept l.frames) c.feed_pages-fed.result c.requires c.feed_pages-fed.ensures

pub returns : goal.returns
returns c =
    step_is page_crc c.args.buffer.now c.args.before (lent_of c.args.carry.now c.args.ends.now c.args.lengths.now c.args.kept.now c.args.frames.now) (let l = c.feed_pages-fed.new in lent_of l.carry l.ends l.lengths l.kept l.frames) c.feed_pages-fed.result c.requires c.feed_pages-fed.ensures c.judge_run.result c.judge_run.ensures
