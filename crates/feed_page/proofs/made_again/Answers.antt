-- `feed_page::made_again` meets its contract. Assumes nothing.
use Rattle.feed_page.proofs.made_again.Goals as goal

pub returns-in-Ok : goal.returns-in-Ok
returns-in-Ok c = cc

pub returns-in-Err : goal.returns-in-Err
returns-in-Err c = cc
