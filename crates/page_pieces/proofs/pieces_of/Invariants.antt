-- `page_pieces::pieces_of` meets its contract: `Turns.antt` has the loop's invariant and a turn's two ways.
-- Assumes nothing.
use Rattle.page_pieces.proofs.Turns.{Done}
use Rattle.page_pieces.proofs.pieces_of.Given as goal

abbrev pub invariant-loop-b : goal.invariant-loop-b
invariant-loop-b l = Done l.b-items l.lengths l.count l.bytes l.b-index
