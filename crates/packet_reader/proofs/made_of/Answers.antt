-- `packet_reader::made_of` meets its contract. Assumes nothing.
use native.Mathlib.Nat.{lt_of_le_of_lt}
use lib.Dec.{lit<}
use Rattle.packet_toc.proofs.Samples.{frame-length}
use Rattle.packet_frames.proofs.Samples.{product}
use Rattle.packet_reader.proofs.made_of.Goals as goal

pub overflow_mul-result : goal.overflow_mul-result
overflow_mul-result c =
    let most = rw (← c.frame_samples.ensures) at (frame-length c.args.toc).most in
    record { fits = lt_of_le_of_lt (product c.requires most) (lit< tt) }

pub returns : goal.returns
returns c = rw (c.is_stereo.ensures, c.frame_samples.ensures)
