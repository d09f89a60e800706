-- `feed_pages::feed_pages` meets its contract: the tables are right. Assumes nothing.
use Prim.Native.Nat.{ℕ}
use mathlib.Core.Path.{◌∙◌}
use Rattle.octets.specs.Octets.{Bytes, Octets}
use Rattle.page_crc.specs.Crc.{page_crc}
use Rattle.page_crc_tables.specs.Table.{entry_in}
use Rattle.page_crc.specs.Sliced.{page_sliced}
use Rattle.page_crc.proofs.Page.{page_sliced_right}
use Rattle.stream.specs.Lent.{lent_of}
use Rattle.reader.specs.Answers.{known_as}
use Rattle.feed_pages.proofs.Checksums.{same-pages}
use Rattle.feed_pages.proofs.feed_pages.Goals as goal

pub returns : goal.returns
returns c =
    let a = c.args in
    c.run.ensures
    ∙ same-pages (page_sliced (entry_in c.tables-tables.result)) page_crc (λ (p : Bytes) (o : Octets p). page_sliced_right (entry_in c.tables-tables.result) c.tables-tables.ensures p o)
    a.buffer.now (record { below = λ (i : ℕ). (c.shared_slice_known-1.given i).fits }) (known_as a.reader) (lent_of a.carry.now a.ends.now a.lengths.now a.kept.now a.frames.now)
