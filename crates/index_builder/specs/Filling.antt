-- The records of the pages of a buffer stored into a list, one after the other. Assumes nothing.
use Rattle.std.specs.Prelude.{ℕ, drop}
use Rattle.std.proofs.lemmas.List.Edits.{sets}
use Rattle.octets.specs.Octets.{Bytes}
use Rattle.refusal.specs.Told.{Told, gives, refuses}
use Rattle.recording.specs.Pages.{pages_of}
use Rattle.index_search.specs.Index.{Index}
use Rattle.index_walk.specs.declared.Due.TheVariants.{Head}
use Rattle.index_walk.specs.Walk.{index_from}

-- the list l after the records of the pages of b from a place on were stored in its first places; a record past the end of l is
-- not stored
unfoldable pub filled_from : Bytes → ℕ → Index → Index
filled_from b from l = sets l 0 (index_from Head from (pages_of (drop from b)))

-- where filling begins in a stream of n bytes: at its first page, or at its end where nothing is to be stored
abbrev pub start_of : Told ℕ → ℕ → ℕ
start_of (gives count) n = 0
start_of (refuses number) n = n
