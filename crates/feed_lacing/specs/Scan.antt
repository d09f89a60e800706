-- The packets of a page against the bound of 9, by the lacing values (RULES.md, refusal 9). Assumes nothing.
use Rattle.std.specs.Prelude.{Option, Some, None, ℕ, ◌≤◌, ◌≡◌, length, drop}
use Rattle.octets.specs.Pick.{pick}
use Rattle.octets.specs.Octets.{Bytes}
use Rattle.page_lacing.specs.Lacing.{unfinished_from}
use Rattle.stream.specs.declared.Pending.{Pending}
use Rattle.stream.specs.declared.Pending.TheVariants.{Nothing, Held, Dropped}
use Rattle.stream.specs.Packets.{long_from, after_first}

-- 9, or the bytes of the unfinished packet; n bytes of the first packet are held
abbrev pub scan_of : ℕ → Bytes → Option ℕ
scan_of n l = pick (long_from n l) None (Some (unfinished_from n l))

-- the bytes of the unfinished packet, by what is pending
abbrev pub tail_by : Pending → Bytes → ℕ
tail_by Nothing l = unfinished_from 0 l
tail_by (Held n) l = unfinished_from n l
tail_by Dropped l = unfinished_from 0 (after_first l)

-- 9, or these
abbrev pub scan_by : Pending → Bytes → Option ℕ
scan_by Nothing l = scan_of 0 l
scan_by (Held n) l = scan_of n l
scan_by Dropped l = scan_of 0 (after_first l)

-- r is the place after the first value that ends a packet
pub record IsAfterFirst (l : Bytes) (r : ℕ) : Type 0 where
  pub values : drop r l ≡ after_first l
  pub inside : r ≤ length l
