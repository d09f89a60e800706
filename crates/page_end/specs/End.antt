-- Where the page that starts at a place of a buffer ends (RULES.md, 3). Assumes nothing.
use Rattle.std.specs.Prelude.{ℕ, ltb, length}
use Rattle.std.proofs.Math.Option.{Option, none, some}
use Rattle.octets.specs.Pick.{pick}
use Rattle.octets.specs.Octets.{Bytes}
use Rattle.page_size.specs.Extent.{Reach, ends_at, unknown, no_start, page_extent}

-- none: it is not whole in the buffer, of n bytes; bytes that begin no page are taken as they are, to the buffer's end
abbrev pub end_in : Reach → ℕ → Option ℕ
end_in (ends_at e) n = pick (ltb n e) none (some e)
end_in unknown n = none
end_in no_start n = some n

unfoldable pub end_at : Bytes → ℕ → Option ℕ
end_at b at = end_in (page_extent b at) (length b)
