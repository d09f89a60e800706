-- A page's pieces joined to what is carried (RULES.md, refusals 9, 15 and 16). Assumes nothing.
use Rattle.std.specs.Prelude.{ℕ, ◌+◌, Bool, true, false, ◌||◌, List, [], ◌∷◌, ◌++◌, map, ltb, length}
use Rattle.std.proofs.Math.Option.{Option, none, some}
use Rattle.octets.specs.Pick.{pick}
use Rattle.octets.specs.Octets.{Bytes}
use Rattle.limits.specs.Limits.{packet_max}
use Rattle.page_lacing.specs.Lacing.{ended_from, unfinished_from}
use Rattle.stream.specs.Page.{Page, whole, rest}
use Rattle.packet_reader.specs.declared.Measure.{Measure}
use Rattle.stream.specs.Readings.{Readings}
use Rattle.stream.specs.State.{Carried, nothing, dropped, held, State, in_headers}

-- ---- the packets of a page

pub record Seen : Type 0 where
  pub packets : List Bytes  -- the packets that complete here, but for a dropped one
  pub left : Carried  -- what is unfinished after the page
  pub completes : Bool  -- a packet completes here, dropped or not

-- a new packet left unfinished
abbrev pub begun : Option Bytes → Carried
begun none = nothing
begun (some b) = held (length b) b

-- the first piece is joined to what is carried
unfoldable pub join : Carried → List Bytes → Option Bytes → Seen
join nothing [] r = record { packets = []; left = begun r; completes = false }
join nothing (b ∷ bs) r = record { packets = b ∷ bs; left = begun r; completes = true }
join dropped [] r = record { packets = []; left = dropped; completes = false }
join dropped (b ∷ bs) r = record { packets = bs; left = begun r; completes = true }
join (held n h) [] none = record { packets = []; left = held n h; completes = false }
join (held n h) [] (some b) = record { packets = []; left = held (n + length b) (h ++ b); completes = false }
join (held n h) (b ∷ bs) r = record { packets = (h ++ b) ∷ bs; left = begun r; completes = true }

unfoldable pub seen : State → Page → Seen
seen s p = join s.carried (whole p) (rest p)

-- ---- 9, on the lacing values

abbrev pub too_long : ℕ → Bool
too_long n = ltb packet_max n

unfoldable pub any_long : List ℕ → Bool
any_long [] = false
any_long (n ∷ ns) = too_long n || any_long ns

-- a packet would pass 61,440 bytes, n of the first one being held
unfoldable pub long_from : ℕ → Bytes → Bool
long_from n l = any_long (ended_from n l) || too_long (unfinished_from n l)

-- the values after the first that ends a packet
unfoldable pub after_first : Bytes → Bytes
after_first [] = []
after_first (v ∷ l) = pick (ltb v 255) l (after_first l)

-- a dropped packet is not measured
abbrev pub is_long : Carried → Bytes → Bool
is_long nothing l = long_from 0 l
is_long dropped l = long_from 0 (after_first l)
is_long (held n h) l = long_from n l

-- ---- the audio packets, and their measures

unfoldable pub audio_packets : State → Seen → List Bytes
audio_packets s x = pick (in_headers s.phase) [] x.packets

unfoldable pub measures_of : Readings → State → Seen → List Measure
measures_of R s x = map (R.measure_of s.streams) (audio_packets s x)

-- the samples of packets of these measures
unfoldable pub samples_of : List Measure → ℕ
samples_of [] = 0
samples_of (m ∷ ms) = m.samples + samples_of ms
