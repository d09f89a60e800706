-- The state that decides: what a reader has, with the held bytes in it, and what it expects of its next page (RULES.md, 7 and
-- 9). Assumes nothing.
use Rattle.std.specs.Prelude.{ℕ, Bool, true, false, ◌||◌}
use Rattle.octets.specs.Pick.{pick}
use Rattle.octets.specs.Octets.{Bytes}
use Rattle.granule.specs.declared.Position.{Position}
use Rattle.stream.specs.declared.Phase.{Phase}
use Rattle.stream.specs.declared.Phase.TheVariants.{First, Comment, Audio, Opened, Ended}
use Rattle.stream.specs.Page.{Page, continued}

-- the unfinished packet
pub data Carried : Type 0 where
  -- none
  nothing : Carried
  -- one that is dropped
  dropped : Carried
  -- one of which n bytes are held
  held : ℕ → Bytes → Carried

pub record State : Type 0 where
  pub phase : Phase
  pub carried : Carried
  pub position : Position
  pub serial : ℕ
  pub next : ℕ
  pub streams : ℕ
  pub preskip : ℕ

abbrev pub is_first : Phase → Bool
is_first First = true
is_first Comment = false
is_first Audio = false
is_first Opened = false
is_first Ended = false

abbrev pub is_comment : Phase → Bool
is_comment First = false
is_comment Comment = true
is_comment Audio = false
is_comment Opened = false
is_comment Ended = false

abbrev pub is_audio : Phase → Bool
is_audio First = false
is_audio Comment = false
is_audio Audio = true
is_audio Opened = false
is_audio Ended = false

abbrev pub is_ended : Phase → Bool
is_ended First = false
is_ended Comment = false
is_ended Audio = false
is_ended Opened = false
is_ended Ended = true

-- before the comment packet is complete
abbrev pub in_headers : Phase → Bool
in_headers ph = is_first ph || is_comment ph

abbrev pub unfinished : Carried → Bool
unfinished nothing = false
unfinished dropped = true
unfinished (held n h) = true

-- What the state expects of its next page. The first page of all may have any serial; its sequence is 0, and it continues
-- nothing. The first page of a reader opened part way may have any serial, sequence and continued mark; marked so, it
-- continues a packet that is dropped. The checks look at the state so made, and so never ask whether a reader was opened
-- part way, but for 19.
abbrev pub expecting_in : Phase → State → Page → State
expecting_in First s p = record {
  phase = First;
  carried = nothing;
  position = s.position;
  serial = p.header.serial;
  next = 0;
  streams = s.streams;
  preskip = s.preskip;
}
expecting_in Comment s p = s
expecting_in Audio s p = s
expecting_in Opened s p = record {
  phase = Audio;
  carried = pick (continued p) dropped nothing;
  position = s.position;
  serial = p.header.serial;
  next = p.header.sequence;
  streams = s.streams;
  preskip = s.preskip;
}
expecting_in Ended s p = s

unfoldable pub expecting : State → Page → State
expecting s p = expecting_in s.phase s p
