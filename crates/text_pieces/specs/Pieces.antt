-- Pieces of text put into a lent buffer one after the other (RULES.md, 13). A piece that does not fit after those before it is
-- left out. Assumes nothing.
use Rattle.std.specs.Prelude.{ℕ, ◌+◌, Bool, true, ◌&&◌, List, [], ◌∷◌, ◌++◌, ltb, leb, length}
use Rattle.octets.specs.Octets.{Bytes, copied}
use Rattle.text_put.specs.Writing.{place_after}
use Rattle.text_pieces.specs.declared.Pieces.{Pieces}

-- the place after what was put, whether every piece fitted, and the buffer
pub record Laying : Type 0 where
  pub place : ℕ
  pub all : Bool
  pub buffer : Bytes

-- one piece more
unfoldable pub laid : Laying → Bytes → Laying
laid l s = record {
  place = place_after l.buffer l.place s;
  all = l.all && leb (l.place + length s) (length l.buffer);
  buffer = copied l.buffer l.place s;
}

unfoldable pub lay_all : Laying → List Bytes → Laying
lay_all l [] = l
lay_all l (s ∷ ss) = lay_all (laid l s) ss

-- from the start of a buffer on
abbrev pub begun : Bytes → Laying
begun d = record { place = 0; all = true; buffer = d }

-- pieces as one text
unfoldable pub joined : List Bytes → Bytes
joined [] = []
joined (s ∷ ss) = s ++ joined ss

-- ---- what the code hands on

abbrev pub none : Pieces
none = record { at = 0; whole = true }

unfoldable pub moved_to : Pieces → ℕ → Pieces
moved_to p next = record { at = next; whole = p.whole && ltb p.at next }

-- with the buffer
abbrev pub laying : Pieces → Bytes → Laying
laying p d = record { place = p.at; all = p.whole; buffer = d }
