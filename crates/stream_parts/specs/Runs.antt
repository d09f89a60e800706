-- A run over a buffer, and another one over the next buffer (RULES.md, 7 and 19). Assumes nothing.
use Rattle.std.specs.Prelude.{◌+◌}
use Rattle.feed_pages.specs.Run.{Reached, whole, Ended}

-- how far both came: a, and then z
abbrev pub further : Reached → Reached → Reached
further a z = record {
  reader = z.reader;
  bytes = a.bytes + z.bytes;
  pages = a.pages + z.pages;
  packets = a.packets + z.packets;
}

-- the first run and then the second, to which the parts of the lists past the places filled are lent
abbrev pub both : Ended → Ended → Ended
both a z = record {
  reached = further a.reached z.reached;
  why = z.why;
  lent = whole a.reached.packets a.lent z.lent;
}
