-- What opening a core part way answers, by the rules of a stream (RULES.md, 9). Assumes nothing.
use Rattle.std.specs.Prelude.{Result, Ok, Err}
use Rattle.refusal.specs.declared.Refusal.{Refusal}
use Rattle.refusal.specs.Numbers.{number_of}
use Rattle.refusal.specs.Told.{Told, gives, refuses}
use Rattle.stream.specs.Feed.{Reader, reader_of}
use Rattle.feed_start.specs.declared.CoreOpened.{CoreOpened}

abbrev pub told_opened : Result CoreOpened Refusal → Told Reader
told_opened (Ok p) = gives (reader_of p.core p.tally)
told_opened (Err why) = refuses (number_of why)
