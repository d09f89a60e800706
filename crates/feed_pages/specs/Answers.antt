-- What the code of a run answers. Assumes nothing.
use Rattle.std.specs.Prelude.{Result, Ok, Err}
use Rattle.refusal.specs.Numbers.{number_of}
use Rattle.stream.specs.Lent.{Lent}
use Rattle.reader.specs.Answers.{known_as}
use Rattle.feed_pages.specs.declared.Progress.{Progress}
use Rattle.feed_pages.specs.declared.Stop.{Stop}
use Rattle.feed_pages.specs.declared.Stop.TheVariants.{Refused, Cut, Full}
use Rattle.feed_pages.specs.declared.PagesFed.{PagesFed}
use Rattle.feed_pages.specs.Run.{Reached, Why, refused, cut, full, Turn as Outcome, goes, stops, Ended}

abbrev pub reached : Progress → Reached
reached p = record { reader = known_as p.reader; bytes = p.bytes; pages = p.pages; packets = p.packets }

abbrev pub told_stop : Stop → Why
told_stop (Refused why) = refused (number_of why)
told_stop Cut = cut
told_stop Full = full

-- the answer r and the lent memory m at the end
abbrev pub told_turn : Result Progress Stop → Lent → Outcome
told_turn (Ok p) m = goes (reached p) m
told_turn (Err why) m = stops (told_stop why) m

abbrev pub told_run : PagesFed → Lent → Ended
told_run r m = record { reached = reached r.progress; why = told_stop r.stop; lent = m }
