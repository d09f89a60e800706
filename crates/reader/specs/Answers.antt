-- What starting, opening part way and feeding answer, by the rules of a stream (RULES.md, 7). Assumes nothing.
use Rattle.std.specs.Prelude.{Result, Ok, Err}
use Rattle.refusal.specs.declared.Refusal.{Refusal}
use Rattle.refusal.specs.Numbers.{number_of}
use Rattle.refusal.specs.Told.{Told, gives, refuses}
use Rattle.stream.specs.Feed.{Reader as Known, Taken, reader_of}
use Rattle.stream.specs.declared.Tally.{Tally}
use Rattle.reader.specs.declared.Reader.{Reader}
use Rattle.reader.specs.declared.SampleTotals.{SampleTotals}
use Rattle.reader.specs.declared.Fed.{Fed}

-- a reader as the rules know it
abbrev pub known_as : Reader → Known
known_as r = reader_of r.core r.tally

abbrev pub told_opened : Result Reader Refusal → Told Known
told_opened (Ok r) = gives (known_as r)
told_opened (Err why) = refuses (number_of why)

abbrev pub told_fed : Result Fed Refusal → Told Taken
told_fed (Ok f) = gives (record { reader = known_as f.reader; counts = f.counts })
told_fed (Err why) = refuses (number_of why)

abbrev pub totals_of : Tally → SampleTotals
totals_of t = record { kept = t.kept; skipped = t.skipped; trimmed = t.trimmed; hole = t.hole }
