-- What the answers of the code tell. Assumes nothing.
use Rattle.std.specs.Prelude.{ℕ}
use Rattle.refusal.specs.Numbers.{number_of}
use Rattle.index_search.specs.declared.Sought.{Sought}
use Rattle.index_search.specs.declared.Sought.TheVariants.{Record, Begin, Refused}
use Rattle.index_search.specs.Index.{Answer, at_record, at_begin, refused}

abbrev pub told_sought : Sought → Answer
told_sought (Record i probes) = at_record i probes
told_sought (Begin probes) = at_begin probes
told_sought (Refused why i) = refused (number_of why) i
