-- What the answers of the code tell. Assumes nothing.
use Rattle.refusal.specs.declared.Refusal.{Refusal}
use Rattle.std.specs.Prelude.{Result, Ok, Err}
use Rattle.refusal.specs.Numbers.{number_of}
use Rattle.refusal.specs.Told.{Told, gives, refuses}
use Rattle.index_search.specs.Index.{Answer}
use Rattle.index_search.specs.declared.Sought.{Sought}
use Rattle.index_search.specs.Answers.{told_sought}

abbrev pub told_columns : Result Sought Refusal → Told Answer
told_columns (Ok s) = gives (told_sought s)
told_columns (Err why) = refuses (number_of why)
