-- What opening part way and feeding leave in a reader's numbers. Assumes nothing.
use Rattle.std.specs.Prelude.{Ok, Err}
use Prim.Native.Nat.{ℕ}
use mathlib.Core.Path.{◌≡◌, ap, ◌∙◌}
use mathlib.Core.List.{List}
use Rattle.stream.specs.Lent.{Lent}
use Rattle.refusal.specs.declared.Refusal.{Refusal}
use Rattle.refusal.specs.Told.{Told, gives}
use Rattle.stream.specs.declared.Core.{Core}
use Rattle.stream.specs.declared.Tally.{Tally}
use Rattle.stream.specs.declared.Counts.{Counts}
use Rattle.stream.specs.Feed.{Reader as Known, reader_of, Fed as Outcome, FedIs, told_page}
use Rattle.feed_start.specs.Answers.{told_opened}
use Rattle.feed_numbers.specs.Numbers.{StandFor}
use Rattle.reader.specs.Numbers.{StateOpenedIs, StateFedIs}

-- ---- opening part way

module _ {f : Told Known} {old : List ℕ} where
  pub state-opened : {new : List ℕ} (core : Core) (tally : Tally) → told_opened (Ok (record { core = core; tally = tally })) ≡ f → StandFor new (reader_of core tally)
      → StateOpenedIs f (Ok tt) old new
  state-opened core tally e s = record { told = ap gives s.back ∙ e; numbers = rw (← e) s.numbers }

  pub state_unopened : (why : Refusal) → told_opened (Err why) ≡ f → StateOpenedIs f (Err why) old old
  state_unopened why e = record { told = e; numbers = rw (← e) }

-- ---- feeding

module _ {f : Outcome} {old : List ℕ} {after : Lent} where
  pub state-accepted : {new : List ℕ} (core : Core) (tally : Tally) (counts : Counts) → FedIs f (told_page (Ok (record { core = core; tally = tally; counts = counts }))) after
      → StandFor new (reader_of core tally) → StateFedIs f (Ok counts) old new after
  state-accepted {new} core tally counts is s = record {
    fed = record { told = ap (λ (k : Known). gives (record { reader = k; counts = counts })) s.back ∙ is.told; lent = is.lent };
    numbers = rw (← is.told) s.numbers;
  }

  pub state-refused : (why : Refusal) → FedIs f (told_page (Err why)) after → StateFedIs f (Err why) old old after
  state-refused why is = record { fed = record { told = is.told; lent = is.lent }; numbers = rw (← is.told) }
