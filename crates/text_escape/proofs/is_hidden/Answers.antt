-- `text_escape::is_hidden` meets its contract: one test for each range of the list. Assumes nothing.
use mathlib.Core.Bool.{or_assoc, or-false}
use Rattle.text_escape.specs.Hidden.{is_hidden}
use Rattle.text_escape.proofs.is_hidden.Goals as goal

pub is_within-requires : goal.is_within-requires
is_within-requires c = tt

pub is_within-requires-2 : goal.is_within-requires-2
is_within-requires-2 c = tt

pub is_within-requires-3 : goal.is_within-requires-3
is_within-requires-3 c = tt

pub is_within-requires-4 : goal.is_within-requires-4
is_within-requires-4 c = tt

pub is_within-requires-5 : goal.is_within-requires-5
is_within-requires-5 c = tt

pub is_within-requires-6 : goal.is_within-requires-6
is_within-requires-6 c = tt

pub is_within-requires-7 : goal.is_within-requires-7
is_within-requires-7 c = tt

pub is_within-requires-8 : goal.is_within-requires-8
is_within-requires-8 c = tt

pub is_within-requires-9 : goal.is_within-requires-9
is_within-requires-9 c = tt

pub is_within-requires-10 : goal.is_within-requires-10
is_within-requires-10 c = tt

pub is_within-requires-11 : goal.is_within-requires-11
is_within-requires-11 c = tt

pub is_within-requires-12 : goal.is_within-requires-12
is_within-requires-12 c = tt

pub is_within-requires-13 : goal.is_within-requires-13
is_within-requires-13 c = tt

pub is_within-requires-14 : goal.is_within-requires-14
is_within-requires-14 c = tt

pub is_within-requires-15 : goal.is_within-requires-15
is_within-requires-15 c = tt

pub returns : goal.returns
unfolding is_hidden
returns c =
    simp (or_assoc, or-false) (cc)
