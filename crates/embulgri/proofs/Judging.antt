-- The judgement of a stream for C, by what `recording` promises. Assumes nothing.
use Rattle.std.specs.Prelude.{Result, Ok, Err}
use Prim.Native.Nat.{ℕ}
use mathlib.Core.Path.{◌≡◌, refl, sym, ap, ◌∙◌}
use mathlib.Core.Bool.{true, false}
use lib.Dec.{eqb}
use Rattle.refusal.specs.declared.Refusal.{Refusal}
use Rattle.refusal.specs.declared.Refusal.TheVariants.{HeadersIncomplete}
use Rattle.refusal.specs.Numbers.{number_of}
use Rattle.recording.specs.declared.Whole.{Whole}
use Rattle.recording.specs.declared.RefusedAt.{RefusedAt}
use Rattle.recording.specs.Judging.{Judgement}
use Rattle.recording.specs.Answers.{told_judged}
use Rattle.embulgri.specs.Streams.{judged_number, judged_page, JudgedIn}

module _ {j : Judgement} {r : Result Whole RefusedAt} (is : told_judged r ≡ j) (old : ℕ) where
  -- what the answer tells, once its case is known
  told-by : {s : Result Whole RefusedAt} → r ≡ s → told_judged s ≡ j
  told-by e = sym (ap told_judged e) ∙ is

  pub judged-whole : (pages packets : ℕ) → r ≡ (Ok (record { pages = pages; packets = packets })) → JudgedIn j 0 old old
  judged-whole pages packets e = record { refusal = ap judged_number (told-by e); page = ap (λ (k : Judgement). judged_page k old) (told-by e) }

  module _ (why : Refusal) (at : ℕ) (e : r ≡ (Err (record { why = why; page = at }))) {number : ℕ} (n : number ≡ number_of why) where
    refusal_is : number ≡ judged_number j
    refusal_is = n ∙ ap judged_number (told-by e)

    pub judged_incomplete : eqb (number_of why) (number_of HeadersIncomplete) ≡ true → JudgedIn j number old old
    judged_incomplete same = record {
      refusal = refusal_is;
      page = rw (← told-by e, same);
    }

    pub judged-refused : eqb (number_of why) (number_of HeadersIncomplete) ≡ false → JudgedIn j number old at
    judged-refused other = record {
      refusal = refusal_is;
      page = rw (← told-by e, other);
    }
