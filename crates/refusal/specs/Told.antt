-- What a call tells: what it gives, or a refusal's number and nothing else (RULES.md, 2). The contract of every function that
-- can refuse uses this. Assumes nothing.
use Rattle.std.specs.Prelude.{ℕ, Result, Ok, Err}
use Rattle.std.proofs.Math.Option.{Option, none, some}
use Rattle.refusal.specs.declared.Refusal.{Refusal}
use Rattle.refusal.specs.Numbers.{number_of}

pub data Told (A : Type 0) : Type 0 where
  gives : A → Told A
  refuses : ℕ → Told A

-- what the code's answer tells
abbrev pub told : {A : Type 0} → Result A Refusal → Told A
told (Ok a) = gives a
told (Err r) = refuses (number_of r)

-- what is told where the checks found this refusal, or none
abbrev pub decided : {A : Type 0} → Option Refusal → A → Told A
decided none a = gives a
decided (some r) a = refuses (number_of r)

-- the same with what is given turned into something else
abbrev pub retold : {A B : Type 0} → (A → B) → Told A → Told B
retold f (gives a) = gives (f a)
retold f (refuses n) = refuses n

-- the number of a refusal, 0 for none
abbrev pub number_in : {A : Type 0} → Told A → ℕ
number_in (gives a) = 0
number_in (refuses n) = n
