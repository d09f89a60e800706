-- Building and seeking an index for C, by what the library promises. Assumes nothing.
use Rattle.std.specs.Prelude.{Result, Ok, Err}
use Prim.Native.Nat.{ℕ}
use mathlib.Core.Path.{◌≡◌, refl, sym, ap, subst, ◌∙◌}
use mathlib.Core.Bool.{Bool, true, false}
use mathlib.Core.List.{List, [], ◌∷◌}
use lib.Dec.{eqb}
use Rattle.octets.specs.Pick.{pick}
use Rattle.octets.specs.Octets.{Bytes}
use Rattle.refusal.specs.declared.Refusal.{Refusal}
use Rattle.refusal.specs.Numbers.{number_of}
use Rattle.refusal.specs.Told.{Told, gives, refuses, told}
use Rattle.refusal.proofs.Numbers.{numbers_positive}
use Rattle.page_crc.specs.Crc.{page_crc}
use Rattle.stream.specs.Readings.{readings}
use Rattle.index_search.specs.declared.Sought.{Sought}
use Rattle.index_search.specs.declared.Sought.TheVariants.{Record, Begin, Refused as NotSought}
use Rattle.index_search.specs.Index.{Answer}
use Rattle.index_search.specs.Answers.{told_sought}
use Rattle.index_columns.specs.Columns.{Slice}
use Rattle.index_columns.specs.Answers.{told_columns}
use Rattle.index_columns_builder.specs.Building.{BuildsColumns}
use Rattle.embulgri.specs.Answers.{stored}
use Rattle.embulgri.specs.Index.{told_count, AnswerIn, SoughtIn}

-- ---- building

-- the same contract, by what the answer tells
pub built_as : (b : Bytes) (g p s : Slice) (r : Result ℕ Refusal) → BuildsColumns (readings page_crc) b (told r) g p s → {t : Told ℕ} → told r ≡ t
    → BuildsColumns (readings page_crc) b t g p s
built_as b g p s r is e = subst (λ (t : Told ℕ). BuildsColumns (readings page_crc) b t g p s) e is

pub count_of_lem : {t : Told ℕ} (n old : ℕ) → gives n ≡ t → n ≡ stored t old
count_of_lem n old e = ap (λ (x : Told ℕ). stored x old) e

pub refusal-told : {r : Result ℕ Refusal} {number : ℕ} (old : ℕ) (why : Refusal) → r ≡ Err why → number ≡ number_of why → told r ≡ told_count number old
refusal-told old why e n = ap told e ∙ rw (n, numbers_positive why)

-- under a refusal the count stays
pub count-stays : {t : Told ℕ} (number old : ℕ) → told_count number old ≡ t → old ≡ stored t old
count-stays number old e = by (eqb number 0) ∙ ap (λ (x : Told ℕ). stored x old) e
  where
    by : (zero : Bool) → old ≡ stored (pick zero (gives old) (refuses number)) old
    by true = refl
    by false = refl

-- ---- seeking

module _ {s : Sought} (old : List ℕ) (was : ℕ) where
  pub at_record_lem : (i probes : ℕ) → s ≡ Record i probes → AnswerIn (told_sought s) 0 old (1 ∷ i ∷ probes ∷ []) was was
  at_record_lem i probes e =
      subst (λ (x : Sought). AnswerIn (told_sought x) 0 old (1 ∷ i ∷ probes ∷ []) was was) (sym e) (record { refusal = refl; record_is = refl; place = refl })

  pub at_begin_lem : (probes : ℕ) → s ≡ Begin probes → AnswerIn (told_sought s) 0 old (0 ∷ 0 ∷ probes ∷ []) was was
  at_begin_lem probes e =
      subst (λ (x : Sought). AnswerIn (told_sought x) 0 old (0 ∷ 0 ∷ probes ∷ []) was was) (sym e) (record { refusal = refl; record_is = refl; place = refl })

  pub falls : {number : ℕ} (why : Refusal) (i : ℕ) → s ≡ NotSought why i → number ≡ number_of why → AnswerIn (told_sought s) number old old was i
  falls {number} why i e n =
      subst (λ (x : Sought). AnswerIn (told_sought x) number old old was i) (sym e) (record { refusal = n; record_is = refl; place = refl })

module _ {t : Told Answer} {r : Result Sought Refusal} (is : told_columns r ≡ t) where
  pub sought : {number : ℕ} {old new : List ℕ} {was now : ℕ} (s : Sought) → r ≡ Ok s → AnswerIn (told_sought s) number old new was now
      → SoughtIn t number old new was now
  sought {number} {old} {new} {was} {now} s e a =
      subst (λ (x : Told Answer). SoughtIn x number old new was now) (sym (ap told_columns e) ∙ is)
      (record { refusal = a.refusal; record_is = a.record_is; place = a.place })

  pub unsought : {number : ℕ} (old : List ℕ) (was : ℕ) (why : Refusal) → r ≡ Err why → number ≡ number_of why → SoughtIn t number old old was was
  unsought {number} old was why e n =
      subst (λ (x : Told Answer). SoughtIn x number old old was was) (sym (ap told_columns e) ∙ is)
      (record { refusal = n; record_is = refl; place = refl })
