-- What building and seeking an index return to C and leave in their outputs (RULES.md, 15). Assumes nothing.
use Rattle.std.specs.Prelude.{ℕ, ◌≡◌, List, [], ◌∷◌, eqb, length}
use Rattle.octets.specs.Pick.{pick}
use Rattle.octets.specs.Octets.{Bytes}
use Rattle.refusal.specs.Told.{Told, gives, refuses}
use Rattle.page_crc.specs.Crc.{page_crc}
use Rattle.stream.specs.Readings.{readings}
use Rattle.list_entries.specs.declared.Listed.{Listed}
use Rattle.list_entries.specs.Entries.{PutLines}
use Rattle.index_search.specs.Index.{Answer, at_record, at_begin, refused}
use Rattle.index_columns.specs.Columns.{Slice}
use Rattle.index_columns_builder.specs.Building.{build_columns, BuildsColumns}
use Rattle.index_lines.specs.Lines.{records_in}
use Rattle.embulgri.specs.Answers.{stored}

-- ---- building

-- what a returned number tells, the count being `new`
abbrev pub told_count : ℕ → ℕ → Told ℕ
told_count n new = pick (eqb n 0) (gives new) (refuses n)

-- the returned number, the three lists, and the count from `old` to `new`
pub record IndexIn (b : Bytes) (number : ℕ) (granules places sequences : Slice) (old new : ℕ) : Type 0 where
  pub builds : BuildsColumns (readings page_crc) b (told_count number new) granules places sequences
  pub count : new
      ≡ stored (build_columns (readings page_crc) b granules.entry.now places.entry.now sequences.entry.now) old

-- ---- seeking

abbrev pub answer_number : Answer → ℕ
answer_number (at_record i probes) = 0
answer_number (at_begin probes) = 0
answer_number (refused n i) = n

abbrev pub sought_number : Told Answer → ℕ
sought_number (gives a) = answer_number a
sought_number (refuses n) = n

-- found or not, the record's number, and the probes
abbrev pub answer_record : Answer → List ℕ → List ℕ
answer_record (at_record i probes) old = 1 ∷ i ∷ probes ∷ []
answer_record (at_begin probes) old = 0 ∷ 0 ∷ probes ∷ []
answer_record (refused n i) old = old

abbrev pub sought_record : Told Answer → List ℕ → List ℕ
sought_record (gives a) old = answer_record a old
sought_record (refuses n) old = old

-- the place of a refusal
abbrev pub answer_place : Answer → ℕ → ℕ
answer_place (at_record i probes) old = old
answer_place (at_begin probes) old = old
answer_place (refused n i) old = i

abbrev pub sought_place : Told Answer → ℕ → ℕ
sought_place (gives a) old = answer_place a old
sought_place (refuses n) old = old

-- of an answer: the returned number, its record from `old` to `new`, and the place from `was` to `is`
pub record AnswerIn (a : Answer) (number : ℕ) (old new : List ℕ) (was is : ℕ) : Type 0 where
  pub refusal : number ≡ answer_number a
  pub record_is : new ≡ answer_record a old
  pub place : is ≡ answer_place a was

pub record SoughtIn (t : Told Answer) (number : ℕ) (old new : List ℕ) (was is : ℕ) : Type 0 where
  pub refusal : number ≡ sought_number t
  pub record_is : new ≡ sought_record t old
  pub place : is ≡ sought_place t was

-- ---- the lines of records

-- in the output from `old` to `end`; `put` has their number and the place after them
pub record RecordsIn (granules places sequences : List ℕ) (at : ℕ) (old end : Bytes) (put : List ℕ) : Type 0 where
  pub listed : Listed
  pub lines : PutLines old at (records_in (length old) at granules places sequences) listed end
  pub numbers : put ≡ listed.count ∷ listed.at ∷ []
