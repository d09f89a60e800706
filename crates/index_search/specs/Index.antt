-- An index of a stream as a list of records, whatever its layout in memory, and the search in it (RULES.md, 15; RFC 7845, 4.6).
-- The search looks at the granule positions alone. Assumes nothing.
use Rattle.std.specs.Prelude.{ℕ, zero, suc, ◌+◌, ◌-◌, ◌/◌, List, [], ◌∷◌, map, ltb, leb, eqb, length, get_or, take, drop}
use Rattle.std.proofs.Math.Option.{Option, none, some}
use Rattle.octets.specs.Pick.{pick}
use Rattle.refusal.specs.declared.Refusal.TheVariants.{FallingGranule}
use Rattle.refusal.specs.Numbers.{number_of}
use Rattle.index_search.specs.declared.IndexRecord.{IndexRecord}

abbrev pub Index : Type 0
Index = List IndexRecord

-- what is read where there is no record
abbrev pub no_record : IndexRecord
no_record = record { granule = 0; place = 0; sequence = 0 }

abbrev pub granules_of : Index → List ℕ
granules_of ix = map (λ (r : IndexRecord). r.granule) ix

-- how far before the target a reader is opened, in samples, so that a decoder has settled when it gets there: 80 ms
abbrev pub pre_roll : ℕ
pre_roll = 3840

-- ---- 26: the first place whose granule position is below the one before it

unfoldable pub fall_after : ℕ → ℕ → List ℕ → Option ℕ
fall_after place before [] = none
fall_after place before (g ∷ gs) = pick (ltb g before) (some place) (fall_after (place + 1) g gs)

-- nothing is below 0, so the first place is never one
unfoldable pub first_fall : List ℕ → Option ℕ
first_fall gs = fall_after 0 0 gs

-- ---- the last record at or before the limit: how many records there are up to it and with it, or 0

unfoldable pub up_to : ℕ → List ℕ → ℕ
up_to limit [] = 0
up_to limit (g ∷ gs) = pick (ltb 0 (up_to limit gs)) (suc (up_to limit gs)) (pick (leb g limit) 1 0)

-- ---- the probes of halving

-- A probe looks at the one with half of what remains, rounded down, before it. At most n probes; as many as there are
-- granule positions are always enough.
unfoldable pub probes : ℕ → ℕ → List ℕ → ℕ
probes zero limit gs = 0
probes (suc n) limit gs =
    pick (eqb (length gs) 0) 0
    (suc (probes n limit
    (pick (leb (get_or gs (length gs / 2) 0) limit) (drop (suc (length gs / 2)) gs) (take (length gs / 2) gs))))

-- ---- seeking

pub data Answer : Type 0 where
  -- the record at this place, after so many probes
  at_record : ℕ → ℕ → Answer
  -- no record is early enough: the stream's begin, after so many probes
  at_begin : ℕ → Answer
  -- this number, and the place
  refused : ℕ → ℕ → Answer

-- by how many records there are up to the one found
abbrev pub found_by : ℕ → ℕ → Answer
found_by zero probes = at_begin probes
found_by (suc i) probes = at_record i probes

abbrev pub unless : Option ℕ → Answer → Answer
unless (some i) a = refused (number_of FallingGranule) i
unless none a = a

unfoldable pub seek_in : List ℕ → ℕ → Answer
seek_in gs target =
    unless (first_fall gs)
    (pick (ltb target pre_roll) (at_begin 0)
    (found_by (up_to (target - pre_roll) gs) (probes (length gs) (target - pre_roll) gs)))

abbrev pub seek_of : Index → ℕ → Answer
seek_of ix target = seek_in (granules_of ix) target
