-- `index_records::run` meets its contract. Assumes nothing.
use Rattle.std.proofs.Common.{◌≡◌, ◌∙◌, sym, ap, ℕ, ◌-◌, ◌<◌, List, get_or}
use lib.ListN.{get_or-map}
use Rattle.index_search.specs.declared.IndexRecord.{IndexRecord}
use Rattle.index_search.specs.declared.Search.{Search}
use Rattle.index_search.specs.Index.{no_record, granules_of}
use Rattle.index_search.specs.Search.{place_of, step_of, finish}
use Rattle.index_search.proofs.Steps.{less, finish-done, finish_go}
use Rattle.index_records.proofs.run.Goals as goal

-- a step leaves fewer places
fewer : (t u : Search) (g : ℕ) → t.low < t.high → u ≡ step_of t g → u.high - u.low < t.high - t.low
fewer t u g on e = rw e (less t g on)

-- a step by the record that was read leads to the same end
goes_on : (l : List IndexRecord) (t u : Search) (p : ℕ) (r : IndexRecord) → t.low < t.high → p ≡ place_of t
    → r ≡ get_or l p no_record → u ≡ step_of t r.granule → finish (granules_of l) u ≡ finish (granules_of l) t
goes_on l t u p r on at read e =
    let record-there : r ≡ get_or l (place_of t) no_record = rw at at read in
    rw (e, record-there)
    (ap (λ (g : ℕ). finish (granules_of l) (step_of t g)) (sym (get_or-map (λ (z : IndexRecord). z.granule) l (place_of t) no_record))
    ∙ sym (finish_go (granules_of l) t on))

pub loop-t-smaller : goal.loop-t-smaller
loop-t-smaller c = fewer c.loop-t.t c.step-t.result _ c.loop-t-test.true c.step-t.ensures

pub loop-t-preserved : goal.loop-t-preserved
loop-t-preserved c =
    goes_on _ _ _ _ _ c.loop-t-test.true c.place-at.ensures c.record_at-r.ensures c.step-t.ensures ∙ c.loop-t.invariant

pub returns : goal.returns
returns c = sym (finish-done _ _ c.loop-t-test.false) ∙ c.loop-t.invariant
