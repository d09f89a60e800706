-- What `time_page` answers in each case. Assumes nothing.
use Rattle.std.specs.Prelude.{Result, Ok, Err}
use Prim.Native.Nat.{ℕ, ◌<◌, ◌^◌}
use mathlib.Core.Path.{◌≡◌, sym, ap, ◌∙◌}
use mathlib.Core.List.{List}
use native.Mathlib.Omega.{arith}
use Rattle.refusal.specs.declared.Refusal.{Refusal}
use Rattle.refusal.specs.Checks.{first_of}
use Rattle.refusal.specs.Told.{Told, gives, told}
use Rattle.refusal.proofs.Checks.{no_refusal}
use Rattle.page_layout.specs.declared.PageHeader.{PageHeader}
use Rattle.granule.specs.declared.Placed.{Placed as Place}
use Rattle.granule.specs.Judging.{judge, judge_checks, placed}
use Rattle.granule.proofs.Placing.{placed-fits}
use Rattle.stream.specs.declared.Core.{Core}
use Rattle.packet_reader.specs.declared.Measure.{Measure}
use Rattle.page_flags.specs.Flags.{is_last_page}
use Rattle.feed_audio.specs.Code.{Measures, timed_by, Times}

-- what is told of the samples
abbrev pub judged_as : Core → PageHeader → ℕ → Told Place
judged_as k h d = judge k.position k.preskip h.granule d (is_last_page h.flags)

module _ {packed : List ℕ} (k : Core) (h : PageHeader) {t : Told (List Measure)} where
  pub unmeasured : {why : Refusal} → Measures (Err why) packed t → Times (Err why) packed k h t
  unmeasured m = record { tells = ap (λ (x : Told (List Measure)). timed_by x k h) m.tells; runs = tt }

  module _ {n d : ℕ} (m : Measures (Ok (record { count = n; samples = d })) packed t) where
    judged : {q : Told Place} → q ≡ judged_as k h d → q ≡ timed_by t k h
    judged e = e ∙ ap (judged_as k h) m.sums.adds ∙ ap (λ (x : Told (List Measure)). timed_by x k h) m.tells

    pub unplaced : {r : Result Place Refusal} {why : Refusal} → told r ≡ judged_as k h d → r ≡ Err why → Times (Err why) packed k h t
    unplaced e q = record { tells = judged (ap told (sym q) ∙ e); runs = tt }

    pub timed : {r : Result Place Refusal} {w : Place} → told r ≡ judged_as k h d → r ≡ Ok w → h.granule < 2 ^ 63 → Times (Ok (record { count = n; samples = d; place = w })) packed k h t
    unfolding judge
    timed {r} {w} e q small =
        let tells : gives w ≡ judged_as k h d = ap told (sym q) ∙ e in
        let fits = (placed-fits k.position k.preskip h.granule d (is_last_page h.flags) w (sym tells)).stamps small (omega (arith, m.sums.small)) in
        record {
          tells = judged tells;
          runs = record {
            measures = m.tells;
            adds = m.sums.adds;
            few = m.sums.few;
            place = sym (no_refusal (first_of (judge_checks k.position k.preskip h.granule d (is_last_page h.flags))) (placed k.position (is_last_page h.flags) h.granule d) w (sym tells)).1;
            fits = rw (← m.sums.adds) fits;
          };
        }
