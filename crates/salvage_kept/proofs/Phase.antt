-- How far the stream has come after accepted pages. Assumes nothing.
use Rattle.std.proofs.Common.{◌≡◌, Bool, List, [], ◌∷◌, sym, refl, ap, ◌∙◌}
use mathlib.Core.Option.{none}
use Rattle.octets.specs.Octets.{Bytes}
use Rattle.stream.specs.Readings.{Readings}
use Rattle.stream.specs.State.{State, in_headers}
use Rattle.stream.specs.Rules.{after}
use Rattle.stream.specs.Feed.{start, view}
use Rattle.stream.specs.Stream.{phase_of}
use Rattle.stream.specs.Feedings.{Feeding, finally, carry_left, stream, bytes_of}
use Rattle.stream.proofs.Joining.{after_all}
use Rattle.stream.proofs.Runs.{Ran, runs}
use Rattle.recording.specs.Judging.{first_refused, fresh}
use Rattle.recording.specs.Feedings.{Feeds}
use Rattle.recording.proofs.Streams.{some-feedings, some-feed, bytes-shown, after-all}
use Rattle.salvage_rules.specs.Good.{Good}
use Rattle.salvage_rules.specs.Rounds.{pages_out}
use Rattle.salvage_rules.specs.Steps.{state_after}
use Rattle.salvage_kept.specs.Pass.{Going}
use Rattle.salvage_kept.proofs.Outputs.{first-whole}

same_after : (R : Readings) (s : State) (S : List Bytes) → state_after R s S ≡ after_all R s S
unfolding state_after after_all
same_after R s [] = refl
same_after R s (b ∷ S) = same_after R (after R s b) S

phase-after : (R : Readings) (S : List Bytes) → first_refused R fresh 0 S ≡ none → (state_after R fresh S).phase ≡ phase_of S
phase-after R S e =
    let F : List Feeding = some-feedings R S in
    let fed : Feeds R S F = some-feed R S in
    let ran : Ran R fresh 0 (stream R start F) (finally R start F) (carry_left R start [] F) = runs R F start [] fed.handed in
    let shown : bytes_of (stream R start F) ≡ S = bytes-shown R S F e fed in
    let state : view (finally R start F).core (carry_left R start [] F) ≡ state_after R fresh S =
    ran.state ∙ ap (after_all R fresh) shown ∙ sym (same_after R fresh S) in
    sym (ap (λ (s : State). s.phase) state) ∙ (after-all R S F e fed).phase

-- whether a header is due at the end
pub due-at_end : {R : Readings} {G K : List Good} {s : State} {t : Bool} → Going R G K [] s t → in_headers s.phase ≡ in_headers (phase_of (pages_out K))
due-at_end {R} {G} {K} {s} w =
    let e : first_refused R fresh 0 (pages_out K) ≡ none = ap (first_refused R fresh 0) (sym (first-whole K)) ∙ w.fed.accepted in
    let same : s ≡ state_after R fresh (pages_out K) = w.fed.state ∙ ap (state_after R fresh) (first-whole K) in
    ap (λ (x : State). in_headers x.phase) same ∙ ap in_headers (phase-after R (pages_out K) e)
