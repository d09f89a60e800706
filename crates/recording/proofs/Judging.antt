-- The judgement as the code makes it is the one of the pages. Assumes nothing.
use Prim.Native.Nat.{ℕ, suc, ◌+◌}
use mathlib.Core.Path.{◌≡◌, refl, sym, ap, ap₂, ◌∙◌}
use mathlib.Core.Bool.{Bool}
use mathlib.Core.List.{List, [], ◌∷◌, map}
use mathlib.Core.Option.{Option, none, some}
use native.Mathlib.Omega.{arith}
use lib.ListN.{length}
use Rattle.octets.specs.Octets.{Bytes, total}
use Rattle.refusal.specs.declared.Refusal.{Refusal}
use Rattle.stream.specs.Readings.{Readings}
use Rattle.stream.specs.State.{State, in_headers}
use Rattle.stream.specs.Rules.{verdict, after}
use Rattle.stream.specs.Feed.{start, view, counts_on}
use Rattle.stream.specs.Stream.{Listing, phase_of, listings}
use Rattle.stream.specs.Feedings.{Feeding, finally, carry_left, Shown, stream, bytes_of}
use Rattle.stream.proofs.Joining.{after_all}
use Rattle.stream.proofs.Runs.{skip_in, Lists, Ran, runs}
use Rattle.recording.specs.Judging.{RefusedPage, unless, first_refused, fresh, packets_in, judged_by, judge_pages}
use Rattle.recording.specs.Feedings.{Feeds}
use Rattle.recording.specs.Code.{packets_on, go_on, judge_from}
use Rattle.recording.proofs.Streams.{some-feedings, some-feed, bytes-shown, all_listed, after-all}

-- the packets of these pages
unfoldable packets_from : Readings → State → List Bytes → ℕ
packets_from R s [] = 0
packets_from R s (b ∷ bs) = packets_on R s b + packets_from R (after R s b) bs

-- by the first refusal, and the state after all of them
by_first : (R : Readings) (S : List Bytes) (s : State) (k n : ℕ)
    → judge_from R s k n S ≡ judged_by (first_refused R s k S) (in_headers (after_all R s S).phase) (k + length S) (n + packets_from R s S)
unfolding judge_from first_refused packets_from after_all
by_first R [] s k n = ap₂ (λ (i j : ℕ). judged_by none (in_headers s.phase) i j) (omega arith) (omega arith)
by_first R (b ∷ bs) s k n = by (verdict R s b) (by_first R bs (after R s b) (suc k) (n + packets_on R s b))
  where
    due : Bool
    due = in_headers (after_all R (after R s b) bs).phase

    by : (v : Option Refusal)
        → judge_from R (after R s b) (suc k) (n + packets_on R s b) bs
        ≡ judged_by (first_refused R (after R s b) (suc k) bs) due (suc k + length bs) (n + packets_on R s b + packets_from R (after R s b) bs)
        → go_on v k (judge_from R (after R s b) (suc k) (n + packets_on R s b) bs)
        ≡ judged_by (unless v k (first_refused R (after R s b) (suc k) bs)) due (k + suc (length bs)) (n + (packets_on R s b + packets_from R (after R s b) bs))
    by none later =
        later ∙ ap₂ (λ (i j : ℕ). judged_by (first_refused R (after R s b) (suc k) bs) due i j) (omega arith) (omega arith)
    by (some x) later = refl

-- the packets that are listed
listed-packets : (R : Readings) (X : List Shown) (s : State) (skip : ℕ) → Lists R s skip X
    → packets_from R s (bytes_of X) ≡ total (map (λ (l : Listing). l.counts.packets) (map (λ (x : Shown). x.listing) X))
unfolding packets_from packets_on counts_on total
listed-packets R [] s skip l = refl
listed-packets R (x ∷ X) s skip l =
    ap₂ ◌+◌ (sym (ap (λ (k : Listing). k.counts.packets) l.1))
    (listed-packets R X (after R s x.bytes) (skip_in R skip s x.bytes) l.2)

pub from-fresh : (R : Readings) (S : List Bytes) → judge_from R fresh 0 0 S ≡ judge_pages R S
unfolding judge_pages packets_in
from-fresh R S = by_first R S fresh 0 0 ∙ by (first_refused R fresh 0 S) refl
  where
    by : (x : Option RefusedPage) → first_refused R fresh 0 S ≡ x
        → judged_by x (in_headers (after_all R fresh S).phase) (0 + length S) (0 + packets_from R fresh S)
        ≡ judged_by x (in_headers (phase_of S)) (length S) (packets_in (listings R S))
    by (some x) e = refl
    by none e =
        let F : List Feeding = some-feedings R S in
        let fed : Feeds R S F = some-feed R S in
        let ran : Ran R fresh 0 (stream R start F) (finally R start F) (carry_left R start [] F) = runs R F start [] fed.handed in
        let shown : bytes_of (stream R start F) ≡ S = bytes-shown R S F e fed in
        let state : view (finally R start F).core (carry_left R start [] F) ≡ after_all R fresh S = ran.state ∙ ap (after_all R fresh) shown in
        let phase : (after_all R fresh S).phase ≡ phase_of S = sym (ap (λ (s : State). s.phase) state) ∙ (after-all R S F e fed).phase in
        let packets : packets_from R fresh S ≡ packets_in (listings R S) =
        ap (packets_from R fresh) (sym shown) ∙ listed-packets R (stream R start F) fresh 0 ran.lists
        ∙ ap (λ (l : List Listing). total (map (λ (k : Listing). k.counts.packets) l)) (all_listed R S F e fed) in
        let pages : 0 + length S ≡ length S = omega arith in
        let all : 0 + packets_from R fresh S ≡ packets_in (listings R S) = omega (arith, packets) in
        rw (phase, pages, all)
