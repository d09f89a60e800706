-- The numbers that a stream is refused by: 2 to 18, and 24. Assumes nothing.
use Prim.Native.Nat.{ℕ, suc, ◌≤◌}
use mathlib.Core.Path.{◌≡◌, refl, sym, subst}
use mathlib.Core.Logic.{◌⊎◌, inl, inr}
use mathlib.Core.Bool.{Bool, true, false, ◌&&◌}
use mathlib.Core.List.{List, [], ◌∷◌, ◌++◌}
use mathlib.Core.Option.{Option, none, some}
use native.Mathlib.Omega.{arith}
use lib.Dec.{ltb}
use Rattle.octets.specs.Pick.{pick}
use Rattle.octets.specs.Octets.{Bytes}
use Rattle.refusal.specs.declared.Refusal.{Refusal}
use Rattle.refusal.specs.declared.Refusal.TheVariants.{AfterEnd, BelowPreSkip, GranuleTooSmall, HeadersIncomplete}
use Rattle.refusal.specs.Checks.{Check, ◌when◌, first_of}
use Rattle.refusal.specs.Numbers.{number_of}
use Rattle.granule.specs.declared.Position.{Position}
use Rattle.granule.specs.declared.Position.TheVariants.{Unset, Joined, At}
use Rattle.granule.specs.Judging.{is_unset, too_small, judge_checks}
use Rattle.stream.specs.declared.Phase.{Phase}
use Rattle.stream.specs.declared.Phase.TheVariants.{First, Comment, Audio, Opened, Ended}
use Rattle.stream.specs.Page.{Page, page_of, last, granule_of}
use Rattle.stream.specs.Readings.{Readings}
use Rattle.stream.specs.State.{State, expecting_in, expecting}
use Rattle.stream.specs.Packets.{Seen, seen, audio_packets, measures_of, samples_of}
use Rattle.stream.specs.Rules.{audio_completes, shape_checks, packet_checks, time_checks, checks_on, after_position, next_on, verdict, after}
use Rattle.stream.proofs.TwoReaders.{NotJoined}
use Rattle.recording.specs.Judging.{RefusedPage, unless, first_refused, fresh}
use Rattle.recording.specs.Statements.{Unfinished, JudgedNumbers}
use Rattle.recording.proofs.Passing.{some-none}
use Rattle.recording.proofs.Streams.{refused-is}

abbrev In : ℕ → Type 0
In n = (number_of AfterEnd ≤ n) × (n ≤ number_of BelowPreSkip)

-- ---- among checks

abbrev AllIn : List Check → Type 0
AllIn [] = Unit {0}
AllIn ((r when t) ∷ cs) = In (number_of r) × AllIn cs

-- what these checks refuse, if they refuse, is refused by such a number
abbrev Fits : List Check → Type 0
Fits cs = (n : Refusal) → first_of cs ≡ some n → In (number_of n)

none-fit : Fits []
unfolding first_of
none-fit n e = some-none (sym e)

both-fit : (cs ds : List Check) → AllIn cs → Fits ds → Fits (cs ++ ds)
unfolding first_of
both-fit [] ds a f n e = f n e
both-fit ((r when true) ∷ cs) ds a f n e = let same : r ≡ n = cc in subst (λ (k : Refusal). In (number_of k)) same a.0
both-fit ((r when false) ∷ cs) ds a f n e = both-fit cs ds a.1 f n e

-- ---- the checks of a page

packets_in_lem : (R : Readings) (n : ℕ) (bs : List Bytes) → AllIn (packet_checks R n bs)
unfolding packet_checks
packets_in_lem R n [] = tt
packets_in_lem R n (b ∷ bs) = (omega arith, (omega arith, packets_in_lem R n bs))

-- 18 and 17
abbrev late : Position → ℕ → ℕ → ℕ → Bool → List Check
late q preskip g d t = BelowPreSkip when (t && (is_unset q && ltb g preskip)) ∷ GranuleTooSmall when too_small q t g d ∷ []

late_fit : (q : Position) (preskip g d : ℕ) (t : Bool) → Fits (late q preskip g d t)
late_fit q preskip g d t = both-fit (late q preskip g d t) [] (omega arith) none-fit

-- a position that is not joined is not refused by 19
judge-fits : (q : Position) (preskip g d : ℕ) (t : Bool) → NotJoined q → Fits (judge_checks q preskip g d t)
unfolding first_of
judge-fits Unset preskip g d true h n e = late_fit Unset preskip g d true n e
judge-fits Unset preskip g d false h n e = late_fit Unset preskip g d false n e
judge-fits Joined preskip g d t h n e = absurd h
judge-fits (At p) preskip g d true h n e = late_fit (At p) preskip g d true n e
judge-fits (At p) preskip g d false h n e = late_fit (At p) preskip g d false n e

time_fits : (R : Readings) (s : State) (p : Page) (x : Seen) → NotJoined s.position → Fits (time_checks R s p x)
unfolding time_checks
time_fits R s p x h = by (audio_completes s x)
  where
    by : (t : Bool) → Fits (pick t (judge_checks s.position s.preskip (granule_of p) (samples_of (measures_of R s x)) (last p)) [])
    by true = judge-fits s.position s.preskip (granule_of p) (samples_of (measures_of R s x)) (last p) h
    by false = none-fit

all-fit : (R : Readings) (s : State) (b : Bytes) (x : Seen) → NotJoined s.position → Fits (checks_on R s b x)
unfolding checks_on
all-fit R s b x h =
    let ps : List Check = packet_checks R s.streams (audio_packets s x) in
    let ts : List Check = time_checks R s (page_of b) x in
    both-fit (shape_checks R s b x) (ps ++ ts) (omega arith)
    (both-fit ps ts (packets_in_lem R s.streams (audio_packets s x)) (time_fits R s (page_of b) x h))

-- ---- the position of a state

expects : (s : State) (p : Page) → (expecting s p).position ≡ s.position
unfolding expecting
expects s p = by s.phase
  where
    by : (ph : Phase) → (expecting_in ph s p).position ≡ s.position
    by First = refl
    by Comment = refl
    by Audio = refl
    by Opened = refl
    by Ended = refl

page-fits : (R : Readings) (s : State) (b : Bytes) (n : Refusal) → NotJoined s.position → verdict R s b ≡ some n → In (number_of n)
unfolding verdict
page-fits R s b n h e =
    all-fit R (expecting s (page_of b)) b (seen (expecting s (page_of b)) (page_of b)) (rw (expects s (page_of b)) h) n e

stays : (R : Readings) (s : State) (b : Bytes) → NotJoined s.position → NotJoined (after R s b).position
unfolding after next_on
stays R s b h = by (audio_completes (expecting s (page_of b)) (seen (expecting s (page_of b)) (page_of b)))
  where
    by : (t : Bool) → NotJoined (after_position t (expecting s (page_of b)).position (granule_of (page_of b)))
    by true = tt
    by false = rw (expects s (page_of b)) h

-- ---- the pages of a stream

first_fits : (R : Readings) (S : List Bytes) (s : State) (k : ℕ) (x : RefusedPage) → NotJoined s.position
    → first_refused R s k S ≡ some x → In x.number
unfolding first_refused
first_fits R [] s k x h e = some-none (sym e)
first_fits R (b ∷ bs) s k x h e = by (verdict R s b) refl e (first_fits R bs (after R s b) (suc k) x (stays R s b h))
  where
    by : (v : Option Refusal) → verdict R s b ≡ v → unless v k (first_refused R (after R s b) (suc k) bs) ≡ some x
        → (first_refused R (after R s b) (suc k) bs ≡ some x → In x.number) → In x.number
    by none v q later = later q
    by (some n) v q later = let same : number_of n ≡ x.number = cc in subst In same (page-fits R s b n h v)

pub judged-numbers : JudgedNumbers
judged-numbers R S n k e = by (refused-is R S n k e)
  where
    by : (first_refused R fresh 0 S ≡ some (record { number = n; page = k })) ⊎ Unfinished R S n k → In n ⊎ (n ≡ number_of HeadersIncomplete)
    by (inl q) = inl (first_fits R S fresh 0 (record { number = n; page = k }) tt q)
    by (inr u) = inr u.number
