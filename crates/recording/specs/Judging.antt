-- A stream in a buffer, judged by its pages alone (RULES.md, 15). They are fed one by one, with room, to a reader just started.
-- The first that is refused decides. Else it is 24 where the comment header is not complete, and else the stream is whole.
-- Assumes nothing.
use Rattle.std.specs.Prelude.{ℕ, suc, Bool, true, false, List, [], ◌∷◌, map, length}
use Rattle.std.proofs.Math.Option.{Option, none, some}
use Rattle.octets.specs.Octets.{Bytes, total}
use Rattle.refusal.specs.declared.Refusal.{Refusal}
use Rattle.refusal.specs.declared.Refusal.TheVariants.{HeadersIncomplete}
use Rattle.refusal.specs.Numbers.{number_of}
use Rattle.stream.specs.Readings.{Readings}
use Rattle.stream.specs.State.{State, in_headers}
use Rattle.stream.specs.Rules.{verdict, after}
use Rattle.stream.specs.Feed.{start, view}
use Rattle.stream.specs.Stream.{Listing, listings, phase_of}
use Rattle.recording.specs.Pages.{pages_of}

pub data Judgement : Type 0 where
  whole : ℕ → ℕ → Judgement  -- so many pages and audio packets
  refused : ℕ → ℕ → Judgement  -- the refusal's number, and its page; the first page is 0

-- ---- the first refusal

pub record RefusedPage : Type 0 where
  pub number : ℕ
  pub page : ℕ

abbrev pub unless : Option Refusal → ℕ → Option RefusedPage → Option RefusedPage
unless none k later = later
unless (some n) k later = some (record { number = number_of n; page = k })

-- among these pages, from the state s, k pages being before them
unfoldable pub first_refused : Readings → State → ℕ → List Bytes → Option RefusedPage
first_refused R s k [] = none
first_refused R s k (b ∷ bs) = unless (verdict R s b) k (first_refused R (after R s b) (suc k) bs)

-- the state of a reader just started
abbrev pub fresh : State
fresh = view start.core []

-- ---- the judgement

-- the audio packets that these listings count
unfoldable pub packets_in : List Listing → ℕ
packets_in ls = total (map (λ (l : Listing). l.counts.packets) ls)

-- by the first refusal, and whether a header is due after all pages
abbrev pub judged_by : Option RefusedPage → Bool → ℕ → ℕ → Judgement
judged_by (some x) due pages packets = refused x.number x.page
judged_by none true pages packets = refused (number_of HeadersIncomplete) pages
judged_by none false pages packets = whole pages packets

unfoldable pub judge_pages : Readings → List Bytes → Judgement
judge_pages R S = judged_by (first_refused R fresh 0 S) (in_headers (phase_of S)) (length S) (packets_in (listings R S))

-- of a buffer
abbrev pub judge_buffer : Readings → Bytes → Judgement
judge_buffer R b = judge_pages R (pages_of b)
