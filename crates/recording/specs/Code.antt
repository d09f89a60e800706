-- The judgement as the code makes it: from any state on, with the numbers of the pages and packets before. Assumes nothing.
use Rattle.std.specs.Prelude.{ℕ, suc, ◌+◌, List, [], ◌∷◌, length}
use Rattle.std.proofs.Math.Option.{Option, none, some}
use Rattle.octets.specs.Octets.{Bytes}
use Rattle.refusal.specs.declared.Refusal.{Refusal}
use Rattle.refusal.specs.Numbers.{number_of}
use Rattle.stream.specs.Page.{page_of}
use Rattle.stream.specs.Readings.{Readings}
use Rattle.stream.specs.State.{State, in_headers, expecting}
use Rattle.stream.specs.Packets.{seen, measures_of}
use Rattle.stream.specs.Rules.{verdict, after}
use Rattle.recording.specs.Judging.{Judgement, refused, judged_by}

-- the audio packets that a page completes
unfoldable pub packets_on : Readings → State → Bytes → ℕ
packets_on R s b = length (measures_of R (expecting s (page_of b)) (seen (expecting s (page_of b)) (page_of b)))

abbrev pub go_on : Option Refusal → ℕ → Judgement → Judgement
go_on none k later = later
go_on (some n) k later = refused (number_of n) k

-- k pages and n packets being before these
unfoldable pub judge_from : Readings → State → ℕ → ℕ → List Bytes → Judgement
judge_from R s k n [] = judged_by none (in_headers s.phase) k n
judge_from R s k n (b ∷ bs) = go_on (verdict R s b) k (judge_from R (after R s b) (suc k) (n + packets_on R s b) bs)
