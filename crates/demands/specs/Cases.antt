-- The sixteen cases of RULES.md, 12, one table under one statement. Twelve are packets, each read as an audio packet of one
-- stream. Four are lists of pages where packets complete, judged by the rules of positions and counted as the samples of a
-- stream with a pre-skip of 312. Assumes nothing.
use Rattle.std.specs.Prelude.{ℕ, ◌≡◌, Bool, true, false, List, [], ◌∷◌, ◌++◌, map}
use Rattle.std.proofs.Math.Option.{Option, none, some}
use Rattle.octets.specs.Octets.{Bytes}
use Rattle.refusal.specs.declared.Refusal.{Refusal}
use Rattle.refusal.specs.Checks.{first_of, or_else}
use Rattle.refusal.specs.declared.Refusal.TheVariants.{IllegalPacket, BelowPreSkip, GranuleTooSmall}
use Rattle.refusal.specs.Numbers.{number_of}
use Rattle.refusal.specs.Told.{Told, gives, refuses}
use Rattle.packet_reader.specs.declared.Contents.{Contents}
use Rattle.packet_reader.specs.Streams.{read_packet}
use Rattle.granule.specs.declared.Position.TheVariants.{Unset}
use Rattle.granule.specs.Judging.{judge_checks}
use Rattle.stream.specs.Stream.{Mark, decoded, position_from, kept_count, trimmed_count}

-- what a case gives
pub data Given : Type 0 where
  packet : Bytes → Given
  pages : List Mark → Given

-- what is to come of it
pub data Outcome : Type 0 where
  -- the length of a packet
  samples : ℕ → Outcome
  -- the samples kept, and those trimmed
  counts : ℕ → ℕ → Outcome
  refused : ℕ → Outcome

pub record Case : Type 0 where
  pub given : Given
  pub outcome : Outcome

-- ---- what the rules say

abbrev samples_told : Told Contents → Outcome
samples_told (gives c) = samples c.measure.samples
samples_told (refuses n) = refused n

-- the first refusal among marks, a mark being what feeding judges of a page where packets complete; others came before
unfoldable pub refused_from : List Mark → ℕ → List Mark → Option Refusal
refused_from before preskip [] = none
refused_from before preskip (m ∷ ms) =
    or_else (first_of (judge_checks (position_from Unset before) preskip m.granule (decoded m) m.last))
    (refused_from (before ++ (m ∷ [])) preskip ms)

-- that refusal, or the samples of the stream that these marks make, counted one by one
abbrev counts_by : Option Refusal → ℕ → List Mark → Outcome
counts_by none preskip ms = counts (kept_count preskip ms) (trimmed_count ms)
counts_by (some r) preskip ms = refused (number_of r)

unfoldable pub counts_of : ℕ → List Mark → Outcome
counts_of preskip ms = counts_by (refused_from [] preskip ms) preskip ms

abbrev pub found : Given → Outcome
found (packet b) = samples_told (read_packet b 1)
found (pages ms) = counts_of 312 ms

-- ---- the table

abbrev a_packet : Bytes → Outcome → Case
a_packet b o = record { given = packet b; outcome = o }

abbrev some-pages_lem : List Mark → Outcome → Case
some-pages_lem ps o = record { given = pages ps; outcome = o }

abbrev page : ℕ → ℕ → Bool → Mark
page g d last = record { granule = g; measures = record { samples = d; frames = 1 } ∷ []; last = last }

abbrev pub cases : List Case
cases =
    a_packet (0x00 ∷ []) (samples 480)
    ∷ a_packet [] (refused (number_of IllegalPacket))
    ∷ a_packet (0x01 ∷ 0xaa ∷ []) (refused (number_of IllegalPacket))
    ∷ a_packet (0x01 ∷ 0xaa ∷ 0xbb ∷ []) (samples 960)
    ∷ a_packet (0x02 ∷ 0x02 ∷ 0x11 ∷ 0x22 ∷ []) (samples 960)
    ∷ a_packet (0x02 ∷ 0x03 ∷ 0x11 ∷ 0x22 ∷ []) (refused (number_of IllegalPacket))
    ∷ a_packet (0x03 ∷ 0x00 ∷ []) (refused (number_of IllegalPacket))
    ∷ a_packet (0x83 ∷ 0x30 ∷ []) (samples 5760)
    ∷ a_packet (0x83 ∷ 0x31 ∷ []) (refused (number_of IllegalPacket))
    ∷ a_packet (0x83 ∷ 0x41 ∷ 0x01 ∷ 0x00 ∷ []) (samples 120)
    ∷ a_packet (0x83 ∷ 0x41 ∷ 0x02 ∷ 0x00 ∷ []) (refused (number_of IllegalPacket))
    ∷ a_packet (0x4f ∷ 0x70 ∷ []) (refused (number_of IllegalPacket))
    ∷ some-pages_lem (page 2879 2880 false ∷ []) (refused (number_of GranuleTooSmall))
    ∷ some-pages_lem (page 2879 2880 true ∷ []) (counts 2567 1)
    ∷ some-pages_lem (page 311 2880 true ∷ []) (refused (number_of BelowPreSkip))
    ∷ some-pages_lem (page 10000 2880 false ∷ page 10100 960 true ∷ []) (counts 2668 860)
    ∷ []

-- each case comes out as it should
abbrev pub CasesHold : Type 0
CasesHold = map (λ (c : Case). found c.given) cases ≡ map (λ (c : Case). c.outcome) cases
