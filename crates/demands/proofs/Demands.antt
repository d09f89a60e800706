-- The demands hold: the theorems of the crates, with the real readings. Assumes nothing.
use Rattle.page_crc.specs.Crc.{page_crc}
use Rattle.page_writer.proofs.RoundTrip as pageWriter
use Rattle.head_writer.proofs.RoundTrip as headWriter
use Rattle.tags_writer.proofs.RoundTrip as tagsWriter
use Rattle.tags_writer.proofs.Again as tags_again
use Rattle.packet_reader.proofs.Legal.{legal-lengths}
use Rattle.stream.proofs.Step.{refusal-keeps}
use Rattle.stream.proofs.Lists.{accepted-shows}
use Rattle.stream.proofs.CarryBuffer.{carry_exact, number-told}
use Rattle.stream.proofs.Unskipped.{opened_unskipped}
use Rattle.stream.proofs.Real.{readings-agree, opens-stream}
use Rattle.stream.proofs.Theorem1.{stream-state}
use Rattle.stream.proofs.Theorem3.{continued-says, demand_3}
use Rattle.stream.proofs.Theorem4.{stream-counts}
use Rattle.stream.proofs.Totals.{stream-totals}
use Rattle.stream.proofs.OpenedTotals.{opened_stream_totals}
use Rattle.demands.specs.Demands.{R, Demand1, Demand2, Demand3, Demands}
use Rattle.demands.proofs.Cases.{cases_hold}

pub demand_one : Demand1
demand_one = record { number = number-told R; carry = carry_exact R; refused = refusal-keeps R; accepted = accepted-shows R }

pub demand_two : Demand2
demand_two = record {
  pages = pageWriter.reads-back;
  pages_again = pageWriter.writes_back;
  heads = headWriter.reads-back;
  heads_again = headWriter.writes_back;
  tags = tagsWriter.reads-back;
  tags_again = tags_again.writes_back;
  packets = legal-lengths;
  reading = readings-agree page_crc;
  cases = cases_hold;
}

pub demand_three : Demand3
demand_three = record {
  full = stream-state R;
  opens = opens-stream page_crc;
  second = demand_3 R;
  began = continued-says R;
  opened = opened_unskipped R;
  counts = stream-counts R;
  totals = stream-totals page_crc;
  opened_totals = opened_stream_totals page_crc;
}

pub demands : Demands
demands = record { one = demand_one; two = demand_two; three = demand_three }
