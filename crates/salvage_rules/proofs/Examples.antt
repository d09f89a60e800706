-- The worked examples, computed; checksums are not. Assumes nothing.
use mathlib.Core.Path.{refl}
use Rattle.octets.specs.Octets.{total, copied}
use Rattle.octets.specs.Numbers.{value, octets, number}
use Rattle.refusal.specs.Checks.{first_of}
use Rattle.page_layout.specs.Page.{header_of, lacing_of, body_of}
use Rattle.page_lacing.specs.Lacing.{ended_from, unfinished_from, cut_from}
use Rattle.page_writer.specs.Writing.{with_checksum, start_of, page_bytes}
use Rattle.granule.specs.Judging.{granule_wrong, from}
use Rattle.stream.specs.Shape.{shape_from, shape_of}
use Rattle.stream.specs.Page.{page_of, continued, last, ends, whole, rest}
use Rattle.stream.specs.State.{expecting}
use Rattle.stream.specs.Packets.{join, seen, any_long, long_from, after_first, audio_packets, measures_of, samples_of}
use Rattle.stream.specs.Rules.{wrong_flags, packet_checks, time_checks, checks_on, next_on, verdict, after}
use Rattle.recording.specs.Judging.{first_refused}
use Rattle.salvage_rules.specs.Tidy.{follows, open_after, goes_on, goes_through, cut_after, leading_cut, trailing_cut, up_to_last, tidy_page, tidy_from}
use Rattle.salvage_rules.specs.Lines.{skipped, changes, lines_from}
use Rattle.salvage_rules.specs.Rounds.{pages_out, refused_in, rounds, settled}
use Rattle.salvage_rules.specs.Examples.{laid, list_of, place_of, last_end, found, wanted, Examples}

pub examples : Examples
unfolding granule_wrong shape_from shape_of from total copied value octets number first_of header_of lacing_of body_of ended_from unfinished_from cut_from with_checksum start_of page_bytes page_of continued last ends whole rest expecting join seen any_long long_from after_first audio_packets measures_of samples_of wrong_flags packet_checks time_checks checks_on next_on verdict after first_refused follows open_after goes_on goes_through cut_after leading_cut trailing_cut up_to_last tidy_page tidy_from skipped changes lines_from pages_out refused_in rounds settled laid list_of place_of last_end found wanted
examples = refl
