-- What is saved is a whole stream. Assumes nothing.
use Prim.Native.Nat.{ℕ}
use mathlib.Core.Path.{◌≡◌, refl, sym, ap, ◌∙◌}
use mathlib.Core.Bool.{Bool, true, false}
use mathlib.Core.List.{List}
use mathlib.Core.Option.{none}
use native.Mathlib.Omega.{arith}
use lib.ListN.{length}
use Rattle.octets.specs.Pick.{pick}
use Rattle.octets.specs.Octets.{Bytes}
use Rattle.refusal.specs.declared.Refusal.TheVariants.{HeadersIncomplete}
use Rattle.refusal.specs.Numbers.{number_of}
use Rattle.stream.specs.Readings.{readings}
use Rattle.stream.specs.State.{in_headers}
use Rattle.stream.specs.Stream.{listings, phase_of}
use Rattle.feed_pages.specs.Feedings.{together}
use Rattle.recording.specs.Pages.{pages_of}
use Rattle.recording.specs.Judging.{whole, first_refused, fresh, packets_in, judge_pages, judge_buffer}
use Rattle.recording.proofs.Cutting.{pages-apart}
use Rattle.recording.proofs.Passing.{accepted-pages}
use Rattle.salvage_rules.specs.Good.{Good, good_pages, serial_in, of_stream}
use Rattle.salvage_rules.specs.Tidy.{tidy}
use Rattle.salvage_rules.specs.Lines.{Line, lines_from}
use Rattle.salvage_rules.specs.Rounds.{pages_out, refused_in, kept_in, refused, saved, salvage}
use Rattle.salvage_rules.specs.Statements.{SavedWhole}
use Rattle.salvage_rules.proofs.Settling.{settled-accepted}

-- the pages of what is saved
pub record Out (crc : Bytes → ℕ) (b out : Bytes) : Type 0 where
  pub kept : List Good
  pub is : kept ≡ kept_in crc b
  pub bytes : together (pages_out kept) ≡ out
  pub headed : in_headers (phase_of (pages_out kept)) ≡ false

pub out_of : (crc : Bytes → ℕ) (b out : Bytes) (ls : List Line) → salvage crc b ≡ saved out ls → Out crc b out
unfolding salvage
out_of crc b out ls e = by (in_headers (phase_of (pages_out kept))) refl e
  where
    kept : List Good
    kept = kept_in crc b

    by : (t : Bool) → in_headers (phase_of (pages_out kept)) ≡ t
        → pick t (refused (number_of HeadersIncomplete)) (saved (together (pages_out kept)) (lines_from (length b) 0 (tidy kept))) ≡ saved out ls → Out crc b out
    by true h q = let z : ◌≡◌ {A = ℕ} 0 1 = cc in absurd (omega arith)
    by false h q = record { kept = kept; is = refl; bytes = cc; headed = h }

module _ (crc : Bytes → ℕ) (b out : Bytes) (o : Out crc b out) where
  accepted : first_refused (readings crc) fresh 0 (pages_out o.kept) ≡ none
  unfolding refused_in
  accepted = rw o.is (settled-accepted (readings crc) (of_stream (serial_in (good_pages crc b)) (good_pages crc b)))

  pages : pages_of out ≡ pages_out o.kept
  pages = ap pages_of (sym o.bytes) ∙ pages-apart (pages_out o.kept) (accepted-pages crc (pages_out o.kept) accepted)

  judged : judge_buffer (readings crc) out ≡ whole (length (pages_of out)) (packets_in (listings (readings crc) (pages_of out)))
  unfolding judge_pages
  judged = rw (pages, accepted, o.headed)

pub saved-whole : SavedWhole
saved-whole crc b out ls e = judged crc b out (out_of crc b out ls e)
