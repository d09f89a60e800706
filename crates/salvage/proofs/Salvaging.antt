-- Salvage by what was found and what was written. Assumes nothing.
use Rattle.std.proofs.Common.{◌≡◌, ℕ, min, Bool, true, false, List, [], length, sym, refl, ap, ◌∙◌, subst, arith}
use mathlib.Core.Option.{none, some}
use Rattle.octets.specs.Pick.{pick}
use Rattle.octets.specs.Octets.{Bytes}
use Rattle.refusal.specs.declared.Refusal.{Refusal}
use Rattle.refusal.specs.declared.Refusal.TheVariants.{ShortRoom, HeadersIncomplete}
use Rattle.refusal.specs.Checks.{first_of}
use Rattle.refusal.specs.Numbers.{number_of}
use Rattle.refusal.specs.Told.{Told, gives, refuses, decided}
use Rattle.page_crc.specs.Crc.{page_crc}
use Rattle.stream.specs.State.{in_headers}
use Rattle.stream.specs.Stream.{phase_of}
use Rattle.stream.specs.Lent.{Slice}
use Rattle.stream.proofs.Step.{gives≢refuses}
use Rattle.feed_pages.specs.Feedings.{together}
use Rattle.salvage_rules.specs.Tidy.{tidy}
use Rattle.salvage_rules.specs.Lines.{lines_from}
use Rattle.salvage_rules.specs.Rounds.{pages_out, refused, saved, kept_in, salvage}
use Rattle.salvage_rules.specs.Steps.{past_all}
use Rattle.salvage_kept.specs.Found.{is_short_work, find_kept}
use Rattle.salvage_list.specs.Collect.{stream_pages}
use Rattle.salvage.specs.Salvaging.{Amounts, fitted, salvage_told}
use Rattle.salvage.specs.Code.{end_after, Kept, all_bytes, all_lines}

-- a header is due after the kept pages
abbrev pub due : Bytes → Bool
due b = in_headers (phase_of (pages_out (kept_in page_crc b)))

abbrev by_checks : Bool → Bool → ℕ → Told ℕ
by_checks s d m = decided (pick s (some ShortRoom) (pick d (some HeadersIncomplete) none)) m

module _ (b : Bytes) (work out room : ℕ) where
  -- 1 or 24
  pub refused-told : (n : ℕ) → refuses n ≡ find_kept b work → salvage_told b work out room ≡ refuses n
  unfolding salvage_told salvage find_kept first_of
  refused-told n e = by (is_short_work (length b) work) (due b) e
    where
      by : (s d : Bool) → refuses n ≡ by_checks s d (length (stream_pages page_crc b))
          → pick s (refuses (number_of ShortRoom))
          (fitted (pick d (refused (number_of HeadersIncomplete)) (saved (together (pages_out (kept_in page_crc b))) (lines_from (length b) 0 (tidy (kept_in page_crc b))))) out room)
          ≡ refuses n
      by true d q = let z : number_of ShortRoom ≡ n = cc in ap refuses z
      by false true q = let z : number_of HeadersIncomplete ≡ n = cc in ap refuses z
      by false false q = absurd (gives≢refuses (sym q))

  -- neither
  pub found : (n : ℕ) → gives n ≡ find_kept b work → (is_short_work (length b) work ≡ false) × (due b ≡ false)
  unfolding find_kept first_of
  found n e = by (is_short_work (length b) work) (due b) refl refl e
    where
      by : (s d : Bool) → is_short_work (length b) work ≡ s → due b ≡ d → gives n ≡ by_checks s d (length (stream_pages page_crc b))
          → (is_short_work (length b) work ≡ false) × (due b ≡ false)
      by true d p r q = absurd (gives≢refuses q)
      by false true p r q = absurd (gives≢refuses q)
      by false false p r q = (p, r)

-- what is saved
pub saved-is : (b : Bytes) (ws : List ℕ) → Kept b ws → due b ≡ false → salvage page_crc b ≡ saved (all_bytes b ws) (all_lines b ws)
unfolding salvage pages_out past_all end_after
saved-is b ws kept e = rw (e, kept)

pub saved-told : (b : Bytes) (ws : List ℕ) (work out room : ℕ) → Kept b ws → is_short_work (length b) work ≡ false → due b ≡ false
    → salvage_told b work out room ≡ fitted (saved (all_bytes b ws) (all_lines b ws)) out room
unfolding salvage_told
saved-told b ws work out room kept s e = rw (s, saved-is b ws kept e)
