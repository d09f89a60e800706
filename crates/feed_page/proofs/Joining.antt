-- Feeding a header page or an audio page is what is left of feeding after 1 to 8. Assumes nothing.
use Rattle.std.specs.Prelude.{Option as CodeOption, Result}
use Rattle.refusal.specs.declared.Refusal.{Refusal}
use Rattle.stream.specs.declared.PageFed.{PageFed}
use Prim.Native.Nat.{◌≤◌}
use mathlib.Core.Path.{◌≡◌, refl, sym, ap, subst, ◌∙◌}
use mathlib.Core.Bool.{Bool, true, false, false≢true}
use mathlib.Core.Option.{Option, some}
use borrow.Author.Tests.{le-leb, le-ltb, eq-eqb}
use lib.ListN.{length}
use Rattle.octets.specs.Octets.{Bytes, total}
use Rattle.refusal.specs.Checks.{first_of}
use Rattle.refusal.specs.Told.{Told}
use Rattle.page_layout.specs.declared.PageHeader.{PageHeader}
use Rattle.page_layout.specs.Page.{lacing_of, body_of}
use Rattle.page_lacing.specs.Lacing.{is_body}
use Rattle.page_size.proofs.Whole.{body-length}
use Rattle.stream.specs.declared.Phase.{Phase}
use Rattle.stream.specs.declared.Phase.TheVariants.{First, Comment, Audio, Opened, Ended}
use Rattle.stream.specs.declared.Pending.{Pending}
use Rattle.stream.specs.declared.Pending.TheVariants.{Nothing, Held, Dropped}
use Rattle.stream.specs.declared.Core.{Core}
use Rattle.stream.specs.declared.Tally.{Tally}
use Rattle.stream.specs.Page.{Page, page_with}
use Rattle.stream.specs.Readings.{Readings}
use Rattle.stream.specs.State.{State, is_audio}
use Rattle.stream.specs.Packets.{Seen, seen, audio_packets}
use Rattle.limits.specs.Limits.{packet_max}
use Rattle.stream.specs.Lent.{Lent, is_short}
use Rattle.stream.specs.Rules.{packet_checks, time_checks}
use Rattle.stream.specs.Feed.{reader_of, view, Taken, Fed, FedIs, FedWhen, Feeds, fed_by}
use Rattle.stream.proofs.Step.{enough}
use Rattle.feed_audio.specs.Audio.{audio_checks, audio_fed, audio_on, is_audio_page, told_audio, FeedsAudio}
use Rattle.feed_header.specs.Header.{checks9to14, header_fed, header_on, is_header, is_header_page, told_header, FeedsHeader}
use Rattle.feed_page.specs.Stages.{checks9to19, fed_from9, Awaits}

-- 12 to 14 refuse headers alone, and 15 to 19 audio pages alone

audio_checks_lem : (R : Readings) (ph : Phase) (t : State) (p : Page) (x : Seen) → is_audio ph ≡ true → t.phase ≡ ph → first_of (audio_checks R t p x) ≡ first_of (checks9to19 R t p x)
unfolding first_of
audio_checks_lem R First t p x k e = absurd (false≢true k)
audio_checks_lem R Comment t p x k e = absurd (false≢true k)
audio_checks_lem R Audio t p x k e = rw e
audio_checks_lem R Opened t p x k e = absurd (false≢true k)
audio_checks_lem R Ended t p x k e = absurd (false≢true k)

header_checks_lem : (R : Readings) (ph : Phase) (pending : Pending) (t : State) (p : Page) (x : Seen) → is_header ph pending ≡ true → t.phase ≡ ph
    → first_of (checks9to14 R t p x) ≡ first_of (checks9to19 R t p x)
unfolding first_of audio_packets packet_checks time_checks
header_checks_lem R First Nothing t p x k e = rw e
header_checks_lem R First (Held n) t p x k e = absurd (false≢true k)
header_checks_lem R First Dropped t p x k e = absurd (false≢true k)
header_checks_lem R Comment pending t p x k e = rw e
header_checks_lem R Audio pending t p x k e = absurd (false≢true k)
header_checks_lem R Opened pending t p x k e = absurd (false≢true k)
header_checks_lem R Ended pending t p x k e = absurd (false≢true k)

module _ (R : Readings) (core : Core) (tally : Tally) (m : Lent) (h : PageHeader) (l body : Bytes) (room : is_short m ≡ false) (sums : total l ≡ length body) (few : length l ≤ 255) where
  abbrev t : State
  t = view core m.carry

  abbrev p : Page
  p = page_with h l body

  audio-due : is_audio core.phase ≡ true → is_audio_page core.phase p m ≡ true
  unfolding is_audio_page is_body
  audio-due k = rw (k, room, le-leb (length l) 255 few, eq-eqb (total l) (length body) sums)

  audio_late : is_audio core.phase ≡ true → audio_on R (reader_of core tally) m p ≡ fed_from9 R (reader_of core tally) m p
  unfolding audio_fed fed_from9
  audio_late k =
      ap (λ (v : Option Refusal). fed_by v R (reader_of core tally) m t p (seen t p)) (audio_checks_lem R core.phase t p (seen t p) k refl)

  header-due : is_header core.phase core.pending ≡ true → is_header_page core.phase core.pending l body (length m.carry) ≡ true
  unfolding is_header_page is_body
  header-due k =
      rw (k, le-ltb (length m.carry) packet_max (enough m room), le-leb (length l) 255 few, eq-eqb (total l) (length body) sums)

  header_late : is_header core.phase core.pending ≡ true → header_on R (reader_of core tally) m p ≡ fed_from9 R (reader_of core tally) m p
  unfolding header_fed fed_from9
  header_late k =
      ap (λ (v : Option Refusal). fed_by v R (reader_of core tally) m t p (seen t p))
      (header_checks_lem R core.phase core.pending t p (seen t p) k refl)

-- a call that was due tells what is told of the page
when_due : {due : Bool} {f : Fed} {t : Option (Told Taken)} {m after : Lent} → FedWhen due f t m after → due ≡ true
    → (x : Told Taken) → ((y : Told Taken) → t ≡ some y → x ≡ y) → FedIs f x after
when_due {due} {f} {t} {m} {after} w e x same =
    let is : FedWhen true f t m after = rw e at w in
    record { told = same f.told is.told; lent = is.lent }

-- the page b, its lacing values l and its body, and the core that expects it
module _ {R : Readings} {core due : Core} {h : PageHeader} {tally : Tally} {m : Lent} {b : Bytes} (w : Awaits R core due h tally m b) (room : is_short m ≡ false)
    {l body : Bytes} (lacing : l ≡ lacing_of b) (rest : body ≡ body_of b) (few : length l ≤ 255) where
  sums : total l ≡ length body
  sums = ap total lacing ∙ sym (body-length b w.one) ∙ ap length (sym rest)

  by_late : {f : Fed} {x : Told Taken} {after : Lent} → f ≡ fed_from9 R (reader_of due tally) m (page_with h l body) → FedIs f x after
      → Feeds R (reader_of core tally) b m x after
  by_late {f} {x} {after} e is = w.fed (rw (← lacing, ← rest) (subst (λ (g : Fed). FedIs g x after) e is))

  pub by-audio : (a : CodeOption (Result PageFed Refusal)) (x : Told Taken) {after : Lent} → is_audio due.phase ≡ true
      → ((t : Told Taken) → told_audio a ≡ some t → x ≡ t) → FeedsAudio R (reader_of due tally) (page_with h l body) m a after
      → Feeds R (reader_of core tally) b m x after
  by-audio a x k same is =
      by_late (audio_late R due tally m h l body room sums few k)
      (when_due is (audio-due R due tally m h l body room sums few k) x same)

  pub by-header : (a : CodeOption (Result PageFed Refusal)) (x : Told Taken) {after : Lent} → is_audio due.phase ≡ false
      → ((t : Told Taken) → told_header a ≡ some t → x ≡ t) → FeedsHeader R (reader_of due tally) (page_with h l body) m a after
      → Feeds R (reader_of core tally) b m x after
  by-header a x k same is =
      by_late (header_late R due tally m h l body room sums few (w.ready k))
      (when_due is (header-due R due tally m h l body room sums few (w.ready k)) x same)
