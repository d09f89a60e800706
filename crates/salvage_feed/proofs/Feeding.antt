-- Feeding a tidied page by its parts is one step of the state. Assumes nothing.
use Rattle.std.specs.Prelude.{Result, Ok, Err}
use Prim.Native.Nat.{ℕ}
use mathlib.Core.Path.{◌≡◌, refl, sym, ap, ◌∙◌}
use mathlib.Core.Bool.{true, false}
use mathlib.Core.Option.{Option, none, some}
use Rattle.octets.specs.Octets.{Bytes, Octets}
use Rattle.refusal.specs.declared.Refusal.{Refusal}
use Rattle.refusal.specs.Told.{gives}
use Rattle.page_crc.specs.Crc.{page_crc}
use Rattle.page_layout.specs.declared.PageHeader.{PageHeader}
use Rattle.page_layout.specs.Page.{header_of}
use Rattle.page_reader.specs.Reading.{read_page}
use Rattle.stream.specs.declared.Core.{Core}
use Rattle.stream.specs.declared.Tally.{Tally}
use Rattle.stream.specs.declared.Counts.{Counts}
use Rattle.stream.specs.declared.PageFed.{PageFed}
use Rattle.stream.specs.Page.{page_of}
use Rattle.stream.specs.Readings.{Readings, readings}
use Rattle.stream.specs.State.{State}
use Rattle.stream.specs.Rules.{verdict}
use Rattle.stream.specs.Lent.{Lent, is_short}
use Rattle.stream.specs.Feed.{reader_of, view, told_page, feed, Feeds}
use Rattle.stream.proofs.Step.{Stepped, stepped, gives≢refuses}
use Rattle.feed_page.specs.Stages.{PartsOf}
use Rattle.salvage_search.specs.Search.{is_good}
use Rattle.salvage_rules.specs.declared.Form.{Form}
use Rattle.salvage_rules.specs.Tidy.{renewed}
use Rattle.salvage_rules.specs.Links.{kept_of}
use Rattle.salvage_rules.proofs.Found.{read_one}
use Rattle.salvage_rules.proofs.Parts.{kept-few, tidied-reads}
use Rattle.salvage_feed.specs.Feeding.{tidied_bytes, Accepts, Refuses}

-- ---- the parts of a tidied page

pub parts_of : (p : Bytes) (f : Form) (n : ℕ) → Octets p → is_good (read_page page_crc p) ≡ true
    → (h : PageHeader) (l body : Bytes) → h ≡ renewed f.lead n (header_of p) → l ≡ (kept_of f (page_of p)).lacing → body ≡ (kept_of f (page_of p)).body
    → PartsOf page_crc (tidied_bytes f n p) h l body
parts_of p f n o good h l body eh el eb =
    let one = read_one page_crc p good in
    let r = tidied-reads p o one f n in
    record {
      reads = r.header ∙ ap gives (sym eh);
      lacing = el ∙ sym r.lacing;
      body = eb ∙ sym r.body;
      few = rw el (kept-few p o one f);
    }

-- ---- one step

module _ (core : Core) (tally : Tally) (m left : Lent) (b : Bytes) (room : is_short m ≡ false) where
  abbrev R : Readings
  R = readings page_crc

  abbrev s : State
  s = view core m.carry

  -- the step is that of the verdict
  one_step : Stepped R (reader_of core tally) s b (verdict R s b) (feed R (reader_of core tally) m b)
  one_step = stepped R (reader_of core tally) m b room

  -- by what the code's answer r is
  pub accepts : {r : Result PageFed Refusal} {next : Core} {t : Tally} {k : Counts} → r ≡ (Ok (record { core = next; tally = t; counts = k })) → Feeds R (reader_of core tally) b m (told_page r) left
      → Accepts core b m.carry next left.carry
  accepts {r} {next} {t} {k} q is = by (verdict R s b) refl one_step
    where
      told : (feed R (reader_of core tally) m b).told ≡ told_page (Ok (record { core = next; tally = t; counts = k }))
      told = sym is.told ∙ ap told_page q

      by : (v : Option Refusal) → verdict R s b ≡ v → Stepped R (reader_of core tally) s b v (feed R (reader_of core tally) m b) → Accepts core b m.carry next left.carry
      by none e x = record { accepted = e; state = rw is.lent (rw told at x.view) }
      by (some n) e x = absurd (gives≢refuses (rw told at x.told))

  pub refused : {r : Result PageFed Refusal} {why : Refusal} → r ≡ Err why → Feeds R (reader_of core tally) b m (told_page r) left
      → Refuses core b m.carry left.carry
  refused {r} {why} q is = by (verdict R s b) refl one_step
    where
      told : (feed R (reader_of core tally) m b).told ≡ told_page (Err why)
      told = sym is.told ∙ ap told_page q

      by : (v : Option Refusal) → verdict R s b ≡ v → Stepped R (reader_of core tally) s b v (feed R (reader_of core tally) m b) → Refuses core b m.carry left.carry
      by none e x = absurd (gives≢refuses (sym (rw told at x.told)))
      by (some n) e x = record { why = n; refused = e; state = rw is.lent (rw told at x.view) }
