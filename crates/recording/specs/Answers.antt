-- What the code of judging answers. Assumes nothing.
use Rattle.std.specs.Prelude.{Result, Ok, Err, ℕ, ◌+◌, ◌-◌, ◌≤◌, ◌<◌, ◌≡◌, false, ltb, length, drop}
use Rattle.std.proofs.Math.Option.{none}
use Rattle.octets.specs.Pick.{pick}
use Rattle.octets.specs.Octets.{Bytes}
use Rattle.refusal.specs.Numbers.{number_of}
use Rattle.stream.specs.Readings.{Readings}
use Rattle.stream.specs.State.{in_headers}
use Rattle.stream.specs.Feed.{Reader, view}
use Rattle.stream.specs.Lent.{Lent, is_short}
use Rattle.reader.specs.Answers.{known_as}
use Rattle.feed_partial.specs.Rest.{rest_refusal}
use Rattle.feed_pages.specs.declared.Stop.{Stop}
use Rattle.feed_pages.specs.declared.Stop.TheVariants.{Refused as Stopped, Cut, Full}
use Rattle.feed_pages.specs.declared.PagesFed.{PagesFed}
use Rattle.recording.specs.declared.Whole.{Whole}
use Rattle.recording.specs.declared.RefusedAt.{RefusedAt}
use Rattle.recording.specs.declared.Accepted.{Accepted}
use Rattle.std.specs.declared.ops.ControlFlow.{ControlFlow}
use Rattle.std.specs.declared.ops.ControlFlow.TheVariants.{Continue, Break}
use Rattle.recording.specs.Pages.{pages_of}
use Rattle.recording.specs.Judging.{Judgement, whole, refused, judged_by}
use Rattle.recording.specs.Code.{judge_from}

abbrev pub told_judged : Result Whole RefusedAt → Judgement
told_judged (Ok w) = whole w.pages w.packets
told_judged (Err r) = refused (number_of r.why) r.page

-- after the last whole page, where `rest` bytes are left
abbrev pub at_end : Reader → ℕ → ℕ → ℕ → Judgement
at_end r rest pages packets =
    pick (ltb 0 rest)
    (refused (number_of (rest_refusal r)) pages)
    (judged_by none (in_headers r.core.phase) pages packets)

-- the judgement of the buffer b after the pages a
abbrev pub judge_after : Readings → Bytes → Accepted → Bytes → Judgement
judge_after R b a carry =
    judge_from R (view (known_as a.reader).core carry) a.pages a.packets (pages_of (drop a.bytes b))

-- ---- one run of pages

-- what it leads to: more pages are accepted, or the judgement is made
pub data Next : Type 0 where
  goes : Accepted → Next
  ends : Judgement → Next

-- a run of pages leads to the judgement, or more pages are accepted
abbrev pub Step : Type 0
Step = ControlFlow (Result Whole RefusedAt) Accepted

abbrev pub next_as : Step → Next
next_as (Continue a) = goes a
next_as (Break j) = ends (told_judged j)

-- the pages a and those of the run f
abbrev pub with_run : Accepted → PagesFed → Accepted
with_run a f = record {
  reader = f.progress.reader;
  bytes = a.bytes + f.progress.bytes;
  pages = a.pages + f.progress.pages;
  packets = a.packets + f.progress.packets;
}

-- c is the pages accepted at the end of a run, in a buffer of n bytes, by why it stopped
abbrev pub next_by : Stop → Accepted → ℕ → Next
next_by (Stopped why) c n = ends (refused (number_of why) c.pages)
next_by Cut c n = ends (at_end (known_as c.reader) (n - c.bytes) c.pages c.packets)
next_by Full c n = goes c

unfoldable pub next_of : Accepted → ℕ → PagesFed → Next
next_of a n f = next_by f.stop (with_run a f) n

-- no sum passes the buffer's length n
pub record SumsFit (a : Accepted) (n : ℕ) (f : PagesFed) : Type 0 where
  pub bytes : a.bytes + f.progress.bytes ≤ n
  pub pages : a.pages + f.progress.pages ≤ n
  pub packets : a.packets + f.progress.packets ≤ n

-- ---- the runs one after the other

-- within the buffer, with no more pages or packets than bytes
pub record Within (b : Bytes) (a : Accepted) : Type 0 where
  pub bytes : a.bytes ≤ length b
  pub pages : a.pages ≤ a.bytes
  pub packets : a.packets ≤ a.bytes

pub record Ready (b : Bytes) (a : Accepted) (m : Lent) : Type 0 where
  pub within : Within b a
  pub room : is_short m ≡ false

abbrev pub judge_next : Readings → Bytes → Next → Bytes → Judgement
judge_next R b (goes a) carry = judge_after R b a carry
judge_next R b (ends j) carry = j

abbrev pub Onward : Bytes → Accepted → Next → Type 0
Onward b a (goes c) = (a.bytes < c.bytes) × Within b c
Onward b a (ends j) = Unit {0}

-- a step r from the pages a, the carry buffer from `old` to `new`
pub record StepIs (R : Readings) (b : Bytes) (a : Accepted) (old new : Bytes) (r : Step) : Type 0 where
  pub same : judge_next R b (next_as r) new ≡ judge_after R b a old
  pub onward : Onward b a (next_as r)
