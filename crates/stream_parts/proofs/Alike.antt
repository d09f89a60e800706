-- Readers that agree are told alike from there on. Assumes nothing.
use Rattle.std.proofs.Common.{◌≡◌, ℕ, ◌+◌, ◌-◌, ◌%◌, ◌^◌, ◌<◌, List, [], ◌∷◌, map, sym, refl, ap, ◌∙◌, subst, ap₂, arith}
use mathlib.Core.Option.{Option, none, some}
use Rattle.octets.specs.Octets.{Bytes}
use Rattle.refusal.specs.Told.{Told, gives, refuses, retold}
use Rattle.stream.specs.declared.Tally.{Tally}
use Rattle.stream.specs.declared.Counts.{Counts}
use Rattle.stream.specs.declared.Core.{Core}
use Rattle.stream.specs.declared.Pending.{Pending}
use Rattle.stream.specs.declared.Pending.TheVariants.{Nothing, Held, Dropped}
use Rattle.stream.specs.Readings.{Readings}
use Rattle.stream.specs.State.{Carried, State}
use Rattle.stream.specs.Rules.{after}
use Rattle.stream.specs.Feed.{Reader, carried_in, pending_of, core_of, view, added, tally_after, Entry, Taken, Fed}
use Rattle.stream.specs.Stream.{Listing}
use Rattle.stream.specs.Feedings.{Feeding, feed_in, reader_after, finally, carry_left, HandedOn, Shown, show_as, stream, bytes_of}
use Rattle.stream.specs.Statements.{sum_of}
use Rattle.stream.specs.SameAnswers.{Timing, timing, CoresAgree, Twice, ones, others, timings, TimedAll, feeding}
use Rattle.stream.proofs.Step.{take-held, held-take}
use Rattle.stream.proofs.Runs.{Lists, skip_in, skip_all, listing_on, Ran, runs}
use Rattle.stream.proofs.SameAnswers.{same-timings}
use Rattle.stream.proofs.TotalsAny.{total-sum}
use Rattle.feed_pages.specs.Feedings.{refusal_in, numbers_of as refusalsOf}
use Rattle.stream_parts.specs.Agree.{Agree}
use Rattle.stream_parts.specs.Totals.{whole_total, whole_tally, TotalsFit}
use Rattle.stream_parts.specs.Statements.{ToldAlike, AgreeingTold}

-- ---- what is told without kept counts tells which feedings are refused, and by which numbers

abbrev number_in : Told Timing → Option ℕ
number_in (gives t) = none
number_in (refuses n) = some n

number-told : (f : Fed) → refusal_in f.told ≡ number_in (timing f)
number-told f = by f.told (λ (t : Taken). record {
  stamps = map (λ (e : Entry). record { end = e.end; samples = e.samples; frames = e.frames }) f.entries;
  packets = t.counts.packets;
  samples = t.counts.samples;
  trimmed = t.counts.trimmed;
  hole = t.counts.hole;
})
  where
    by : (t : Told Taken) (g : Taken → Timing) → refusal_in t ≡ number_in (retold g t)
    by (gives t) g = refl
    by (refuses n) g = refl

-- the pages that are shown of a feeding of the bytes b
shown-bytes : (t u : Told Taken) (es fs : List Entry) (b : Bytes) (S T : List Shown) → refusal_in t ≡ refusal_in u → bytes_of S ≡ bytes_of T
    → bytes_of (show_as t es b S) ≡ bytes_of (show_as u fs b T)
shown-bytes (gives t) (gives u) es fs b S T e q = ap (λ (l : List Bytes). b ∷ l) q
shown-bytes (gives t) (refuses n) es fs b S T e q = let z : ◌≡◌ {A = ℕ} 0 1 = cc in absurd (omega arith)
shown-bytes (refuses n) (gives u) es fs b S T e q = let z : ◌≡◌ {A = ℕ} 0 1 = cc in absurd (omega arith)
shown-bytes (refuses n) (refuses k) es fs b S T e q = q

record Refused (R : Readings) (r o : Reader) (F G : List Feeding) : Type 0 where
  refusals : refusalsOf R o G ≡ refusalsOf R r F
  bytes : bytes_of (stream R o G) ≡ bytes_of (stream R r F)

refused-alike : (R : Readings) (r o : Reader) (ts : List Twice) → timings R o (others ts) ≡ timings R r (ones ts)
    → Refused R r o (ones ts) (others ts)
unfolding timings refusalsOf stream
refused-alike R r o [] e = record { refusals = refl; bytes = refl }
refused-alike R r o (t ∷ ts) e =
    let f : Feeding = feeding t.bytes t.one in
    let g : Feeding = feeding t.bytes t.other in
    let first : timing (feed_in R o g) ≡ timing (feed_in R r f) = cc in
    let rest : timings R (reader_after R o g) (others ts) ≡ timings R (reader_after R r f) (ones ts) = cc in
    let number : refusal_in (feed_in R o g).told ≡ refusal_in (feed_in R r f).told =
    number-told (feed_in R o g) ∙ ap number_in first ∙ sym (number-told (feed_in R r f)) in
    let later : Refused R (reader_after R r f) (reader_after R o g) (ones ts) (others ts) =
    refused-alike R (reader_after R r f) (reader_after R o g) ts rest in
    record {
      refusals = ap₂ (λ (a : Option ℕ) (l : List (Option ℕ)). a ∷ l) number later.refusals;
      bytes = shown-bytes (feed_in R o g).told (feed_in R r f).told _ _ t.bytes _ _ number later.bytes;
    }

-- ---- the pages accepted, the state before them and the samples still to skip determine what is told of them

lists-same : (R : Readings) (s : State) (skip : ℕ) (S T : List Shown) → Lists R s skip S → Lists R s skip T → bytes_of S ≡ bytes_of T → S ≡ T
lists-same R s skip [] [] f g e = refl
lists-same R s skip [] (y ∷ T) f g e = let z : ◌≡◌ {A = ℕ} 0 1 = cc in absurd (omega arith)
lists-same R s skip (x ∷ S) [] f g e = let z : ◌≡◌ {A = ℕ} 0 1 = cc in absurd (omega arith)
lists-same R s skip (x ∷ S) (y ∷ T) f g e =
    let first : x.bytes ≡ y.bytes = cc in
    let rest : bytes_of S ≡ bytes_of T = cc in
    let listing : x.listing ≡ y.listing = f.1 ∙ ap (listing_on R skip s) first ∙ sym g.1 in
    let later : Lists R (after R s x.bytes) (skip_in R skip s x.bytes) T =
    subst (λ (b : Bytes). Lists R (after R s b) (skip_in R skip s b) T) (sym first) g.2 in
    ap₂ (λ (z : Shown) (l : List Shown). z ∷ l)
    (ap₂ (λ (b : Bytes) (l : Listing). record { bytes = b; listing = l }) first listing)
    (lists-same R (after R s x.bytes) (skip_in R skip s x.bytes) S T f.2 later rest)

-- ---- equal cores and held bytes are equal views

seeing : Core → Carried → State
seeing k x = record { phase = k.phase; carried = x; position = k.position; serial = k.serial; next = k.next; streams = k.streams; preskip = k.preskip }

same_view : (r o : Reader) (c d : Bytes) → CoresAgree r o c d → view o.core d ≡ view r.core c
unfolding seeing
same_view r o c d e = ap (λ (k : Core). view k d) e.core ∙ ap (seeing r.core) (take-held r.core.pending d c e.held)

pending-back : (k : Pending) (c : Bytes) → pending_of (carried_in k c) ≡ k
pending-back Nothing c = refl
pending-back (Held n) c = refl
pending-back Dropped c = refl

core-back : (k : Core) (c : Bytes) → core_of (view k c) ≡ k
core-back k c = ap (λ (q : Pending). record {
  phase = k.phase;
  pending = q;
  position = k.position;
  serial = k.serial;
  next = k.next;
  streams = k.streams;
  preskip = k.preskip;
}) (pending-back k.pending c)

pub view-same : (r s : Reader) (c d : Bytes) → view s.core d ≡ view r.core c → CoresAgree r s c d
view-same r s c d e =
    let k : s.core ≡ r.core = sym (core-back s.core d) ∙ ap core_of e ∙ core-back r.core c in
    record {
      core = k;
      held = held-take r.core.pending d c (ap (λ (q : Core). carried_in q.pending d) (sym k) ∙ ap (λ (t : State). t.carried) e);
    }

-- ---- totals grow alike

grown : (a b x u v : ℕ) → a < 2 ^ 64 → b < 2 ^ 64 → u ≡ (a + x) % 2 ^ 64 → v ≡ (b + x) % 2 ^ 64 → u ≡ (a + (v + (2 ^ 64 - b)) % 2 ^ 64) % 2 ^ 64
grown a b x u v l m p q = omega arith

same-tally : (t u : Tally) → t.skip ≡ u.skip → t.kept ≡ u.kept → t.skipped ≡ u.skipped → t.trimmed ≡ u.trimmed → t.hole ≡ u.hole → t ≡ u
same-tally t u a b c d e =
    ap₂ (λ (x y : ℕ). record { skip = x; kept = y; skipped = t.skipped; trimmed = t.trimmed; hole = t.hole }) a b
    ∙ ap₂ (λ (x y : ℕ). record { skip = u.skip; kept = u.kept; skipped = x; trimmed = y; hole = t.hole }) c d
    ∙ ap (λ (x : ℕ). record { skip = u.skip; kept = u.kept; skipped = u.skipped; trimmed = u.trimmed; hole = x }) e

module _ (R : Readings) (r o : Reader) (F G : List Feeding) (pages : stream R o G ≡ stream R r F) where
  total-follows : (a : Tally → ℕ) (c : Counts → ℕ) → ((t : Tally) (skip : ℕ) (n : Counts) → a (tally_after t skip n) ≡ added (a t) (c n))
      → a r.tally < 2 ^ 64 → a o.tally < 2 ^ 64
      → a (finally R r F).tally ≡ whole_total (a r.tally) (a o.tally) (a (finally R o G).tally)
  total-follows a c adds l m =
      grown (a r.tally) (a o.tally) (sum_of c (stream R r F)) (a (finally R r F).tally) (a (finally R o G).tally) l m
      (total-sum R a c adds F r l) (total-sum R a c adds G o m ∙ ap (λ (S : List Shown). (a o.tally + sum_of c S) % 2 ^ 64) pages)

  tally-follows : (finally R o G).tally.skip ≡ (finally R r F).tally.skip → TotalsFit r.tally → TotalsFit o.tally
      → (finally R r F).tally ≡ whole_tally r.tally o.tally (finally R o G).tally
  tally-follows skip l m =
      let kept = total-follows (λ (t : Tally). t.kept) (λ (n : Counts). n.kept) (λ t k n. refl) l.kept m.kept in
      let skipped = total-follows (λ (t : Tally). t.skipped) (λ (n : Counts). n.skipped) (λ t k n. refl) l.skipped m.skipped in
      let trimmed = total-follows (λ (t : Tally). t.trimmed) (λ (n : Counts). n.trimmed) (λ t k n. refl) l.trimmed m.trimmed in
      let hole = total-follows (λ (t : Tally). t.hole) (λ (n : Counts). n.hole) (λ t k n. refl) l.hole m.hole in
      same-tally (finally R r F).tally (whole_tally r.tally o.tally (finally R o G).tally) (sym skip) kept skipped trimmed hole

pub agreeing-told : AgreeingTold
agreeing-told R r o c d ts h j rooms agree l m =
    let F : List Feeding = ones ts in
    let G : List Feeding = others ts in
    let timed : TimedAll R r o c d F G = same-timings R r o c d ts h j rooms agree.cores in
    let refused : Refused R r o F G = refused-alike R r o ts timed.told in
    let x : Ran R (view r.core c) r.tally.skip (stream R r F) (finally R r F) (carry_left R r c F) = runs R F r c h in
    let y : Ran R (view o.core d) o.tally.skip (stream R o G) (finally R o G) (carry_left R o d G) = runs R G o d j in
    let v : view o.core d ≡ view r.core c = same_view r o c d agree.cores in
    let lists : Lists R (view r.core c) r.tally.skip (stream R o G) =
    subst (λ (s : State). Lists R s r.tally.skip (stream R o G)) v
    (subst (λ (n : ℕ). Lists R (view o.core d) n (stream R o G)) agree.skip y.lists) in
    let pages : stream R o G ≡ stream R r F = lists-same R (view r.core c) r.tally.skip (stream R o G) (stream R r F) lists x.lists refused.bytes in
    let skip : (finally R o G).tally.skip ≡ (finally R r F).tally.skip =
    y.skips ∙ ap₂ (λ (s : State) (n : ℕ). skip_all R s n (bytes_of (stream R o G))) v agree.skip
    ∙ ap (skip_all R (view r.core c) r.tally.skip) refused.bytes ∙ sym x.skips in
    record {
      refusals = refused.refusals;
      pages = pages;
      agree = record { cores = timed.equal; skip = skip };
      totals = tally-follows R r o F G pages skip l m;
    }
