-- Of what was left before the first feeding the held bytes alone count; a run from a reader just started. Assumes nothing.
use mathlib.Core.Path.{◌≡◌, refl, sym, ap, subst, ◌∙◌}
use mathlib.Core.Bool.{Bool, true, false}
use mathlib.Core.List.{List, [], ◌∷◌}
use lib.ListN.{take}
use Rattle.octets.specs.Pick.{pick}
use Rattle.stream.specs.Feed.{Reader, start, Fed}
use Rattle.stream.specs.Lent.{is_short}
use Rattle.stream.specs.Feedings.{Feeding, feed_in, reader_by, reader_after, finally, held_of, left_in, carry_left, HandedOn, stream}
use Rattle.stream.specs.Statements.{Determined}
use Rattle.stream.proofs.Step.{feeds-short, take-held}
use Rattle.stream.proofs.Theorem1.{stream-state}
use Rattle.feed_pages.specs.Run.{Ended, feed_pages}
use Rattle.feed_pages.specs.Feedings.{run_feedings}
use Rattle.feed_pages.specs.Statements.{HeldCounts, StartedRun}
use Rattle.feed_pages.proofs.Feedings.{run_feeds}

pub held-counts : HeldCounts
unfolding HandedOn finally carry_left
held-counts R [] r old new h e = record { handed = tt; carry = sym e }
held-counts R (f ∷ fs) r old new h e =
    let later = held-counts R fs (reader_after R r f) (left_in R r f old) (left_in R r f new) h.1 (agree (is_short f.lent) refl) in
    record { handed = (λ room. h.0 room ∙ e, later.handed); carry = later.carry }
  where
    agree : (t : Bool) → is_short f.lent ≡ t
        → take (held_of (reader_after R r f).core.pending) (pick t old (feed_in R r f).lent.carry)
        ≡ take (held_of (reader_after R r f).core.pending) (pick t new (feed_in R r f).lent.carry)
    agree true q =
        let stays : reader_after R r f ≡ r = ap (λ (g : Fed). reader_by g.told r) (feeds-short R r f.lent f.bytes q) in
        rw stays e
    agree false q = refl

pub started_run : StartedRun
started_run R m b o =
    let F : List Feeding = run_feedings R start m b in
    let z : Ended = feed_pages R start m b in
    let k = run_feeds R start m b o in
    let alike = held-counts R F start m.carry [] k.handed refl in
    let d : Determined R (stream R start F) z.reached.reader (carry_left R start [] F) =
    subst (λ (r : Reader). Determined R (stream R start F) r (carry_left R start [] F)) k.reader (stream-state R F alike.handed) in
    let same : take (held_of z.reached.reader.core.pending) (carry_left R start [] F) ≡ take (held_of z.reached.reader.core.pending) z.lent.carry =
    rw (k.reader, k.carry) at alike.carry in
    record {
      handed = alike.handed;
      state = record {
        phase = d.phase;
        unfinished = sym (take-held z.reached.reader.core.pending (carry_left R start [] F) z.lent.carry same) ∙ d.unfinished;
        position = d.position;
        serial = d.serial;
        sequence = d.sequence;
        streams = d.streams;
        preskip = d.preskip;
        skip = d.skip;
        listings = d.listings;
      };
    }
