-- The totals of a reader just started are the counts of its stream's samples, and none of them wraps. Assumes nothing.
use Prim.Native.Nat.{ℕ, ◌+◌, ◌≤◌}
use mathlib.Core.Path.{◌≡◌, refl, subst}
use mathlib.Core.List.{List, [], ◌∷◌}
use native.Mathlib.Omega.{arith}
use Rattle.granule.specs.declared.Position.TheVariants.{Unset}
use Rattle.granule.specs.Judging.{granule_max}
use Rattle.stream.specs.declared.Tally.{Tally}
use Rattle.stream.specs.declared.Counts.{Counts}
use Rattle.stream.specs.Readings.{Readings, readings}
use Rattle.stream.specs.Feed.{start}
use Rattle.stream.specs.Stream.{head_of, Mark, marks, last_granule, position_from, initial, holes, kept_count, skipped_count, trimmed_count}
use Rattle.stream.specs.Feedings.{finally, Shown, stream, bytes_of}
use Rattle.stream.specs.Statements.{Counted}
use Rattle.stream.specs.Totals.{trimmed_most, StreamTotals}
use Rattle.stream.proofs.Theorem1.{stream-state}
use Rattle.stream.proofs.Theorem4.{stream-counts}
use Rattle.stream.proofs.TotalsAny.{total-is, Within, position-low, trimmed-few}
use Rattle.stream.proofs.TotalsLengths.{samples-most}

-- the last granule position, the reader's own being at most the largest
last-low : (ms : List Mark) → Within (position_from Unset ms) → last_granule ms ≤ granule_max
unfolding last_granule
last-low [] w = omega arith
last-low (m ∷ ms) w = w

-- what is kept, skipped and left empty lies between the first position and the last
spanned : (i k s t h d l : ℕ) → k + s + t ≡ d → i + d + h ≡ l + t → i + k + s + h ≡ l
spanned i k s t h d l e q = omega arith

pub stream-totals : StreamTotals
stream-totals crc F o handed =
    let R : Readings = readings crc in
    let S : List Shown = stream R start F in
    let k : ℕ = (head_of R (bytes_of S)).preskip in
    let ms : List Mark = marks R (bytes_of S) in
    let t : Tally = (finally R start F).tally in
    let c : Counted S k ms = stream-counts R F handed in
    let small : last_granule ms ≤ granule_max =
    last-low ms (subst Within (stream-state R F handed).position (position-low R F start tt)) in
    let few : trimmed_count ms ≤ trimmed_most =
    subst (λ (n : ℕ). n ≤ trimmed_most) c.trimmed (trimmed-few R (samples-most crc) F start o) in
    let reach : initial ms + kept_count k ms + skipped_count k ms + holes ms ≡ last_granule ms =
    spanned _ _ _ _ _ _ _ c.shares c.spans in
    let kept : t.kept ≡ kept_count k ms =
    total-is R (λ (x : Tally). x.kept) (λ (x : Counts). x.kept) (λ x skip n. refl) F start (kept_count k ms) refl c.kept
    (omega arith) in
    let skipped : t.skipped ≡ skipped_count k ms =
    total-is R (λ (x : Tally). x.skipped) (λ (x : Counts). x.skipped) (λ x skip n. refl) F start (skipped_count k ms) refl
    c.skipped (omega arith) in
    let trimmed : t.trimmed ≡ trimmed_count ms =
    total-is R (λ (x : Tally). x.trimmed) (λ (x : Counts). x.trimmed) (λ x skip n. refl) F start (trimmed_count ms) refl
    c.trimmed (omega arith) in
    let hole : t.hole ≡ holes ms =
    total-is R (λ (x : Tally). x.hole) (λ (x : Counts). x.hole) (λ x skip n. refl) F start (holes ms) refl c.hole
    (omega arith) in
    record {
      kept = kept;
      skipped = skipped;
      trimmed = trimmed;
      hole = hole;
      spans = omega arith;
      small = small;
      few = omega arith;
    }
