-- A run has turns enough, each page taking a byte at least, and stays within its buffer and its lists. Assumes nothing.
use Prim.Native.Nat.{ℕ, zero, suc, ◌-◌, ◌<◌}
use mathlib.Core.Path.{◌≡◌, refl}
use native.Mathlib.Omega.{arith}
use lib.ListN.{length}
use Rattle.octets.specs.Octets.{Bytes, Octets}
use Rattle.stream.specs.Readings.{Readings}
use Rattle.stream.specs.Feed.{Reader}
use Rattle.stream.specs.Lent.{Lent}
use Rattle.feed_pages.specs.Run.{Reached, Turn, goes, stops, turn, follow, runs, started, feed_pages, Inside}
use Rattle.feed_pages.specs.Statements.{EnoughTurns, RunFits}
use Rattle.feed_pages.proofs.Turns.{turn-onward, turn-stops}

module _ (R : Readings) (b : Bytes) (o : Octets b) where
  same : (n k : ℕ) (a : Reached) (m : Lent) → Inside a b m → length b - a.bytes < n → length b - a.bytes < k → runs n R b a m ≡ runs k R b a m
  unfolding runs
  same zero k a m f x y = absurd (omega arith)
  same (suc n) zero a m f x y = absurd (omega arith)
  same (suc n) (suc k) a m f x y = by (same n k) (turn R b a m) refl
    where
      by : ((c : Reached) (l : Lent) → Inside c b l → length b - c.bytes < n → length b - c.bytes < k → runs n R b c l ≡ runs k R b c l)
          → (t : Turn) → turn R b a m ≡ t → follow (runs n R b) a t ≡ follow (runs k R b) a t
      by later (goes next l) e =
          let on = turn-onward R b o a m f e in
          later next l on.fits (omega (arith, on.moves, on.fits.bytes)) (omega (arith, on.moves, on.fits.bytes))
      by later (stops why l) e = refl

  fit : (n : ℕ) (a : Reached) (m : Lent) → Inside a b m → Inside (runs n R b a m).reached b (runs n R b a m).lent
  unfolding runs
  fit zero a m f = f
  fit (suc n) a m f = by (fit n) (turn R b a m) refl
    where
      by : ((c : Reached) (l : Lent) → Inside c b l → Inside (runs n R b c l).reached b (runs n R b c l).lent) → (t : Turn) → turn R b a m ≡ t
          → Inside (follow (runs n R b) a t).reached b (follow (runs n R b) a t).lent
      by later (goes next l) e = later next l (turn-onward R b o a m f e).fits
      by later (stops why l) e = turn-stops R b o a m f e

-- a run that has not begun
pub begun : (r : Reader) (b : Bytes) (m : Lent) → Inside (started r) b m
begun r b m = record { bytes = omega arith; few = omega arith; ends = omega arith; lengths = omega arith; kept = omega arith; frames = omega arith }

pub enough_turns : EnoughTurns
unfolding feed_pages
enough_turns R r m b o n h = same R b o n (suc (length b)) (started r) m (begun r b m) (omega arith) (omega arith)

pub run_fits : RunFits
unfolding feed_pages
run_fits R r m b o = fit R b o (suc (length b)) (started r) m (begun r b m)
