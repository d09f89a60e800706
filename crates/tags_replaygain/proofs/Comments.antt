-- The comments of a packet from a place on, one after the other. Assumes nothing.
use mathlib.Core.Path.{◌≡◌}
use mathlib.Core.Bool.{Bool, true, false}
use Prim.Native.Nat.{ℕ, suc, ◌+◌, ◌-◌, ◌≤◌, ◌<◌}
use native.Mathlib.Omega.{arith}
use lib.ListN.{length, take, drop}
use Rattle.octets.specs.Octets.{Bytes}
use Rattle.octets.specs.Numbers.{number}
use Rattle.octets.proofs.Tests.{both}
use Rattle.tags_layout.specs.Layout.{next_place, fits_at, all_fit, texts_from}
use Rattle.tags_layout.proofs.Fitting.{inside}
use Rattle.tags_replaygain.specs.ReplayGain.{is_replay_gain, any_replay_gain}

-- whether one of n comments is a tag, the first one's length at this place
abbrev pub any_from : Bytes → ℕ → ℕ → Bool
any_from b n at = any_replay_gain (texts_from b n at)

-- what is left of n comments from a place on, after i of them, decides
pub record Left (b : Bytes) (n start i at : ℕ) : Type 0 where
  pub fit : all_fit b (n - i) at ≡ true
  pub decides : any_from b (n - i) at ≡ any_from b n start
  pub few : i ≤ n

pub left-first : (b : Bytes) (n start : ℕ) → all_fit b n start ≡ true → Left b n start 0 start
left-first b n start e =
    let all : n - 0 ≡ n = omega arith in
    record { fit = rw all e; decides = rw all; few = omega arith }

pub none_left : (b : Bytes) (n start i at : ℕ) → Left b n start i at → n ≤ i → false ≡ any_from b n start
unfolding any_replay_gain texts_from
none_left b n start i at l h =
    let none : n - i ≡ 0 = omega arith in
    rw none at l.decides

-- one more, of k bytes
pub record Turn (b : Bytes) (n start i at k : ℕ) : Type 0 where
  pub inside : at + 4 + k ≤ length b
  pub found : is_replay_gain (take k (drop (at + 4) b)) ≡ true → true ≡ any_from b n start
  pub goes_on : is_replay_gain (take k (drop (at + 4) b)) ≡ false → Left b n start (i + 1) (at + 4 + k)

pub turn : (b : Bytes) (n start i at k : ℕ) → Left b n start i at → i < n → k ≡ number 4 b at → Turn b n start i at k
unfolding any_replay_gain texts_from all_fit
turn b n start i at k l more size =
    let next : n - i ≡ suc (n - (i + 1)) = omega arith in
    let fits = both (fits_at b at) (all_fit b (n - (i + 1)) (next_place b at)) (rw next at l.fit) in
    record {
      inside = omega (arith, inside b at fits.0);
      found = λ e. rw (next, ← size, e) at l.decides;
      goes_on = λ e. record { fit = rw size fits.1; decides = rw (next, ← size, e) at l.decides; few = omega arith };
    }
