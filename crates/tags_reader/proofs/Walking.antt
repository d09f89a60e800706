-- Laws of walking from comment to comment. Assumes nothing.
use Rattle.std.specs.Prelude.{Option, Some, None}
use mathlib.Core.Path.{◌≡◌, refl, sym, ap, ◌∙◌}
use mathlib.Core.Bool.{true, false}
use Prim.Native.Nat.{ℕ, zero, suc, ◌+◌, ◌-◌, ◌≤◌, ◌<◌}
use native.Mathlib.Omega.{arith}
use lib.ListN.{take, drop}
use Rattle.octets.specs.Octets.{Bytes}
use Rattle.octets.specs.Numbers.{number}
use Rattle.tags_rules.specs.declared.Gains.{Gains}
use Rattle.tags_rules.specs.Code.{Judgement, judged, told_gains}
use Rattle.tags_layout.specs.Layout.{fits_at}
use Rattle.tags_reader.specs.declared.Walk.{Walk}
use Rattle.tags_reader.specs.Code.{onward, stepped, walked}

-- ---- one step

module _ (b : Bytes) (w : Walk) where
  pub no_text : fits_at b w.at ≡ false → stepped b (Some w) ≡ None
  unfolding stepped
  no_text e = rw e

  -- a text of n bytes, judged as g
  module _ (n : ℕ) (g : Option Gains) (fits : fits_at b w.at ≡ true) (size : n ≡ number 4 b w.at)
      (judge : told_gains g ≡ judged (take n (drop (w.at + 4) b)) w.track w.album) where
    pub stops : g ≡ None → stepped b (Some w) ≡ None
    unfolding stepped
    stops e = rw (fits, ← size, ← judge, e)

    pub goes_on : (x : Gains) → g ≡ Some x → stepped b (Some w) ≡ Some (record { at = w.at + 4 + n; track = x.track; album = x.album })
    unfolding stepped
    goes_on x e =
        rw (fits, ← size)
        (ap (λ (j : Judgement). onward b w.at j) (sym judge ∙ ap told_gains e)
        ∙ ap (λ (k : ℕ). Some (record { at = w.at + 4 + k; track = x.track; album = x.album })) (sym size))

-- ---- n steps

pub walked-wrong : (b : Bytes) (n : ℕ) → walked b n None ≡ None
unfolding walked stepped
walked-wrong b zero = refl
walked-wrong b (suc n) = walked-wrong b n

pub walk_begin : (b : Bytes) (n : ℕ) (w : Option Walk) → walked b (n - 0) w ≡ walked b n w
walk_begin b n w =
    let e : n - 0 ≡ n = omega arith in
    rw e

pub walk_more : (b : Bytes) (n i : ℕ) (w : Option Walk) → i < n → walked b (n - i) w ≡ walked b (n - (i + 1)) (stepped b w)
unfolding walked
walk_more b n i w h =
    let e : n - i ≡ suc (n - (i + 1)) = omega arith in
    rw e

pub walk_done : (b : Bytes) (n i : ℕ) (w : Option Walk) → n ≤ i → walked b (n - i) w ≡ w
unfolding walked
walk_done b n i w h =
    let e : n - i ≡ zero = omega arith in
    rw e
