-- `packet_toc::frame_samples` meets its contract: the rule of its table is one test that antt computes over all 32 entries, and
-- one law. Assumes nothing.
use mathlib.Core.Path.{◌≡◌, refl, ap, ◌∙◌}
use mathlib.Core.List.{List, [], ◌∷◌}
use Prim.Native.Nat.{ℕ, zero, suc, ◌+◌, ◌*◌, ◌/◌, ◌<◌}
use native.Mathlib.Nat.{le_of_suc-le-suc, not-suc-le-zero}
use native.Mathlib.Omega.{arith}
use borrow.Author.Rules.{rules}
use lib.ListN.{get_or}
use Rattle.packet_toc.specs.Toc.{config_samples, frame_samples}
use Rattle.packet_toc.proofs.Samples.{frame-length}
use Rattle.packet_toc.proofs.frame_samples.Goals as goal

-- the frame lengths of n configs from c on, in units of 120 samples
abbrev units_from : ℕ → ℕ → List ℕ
units_from zero c = []
units_from (suc n) c = config_samples c / 120 ∷ units_from n (suc c)

unit_at : (n c i : ℕ) → i < n → get_or (units_from n c) i 0 ≡ config_samples (c + i) / 120
unit_at zero c i h = absurd (not-suc-le-zero h)
unit_at (suc n) c zero h = ap (λ (k : ℕ). config_samples k / 120) (omega arith)
unit_at (suc n) c (suc i) h = unit_at n (suc c) i (le_of_suc-le-suc h) ∙ ap (λ (k : ℕ). config_samples k / 120) (omega arith)

-- a table that has them, read at the config of a TOC byte
module _ (t : List ℕ) (test : t ≡ units_from 32 0) (toc : ℕ) (byte : toc < 256) where
  unit : get_or t (toc / 8) 0 ≡ frame_samples toc / 120
  unfolding frame_samples
  unit =
      ap (λ (u : List ℕ). get_or u (toc / 8) 0) test ∙ unit_at 32 0 (toc / 8) (omega arith)
      ∙ ap (λ (k : ℕ). config_samples k / 120) (omega arith)

  small : get_or t (toc / 8) 0 < 256
  small =
      let d = frame-length toc in
      let m = d.most in
      let u = unit in
      omega arith

  samples : get_or t (toc / 8) 0 * 120 ≡ frame_samples toc
  samples =
      let d = frame-length toc in
      let m = d.multiple in
      let u = unit in
      omega arith

pub overflow_cast-result-2 : goal.overflow_cast-result-2
unfolding config_samples
overflow_cast-result-2 c = omega (arith, small _ refl c.args.toc (omega arith))

pub overflow_mul-result : goal.overflow_mul-result
unfolding config_samples
overflow_mul-result c = omega (arith, small _ refl c.args.toc (omega arith))

pub returns : goal.returns
unfolding config_samples
returns c = samples _ refl c.args.toc (omega arith)
