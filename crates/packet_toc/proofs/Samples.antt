-- A frame has from 120 to 2,880 samples, a multiple of 120. Assumes nothing.
use mathlib.Core.Path.{◌≡◌, refl}
use mathlib.Core.Bool.{Bool, true, false}
use Prim.Native.Nat.{ℕ, ◌%◌, ◌≤◌}
use lib.Dec.{ltb, eqb, lit≤, T, leb}
use Rattle.octets.specs.Pick.{pick}
use Rattle.packet_toc.specs.Toc.{config_of, by_four, config_samples, frame_samples}

pub record FrameLength (d : ℕ) : Type 0 where
  pub least : 120 ≤ d
  pub most : d ≤ 2880
  pub multiple : d % 120 ≡ 0

either : (t : Bool) {a b : ℕ} → FrameLength a → FrameLength b → FrameLength (pick t a b)
either true p q = p
either false p q = q

-- a number as it is
exact : (d : ℕ) → T (leb 120 d) → T (leb d 2880) → d % 120 ≡ 0 → FrameLength d
exact d l m e = record { least = lit≤ l; most = lit≤ m; multiple = e }

four : (n : ℕ) {a b c d : ℕ} → FrameLength a → FrameLength b → FrameLength c → FrameLength d → FrameLength (by_four n a b c d)
four n p q r s = either (eqb (n % 4) 0) p (either (eqb (n % 4) 1) q (either (eqb (n % 4) 2) r s))

pub frame-length : (toc : ℕ) → FrameLength (frame_samples toc)
unfolding frame_samples config_samples
frame-length toc =
    let c : ℕ = config_of toc in
    either (ltb c 12) (four c (exact 480 tt tt refl) (exact 960 tt tt refl) (exact 1920 tt tt refl) (exact 2880 tt tt refl))
    (either (ltb c 16) (either (eqb (c % 2) 0) (exact 480 tt tt refl) (exact 960 tt tt refl))
    (four c (exact 120 tt tt refl) (exact 240 tt tt refl) (exact 480 tt tt refl) (exact 960 tt tt refl)))
