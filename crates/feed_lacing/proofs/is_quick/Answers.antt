-- `feed_lacing::is_quick` meets its contract. Assumes nothing.
use mathlib.Core.Path.{◌≡◌, ap, ◌∙◌}
use mathlib.Core.Bool.{true, false}
use Prim.Native.Nat.{ℕ, ◌-◌}
use native.Mathlib.Omega.{arith}
use borrow.Author.Tests.{leb-true}
use lib.ListN.{length}
use lib.Seq.{take_all}
use Rattle.limits.specs.Limits.{packet_max}
use Rattle.octets.specs.Octets.{Bytes, total}
use Rattle.feed_lacing.proofs.Scanning.{scan_quick}
use Rattle.feed_lacing.proofs.is_quick.Goals as goal

-- a test that is not passed
refused : {A : Type 0} → false ≡ true → A
refused e = let z : ◌≡◌ {A = ℕ} 0 1 = cc in absurd (omega arith)

pub returns-then-n-eq0 : goal.returns-then-n-eq0
returns-then-n-eq0 c e = refused e

pub returns-then-n-gt255 : goal.returns-then-n-gt255
returns-then-n-gt255 c e = refused e

pub returns-then-lacing-n : goal.returns-then-lacing-n
returns-then-lacing-n c e = refused e

pub returns : goal.returns
returns c e =
    let l : Bytes = c.args.lacing.now in
    let n : ℕ = length l - 1 in
    let few = leb-true c.sum_of.result packet_max e in
    let all : c.sum_of.result ≡ total l = c.sum_of.ensures.sum ∙ ap total (take_all 255 l (omega arith)) in
    scan_quick l 0 n (omega arith) (omega (arith, (c.shared_slice_known-2-1.given n).fits, c.if-lacing-n.false)) (omega arith)
