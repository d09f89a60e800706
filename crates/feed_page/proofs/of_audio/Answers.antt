-- `feed_page::of_audio` meets its contract. Assumes nothing.
use Rattle.std.specs.Prelude.{Some, None}
use Prim.Native.Nat.{ℕ}
use mathlib.Core.Path.{◌≡◌, sym, ap, ◌∙◌}
use native.Mathlib.Omega.{arith}
use Rattle.feed_audio.specs.Audio.{told_audio}
use Rattle.stream.specs.Feed.{told_page}
use Rattle.feed_page.proofs.of_audio.Goals as goal

pub returns-in-Some : goal.returns-in-Some
returns-in-Some c =
    λ t e.
    let kept = c.made_again.ensures in
    let q : c.args.fed ≡ Some c.in-Some.page = cc in
    let same = sym (ap told_audio q) ∙ e in
    ap told_page kept ∙ cc

pub returns-in-None : goal.returns-in-None
returns-in-None c =
    λ t e.
    let q : c.args.fed ≡ None = cc in
    let same = sym (ap told_audio q) ∙ e in
    let z : ◌≡◌ {A = ℕ} 0 1 = cc in
    absurd (omega arith)
