-- `page_size::size_of` meets its contract: a byte tells at most 255 values. Assumes nothing.
use mathlib.Core.Path.{◌≡◌, ap, ap₂, ◌∙◌}
use Prim.Native.Nat.{ℕ, ◌+◌, ◌<◌}
use native.Mathlib.Omega.{arith}
use borrow.Author.Rules.{rules}
use lib.ListN.{take, drop, length-take}
use lib.Seq.{take_all}
use Rattle.octets.specs.Octets.{Bytes, total}
use Rattle.page_layout.specs.Places.{count_at, lacing_at}
use Rattle.page_layout.specs.Page.{count_of, lacing_of}
use Rattle.page_size.specs.Size.{size_of}
use Rattle.page_size.proofs.size_of.Goals as goal

-- so all of them count
all-count : (b : Bytes) → count_of b < 256 → take 255 (lacing_of b) ≡ lacing_of b
unfolding lacing_of
all-count b h = take_all 255 (lacing_of b) (omega (arith, length-take (count_of b) (drop lacing_at b)))

pub returns : goal.returns
unfolding size_of
returns c =
    let page = c.args.page.now in
    record {
      size =
          ap₂ (λ (n m : ℕ). lacing_at + n + m) c.count_of.ensures.same
          (c.sum_of.ensures.sum ∙ ap (λ (s : Bytes). total (take 255 s)) c.lacing_of.ensures
          ∙ ap total (all-count page (c.shared_slice_known-1.given count_at).fits));
      most = omega arith;
    }
