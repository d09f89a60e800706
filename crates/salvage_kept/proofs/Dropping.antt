-- A refused page goes missing. Assumes nothing.
use Rattle.std.proofs.Common.{◌≡◌, ℕ, suc, ◌+◌, ◌<◌, Bool, true, not, List, length, drop, set, sym, refl, ap, ◌∙◌, subst, add-one, arith, drop-set-lt}
use Rattle.octets.specs.Pick.{pick}
use Rattle.octets.specs.Octets.{Bytes}
use Rattle.stream.specs.Feed.{view}
use Rattle.salvage_rules.specs.Links.{link_cut}
use Rattle.salvage_rules.specs.Listed.{missing_place, listed_in, pages_from}
use Rattle.salvage_kept.specs.declared.Point.{Point}
use Rattle.salvage_kept.specs.declared.Pass.{Pass}
use Rattle.salvage_kept.specs.Code.{beginning, point_past, pass_of}
use Rattle.salvage_kept.specs.Promises.{Drops}
use Rattle.salvage_kept.proofs.Holding.{holds-without, holds-back}
use Rattle.salvage_kept.proofs.Carrying.{agreed}

module _ (b : Bytes) (ws : List ℕ) (p : Pass) (i : ℕ) (carry keep : Bytes) {list : List ℕ} (stored : list ≡ set ws i missing_place) where
  -- the pages after it
  later : pages_from b list (i + 1) ≡ pages_from b ws (suc i)
  later =
      let l : i < i + 1 = omega arith in
      ap (λ (x : List ℕ). listed_in b (drop (i + 1) x)) stored
      ∙ ap (listed_in b) (drop-set-lt (i + 1) ws i missing_place l ∙ ap (λ (k : ℕ). drop k ws) (add-one i))

  pub drops_on : {cut : Bool} {now : Point} → cut ≡ link_cut p.now.prior.link (pages_from b list (i + 1))
      → pick cut p.now.cut (not p.now.cut) ≡ true → now ≡ point_past p.now i → Drops b ws p i carry keep (pass_of now p.saved) list carry
  drops_on {cut} {now} c a e = record {
    stored = stored;
    holds = λ G h n x.
        let bit : link_cut p.now.prior.link (pages_from b ws (suc i)) ≡ p.now.cut =
        ap (link_cut p.now.prior.link) (sym later) ∙ sym c ∙ agreed cut p.now.cut a in
        rw (stored, e) (holds-without h n x.why x.refused bit);
  }

  pub drops_back : {left : Bytes} {begun : Point} → view p.saved.core left ≡ view p.saved.core keep → begun ≡ beginning
      → Drops b ws p i carry keep (pass_of p.saved begun) list left
  drops_back {left} {begun} v e = record {
    stored = stored;
    holds = λ G h n x. rw (stored, e) (holds-back h n x.why x.refused left keep v);
  }
