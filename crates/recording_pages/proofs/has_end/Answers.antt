-- `recording_pages::has_end` meets its contract. Assumes nothing.
use Rattle.std.proofs.Common.{◌≡◌, ◌∙◌, refl, ap, ℕ, Bool, true, false, ◌||◌, [], ◌∷◌, ltb, rules}
use Rattle.std.specs.List.{list_any}
use Rattle.std.proofs.lemmas.Iterator.{cases_from_any, YieldsList-from_slice}
use borrow.Author.Tests.{tests}
use Rattle.octets.specs.Octets.{Bytes}
use Rattle.octets.proofs.Chains.{any_is}
use Rattle.stream.specs.Page.{ends}
use Rattle.recording_pages.proofs.has_end.Goals as goal

any-ends : (l : Bytes) → list_any (λ v. ltb v 255) l ≡ ends l
unfolding ends
any-ends [] = refl
any-ends (v ∷ l) = ap (λ (t : Bool). ltb v 255 || t) (any-ends l)

pub returns : goal.returns
returns c =
    let l : Bytes = c.args.lacing.now in
    any_is (λ v. ltb v 255) l c.any.result
    (cases_from_any _ _ _ (λ v. ltb v 255 ≡ true) (λ v. ltb v 255 ≡ false) c.any.ensures.ran (YieldsList-from_slice l cc)
    (λ x q k. search (rules, tests)) (λ x q k. search (rules, tests)))
    ∙ any-ends l
