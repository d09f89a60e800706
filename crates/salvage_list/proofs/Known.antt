-- A packet that comes from the page before and goes through a page: after the page it is cut as it is before it. Assumes nothing.
use mathlib.Core.Path.{◌≡◌, refl, ap, ◌∙◌}
use mathlib.Core.Bool.{Bool, true, false, ◌&&◌}
use mathlib.Core.List.{List, ◌∷◌}
use Rattle.octets.specs.Pick.{pick}
use Rattle.octets.proofs.Tests.{both}
use Rattle.salvage_rules.specs.declared.Link.{Link}
use Rattle.salvage_rules.specs.declared.Prior.{Prior}
use Rattle.salvage_rules.specs.Good.{Good}
use Rattle.salvage_rules.specs.Links.{link_of, follows_link, link_cut}
use Rattle.salvage_list.specs.Next.{is_known, known_cut}
use Rattle.salvage_list.specs.Statements.{KnownIs}

-- the test, by what is decided first
module _ (x : Prior) (a : Link) where
  pub first-page : x.any ≡ false → is_known x a ≡ false
  first-page h = rw h

  pub none-onward : x.any ≡ true → x.link.onward ≡ false → is_known x a ≡ false
  none-onward h o = rw (h, o)

  pub broken : x.any ≡ true → x.link.onward ≡ true → follows_link x.link a ≡ false → is_known x a ≡ false
  broken h o f = rw (h, o, f)

  pub joined : x.any ≡ true → x.link.onward ≡ true → follows_link x.link a ≡ true → is_known x a ≡ a.through
  joined h o f = rw (h, o, f)

-- what is told, by the test
module _ (x : Prior) (known : Bool) (a : Link) (qs : List Good) where
  pub as_known : is_known x a ≡ true → known_cut x known a qs ≡ known
  as_known h = ap (λ (t : Bool). pick t known (link_cut a qs)) h

  pub looked_up : is_known x a ≡ false → known_cut x known a qs ≡ link_cut a qs
  looked_up h = ap (λ (t : Bool). pick t known (link_cut a qs)) h

-- the packet that goes on after a page comes to the next one and goes through it
through : (a : Link) (g : Good) (qs : List Good) → a.onward ≡ true → follows_link a (link_of g.page) ≡ true
    → (link_of g.page).through ≡ true → link_cut a (g ∷ qs) ≡ link_cut (link_of g.page) qs
unfolding link_cut
through a g qs o f t = rw (o, f, t)

-- where the test holds, what is known is right
right : (x : Prior) (g : Good) (qs : List Good) → is_known x (link_of g.page) ≡ true
    → link_cut x.link (g ∷ qs) ≡ link_cut (link_of g.page) qs
right x g qs h =
    let a = link_of g.page in
    let some = both x.any (x.link.onward && (follows_link x.link a && a.through)) h in
    let on = both x.link.onward (follows_link x.link a && a.through) some.1 in
    let next = both (follows_link x.link a) a.through on.1 in
    through x.link g qs on.0 next.0 next.1

pub known_is : KnownIs
known_is x known g qs e = by (is_known x (link_of g.page)) refl
  where
    by : (t : Bool) → is_known x (link_of g.page) ≡ t
        → known_cut x known (link_of g.page) qs ≡ link_cut (link_of g.page) qs
    by false h = looked_up x known (link_of g.page) qs h
    by true h = as_known x known (link_of g.page) qs h ∙ (e ∙ right x g qs h)
