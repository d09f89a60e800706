-- Whether the packet that goes on after a page is cut by a later break, by the next page of the list. Assumes nothing.
use Prim.Native.Nat.{ℕ, suc, ◌+◌, ◌≤◌, ◌<◌}
use mathlib.Core.Path.{◌≡◌, refl, sym, ap, ◌∙◌}
use mathlib.Core.Bool.{Bool, true, false, ◌&&◌}
use mathlib.Core.List.{List, [], ◌∷◌}
use native.Mathlib.Numerals.{add-one}
use lib.ListN.{length, drop}
use Rattle.octets.specs.Pick.{pick}
use Rattle.octets.specs.Octets.{Bytes}
use Rattle.salvage_rules.specs.declared.Link.{Link}
use Rattle.salvage_rules.specs.Good.{Good}
use Rattle.salvage_rules.specs.Links.{follows_link, link_cut}
use Rattle.salvage_rules.specs.Listed.{listed_in}
use Rattle.salvage_list.specs.Next.{next_listed, link_at}
use Rattle.salvage_list.specs.Statements.{NextIs}
use Rattle.salvage_list.proofs.Next.{next-listed}

-- no packet goes on
pub not-onward : (a : Link) (qs : List Good) → a.onward ≡ false → link_cut a qs ≡ false
unfolding link_cut
not-onward a [] h = refl
not-onward a (q ∷ qs) h = rw h

-- r is the index of the next page
module _ (b : Bytes) (ws : List ℕ) (a : Link) (at r : ℕ) (e : r ≡ next_listed ws at) where
  next : NextIs b ws at r
  next = rw e (next-listed b ws at)

  abbrev cut : Bool
  cut = link_cut a (listed_in b (drop at ws))

  pub no_next : length ws ≤ r → cut ≡ false
  unfolding link_cut
  no_next h = rw (next.same ∙ next.none h)

  -- q is what joins the next page to its neighbours
  module _ (q : Link) (k : q ≡ link_at b ws r) (h : r < length ws) (o : a.onward ≡ true) where
    abbrev later : Bool
    later = link_cut q (listed_in b (drop (r + 1) ws))

    step : cut ≡ pick (follows_link a q) (q.through && later) true
    unfolding link_cut
    step = rw (next.same ∙ next.here h, o, k, add-one r)

    -- a break
    pub breaks : follows_link a q ≡ false → cut ≡ true
    breaks f = step ∙ ap (λ (t : Bool). pick t (q.through && later) true) f

    module _ (f : follows_link a q ≡ true) where
      followed : cut ≡ q.through && later
      followed = step ∙ ap (λ (t : Bool). pick t (q.through && later) true) f

      -- the packet ends there, or none is continued
      pub ends : q.through ≡ false → cut ≡ false
      ends t = followed ∙ ap (λ (x : Bool). x && later) t

      pub goes_on : q.through ≡ true → cut ≡ later
      goes_on t = followed ∙ ap (λ (x : Bool). x && later) t
