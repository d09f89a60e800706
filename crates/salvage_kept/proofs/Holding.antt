-- The pass goes on: with a page more, without a refused one, or back at the saved point. Assumes nothing.
use Rattle.std.proofs.Common.{◌≡◌, ℕ, suc, ◌+◌, ◌%◌, ◌^◌, ◌<◌, ◌≤◌, Bool, true, false, List, [], ◌∷◌, ◌++◌, length, get_or, take, drop, set, sym, refl, ap, ◌∙◌, subst, ap₂, append-nil, arith, length-append, length-set, take-suc-set, drop-set-lt}
use mathlib.Core.List.{append_cancel_left}
use mathlib.Core.Option.{none, some}
use Rattle.octets.specs.Octets.{Bytes}
use Rattle.refusal.specs.declared.Refusal.{Refusal}
use Rattle.stream.specs.declared.Core.{Core}
use Rattle.stream.specs.State.{State}
use Rattle.stream.specs.Rules.{verdict, after}
use Rattle.stream.specs.Feed.{view}
use Rattle.salvage_rules.specs.declared.Prior.{Prior}
use Rattle.salvage_rules.specs.Good.{Good}
use Rattle.salvage_rules.specs.Tidy.{goes_through, cut_after, Before, no_page}
use Rattle.salvage_rules.specs.Rounds.{settled}
use Rattle.salvage_rules.specs.Steps.{past, past_all, bit_of, next_out}
use Rattle.salvage_rules.specs.Links.{link_of, link_cut, prior_of, next_prior}
use Rattle.salvage_rules.specs.Listed.{missing_place, good_in, listed_in, pages_to, pages_from, NextIs}
use Rattle.salvage_rules.proofs.Links.{link-cut, next-prior, past_more, bit_by_prior}
use Rattle.salvage_kept.specs.declared.Point.{Point}
use Rattle.salvage_kept.specs.declared.Pass.{Pass}
use Rattle.salvage_kept.specs.Pass.{Going, Saved}
use Rattle.salvage_kept.specs.Code.{R, pages_in, beginning, point_after, point_past, pass_of, PointIs, Holds}
use Rattle.salvage_kept.proofs.Passing.{going-begins, going_on, going-without, going-back, going-ends, saved_begin, saved-here, saved-more, saved-without}
use Rattle.salvage_rules.proofs.Listed.{listed-append, parted, parted_first, with_next, part_more, part_next, at_place, before-without, after-without}

-- ---- the begin and the end

begin_is : PointIs [] beginning
unfolding past_all
begin_is = record { prior = refl; number = refl }

pub holds_begin : (b : Bytes) (ws : List ℕ) (carry keep : Bytes) → Holds b (listed_in b ws) ws (pass_of beginning beginning) carry keep
unfolding listed_in
holds_begin b ws carry keep = record {
  inside = omega arith;
  earlier = omega arith;
  point = begin_is;
  back = begin_is;
  going = going-begins R (listed_in b ws);
  saved = saved_begin R [] (listed_in b ws);
}

pub holds-ends : {b : Bytes} {G : List Good} {ws : List ℕ} {p : Pass} {carry keep : Bytes} → Holds b G ws p carry keep
    → pages_from b ws p.now.at ≡ [] → Going R G (listed_in b ws) [] (view p.now.core carry) p.now.cut
holds-ends {b} {G} {ws} {p} {carry} {keep} h e =
    let K : List Good = pages_to b ws p.now.at in
    let all : K ≡ listed_in b ws = sym (append-nil K) ∙ ap (λ (l : List Good). K ++ l) (sym e) ∙ sym (parted b p.now.at ws) in
    subst (λ (l : List Good). Going R G l [] (view p.now.core carry) p.now.cut) all
    (subst (λ (l : List Good). Going R G K l (view p.now.core carry) p.now.cut) e h.going)

-- ---- the next page

module _ {b : Bytes} {G : List Good} {ws : List ℕ} {p : Pass} {carry keep : Bytes} {i : ℕ} (h : Holds b G ws p carry keep) (n : NextIs b ws p.now.at i) where
  abbrev at : ℕ
  at = p.now.at

  abbrev g : Good
  g = good_in b (get_or ws i 0)

  abbrev K : List Good
  K = pages_to b ws at

  abbrev B : List Good
  B = pages_from b ws (suc i)

  abbrev s : State
  s = view p.now.core carry

  abbrev J : List Good
  J = pages_to b ws p.saved.at

  abbrev C : List Good
  C = pages_in b ws p.saved.at at

  goes : Going R G K (g ∷ B) s p.now.cut
  goes = subst (λ (l : List Good). Going R G K l s p.now.cut) n.next h.going

  keeps : Saved R K (g ∷ B) J C (view p.saved.core keep) p.saved.cut
  keeps = subst (λ (l : List Good). Saved R K l J C (view p.saved.core keep) p.saved.cut) n.next h.saved

  up_to : pages_to b ws (suc i) ≡ K ++ (g ∷ [])
  up_to = with_next b ws at i g n.fore n.inside n.next

  -- ---- accepted

  module _ (core : Core) (left : Bytes) (ok : verdict R s (next_out K g B) ≡ none) (state : view core left ≡ after R s (next_out K g B)) where
    abbrev new : Point
    new = point_after p.now core (link_of g.page) (link_cut (link_of g.page) B) i

    new_is : PointIs (pages_to b ws (suc i)) new
    new_is = record {
      prior =
          ap (λ (x : Prior). next_prior x (link_of g.page)) h.point.prior ∙ next-prior (past_all no_page K) g
          ∙ ap prior_of (sym (past_more no_page K g) ∙ ap (past_all no_page) (sym up_to));
      number =
          let e : length (pages_to b ws (suc i)) ≡ length K + 1 = ap length up_to ∙ length-append K (g ∷ []) in
          omega (arith, h.point.number, e);
    }

    new_goes : Going R G (pages_to b ws (suc i)) B (view core left) (link_cut (link_of g.page) B)
    new_goes =
        rw (up_to, state, link-cut g.page B) (going_on R goes ok)

    -- the saved point stays
    pub holds_on : Holds b G ws (pass_of new p.saved) left keep
    holds_on = record {
      inside = n.inside;
      earlier = omega (arith, h.earlier, n.fore);
      point = new_is;
      back = h.back;
      going = new_goes;
      saved = rw (up_to, part_more b ws at i g n.fore n.inside n.next p.saved.at h.earlier) (saved-more R keeps);
    }

    -- it is the one before the page
    pub holds-saved : (now : Bytes) → view p.now.core now ≡ s → goes_through g.page ≡ false → Holds b G ws (pass_of new p.now) left now
    holds-saved now e t = record {
      inside = n.inside;
      earlier = omega (arith, n.fore);
      point = new_is;
      back = h.point;
      going = new_goes;
      saved = rw (up_to, part_next b ws at i g n.fore n.inside n.next, e) (saved-here R goes t);
    }

  -- ---- refused

  -- as far as the carry buffer goes
  pub holds_still : (left : Bytes) → view p.now.core left ≡ s → Holds b G ws p left keep
  holds_still left e = record {
    inside = h.inside;
    earlier = h.earlier;
    point = h.point;
    back = h.back;
    going = subst (λ (x : State). Going R G K (pages_from b ws at) x p.now.cut) (sym e) h.going;
    saved = h.saved;
  }

  module _ (why : Refusal) (no : verdict R s (next_out K g B) ≡ some why) where
    abbrev ms : List ℕ
    ms = set ws i missing_place

    up_to-place : listed_in b (take i ws) ≡ K
    up_to-place = at_place b ws at i g n.fore n.inside n.next n.here refl

    to_without : pages_to b ms (suc i) ≡ K
    unfolding listed_in
    to_without =
        ap (listed_in b) (take-suc-set ws i missing_place n.inside) ∙ listed-append b (take i ws) (missing_place ∷ [])
        ∙ append-nil (listed_in b (take i ws)) ∙ up_to-place

    from-without : pages_from b ms (suc i) ≡ B
    from-without = ap (listed_in b) (drop-set-lt (suc i) ws i missing_place (omega arith))

    to_same : (j : ℕ) → j ≤ i → pages_to b ms j ≡ pages_to b ws j
    to_same j l = before-without b ws at i g n.fore n.inside n.next j l

    -- one page less
    pub fewer : length (listed_in b ms) < length (listed_in b ws)
    fewer =
        let x : length (listed_in b ms) ≡ length K + length B = ap length (parted b (suc i) ms ∙ ap₂ ◌++◌ to_without from-without) ∙ length-append K B in
        let y : length (listed_in b ws) ≡ length K + suc (length B) = ap length (parted b at ws ∙ ap (λ (l : List Good). K ++ l) n.next) ∙ length-append K (g ∷ B) in
        omega arith

    in_same : pages_in b ms p.saved.at (suc i) ≡ C
    in_same =
        append_cancel_left J (pages_in b ms p.saved.at (suc i)) C
        (ap (λ (l : List Good). l ++ pages_in b ms p.saved.at (suc i)) (sym (to_same p.saved.at (omega (arith, h.earlier, n.fore))))
        ∙ sym (parted_first b p.saved.at (suc i) ms (omega (arith, h.earlier, n.fore)))
        ∙ to_without ∙ parted_first b p.saved.at at ws h.earlier)

    -- the pass goes on
    pub holds-without : link_cut p.now.prior.link B ≡ p.now.cut → Holds b G ms (pass_of (point_past p.now i) p.saved) carry keep
    holds-without e =
        let bit : bit_of K B ≡ p.now.cut = sym (bit_by_prior K B) ∙ ap (λ (x : Prior). link_cut x.link B) (sym h.point.prior) ∙ e in
        record {
          inside = omega (arith, n.inside, length-set ws i missing_place);
          earlier = omega (arith, h.earlier, n.fore);
          point = rw to_without (record { prior = h.point.prior; number = h.point.number });
          back = rw (to_same p.saved.at (omega (arith, h.earlier, n.fore))) h.back;
          going = rw (to_without, from-without) (going-without R goes why no bit);
          saved = rw (to_without, from-without, to_same p.saved.at (omega (arith, h.earlier, n.fore)), in_same) (saved-without R keeps);
        }

    -- it goes back
    pub holds-back : (left other : Bytes) → view p.saved.core left ≡ view p.saved.core keep → Holds b G ms (pass_of p.saved beginning) left other
    unfolding listed_in
    holds-back left other e =
        let same : pages_to b ms p.saved.at ≡ J = to_same p.saved.at (omega (arith, h.earlier, n.fore)) in
        let rest : pages_from b ms p.saved.at ≡ C ++ B = after-without b ws at i g n.fore n.inside n.next up_to-place p.saved.at h.earlier in
        record {
          inside = omega (arith, h.earlier, h.inside, length-set ws i missing_place);
          earlier = omega arith;
          point = rw same h.back;
          back = begin_is;
          going = rw (same, rest, e) (going-back R goes why no keeps);
          saved = saved_begin R (pages_to b ms p.saved.at) (pages_from b ms p.saved.at);
        }
