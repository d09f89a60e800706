-- The list is settled: pages are fed and go missing until none is refused. Assumes nothing.
use Rattle.std.proofs.Common.{◌≡◌, ℕ, suc, ◌<◌, ◌≤◌, Bool, List, [], ◌∷◌, ◌++◌, length, get_or, set, sym, refl, ap, ◌∙◌, subst, length-set}
use Rattle.octets.specs.Octets.{Bytes}
use Rattle.stream.specs.State.{in_headers}
use Rattle.stream.specs.Lent.{Lent}
use Rattle.salvage_rules.specs.Good.{Good}
use Rattle.salvage_rules.specs.Statements.{Each}
use Rattle.salvage_rules.specs.Listed.{missing_place, good_in, listed_in, pages_to, pages_from, NextIs}
use Rattle.salvage_rules.proofs.Listed.{parted, all_without, up_to-place, fewer}
use Rattle.salvage_list.specs.Next.{next_listed}
use Rattle.salvage_list.proofs.Next.{next-listed}
use Rattle.salvage_kept.specs.declared.Pass.{Pass}
use Rattle.salvage_kept.specs.declared.Run.{Run}
use Rattle.salvage_kept.specs.Code.{R, beginning, pass_of, Holds}
use Rattle.salvage_kept.specs.Promises.{AllGood, Ready, RunIs, CanDrop, Drops, Settles}
use Rattle.salvage_kept.proofs.Holding.{holds_begin, holds-ends}
use Rattle.salvage_kept.proofs.Passing.{going-ends}
use Rattle.salvage_kept.proofs.Phase.{due-at_end}
use Rattle.salvage_kept.proofs.Feeding.{is-next}
use Rattle.salvage_kept.proofs.Running.{Alike, alike_then, still_ready}

-- the list, which was `old`, is ws; the memory, which was m, is n
pub record Goes (b : Bytes) (old ws : List ℕ) (p : Pass) (m n : Lent) (keep later spare after : Bytes) : Type 0 where
  pub holds : Holds b (listed_in b old) ws p n.carry later
  pub good : AllGood b ws
  pub long : length ws ≡ length old
  pub alike : Alike m n keep later spare after

pub goes-begins : {b : Bytes} {ws : List ℕ} {p : Pass} {m : Lent} {keep spare : Bytes} → Ready b ws m keep spare → p ≡ pass_of beginning beginning
    → Goes b ws ws p m m keep keep spare spare
goes-begins {b} {ws} {p} {m} {keep} r e = record {
  holds = rw e (holds_begin b ws m.carry keep);
  good = r.good;
  long = refl;
  alike = record { carry = refl; ends = refl; lengths = refl; kept = refl; frames = refl; keeps = refl; spares = refl };
}

-- a page less
each_less : (P : Good → Type 0) (A : List Good) (g : Good) (B : List Good) → Each P (A ++ (g ∷ B)) → Each P (A ++ B)
unfolding Each
each_less P [] g B e = e.1
each_less P (a ∷ A) g B e = (e.0, each_less P A g B e.1)

good-without : {b : Bytes} {ws : List ℕ} {at i : ℕ} → AllGood b ws → NextIs b ws at i → AllGood b (set ws i missing_place)
good-without {b} {ws} {at} {i} a n =
    subst (Each _) (sym (all_without b ws at i (good_in b (get_or ws i 0)) n.fore n.inside n.next (up_to-place n)))
    (each_less _ (pages_to b ws at) (good_in b (get_or ws i 0)) (pages_from b ws (suc i))
    (subst (Each _) (parted b at ws ∙ ap (λ (l : List Good). pages_to b ws at ++ l) n.next) a))

module _ {b : Bytes} {old ws : List ℕ} {p : Pass} {m n : Lent} {keep later spare after : Bytes} (ready : Ready b old m keep spare)
    (goes : Goes b old ws p m n keep later spare after) where
  pub goes-ready : Ready b ws n later after
  goes-ready =
      let r = still_ready ready goes.alike in
      record { good = goes.good; room = r.room; keeps = r.keeps; spares = r.spares }

  module _ {r : Run} {carried kept : Bytes} (run : RunIs b ws p n.carry later r carried kept) where
    fed : Holds b (listed_in b old) ws r.pass carried kept
    fed = run.holds (listed_in b old) goes.holds

    -- no page is left
    pub goes-ends : length ws ≤ r.index → {due : Bool} → due ≡ in_headers r.pass.now.core.phase → Settles b old ws due
    goes-ends h {due} e =
        let n = next-listed b ws r.pass.now.at in
        let end : length ws ≤ next_listed ws r.pass.now.at = rw run.index at h in
        let going = holds-ends fed (n.same ∙ n.none end) in
        record { pages = sym (going-ends R going); headers = e ∙ due-at_end going }

    module _ (inside : r.index < length ws) where
      nth : NextIs b ws r.pass.now.at r.index
      nth = is-next b ws r.pass.now.at r.index run.index inside

      pub can_drop : length kept ≡ length later → length carried ≡ length n.carry → CanDrop r.index ws carried kept
      can_drop k c = record { inside = inside; keeps = k ∙ sym goes-ready.keeps ∙ sym c }

      module _ {q : Pass} {list : List ℕ} {left : Bytes} (drops : Drops b ws r.pass r.index carried kept q list left) where
        pub goes_fewer : length (listed_in b list) < length (listed_in b ws)
        goes_fewer = rw drops.stored (fewer nth)

        pub goes_on : (o : Lent) (held : Bytes) → o.carry ≡ left → Alike n o later kept after held → Goes b old list q m o keep kept spare held
        goes_on o held e a = record {
          holds = rw e (drops.holds (listed_in b old) fed nth (run.refused (listed_in b old) goes.holds inside));
          good = rw drops.stored (good-without goes.good nth);
          long = ap length drops.stored ∙ length-set ws r.index missing_place ∙ goes.long;
          alike = alike_then goes.alike a;
        }
