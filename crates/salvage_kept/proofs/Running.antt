-- Pages are fed until one is refused. Assumes nothing.
use Rattle.std.specs.Prelude.{Option, Some, None}
use Rattle.std.proofs.Common.{◌≡◌, ℕ, suc, ◌-◌, ◌^◌, ◌<◌, ◌≤◌, false, List, length, sym, refl, ap, ◌∙◌, subst, arith}
use Rattle.octets.specs.Octets.{Bytes}
use Rattle.stream.specs.Lent.{Lent, is_short}
use Rattle.salvage_rules.specs.Good.{Good}
use Rattle.salvage_list.specs.declared.Listed.{Listed}
use Rattle.salvage_list.specs.Next.{next_listed, ListedIs}
use Rattle.salvage_list.proofs.Next.{further}
use Rattle.salvage_kept.specs.declared.Pass.{Pass}
use Rattle.salvage_kept.specs.Code.{Holds}
use Rattle.salvage_kept.specs.Promises.{CanFeed, IsNext, IsRefused, NextFedIs, Onward, Ready, RunIs}

-- lent memory of the same lengths
pub record Alike (m n : Lent) (keep later spare after : Bytes) : Type 0 where
  pub carry : length n.carry ≡ length m.carry
  pub ends : length n.ends ≡ length m.ends
  pub lengths : length n.lengths ≡ length m.lengths
  pub kept : length n.kept ≡ length m.kept
  pub frames : length n.frames ≡ length m.frames
  pub keeps : length later ≡ length keep
  pub spares : length after ≡ length spare

pub alike_then : {m n o : Lent} {a b c x y z : Bytes} → Alike m n a b x y → Alike n o b c y z → Alike m o a c x z
alike_then p q = record {
  carry = q.carry ∙ p.carry;
  ends = q.ends ∙ p.ends;
  lengths = q.lengths ∙ p.lengths;
  kept = q.kept ∙ p.kept;
  frames = q.frames ∙ p.frames;
  keeps = q.keeps ∙ p.keeps;
  spares = q.spares ∙ p.spares;
}

pub still_ready : {b : Bytes} {ws : List ℕ} {m n : Lent} {keep keeps spare spares : Bytes} → Ready b ws m keep spare
    → Alike m n keep keeps spare spares → Ready b ws n keeps spares
unfolding is_short
still_ready r a = record {
  good = r.good;
  room = rw (a.carry, a.ends, a.lengths, a.kept, a.frames) r.room;
  keeps = a.carry ∙ r.keeps ∙ sym a.keeps;
  spares = a.carry ∙ r.spares ∙ sym a.spares;
}

-- the run from the pass p, with the memory m, to the pass q, with the memory n
pub record Ran (b : Bytes) (ws : List ℕ) (p q : Pass) (m n : Lent) (keep keeps spare spares : Bytes) : Type 0 where
  pub holds : (G : List Good) → Holds b G ws p m.carry keep → Holds b G ws q n.carry keeps
  pub alike : Alike m n keep keeps spare spares

pub ran_not : (b : Bytes) (ws : List ℕ) (p : Pass) (m : Lent) (keep spare : Bytes) → Ran b ws p p m m keep keep spare spare
ran_not b ws p m keep spare = record {
  holds = λ G h. h;
  alike = record { carry = refl; ends = refl; lengths = refl; kept = refl; frames = refl; keeps = refl; spares = refl };
}

-- the next page is nearer to the end
pub nearer : (ws : List ℕ) (at i : ℕ) → i ≡ next_listed ws at → i < length ws → length ws - suc i < length ws - at
nearer ws at i e h =
    let below : next_listed ws at < length ws = rw e at h in
    omega (arith, e, further ws at below)

module _ {b : Bytes} {ws : List ℕ} {p q : Pass} {m n : Lent} {keep keeps spare spares : Bytes} (ready : Ready b ws m keep spare)
    (ran : Ran b ws p q m n keep keeps spare spares) {next : Listed} (is : ListedIs b ws q.now.prior q.now.cut q.now.at next) where
  -- the list is at its end
  pub run_over : length ws ≤ next.index → RunIs b ws p m.carry keep (record { pass = q; index = next.index }) n.carry keeps
  run_over h = record { index = is.index; holds = ran.holds; refused = λ G x l. absurd (omega arith) }

  module _ (inside : next.index < length ws) where
    pub can_feed : length ws < 2 ^ 64 → CanFeed next.index n.carry keeps spares
    can_feed f =
        let r = still_ready ready ran.alike in
        record { index = omega arith; keeps = r.keeps; spares = r.spares }

    next-is : (G : List Good) → Holds b G ws p m.carry keep → IsNext b G ws q next n keeps
    next-is G h = record {
      holds = ran.holds G h;
      good = ready.good;
      is = is;
      inside = inside;
      room = (still_ready ready ran.alike).room;
    }

    pub run_refused : (r : Option Pass) (carried later : Bytes)
        → ((G : List Good) (xs : List ℕ) → IsNext b G xs q next n keeps → NextFedIs b G xs q next.index r carried later) → r ≡ None
        → RunIs b ws p m.carry keep (record { pass = q; index = next.index }) carried later
    run_refused r carried later fed e = record {
      index = is.index;
      holds = λ G h. (refuses G h).0;
      refused = λ G h l. (refuses G h).1;
    }
      where
        refuses : (G : List Good) → Holds b G ws p m.carry keep → Holds b G ws q carried later × IsRefused b ws q next.index carried
        refuses G h = subst (λ (z : Option Pass). NextFedIs b G ws q next.index z carried later) e (fed G ws (next-is G h))

    module _ (r : Option Pass) (o : Lent) (later spare' : Bytes)
        (fed : (G : List Good) (xs : List ℕ) → IsNext b G xs q next n keeps → NextFedIs b G xs q next.index r o.carry later)
        (alike : Alike n o keeps later spares spare') where
      pub run_on : (x : Pass) → r ≡ Some x → Ran b ws p x m o keep later spare spare'
      run_on x e = record {
        holds = λ G h. subst (λ (z : Option Pass). NextFedIs b G ws q next.index z o.carry later) e (fed G ws (next-is G h));
        alike = alike_then ran.alike alike;
      }
