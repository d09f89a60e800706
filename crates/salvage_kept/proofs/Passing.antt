-- The pass, one page after the other: what it has found stays true, and at the end it has found the settled pages. Assumes nothing.
use Rattle.std.proofs.Common.{◌≡◌, ℕ, suc, ◌+◌, Bool, true, false, List, [], ◌∷◌, ◌++◌, map, length, sym, refl, ap, ◌∙◌, subst, ap₂, inl, inr, append_assoc, append-nil, arith, length-append}
use mathlib.Core.Option.{none, some}
use Rattle.octets.specs.Octets.{Bytes}
use Rattle.refusal.specs.declared.Refusal.{Refusal}
use Rattle.stream.specs.Readings.{Readings}
use Rattle.stream.specs.State.{State}
use Rattle.stream.specs.Rules.{verdict, after}
use Rattle.recording.specs.Judging.{first_refused, fresh}
use Rattle.salvage_rules.specs.Good.{Good}
use Rattle.salvage_rules.specs.Tidy.{goes_through, cut_after, no_page}
use Rattle.salvage_rules.specs.Rounds.{page_out, pages_out, refused_in, rounds, settled}
use Rattle.salvage_rules.specs.Steps.{tidy_with, bit_of, state_after, first_out, next_out}
use Rattle.salvage_rules.proofs.Settling.{accepted-settled}
use Rattle.salvage_rules.proofs.Steps.{round_drops}
use Rattle.salvage_kept.specs.Pass.{Accepted, Going, Begins, Stable, Saved}
use Rattle.salvage_kept.proofs.Outputs.{first_more, first-whole, bit-last, stable-bit, state-more, accepted-more}

module _ (R : Readings) where
  -- ---- pages that are accepted

  none-fed : (B : List Good) → Accepted R [] B fresh false
  unfolding first_refused state_after tidy_with bit_of
  none-fed B = record { accepted = refl; state = refl; cut = refl }

  -- with the next one
  one-fed : {K : List Good} {g : Good} {B : List Good} {s : State} {t : Bool} → Accepted R K (g ∷ B) s t → verdict R s (next_out K g B) ≡ none
      → Accepted R (K ++ (g ∷ [])) B (after R s (next_out K g B)) (cut_after g.page B)
  one-fed {K} {g} {B} {s} {t} a v =
      let out : List Bytes = first_out K (g ∷ B) in
      let ok : verdict R (state_after R fresh out) (next_out K g B) ≡ none = rw a.state at v in
      record {
        accepted = ap (first_refused R fresh 0) (first_more K g B) ∙ accepted-more R fresh 0 out (next_out K g B) a.accepted ok;
        state =
            ap (λ (x : State). after R x (next_out K g B)) a.state ∙ sym (state-more R fresh out (next_out K g B))
            ∙ ap (state_after R fresh) (sym (first_more K g B));
        cut = sym (bit-last K g B);
      }

  -- other pages after them, where that leaves the bit
  same-fed : {K B C : List Good} {s : State} {t : Bool} → bit_of K B ≡ bit_of K C → Accepted R K B s t → Accepted R K C s t
  same-fed {K} {B} {C} {s} {t} e a =
      let out : first_out K B ≡ first_out K C = ap (λ (u : Bool). map page_out (tidy_with no_page 0 u K)) e in
      record {
        accepted = ap (first_refused R fresh 0) (sym out) ∙ a.accepted;
        state = a.state ∙ ap (state_after R fresh) out;
        cut = a.cut ∙ e;
      }

  -- ---- rounds

  pub going-begins : (G : List Good) → Going R G [] G fresh false
  going-begins G = record { rounds = refl; fed = none-fed G }

  pub going_on : {G K : List Good} {g : Good} {B : List Good} {s : State} {t : Bool} → Going R G K (g ∷ B) s t
      → verdict R s (next_out K g B) ≡ none → Going R G (K ++ (g ∷ [])) B (after R s (next_out K g B)) (cut_after g.page B)
  going_on {G} {K} {g} {B} w v = record {
    rounds = w.rounds ∙ ap (settled R) (sym (append_assoc K (g ∷ []) B));
    fed = one-fed w.fed v;
  }

  -- a refused page goes missing
  dropped : {G K : List Good} {g : Good} {B : List Good} {s : State} {t : Bool} → Going R G K (g ∷ B) s t → (r : Refusal)
      → verdict R s (next_out K g B) ≡ some r → settled R G ≡ settled R (K ++ B)
  unfolding settled
  dropped {G} {K} {g} {B} {s} {t} w r v =
      let n : length (K ++ (g ∷ B)) ≡ suc (length (K ++ B)) = simp length-append (omega arith) in
      let no : verdict R (state_after R fresh (first_out K (g ∷ B))) (next_out K g B) ≡ some r = rw w.fed.state at v in
      w.rounds ∙ ap (λ (k : ℕ). rounds R k (K ++ (g ∷ B))) n ∙ round_drops R (length (K ++ B)) K g B r w.fed.accepted no

  pub going-without : {G K : List Good} {g : Good} {B : List Good} {s : State} {t : Bool} → Going R G K (g ∷ B) s t → (r : Refusal)
      → verdict R s (next_out K g B) ≡ some r → bit_of K B ≡ t → Going R G K B s t
  going-without w r v e = record { rounds = dropped w r v; fed = same-fed (sym w.fed.cut ∙ sym e) w.fed }

  -- ---- the point to go back to

  pub saved_begin : (K B : List Good) → Saved R K B [] K fresh false
  saved_begin K B = record { parts = refl; stable = inl refl; fed = none-fed (K ++ B) }

  -- before a page on which the packet before it ends
  pub saved-here : {G K : List Good} {g : Good} {B : List Good} {s : State} {t : Bool} → Going R G K (g ∷ B) s t
      → goes_through g.page ≡ false → Saved R (K ++ (g ∷ [])) B K (g ∷ []) s t
  saved-here {G} {K} {g} {B} w e = record {
    parts = refl;
    stable = inr (record { first = g; later = []; parts = refl; ends = e });
    fed = w.fed;
  }

  -- it stays with one page more
  pub saved-more : {K : List Good} {g : Good} {B J C : List Good} {s : State} {t : Bool} → Saved R K (g ∷ B) J C s t
      → Saved R (K ++ (g ∷ [])) B J (C ++ (g ∷ [])) s t
  saved-more {K} {g} {B} {J} {C} {s} {t} w = record {
    parts = ap (λ (l : List Good). l ++ (g ∷ [])) w.parts ∙ append_assoc J C (g ∷ []);
    stable = longer w.stable;
    fed = subst (λ (l : List Good). Accepted R J l s t) (sym (append_assoc C (g ∷ []) B)) w.fed;
  }
    where
      longer : Stable J C → Stable J (C ++ (g ∷ []))
      longer (inl e) = inl e
      longer (inr b) = inr (record { first = b.first; later = b.later ++ (g ∷ []); parts = ap (λ (l : List Good). l ++ (g ∷ [])) b.parts; ends = b.ends })

  -- and without the next one
  pub saved-without : {K : List Good} {g : Good} {B J C : List Good} {s : State} {t : Bool} → Saved R K (g ∷ B) J C s t → Saved R K B J C s t
  saved-without {K} {g} {B} {J} {C} w = record {
    parts = w.parts;
    stable = w.stable;
    fed = same-fed (stable-bit J C (g ∷ B) B w.stable) w.fed;
  }

  pub going-back : {G K : List Good} {g : Good} {B J C : List Good} {s x : State} {t u : Bool} → Going R G K (g ∷ B) s t → (r : Refusal)
      → verdict R s (next_out K g B) ≡ some r → Saved R K (g ∷ B) J C x u → Going R G J (C ++ B) x u
  going-back {G} {K} {g} {B} {J} {C} w r v p = record {
    rounds = dropped w r v ∙ ap (λ (l : List Good). settled R (l ++ B)) p.parts ∙ ap (settled R) (append_assoc J C B);
    fed = (saved-without p).fed;
  }

  -- ---- the end

  pub going-ends : {G K : List Good} {s : State} {t : Bool} → Going R G K [] s t → settled R G ≡ K
  unfolding refused_in
  going-ends {G} {K} w =
      w.rounds ∙ ap (settled R) (append-nil K) ∙ accepted-settled R K (ap (first_refused R fresh 0) (sym (first-whole K)) ∙ w.fed.accepted)
