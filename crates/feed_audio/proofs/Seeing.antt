-- What the code reads off the lacing values is what `seen` says of the page: the packets, the rest, what is appended. Assumes
-- nothing.
use Prim.Native.Nat.{ℕ, ◌+◌, ◌-◌, ◌≤◌}
use mathlib.Core.Path.{◌≡◌, refl, sym, ap, ap₂, ◌∙◌}
use mathlib.Core.Bool.{Bool, true, false}
use mathlib.Core.List.{List, [], ◌∷◌, ◌++◌}
use mathlib.Core.Option.{Option, none, some}
use native.Mathlib.Nat.{zero-add, add-zero}
use native.Mathlib.Omega.{arith}
use borrow.Author.Tests.{eqb-true}
use lib.Dec.{ltb, eqb}
use lib.ListN.{length, take, drop, length-drop}
use lib.Seq.{take-paste, length-take-le, take_all, drop-drop}
use Rattle.octets.specs.Pick.{pick}
use Rattle.octets.specs.Octets.{Bytes, total, copied}
use Rattle.octets.proofs.Copying.{copied-fits}
use Rattle.page_lacing.specs.Lacing.{cut_from, unfinished_from}
use Rattle.stream.specs.declared.Phase.TheVariants.{Audio}
use Rattle.stream.specs.declared.Pending.{Pending}
use Rattle.stream.specs.declared.Pending.TheVariants.{Nothing, Held, Dropped}
use Rattle.stream.specs.Page.{whole_from, rest_from}
use Rattle.stream.specs.State.{Carried, nothing, dropped, held}
use Rattle.stream.specs.Packets.{Seen, join, begun}
use Rattle.stream.specs.Feed.{carried_in, pending_of, first_piece, new_rest, appended}
use Rattle.stream.proofs.Pieces.{onwards}
use Rattle.feed_audio.specs.Code.{first_from, packets_by, held_end, rest_of, begun_by, still_by, fresh_by}
use Rattle.feed_audio.proofs.Splitting.{Ended, Open}
use Rattle.feed_lacing.specs.Scan.{tail_by}

-- ---- the rest is the end of the body

pub tail_le : (l : Bytes) (n : ℕ) → unfinished_from n l ≤ n + total l
unfolding unfinished_from total
tail_le [] n = omega arith
tail_le (v ∷ l) n = by (ltb v 255) (tail_le l 0) (tail_le l (n + v))
  where
    by : (b : Bool) → unfinished_from 0 l ≤ 0 + total l → unfinished_from (n + v) l ≤ n + v + total l
        → pick b (unfinished_from 0 l) (unfinished_from (n + v) l) ≤ n + (v + total l)
    by true p q = omega arith
    by false p q = omega arith

drop_to_end : (k t : ℕ) (body : Bytes) → k + t ≤ length body → drop (length (drop k body) - t) (drop k body) ≡ drop (length body - t) body
drop_to_end k t body h =
    let e : k + (length body - k - t) ≡ length body - t = omega arith in
    rw (length-drop, drop-drop, e)

rest-tail : (l : Bytes) (n : ℕ) (body : Bytes) → n + total l ≡ length body → (cut_from n l body).rest ≡ drop (length body - unfinished_from n l) body
unfolding cut_from unfinished_from total
rest-tail [] n body h =
    let z : length body - n ≡ 0 = omega arith in
    rw z (take_all n body (omega arith))
rest-tail (v ∷ l) n body h =
    by (ltb v 255) (λ (k : 0 + total l ≡ length (drop (n + v) body)). rest-tail l 0 (drop (n + v) body) k) (λ (k : n + v + total l ≡ length body). rest-tail l (n + v) body k)
  where
    by : (b : Bool) → (0 + total l ≡ length (drop (n + v) body) → (cut_from 0 l (drop (n + v) body)).rest ≡ drop (length (drop (n + v) body) - unfinished_from 0 l) (drop (n + v) body))
        → (n + v + total l ≡ length body → (cut_from (n + v) l body).rest ≡ drop (length body - unfinished_from (n + v) l) body)
        → (onwards b (n + v) l body).rest ≡ drop (length body - pick b (unfinished_from 0 l) (unfinished_from (n + v) l)) body
    by true anew again =
        let fits : n + v + unfinished_from 0 l ≤ length body = omega (arith, tail_le l 0) in
        anew (simp length-drop (omega arith)) ∙ drop_to_end (n + v) (unfinished_from 0 l) body fits
    by false anew again = again (omega arith)

pub rest-is : (l body : Bytes) → total l ≡ length body → rest_from 0 l body ≡ rest_of (unfinished_from 0 l) body
unfolding rest_of
rest-is l body h =
    ap (λ (b : Bytes). pick (eqb (unfinished_from 0 l) 0) none (some b)) (rest-tail l 0 body (omega arith))

-- what is left of a body, as pending
pub begun-rest : (t : ℕ) (body : Bytes) → t ≤ length body → pending_of (begun (rest_of t body)) ≡ begun_by t
unfolding rest_of
begun-rest t body h = by (eqb t 0)
  where
    size : length (drop (length body - t) body) ≡ t
    size = length-drop (length body - t) body ∙ omega arith

    by : (b : Bool) → pending_of (begun (pick b none (some (drop (length body - t) body)))) ≡ pick b Nothing (Held t)
    by true = refl
    by false = ap Held size

-- ---- the held packet is whole in the carry buffer once its last piece is appended

pub appended-first : (n b : ℕ) (body carry : Bytes) → b ≤ length body → n + b ≤ length carry
    → take (n + b) (copied carry n (take b body)) ≡ take n carry ++ take b body
appended-first n b body carry h r =
    let m : length (take b body) ≡ b = length-take-le b body h in
    let within : n ≤ length carry = omega arith in
    rw (copied-fits carry n (take b body) (omega arith), m)
    (take-paste carry n (take b body) b within (omega arith) ∙ ap (λ (x : Bytes). take n carry ++ x) (take_all b (take b body) (omega arith)))

-- ---- where a packet completes

abbrev pub completing : List Bytes → Option Bytes → Seen
completing ps r = record { packets = ps; left = begun r; completes = true }

module _ (l body carry : Bytes) (sums : total l ≡ length body) (e : Ended 0 l (first_from 0 l)) where
  abbrev k : ℕ
  k = (first_from 0 l).values

  abbrev b : ℕ
  b = (first_from 0 l).bytes

  tail-after : (h : ℕ) → unfinished_from h l ≡ unfinished_from 0 (drop k l)
  tail-after h = let z : h ≡ h + 0 = omega arith in ap (λ (n : ℕ). unfinished_from n l) z ∙ e.tail h

  pub tail-here : (pending : Pending) → tail_by pending l ≡ unfinished_from 0 l
  tail-here Nothing = refl
  tail-here (Held n) = tail-after n ∙ sym (tail-after 0)
  tail-here Dropped = ap (unfinished_from 0) e.after ∙ sym (tail-after 0)

  rest-here : (pending : Pending) → rest_from 0 l body ≡ rest_of (tail_by pending l) body
  rest-here pending = rest-is l body sums ∙ ap (λ (t : ℕ). rest_of t body) (sym (tail-here pending))

  pub ended : (pending : Pending) → held_end pending b ≤ length carry
      → join (carried_in pending carry) (whole_from 0 l body) (rest_from 0 l body)
      ≡ completing (packets_by pending k b l body (appended Audio (carried_in pending carry) (take b body) carry)) (rest_of (tail_by pending l) body)
  unfolding join
  ended Nothing room =
      ap (λ (ws : List Bytes). join nothing ws (rest_from 0 l body)) (e.whole body)
      ∙ ap₂ completing (sym (e.whole body)) (rest-here Nothing)
  ended (Held n) room =
      let fits : b ≤ length body = omega (arith, e.sums) in
      ap (λ (ws : List Bytes). join (held n (take n carry)) ws (rest_from 0 l body)) (e.whole body)
      ∙ ap₂ completing (ap (λ (w : Bytes). w ∷ whole_from 0 (drop k l) (drop b body)) (sym (appended-first n b body carry fits room))) (rest-here (Held n))
  ended Dropped room =
      ap (λ (ws : List Bytes). join dropped ws (rest_from 0 l body)) (e.whole body)
      ∙ ap₂ completing refl (rest-here Dropped)

  pub first_ended : first_piece (whole_from 0 l body) (rest_from 0 l body) ≡ take b body
  first_ended = ap (λ (ws : List Bytes). first_piece ws (rest_from 0 l body)) (e.whole body)

  pub rest_ended : (pending : Pending) → new_rest (carried_in pending carry) (whole_from 0 l body) (rest_from 0 l body) ≡ rest_of (tail_by pending l) body
  rest_ended Nothing = rest-here Nothing
  rest_ended (Held n) = ap (λ (ws : List Bytes). new_rest (held n (take n carry)) ws (rest_from 0 l body)) (e.whole body) ∙ rest-here (Held n)
  rest_ended Dropped = ap (λ (ws : List Bytes). new_rest dropped ws (rest_from 0 l body)) (e.whole body) ∙ rest-here Dropped

-- ---- where none does

abbrev pub going : Carried → Seen
going c = record { packets = []; left = c; completes = false }

module _ (l body carry : Bytes) (sums : total l ≡ length body) (o : Open 0 l (first_from 0 l)) where
  abbrev ob : ℕ
  ob = (first_from 0 l).bytes

  all-body : ob ≡ length body
  all-body = o.sums ∙ zero-add (total l) ∙ sums

  tail_open : (h : ℕ) → unfinished_from h l ≡ h + ob
  tail_open h = let z : h ≡ h + 0 = omega arith in ap (λ (n : ℕ). unfinished_from n l) z ∙ o.tail h

  -- all of the body, if it has any
  all_rest : rest_from 0 l body ≡ rest_of ob body
  all_rest = rest-is l body sums ∙ ap (λ (t : ℕ). rest_of t body) (tail_open 0 ∙ zero-add ob)

  pub first_open : first_piece (whole_from 0 l body) (rest_from 0 l body) ≡ take ob body
  unfolding rest_of
  first_open = ap₂ first_piece (o.whole body) all_rest ∙ by (eqb ob 0) refl
    where
      by : (t : Bool) → eqb ob 0 ≡ t → first_piece [] (pick t none (some (drop (length body - ob) body))) ≡ take ob body
      by true e = let z : ob ≡ 0 = eqb-true ob 0 e in rw z
      by false e =
          let z : length body - ob ≡ 0 = omega (arith, all-body) in
          rw z (sym (take_all ob body (omega (arith, all-body))))

  pub rest_open : (pending : Pending) → new_rest (carried_in pending carry) (whole_from 0 l body) (rest_from 0 l body) ≡ rest_of (fresh_by pending (tail_by pending l)) body
  unfolding rest_of
  rest_open Nothing = rest-is l body sums
  rest_open (Held n) = ap (λ (ws : List Bytes). new_rest (held n (take n carry)) ws (rest_from 0 l body)) (o.whole body)
  rest_open Dropped = ap (λ (ws : List Bytes). new_rest dropped ws (rest_from 0 l body)) (o.whole body)

  -- what is carried on, and as what it is pending
  pub record Carries (pending : Pending) : Type 0 where
    pub left : Carried
    pub seen : join (carried_in pending carry) (whole_from 0 l body) (rest_from 0 l body) ≡ going left
    pub still : pending_of left ≡ still_by pending (tail_by pending l)

  held_on : (n : ℕ) (r : Option Bytes) (h : Bytes) → (c : Carried) × ((join (held n h) [] r ≡ going c) × (pending_of c ≡ Held (n + length (first_piece [] r))))
  unfolding join
  held_on n none h = (held n h, (refl, ap Held (sym (add-zero n))))
  held_on n (some w) h = (held (n + length w) (h ++ w), (refl, refl))

  pub carries : (pending : Pending) → Carries pending
  unfolding join
  carries Nothing = record {
    left = begun (rest_from 0 l body);
    seen = ap (λ (ws : List Bytes). join nothing ws (rest_from 0 l body)) (o.whole body);
    still = ap (λ (r : Option Bytes). pending_of (begun r)) (rest-is l body sums) ∙ begun-rest (unfinished_from 0 l) body (omega (arith, tail_le l 0));
  }
  carries (Held n) =
      let on = held_on n (rest_from 0 l body) (take n carry) in
      let size : length (first_piece [] (rest_from 0 l body)) ≡ ob =
      (ap (λ (ws : List Bytes). length (first_piece ws (rest_from 0 l body))) (sym (o.whole body)) ∙ ap length first_open ∙ length-take-le ob body (omega (arith, all-body))) in
      record {
        left = on.0;
        seen = ap (λ (ws : List Bytes). join (held n (take n carry)) ws (rest_from 0 l body)) (o.whole body) ∙ on.1.0;
        still = on.1.1 ∙ ap (λ (t : ℕ). Held (n + t)) size ∙ ap Held (sym (tail_open n));
      }
  carries Dropped = record {
    left = dropped;
    seen = ap (λ (ws : List Bytes). join dropped ws (rest_from 0 l body)) (o.whole body);
    still = refl;
  }
