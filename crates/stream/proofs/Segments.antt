-- A page's packets by its segments are those by its pieces. Assumes nothing.
use Prim.Native.Nat.{ℕ, ◌+◌, ◌≤◌}
use mathlib.Core.Path.{◌≡◌, refl, sym, ap, ap₂, ◌∙◌}
use mathlib.Core.Bool.{Bool, true, false, not, ◌||◌, false≢true, true≢false}
use mathlib.Core.List.{List, [], ◌∷◌, ◌++◌, append-nil, append_assoc}
use mathlib.Core.Option.{Option, none, some}
use native.Mathlib.Omega.{arith}
use borrow.Author.Tests.{eqb-true, ne_eqb, ltb-false}
use lib.Dec.{ltb, eqb}
use lib.ListN.{length, take, drop, length-append}
use lib.Seq.{take-add, drop-drop}
use Rattle.octets.specs.Pick.{pick}
use Rattle.octets.specs.Octets.{Bytes}
use Rattle.page_lacing.specs.Lacing.{unfinished_from, cut_from}
use Rattle.stream.specs.Page.{Page, ends, whole_from, whole, rest}
use Rattle.stream.specs.State.{nothing, held, unfinished}
use Rattle.stream.specs.Packets.{begun, join}
use Rattle.stream.specs.Stream.{Segment, segments, segments_of, packets_from, left_from, open_from, carried_of}
use Rattle.stream.proofs.Pieces.{onwards, rest-size, non_empty, whole-ends}

-- ---- pieces and segments, m bytes being read already and h begun before them

abbrev add_first : Bytes → List Bytes → List Bytes
add_first h [] = []
add_first h (w ∷ ws) = (h ++ w) ∷ ws

add_none : (ws : List Bytes) → add_first [] ws ≡ ws
add_none [] = refl
add_none (w ∷ ws) = refl

-- one more value's bytes
taken_on : (h body : Bytes) (m v : ℕ) → (h ++ take m body) ++ take v (drop m body) ≡ h ++ take (m + v) body
taken_on h body m v = append_assoc h (take m body) (take v (drop m body)) ∙ ap (λ (s : Bytes). h ++ s) (sym (take-add m v body))

packets-cut : (h : Bytes) (m : ℕ) (l body : Bytes) → packets_from (h ++ take m body) (segments l (drop m body)) ≡ add_first h (whole_from m l body)
unfolding packets_from segments cut_from
packets-cut h m [] body = refl
packets-cut h m (v ∷ l) body =
    by (ltb v 255) (packets-cut [] 0 l (drop (m + v) body)) (packets-cut h (m + v) l body)
  where
    by : (t : Bool) → packets_from [] (segments l (drop (m + v) body)) ≡ add_first [] (whole_from 0 l (drop (m + v) body))
        → packets_from (h ++ take (m + v) body) (segments l (drop (m + v) body)) ≡ add_first h (whole_from (m + v) l body)
        → pick t (((h ++ take m body) ++ take v (drop m body)) ∷ packets_from [] (segments l (drop v (drop m body))))
        (packets_from ((h ++ take m body) ++ take v (drop m body)) (segments l (drop v (drop m body))))
        ≡ add_first h (onwards t (m + v) l body).whole
    by true anew again =
        rw (taken_on h body m v, drop-drop v m body)
        (ap (λ (ws : List Bytes). (h ++ take (m + v) body) ∷ ws) (anew ∙ add_none (whole_from 0 l (drop (m + v) body))))
    by false anew again = rw (taken_on h body m v, drop-drop v m body) again

left_cut : (h : Bytes) (m : ℕ) (l body : Bytes)
    → left_from (h ++ take m body) (segments l (drop m body)) ≡ pick (ends l) (cut_from m l body).rest (h ++ (cut_from m l body).rest)
unfolding left_from segments cut_from ends
left_cut h m [] body = refl
left_cut h m (v ∷ l) body = by (ltb v 255) (left_cut [] 0 l (drop (m + v) body)) (left_cut h (m + v) l body)
  where
    same : (t : Bool) (s : Bytes) → pick t s ([] ++ s) ≡ s
    same true s = refl
    same false s = refl

    by : (t : Bool) → left_from [] (segments l (drop (m + v) body))
        ≡ pick (ends l) (cut_from 0 l (drop (m + v) body)).rest ([] ++ (cut_from 0 l (drop (m + v) body)).rest)
        → left_from (h ++ take (m + v) body) (segments l (drop (m + v) body))
        ≡ pick (ends l) (cut_from (m + v) l body).rest (h ++ (cut_from (m + v) l body).rest)
        → pick t (left_from [] (segments l (drop v (drop m body))))
        (left_from ((h ++ take m body) ++ take v (drop m body)) (segments l (drop v (drop m body))))
        ≡ pick (t || ends l) (onwards t (m + v) l body).rest (h ++ (onwards t (m + v) l body).rest)
    by true anew again = rw (drop-drop v m body) (anew ∙ same (ends l) (cut_from 0 l (drop (m + v) body)).rest)
    by false anew again = rw (taken_on h body m v, drop-drop v m body) again

-- ---- whether a packet is unfinished

not-zero : (m v : ℕ) → ltb v 255 ≡ false → eqb (m + v) 0 ≡ false
not-zero m v e = ne_eqb (m + v) 0 (λ z. (let k : 255 ≤ v = ltb-false v 255 e in omega arith))

open_cut : (m : ℕ) (l body : Bytes) → eqb (unfinished_from m l) 0 ≡ not (open_from (not (eqb m 0)) (segments l body))
unfolding unfinished_from open_from segments
open_cut m [] body = twice (eqb m 0)
  where
    twice : (t : Bool) → t ≡ not (not t)
    twice true = refl
    twice false = refl
open_cut m (v ∷ l) body = by (ltb v 255) refl (open_cut 0 l (drop v body)) (open_cut (m + v) l (drop v body))
  where
    by : (t : Bool) → ltb v 255 ≡ t → eqb (unfinished_from 0 l) 0 ≡ not (open_from (not (eqb 0 0)) (segments l (drop v body)))
        → eqb (unfinished_from (m + v) l) 0 ≡ not (open_from (not (eqb (m + v) 0)) (segments l (drop v body)))
        → eqb (pick t (unfinished_from 0 l) (unfinished_from (m + v) l)) 0 ≡ not (open_from (not t) (segments l (drop v body)))
    by true e anew again = anew
    by false e anew again = again ∙ ap (λ (t : Bool). not (open_from (not t) (segments l (drop v body)))) (not-zero m v e)

-- where a value ends a packet, what was open before does not matter
open_any : (o : Bool) (l body : Bytes) → ends l ≡ true → open_from o (segments l body) ≡ open_from false (segments l body)
unfolding ends open_from segments
open_any o [] body e = absurd (false≢true e)
open_any o (v ∷ l) body e = refl

-- where none does, it stays open
open_on_lem : (l body : Bytes) → ends l ≡ false → open_from true (segments l body) ≡ true
unfolding ends open_from segments
open_on_lem [] body e = refl
open_on_lem (v ∷ l) body e = by (ltb v 255) e (open_on_lem l (drop v body))
  where
    by : (t : Bool) → (t || ends l) ≡ false → (ends l ≡ false → open_from true (segments l (drop v body)) ≡ true)
        → open_from (not t) (segments l (drop v body)) ≡ true
    by true e again = absurd (true≢false e)
    by false e again = again e

-- ---- what is carried

-- nothing is begun where nothing is open
abbrev pub Begun : Bool → Bytes → Type 0
Begun o h = o ≡ false → h ≡ []

pub begun-left : (o : Bool) (h : Bytes) (ss : List Segment) → Begun o h → Begun (open_from o ss) (left_from h ss)
unfolding open_from left_from
begun-left o h [] k = k
begun-left o h (s ∷ ss) k = by s.ends (begun-left false [] ss (λ e. refl)) (begun-left true (h ++ s.bytes) ss (λ e. absurd (true≢false e)))
  where
    by : (t : Bool) → Begun (open_from false ss) (left_from [] ss) → Begun (open_from true ss) (left_from (h ++ s.bytes) ss)
        → Begun (open_from (not t) ss) (pick t (left_from [] ss) (left_from (h ++ s.bytes) ss))
    by true anew again = anew
    by false anew again = again

pub carried_open : (o : Bool) (h : Bytes) → unfinished (carried_of o h) ≡ o
carried_open true h = refl
carried_open false h = refl

begun-carried : (o : Bool) (s : Bytes) → begun (pick (not o) none (some s)) ≡ carried_of o s
begun-carried true s = refl
begun-carried false s = refl

nothing_joins : (ws : List Bytes) (r : Option Bytes) → ((join nothing ws r).packets ≡ ws) × ((join nothing ws r).left ≡ begun r)
unfolding join
nothing_joins [] r = (refl, refl)
nothing_joins (w ∷ ws) r = (refl, refl)

held_joins : (n : ℕ) (h : Bytes) (ws : List Bytes) (r : Option Bytes) → (join (held n h) ws r).packets ≡ add_first h ws
unfolding join
held_joins n h [] none = refl
held_joins n h [] (some b) = refl
held_joins n h (w ∷ ws) r = refl

held-left : (n : ℕ) (h : Bytes) (ws : List Bytes) (r : Option Bytes) → non_empty ws ≡ true → (join (held n h) ws r).left ≡ begun r
unfolding join
held-left n h [] r e = absurd (false≢true e)
held-left n h (w ∷ ws) r e = refl

-- none completes: the rest s is added, which is empty where there is none
held_grows : (h : Bytes) (ws : List Bytes) (t : Bool) (s : Bytes) → non_empty ws ≡ false → (t ≡ true → s ≡ [])
    → (join (held (length h) h) ws (pick t none (some s))).left ≡ held (length (h ++ s)) (h ++ s)
unfolding join
held_grows h [] true s e k = ap (λ (x : Bytes). held (length x) x) (sym (ap (λ (y : Bytes). h ++ y) (k refl) ∙ append-nil h))
held_grows h [] false s e k = ap (λ (n : ℕ). held n (h ++ s)) (sym (length-append h s))
held_grows h (w ∷ ws) t s e k = absurd (true≢false e)

no_bytes : (s : Bytes) → length s ≤ 0 → s ≡ []
no_bytes [] e = refl
no_bytes (b ∷ s) e = absurd (omega arith)

pub record Joins (o : Bool) (h : Bytes) (p : Page) : Type 0 where
  pub packets : (join (carried_of o h) (whole p) (rest p)).packets ≡ packets_from h (segments_of p)
  pub left : (join (carried_of o h) (whole p) (rest p)).left ≡ carried_of (open_from o (segments_of p)) (left_from h (segments_of p))

module _ (p : Page) where
  abbrev l : Bytes
  l = p.lacing

  abbrev body : Bytes
  body = p.body

  abbrev tail : Bytes
  tail = (cut_from 0 l body).rest

  open_rest : rest p ≡ pick (not (open_from false (segments_of p))) none (some tail)
  unfolding rest segments_of
  open_rest = ap (λ (t : Bool). pick t none (some tail)) (open_cut 0 l body)

  nothing_left : (join nothing (whole p) (rest p)).left ≡ carried_of (open_from false (segments_of p)) (left_from [] (segments_of p))
  unfolding segments_of
  nothing_left =
      (nothing_joins (whole p) (rest p)).1 ∙ ap begun open_rest ∙ begun-carried (open_from false (segments l body)) tail
      ∙ ap (carried_of (open_from false (segments l body))) (sym (left_cut [] 0 l body ∙ same (ends l) tail))
    where
      same : (t : Bool) (s : Bytes) → pick t s ([] ++ s) ≡ s
      same true s = refl
      same false s = refl

  -- after a packet ended, or none
  held_on : (h : Bytes) (t : Bool) → ends l ≡ t
      → (join (held (length h) h) (whole p) (rest p)).left ≡ carried_of (open_from true (segments_of p)) (left_from h (segments_of p))
  unfolding segments_of whole rest
  held_on h true e =
      held-left (length h) h (whole p) (rest p) (whole-ends 0 l body ∙ e) ∙ ap begun open_rest ∙ begun-carried (open_from false (segments l body)) tail
      ∙ ap₂ carried_of (sym (open_any true l body e)) (sym (shift h ∙ ap (λ (t : Bool). pick t tail (h ++ tail)) e))
    where
      shift : (h : Bytes) → left_from h (segments l body) ≡ pick (ends l) tail (h ++ tail)
      shift h = ap (λ (s : Bytes). left_from s (segments l body)) (sym (append-nil h)) ∙ left_cut h 0 l body
  held_on h false e =
      held_grows h (whole p) (eqb (unfinished_from 0 l) 0) tail (whole-ends 0 l body ∙ e) empty
      ∙ ap₂ carried_of (sym (open_on_lem l body e)) (sym (shift h ∙ ap (λ (t : Bool). pick t tail (h ++ tail)) e))
    where
      shift : (h : Bytes) → left_from h (segments l body) ≡ pick (ends l) tail (h ++ tail)
      shift h = ap (λ (s : Bytes). left_from s (segments l body)) (sym (append-nil h)) ∙ left_cut h 0 l body

      empty : eqb (unfinished_from 0 l) 0 ≡ true → tail ≡ []
      empty z =
          no_bytes tail
          (let a : length tail ≤ unfinished_from (0 + 0) l = rest-size 0 0 l body in let b : unfinished_from 0 l
          ≡ 0 = eqb-true (unfinished_from 0 l) 0 z in omega arith)

pub joins : (o : Bool) (h : Bytes) (p : Page) → Begun o h → Joins o h p
unfolding segments_of whole
joins true h p k = record {
  packets = held_joins (length h) h (whole p) (rest p)
      ∙ sym (ap (λ (s : Bytes). packets_from s (segments p.lacing p.body)) (sym (append-nil h)) ∙ packets-cut h 0 p.lacing p.body);
  left = held_on p h (ends p.lacing) refl;
}
joins false h p k = record {
  packets = (nothing_joins (whole p) (rest p)).0
      ∙ sym (ap (λ (s : Bytes). packets_from s (segments p.lacing p.body)) (k refl) ∙ packets-cut [] 0 p.lacing p.body
      ∙ add_none (whole p));
  left = nothing_left p ∙ ap (λ (s : Bytes). carried_of (open_from false (segments_of p)) (left_from s (segments_of p))) (sym (k refl));
}
