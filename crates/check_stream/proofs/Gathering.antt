-- The comment packet put together from the bodies of its pages. Assumes nothing.
use Prim.Native.Nat.{ℕ, zero, suc, ◌+◌, ◌≤◌, ◌<◌}
use mathlib.Core.Path.{◌≡◌, refl, sym, ap, ap₂, subst, ◌∙◌}
use mathlib.Core.Bool.{Bool, true, false}
use mathlib.Core.List.{List, [], ◌∷◌, ◌++◌, map}
use native.Mathlib.Omega.{arith}
use borrow.Author.Tests.{ltb-true, ltb-false}
use lib.Dec.{ltb}
use lib.ListN.{length, take, drop, length-append, length-drop, length-take, drop_of_length-le, length-replicate}
use lib.Seq.{take_at, take-length}
use Rattle.octets.specs.Octets.{Bytes, copied}
use Rattle.octets.proofs.Copying.{copied-fits}
use Rattle.limits.specs.Limits.{packet_max}
use Rattle.page_layout.specs.Page.{body_of}
use Rattle.text_put.specs.Writing.{Laid}
use Rattle.text_put.proofs.Filling.{Filling, filling_first, filling_next, filling_done}
use Rattle.stream.specs.Page.{page_of}
use Rattle.feed_pages.specs.Feedings.{together}
use Rattle.recording.specs.Pages.{pages_of}
use Rattle.recording.proofs.Passing.{empty_cons}
use Rattle.recording.proofs.Streams.{zeros}
use Rattle.recording_pages.specs.Places.{page_at, header_count}
use Rattle.recording_pages.proofs.Places.{At, Next, at_first, at_end_lem, at_next}
use Rattle.recording_pages.proofs.Headers.{header-few}
use Rattle.check_rules.specs.Findings.{comment_packet}
use Rattle.check_stream.specs.Code.{CanGather, Headed}
use Rattle.check_stream.proofs.Comment.{body_in, packet-fits}

-- the bodies of the header pages from page k on
abbrev bodies_from : List Bytes → ℕ → Bytes
bodies_from S k = together (map body_in (drop k (take (header_count S) S)))

take-here : (n k : ℕ) (S : List Bytes) (p : Bytes) (later : List Bytes) → k < n → drop k S ≡ p ∷ later → drop k (take n S) ≡ p ∷ drop (suc k) (take n S)
take-here zero k S p later h e = absurd (omega arith)
take-here (suc n) zero [] p later h e = empty_cons e
take-here (suc n) zero (b ∷ S) p later h e = let same : b ≡ p = cc in ap (λ (c : Bytes). c ∷ take n S) same
take-here (suc n) (suc k) [] p later h e = empty_cons e
take-here (suc n) (suc k) (b ∷ S) p later h e = take-here n k S p later (omega arith) e

module _ (b : Bytes) where
  abbrev S : List Bytes
  S = pages_of b

  -- a page of the headers is there
  there : (k at : ℕ) → At b k at → k < header_count S → at < length b
  there k at a h = by (ltb at (length b)) refl
    where
      by : (t : Bool) → ltb at (length b) ≡ t → at < length b
      by true e = ltb-true at (length b) e
      by false e =
          let none_left : length (drop k S) ≡ 0 = ap length (at_end_lem b k at a (ltb-false at (length b) e)) in
          absurd (omega (arith, none_left, length-drop k S, header-few S))

  -- of the packet, which goes to the bytes `old`, the bodies from page k on are left; that page begins at the place `at`
  pub record Gathers (old out : Bytes) (k at size : ℕ) : Type 0 where
    pub place : k < header_count S → At b k at
    pub filling : Filling old 0 (comment_packet S) out size (bodies_from S k)

  pub gathers_first : (old : Bytes) (at : ℕ) → at ≡ length (page_at b 0) → Gathers old old 1 at 0
  unfolding comment_packet
  gathers_first old at e = record {
    place = λ h. (let n : Next b 0 0 = at_next b 0 0 (at_first b) (there 0 0 (at_first b) (omega arith)) in
        let z : 0 + length (page_at b 0) ≡ at = omega (arith, e) in subst (At b 1) z n.next);
    filling = filling_first old 0 (comment_packet S);
  }

  module _ (old out : Bytes) (k at size headers : ℕ) (can : CanGather b headers old) (g : Gathers old out k at size) where
    pub gathers_end : headers ≤ k → Laid old 0 (comment_packet S) size out
    unfolding together
    gathers_end h =
        let few : length (take (header_count S) S) ≤ k = omega (arith, can.pages, length-take (header_count S) S) in
        let none_left : bodies_from S k ≡ [] = ap (λ (l : List Bytes). together (map body_in l)) (drop_of_length-le (take (header_count S) S) few) in
        filling_done (subst (Filling old 0 (comment_packet S) out size) none_left g.filling) (omega (arith, can.room))

    module _ (more : k < headers) (p body : Bytes) (is : p ≡ page_at b at) (its : body ≡ body_of p) where
      here : At b k at
      here = g.place (omega (arith, can.pages))

      next : Next b k at
      next = at_next b k at here (there k at here (omega (arith, can.pages)))

      left_is : bodies_from S k ≡ body ++ bodies_from S (k + 1)
      unfolding together page_of
      left_is =
          let one : suc k ≡ k + 1 = omega arith in
          ap (λ (l : List Bytes). together (map body_in l)) (take-here (header_count S) k S (page_at b at) _ (omega (arith, can.pages)) next.page)
          ∙ ap₂ (λ (s : Bytes) (i : ℕ). s ++ bodies_from S i) (ap body_of (sym is) ∙ sym its) one

      filling : Filling old 0 (comment_packet S) out size (body ++ bodies_from S (k + 1))
      filling = subst (Filling old 0 (comment_packet S) out size) left_is g.filling

      pub body-fits : size + length body ≤ length old
      body-fits = omega (arith, filling.place, can.room, length-append body (bodies_from S (k + 1)))

      pub page-inside : (at + length p ≤ length b) × (0 < length p)
      page-inside = (rw is next.inside, rw is next.moves)

      pub gathers_on : (end : Bytes) → end ≡ copied out size body → Gathers old end (k + 1) (at + length p) (size + length body)
      gathers_on end e = record {
        place = λ h. rw is next.next;
        filling = filling_next filling (record { place = refl; output = e }) (omega (arith, can.room));
      }

-- ---- in memory full of zeros

module _ (b : Bytes) (headers n : ℕ) (enough : packet_max ≤ n) (h : Headed b headers) where
  room : length (comment_packet (pages_of b)) ≤ length (zeros n)
  room = let size : length (zeros n) ≡ n = length-replicate n 0 in omega (arith, packet-fits (pages_of b) h.accepted)

  pub can_gather : CanGather b headers (zeros n)
  can_gather = record { pages = h.pages; room = room }

  -- what was gathered, taken out again
  pub taken_out : (e : Bytes) (r : ℕ) → Laid (zeros n) 0 (comment_packet (pages_of b)) r e → take r (drop 0 e) ≡ comment_packet (pages_of b)
  taken_out e r l =
      let s : Bytes = comment_packet (pages_of b) in
      let z : 0 + length s ≡ length s = omega arith in
      rw (l.place ∙ z) (ap (take (length s)) (l.output ∙ copied-fits (zeros n) 0 s (omega (arith, room)) ∙ ap (λ (x : Bytes). x ++ drop (0 + length s) (zeros n)) (take-length s)) ∙ take_at s _ (length s) refl)
