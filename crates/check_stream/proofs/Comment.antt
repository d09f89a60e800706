-- The comment packet of an accepted stream has at most 61,440 bytes: 9 on each of its pages, which have nothing else. Assumes nothing.
use Prim.Native.Nat.{ℕ, suc, ◌+◌, ◌-◌, ◌%◌, ◌^◌, ◌≤◌}
use mathlib.Core.Path.{◌≡◌, refl, sym, ap, subst, ◌∙◌}
use mathlib.Core.Bool.{Bool, true, false, ◌||◌, true≢false}
use mathlib.Core.List.{List, [], ◌∷◌, ◌++◌, map, append-nil, append_assoc}
use mathlib.Core.Option.{none}
use native.Mathlib.Omega.{arith}
use borrow.Author.Tests.{ltb-false}
use lib.Dec.{ltb}
use lib.ListN.{length, take, drop, length-append}
use lib.Seq.{take-add, take_all}
use Rattle.octets.specs.Pick.{pick}
use Rattle.octets.specs.Octets.{Bytes, total}
use Rattle.limits.specs.Limits.{packet_max}
use Rattle.page_crc.specs.Crc.{page_crc}
use Rattle.page_lacing.specs.Lacing.{ended_from, unfinished_from}
use Rattle.page_size.proofs.Whole.{body-length}
use Rattle.head_fields.specs.declared.Head.{Head}
use Rattle.stream.specs.declared.Phase.TheVariants.{Comment, Audio}
use Rattle.stream.specs.declared.Shape.{Shape}
use Rattle.stream.specs.declared.Shape.TheVariants.{GoesOn}
use Rattle.stream.specs.Page.{page_of, ends, completes}
use Rattle.stream.specs.Readings.{Readings, readings}
use Rattle.stream.specs.State.{State, expecting}
use Rattle.stream.specs.Shape.{shape_after, shape_from, shape_of, is_other}
use Rattle.stream.specs.Packets.{seen, is_long, long_from, any_long, too_long}
use Rattle.stream.specs.Rules.{verdict, after}
use Rattle.stream.specs.Stream.{segments, segments_of, left_from, open_from, carried_of, head_of}
use Rattle.stream.proofs.Passed.{Shaped, shaped}
use Rattle.stream.proofs.Pieces.{or_left}
use Rattle.stream.proofs.Segments.{Begun, begun-left}
use Rattle.stream.proofs.HeaderRun.{commenting, comment-after}
use Rattle.stream.proofs.Theorem1.{first-after}
use Rattle.feed_pages.specs.Feedings.{together}
use Rattle.recording.specs.Judging.{first_refused, fresh}
use Rattle.recording.proofs.Passing.{First, first, one-good}
use Rattle.recording_pages.proofs.Headers.{comment_count, count_none, count-done, count_on, header-none, header-first}
use Rattle.check_rules.specs.Findings.{comment_packet}

-- ---- by the lacing values

-- where they are one packet's piece, n bytes being read already, it is not too long
long-total : (s : Shape) (n : ℕ) (l : Bytes) → is_other (shape_from s l) ≡ false → long_from n l ≡ false → n + total l ≤ packet_max
unfolding shape_from long_from any_long ended_from unfinished_from total
long-total s n [] o e = omega (arith, ltb-false packet_max n e)
long-total s n (v ∷ l) o e = by (ltb v 255) (long-total GoesOn (n + v) l) o e
  where
    ended : (r : Bytes) → is_other (shape_after r) ≡ false → ((too_long (n + v) || any_long (ended_from 0 r)) || too_long (unfinished_from 0 r)) ≡ false
        → n + (v + total r) ≤ packet_max
    ended [] o e = omega (arith, ltb-false packet_max (n + v) (or_left (too_long (n + v)) false (or_left (too_long (n + v) || false) (too_long 0) e)))
    ended (w ∷ r) o e = absurd (true≢false o)

    by : (t : Bool)
        → (is_other (shape_from GoesOn l) ≡ false → (any_long (ended_from (n + v) l) || too_long (unfinished_from (n + v) l)) ≡ false → n + v + total l ≤ packet_max)
        → is_other (pick t (shape_after l) (shape_from GoesOn l)) ≡ false
        → (any_long (pick t ((n + v) ∷ ended_from 0 l) (ended_from (n + v) l)) || too_long (pick t (unfinished_from 0 l) (unfinished_from (n + v) l))) ≡ false
        → n + (v + total l) ≤ packet_max
    by true again o e = ended l o e
    by false again o e = omega (arith, again o e)

-- where none ends a packet, all of the body is added
left-all : (h l body : Bytes) → ends l ≡ false → left_from h (segments l body) ≡ h ++ take (total l) body
unfolding left_from segments ends total
left-all h [] body e = sym (append-nil h)
left-all h (v ∷ l) body e = by (ltb v 255) e (left-all (h ++ take v body) l (drop v body))
  where
    by : (t : Bool) → (t || ends l) ≡ false → (ends l ≡ false → left_from (h ++ take v body) (segments l (drop v body)) ≡ (h ++ take v body) ++ take (total l) (drop v body))
        → pick t (left_from [] (segments l (drop v body))) (left_from (h ++ take v body) (segments l (drop v body))) ≡ h ++ take (v + total l) body
    by true e again = absurd (true≢false e)
    by false e again =
        again e ∙ append_assoc h (take v body) (take (total l) (drop v body)) ∙ ap (λ (s : Bytes). h ++ s) (sym (take-add v (total l) body))

-- ---- page by page

abbrev R : Readings
R = readings page_crc

abbrev pub body_in : Bytes → Bytes
body_in b = (page_of b).body

-- the bodies of the pages of the comment packet, of those after the first
abbrev bodies : List Bytes → Bytes
bodies bs = together (map body_in (take (comment_count bs) bs))

-- a page of the comment packet, of which h was begun
module _ (head : Head) (b : Bytes) (o : Bool) (h : Bytes) (serial next : ℕ) (begun : Begun o h)
    (v : verdict R (commenting Comment (carried_of o h) serial next head) b ≡ none) where
  abbrev now : State
  now = commenting Comment (carried_of o h) serial next head

  passed : Shaped R now b (seen now (page_of b))
  unfolding verdict expecting
  passed = shaped R now b (seen now (page_of b)) v

  body-size : length (body_in b) ≡ total (page_of b).lacing
  unfolding readings page_of
  body-size = body-length b (one-good R now b v).page

  short : (t : Bool) → o ≡ t → is_long (carried_of t h) (page_of b).lacing ≡ false → length h + total (page_of b).lacing ≤ packet_max
  unfolding shape_of
  short true e q = long-total _ (length h) (page_of b).lacing passed.shape q
  short false e q =
      let none-held : length h ≡ 0 = ap length (begun e) in
      omega (arith, long-total _ 0 (page_of b).lacing passed.shape q)

  pub fits-here : length h + length (body_in b) ≤ packet_max
  fits-here = omega (arith, body-size, short o refl passed.short)

  pub left_here : completes (page_of b) ≡ false → left_from h (segments_of (page_of b)) ≡ h ++ body_in b
  unfolding segments_of completes
  left_here e =
      left-all h (page_of b).lacing (body_in b) e
      ∙ ap (λ (s : Bytes). h ++ s) (take_all (total (page_of b).lacing) (body_in b) (omega (arith, body-size)))

comments-fit : (head : Head) (bs : List Bytes) (o : Bool) (h : Bytes) (serial next k : ℕ) → Begun o h
    → first_refused R (commenting Comment (carried_of o h) serial next head) k bs ≡ none → length (bodies bs) ≤ packet_max - length h
unfolding together
comments-fit head [] o h serial next k begun ok = rw count_none (omega arith)
comments-fit head (b ∷ bs) o h serial next k begun ok =
    by (first R (commenting Comment (carried_of o h) serial next head) k b bs ok) (completes (page_of b)) refl
    (comments-fit head bs (open_from o (segments_of (page_of b))) (left_from h (segments_of (page_of b))) serial ((next + 1) % 2 ^ 32) (suc k)
    (begun-left o h (segments_of (page_of b)) begun))
  where
    by : First R (commenting Comment (carried_of o h) serial next head) k b bs → (t : Bool) → completes (page_of b) ≡ t
        → (first_refused R (commenting Comment (carried_of (open_from o (segments_of (page_of b))) (left_from h (segments_of (page_of b)))) serial ((next + 1) % 2 ^ 32) head) (suc k) bs ≡ none
        → length (bodies bs) ≤ packet_max - length (left_from h (segments_of (page_of b))))
        → length (bodies (b ∷ bs)) ≤ packet_max - length h
    by f true e again =
        rw (count-done b bs e)
        (omega (arith, fits-here head b o h serial next begun f.passes, length-append (body_in b) []))
    by f false e again =
        let o' : Bool = open_from o (segments_of (page_of b)) in
        let h' : Bytes = left_from h (segments_of (page_of b)) in
        let then : after R (commenting Comment (carried_of o h) serial next head) b ≡ commenting Comment (carried_of o' h') serial ((next + 1) % 2 ^ 32) head =
        comment-after R head b o h serial next begun f.passes
        ∙ ap (λ (t : Bool). commenting (pick t Audio Comment) (carried_of o' h') serial ((next + 1) % 2 ^ 32) head) e in
        let later : length (bodies bs) ≤ packet_max - length h' = again (subst (λ (x : State). first_refused R x (suc k) bs ≡ none) then f.later) in
        let size : length h' ≡ length h + length (body_in b) = ap length (left_here head b o h serial next begun f.passes e) ∙ length-append h (body_in b) in
        rw (count_on b bs e)
        (omega (arith, fits-here head b o h serial next begun f.passes, later, size, length-append (body_in b) (bodies bs)))

-- ---- the packet

packet-is : (b : Bytes) (bs : List Bytes) → comment_packet (b ∷ bs) ≡ bodies bs
unfolding comment_packet
packet-is b bs = ap (λ (n : ℕ). together (map body_in (drop 1 (take n (b ∷ bs))))) (header-first b bs)

pub packet-fits : (S : List Bytes) → first_refused R fresh 0 S ≡ none → length (comment_packet S) ≤ packet_max
unfolding comment_packet together
packet-fits [] ok = rw header-none (omega arith)
packet-fits (b ∷ bs) ok =
    let f : First R fresh 0 b bs = first R fresh 0 b bs ok in
    let later = comments-fit (head_of R (b ∷ bs)) bs _ _ _ _ 1 (begun-left false [] (segments_of (page_of b)) (λ w. refl))
    (subst (λ (x : State). first_refused R x 1 bs ≡ none) (first-after R b bs f.passes) f.later) in
    omega (arith, later, ap length (packet-is b bs))
