-- What the walk keeps, one page more: whether a packet is unfinished, the samples of the last packet, and the findings left. Assumes
-- nothing.
use Prim.Native.Nat.{ℕ, zero, suc, ◌+◌, ◌-◌, ◌≤◌, ◌<◌}
use mathlib.Core.Path.{◌≡◌, refl, sym, ap, ◌∙◌}
use mathlib.Core.Bool.{Bool, true, false, not, ◌&&◌}
use mathlib.Core.List.{List, [], ◌∷◌, map}
use native.Mathlib.Omega.{arith}
use borrow.Author.Tests.{ne_eqb, eq-eqb, eqb-true, ltb-true, ltb-false, lt-leb, le-leb}
use lib.Dec.{ltb, leb, eqb}
use lib.ListN.{length, get_or, take, drop, length-drop}
use lib.Seq.{drop-drop}
use Rattle.octets.specs.Pick.{pick}
use Rattle.octets.specs.Octets.{Bytes}
use Rattle.stream.specs.Page.{page_of}
use Rattle.stream.specs.Feed.{Entry}
use Rattle.stream.specs.Stream.{segments, segments_of, open_from, open_after, Listing}
use Rattle.recording.specs.Pages.{pages_of}
use Rattle.recording.proofs.Passing.{empty_cons}
use Rattle.recording_pages.proofs.Places.{At, at_end_lem, at_next}
use Rattle.check_rules.specs.Findings.{last_of, last_in}
use Rattle.check_stream.specs.Code.{open_on}

-- ---- an unfinished packet

-- a value that ends no packet
pub not-below : (v : ℕ) → leb 255 v ≡ not (ltb v 255)
not-below v = by (ltb v 255) refl
  where
    by : (t : Bool) → ltb v 255 ≡ t → leb 255 v ≡ not t
    by true e = lt-leb 255 v (ltb-true v 255 e)
    by false e = le-leb 255 v (ltb-false v 255 e)

pub open_is : (o : Bool) (l body : Bytes) → open_on o l ≡ open_from o (segments l body)
unfolding open_from segments
open_is o [] body = refl
open_is o (v ∷ []) body = refl
open_is o (v ∷ w ∷ l) body =
    let e = open_is (not (ltb v 255)) (w ∷ l) (drop v body) in
    let z : suc (suc (length l)) - 1 ≡ suc (length l) = omega arith in
    let y : suc (length l) - 1 ≡ length l = omega arith in
    let n : eqb (suc (suc (length l))) 0 ≡ false = ne_eqb (suc (suc (length l))) 0 (λ q. omega arith) in
    let m : eqb (suc (length l)) 0 ≡ false = ne_eqb (suc (length l)) 0 (λ q. omega arith) in
    rw (z, n) (rw (y, m) at e)

pub open_next : (o : Bool) (S : List Bytes) (k : ℕ) (b : Bytes) (later : List Bytes) → drop k S ≡ b ∷ later
    → open_after o (take (suc k) S) ≡ open_from (open_after o (take k S)) (segments_of (page_of b))
unfolding open_after
open_next o [] zero b later e = empty_cons e
open_next o [] (suc k) b later e = empty_cons e
open_next o (a ∷ S) zero b later e = let same : a ≡ b = cc in ap (λ (c : Bytes). open_from o (segments_of (page_of c))) same
open_next o (a ∷ S) (suc k) b later e = open_next (open_from o (segments_of (page_of a))) S k b later e

-- ---- the last packet

pub last-next : (n : ℕ) (L : List Listing) (k : ℕ) (l : Listing) (ls : List Listing) → drop k L ≡ l ∷ ls
    → last_in n (take (suc k) L) ≡ last_of (last_in n (take k L)) l.entries
unfolding last_in
last-next n [] zero l ls e = empty_cons e
last-next n [] (suc k) l ls e = empty_cons e
last-next n (a ∷ L) zero l ls e = let same : a ≡ l = cc in ap (λ (c : Listing). last_of n c.entries) same
last-next n (a ∷ L) (suc k) l ls e = last-next (last_of n a.entries) L k l ls e

abbrev samples_in : Entry → ℕ
samples_in e = e.samples

-- as a list that begins with the packets' samples has it
pub last-is : (n : ℕ) (es : List Entry) (ls : List ℕ) → take (length (map samples_in es)) ls ≡ map samples_in es
    → pick (eqb (length es) 0) n (get_or ls (length es - 1) 0) ≡ last_of n es
unfolding last_of
last-is n [] ls h = refl
last-is n (e ∷ es) [] h = empty_cons h
last-is n (e ∷ []) (x ∷ ls) h = let same : x ≡ e.samples = cc in same
last-is n (e ∷ f ∷ es) (x ∷ ls) h =
    let rest : take (length (map samples_in (f ∷ es))) ls ≡ map samples_in (f ∷ es) = cc in
    let i = last-is e.samples (f ∷ es) ls rest in
    let z : suc (suc (length es)) - 1 ≡ suc (length es) = omega arith in
    let y : suc (length es) - 1 ≡ length es = omega arith in
    let a : eqb (suc (suc (length es))) 0 ≡ false = ne_eqb (suc (suc (length es))) 0 (λ q. omega arith) in
    let b : eqb (suc (length es)) 0 ≡ false = ne_eqb (suc (length es)) 0 (λ q. omega arith) in
    rw (z, a) (rw (y, b) at i)

-- ---- the last page

-- page k is the last one where it ends with the buffer
pub ends_last : (b : Bytes) (k at : ℕ) → k < length (pages_of b) → At b (k + 1) at → eqb at (length b) ≡ eqb (suc k) (length (pages_of b))
ends_last b k at there a = by (ltb at (length b)) refl
  where
    by : (t : Bool) → ltb at (length b) ≡ t → eqb at (length b) ≡ eqb (suc k) (length (pages_of b))
    by true e =
        let more : at < length b = ltb-true at (length b) e in
        let n = ap length (at_next b (k + 1) at a more).page in
        ne_eqb at (length b) (λ z. omega arith)
        ∙ sym (ne_eqb (suc k) (length (pages_of b)) (λ z. omega (arith, n, length-drop (k + 1) (pages_of b))))
    by false e =
        let done : length b ≤ at = ltb-false at (length b) e in
        let inside : at ≤ length b = a.begins.inside in
        let none_left : length (drop (k + 1) (pages_of b)) ≡ 0 = ap length (at_end_lem b (k + 1) at a done) in
        eq-eqb at (length b) (omega arith)
        ∙ sym (eq-eqb (suc k) (length (pages_of b)) (omega (arith, none_left, length-drop (k + 1) (pages_of b))))

-- what holds of the last page alone
pub last-same : (k n : ℕ) (x y : Bool) → (k ≡ n → x ≡ y) → (eqb k n && x) ≡ (eqb k n && y)
last-same k n x y h = by (eqb k n) refl
  where
    by : (t : Bool) → eqb k n ≡ t → (t && x) ≡ (t && y)
    by true e = h (eqb-true k n e)
    by false e = refl

pub drop-next : (L : List Listing) (k : ℕ) (l : Listing) (ls : List Listing) → drop k L ≡ l ∷ ls → drop (k + 1) L ≡ ls
drop-next L k l ls e = sym (drop-drop 1 k L) ∙ ap (drop 1) e
