-- The pieces of a page's body: how long they are by the lacing values, and that a packet completes. Assumes nothing.
use Prim.Native.Nat.{ℕ, ◌+◌, ◌≤◌, min}
use mathlib.Core.Path.{◌≡◌, refl, sym, ap, subst, ◌∙◌}
use mathlib.Core.Bool.{Bool, true, false, ◌||◌, true≢false, false≢true}
use mathlib.Core.List.{List, [], ◌∷◌}
use mathlib.Core.Option.{Option, none, some}
use native.Mathlib.Nat.{add_assoc, add-zero}
use native.Mathlib.Omega.{arith}
use borrow.Author.Tests.{ltb-false}
use lib.Dec.{ltb, eqb}
use lib.ListN.{length, take, drop, length-take}
use Rattle.octets.specs.Pick.{pick}
use Rattle.octets.specs.Octets.{Bytes}
use Rattle.page_lacing.specs.Lacing.{ended_from, unfinished_from, Cut, cut_from}
use Rattle.stream.specs.Page.{Page, ends, completes, whole_from, rest_from, whole, rest}
use Rattle.stream.specs.State.{Carried, nothing, dropped, held, State}
use Rattle.stream.specs.Packets.{join, seen, too_long, any_long, long_from, after_first, is_long}
use Rattle.limits.specs.Limits.{packet_max}
use Rattle.stream.specs.Feed.{first_piece, new_rest}

-- ---- tests

pub or_left : (a b : Bool) → (a || b) ≡ false → a ≡ false
or_left true b e = e
or_left false b e = refl

pub or_right : (a b : Bool) → (a || b) ≡ false → b ≡ false
or_right true b e = absurd (true≢false e)
or_right false b e = e

pub or_none : (a b : Bool) → a ≡ false → b ≡ false → (a || b) ≡ false
or_none true b e f = absurd (true≢false e)
or_none false b e f = f

short : (n : ℕ) → too_long n ≡ false → n ≤ packet_max
short n e = ltb-false packet_max n e

take_le : (n : ℕ) (s : Bytes) → length (take n s) ≤ n
take_le n s = let e : length (take n s) ≡ min n (length s) = length-take n s in omega arith

-- one more lacing value, t: it ends a packet; k bytes with its own
abbrev pub onwards : Bool → ℕ → Bytes → Bytes → Cut
onwards t k l body =
    pick t (record { whole = take k body ∷ (cut_from 0 l (drop k body)).whole; rest = (cut_from 0 l (drop k body)).rest }) (cut_from k l body)

-- ---- the first piece, n bytes being held and m read already

first_fits : (n m : ℕ) (l body : Bytes) → long_from (n + m) l ≡ false → n + length (first_piece (whole_from m l body) (rest_from m l body)) ≤ packet_max
unfolding long_from any_long ended_from unfinished_from cut_from
first_fits n m [] body e = by (eqb m 0)
  where
    size : n + m ≤ packet_max
    size = short (n + m) e

    by : (t : Bool) → n + length (first_piece [] (pick t none (some (take m body)))) ≤ packet_max
    by true = let k : n + m ≤ packet_max = size in omega arith
    by false = let k : n + m ≤ packet_max = size in let j : length (take m body) ≤ m = take_le m body in omega arith
first_fits n m (v ∷ l) body e =
    by (ltb v 255) (λ (k : long_from (n + m + v) l ≡ false). first_fits n (m + v) l body
    (subst (λ (z : ℕ). long_from z l ≡ false) (add_assoc n m v) k)) e
  where
    by : (t : Bool) → (long_from (n + m + v) l ≡ false → n + length (first_piece (whole_from (m + v) l body) (rest_from (m + v) l body)) ≤ packet_max)
        → (any_long (pick t ((n + m + v) ∷ ended_from 0 l) (ended_from (n + m + v) l)) || too_long
        (pick t (unfinished_from 0 l) (unfinished_from (n + m + v) l))) ≡ false
        → n + length (first_piece (onwards t (m + v) l body).whole
        (pick (eqb (pick t (unfinished_from 0 l) (unfinished_from (m + v) l)) 0) none (some (onwards t (m + v) l body).rest))) ≤ packet_max
    by true again k =
        let s : n + m + v ≤ packet_max = short (n + m + v)
        (or_left (too_long (n + m + v)) (any_long (ended_from 0 l))
        (or_left (too_long (n + m + v) || any_long (ended_from 0 l)) (too_long (unfinished_from 0 l)) k)) in
        let j : length (take (m + v) body) ≤ m + v = take_le (m + v) body in
        omega arith
    by false again k = again k

-- ---- the rest

pub rest-size : (n m : ℕ) (l body : Bytes) → length (cut_from m l body).rest ≤ unfinished_from (n + m) l
unfolding cut_from unfinished_from
rest-size n m [] body = let j : length (take m body) ≤ m = take_le m body in omega arith
rest-size n m (v ∷ l) body = by (ltb v 255) (rest-size 0 0 l (drop (m + v) body))
    (subst (λ (z : ℕ). length (cut_from (m + v) l body).rest ≤ unfinished_from z l) (sym (add_assoc n m v)) (rest-size n (m + v) l body))
  where
    by : (t : Bool) → length (cut_from 0 l (drop (m + v) body)).rest ≤ unfinished_from (0 + 0) l
        → length (cut_from (m + v) l body).rest ≤ unfinished_from (n + m + v) l
        → length (onwards t (m + v) l body).rest ≤ pick t (unfinished_from 0 l) (unfinished_from (n + m + v) l)
    by true anew again = anew
    by false anew again = again

-- the values after the first that ends a packet leave as many bytes
after_first_lem : (n : ℕ) (l : Bytes) → ends l ≡ true → unfinished_from n l ≡ unfinished_from 0 (after_first l)
unfolding ends unfinished_from after_first
after_first_lem n [] e = absurd (false≢true e)
after_first_lem n (v ∷ l) e = by (ltb v 255) (after_first_lem (n + v) l) e
  where
    by : (t : Bool) → (ends l ≡ true → unfinished_from (n + v) l ≡ unfinished_from 0 (after_first l)) → (t || ends l) ≡ true
        → pick t (unfinished_from 0 l) (unfinished_from (n + v) l) ≡ unfinished_from 0 (pick t l (after_first l))
    by true again k = refl
    by false again k = again k

-- what is not too long is not where the first packet is left out
pub long-dropped : (n : ℕ) (l : Bytes) → long_from n l ≡ false → long_from 0 (after_first l) ≡ false
unfolding long_from any_long ended_from unfinished_from after_first
long-dropped n [] e = refl
long-dropped n (v ∷ l) e = by (ltb v 255) (long-dropped (n + v) l) e
  where
    by : (t : Bool) → (long_from (n + v) l ≡ false → long_from 0 (after_first l) ≡ false)
        → (any_long (pick t ((n + v) ∷ ended_from 0 l) (ended_from (n + v) l)) || too_long
        (pick t (unfinished_from 0 l) (unfinished_from (n + v) l))) ≡ false
        → (any_long (ended_from 0 (pick t l (after_first l))) || too_long (unfinished_from 0 (pick t l (after_first l)))) ≡ false
    by true again k =
        or_none (any_long (ended_from 0 l)) (too_long (unfinished_from 0 l))
        (or_right (too_long (n + v)) (any_long (ended_from 0 l)) (or_left (too_long (n + v) || any_long (ended_from 0 l)) (too_long (unfinished_from 0 l)) k))
        (or_right (too_long (n + v) || any_long (ended_from 0 l)) (too_long (unfinished_from 0 l)) k)
    by false again k = again k

-- ---- a packet completes: by its pieces, and by the lacing values

abbrev pub non_empty : List Bytes → Bool
non_empty [] = false
non_empty (b ∷ bs) = true

pub whole-ends : (n : ℕ) (l body : Bytes) → non_empty (whole_from n l body) ≡ ends l
unfolding cut_from ends
whole-ends n [] body = refl
whole-ends n (v ∷ l) body = by (ltb v 255) (whole-ends (n + v) l body)
  where
    by : (t : Bool) → non_empty (whole_from (n + v) l body) ≡ ends l
        → non_empty (onwards t (n + v) l body).whole ≡ (t || ends l)
    by true e = refl
    by false e = e

join-completes : (cr : Carried) (ws : List Bytes) (r : Option Bytes) → (join cr ws r).completes ≡ non_empty ws
unfolding join
join-completes nothing [] r = refl
join-completes nothing (w ∷ ws) r = refl
join-completes dropped [] r = refl
join-completes dropped (w ∷ ws) r = refl
join-completes (held n h) [] none = refl
join-completes (held n h) [] (some b) = refl
join-completes (held n h) (w ∷ ws) r = refl

pub page-completes : (cr : Carried) (p : Page) → (join cr (whole p) (rest p)).completes ≡ completes p
unfolding whole completes
page-completes cr p = join-completes cr (whole p) (rest p) ∙ whole-ends 0 p.lacing p.body

pub seen-completes : (s : State) (p : Page) → (seen s p).completes ≡ completes p
unfolding seen
seen-completes s p = page-completes s.carried p

-- ---- what an append and a new rest need

-- the bytes that an append writes fit
abbrev pub Fits : Carried → Bytes → Type 0
Fits nothing b = length b ≤ packet_max
Fits dropped b = Unit {0}
Fits (held n h) b = n + length b ≤ packet_max

pub piece-fits : (cr : Carried) (p : Page) → is_long cr p.lacing ≡ false → Fits cr (first_piece (whole p) (rest p))
unfolding whole rest
piece-fits nothing p e = let k : 0 + length (first_piece (whole p) (rest p)) ≤ packet_max = first_fits 0 0 p.lacing p.body e in omega arith
piece-fits dropped p e = tt
piece-fits (held n h) p e = first_fits n 0 p.lacing p.body (subst (λ (z : ℕ). long_from z p.lacing ≡ false) (sym (add-zero n)) e)

abbrev pub RestFits : Option Bytes → Type 0
RestFits none = Unit {0}
RestFits (some b) = length b ≤ packet_max

rest-fits : (n : ℕ) (l body : Bytes) → too_long (unfinished_from n l) ≡ false → RestFits (rest_from 0 l body)
rest-fits n l body e = by (eqb (unfinished_from 0 l) 0)
  where
    size : length (cut_from 0 l body).rest ≤ packet_max
    size =
        let k : unfinished_from n l ≤ packet_max = short (unfinished_from n l) e in
        let j : length (cut_from 0 l body).rest ≤ unfinished_from (n + 0) l = rest-size n 0 l body in
        let z : unfinished_from (n + 0) l ≡ unfinished_from n l = ap (λ (i : ℕ). unfinished_from i l) (add-zero n) in
        omega arith

    by : (t : Bool) → RestFits (pick t none (some (cut_from 0 l body).rest))
    by true = tt
    by false = size

pub new_fits : (cr : Carried) (p : Page) → is_long cr p.lacing ≡ false → RestFits (new_rest cr (whole p) (rest p))
unfolding rest long_from whole
new_fits nothing p e = rest-fits 0 p.lacing p.body (or_right (any_long (ended_from 0 p.lacing)) (too_long (unfinished_from 0 p.lacing)) e)
new_fits dropped p e = by (whole p) refl
  where
    by : (ws : List Bytes) → whole p ≡ ws → RestFits (new_rest dropped ws (rest p))
    by [] k = tt
    by (w ∷ ws) k =
        let done : ends p.lacing ≡ true = sym (whole-ends 0 p.lacing p.body) ∙ ap non_empty k in
        rest-fits 0 p.lacing p.body
        (ap too_long (after_first_lem 0 p.lacing done)
        ∙ or_right (any_long (ended_from 0 (after_first p.lacing))) (too_long (unfinished_from 0 (after_first p.lacing))) e)
new_fits (held n h) p e = by (whole p)
  where
    by : (ws : List Bytes) → RestFits (new_rest (held n h) ws (rest p))
    by [] = tt
    by (w ∷ ws) = rest-fits n p.lacing p.body (or_right (any_long (ended_from n p.lacing)) (too_long (unfinished_from n p.lacing)) e)
