-- A reader opened part way, over the stream's pages: the simulation for demand 3, on states alone. Assumes nothing.
use Prim.Native.Nat.{ℕ, ◌+◌, ◌%◌, ◌^◌}
use mathlib.Core.Path.{◌≡◌, refl, sym, ap, ap₂, ◌∙◌, subst}
use mathlib.Core.Bool.{Bool, true, false, not, ◌&&◌, ◌||◌, false≢true}
use mathlib.Core.List.{List, [], ◌∷◌}
use mathlib.Core.Option.{Option, none, some}
use Rattle.octets.specs.Pick.{pick}
use Rattle.octets.specs.Octets.{Bytes}
use Rattle.refusal.specs.declared.Refusal.{Refusal}
use Rattle.refusal.specs.declared.Refusal.TheVariants.{AfterEnd, NoPosition}
use Rattle.refusal.specs.Checks.{first_of}
use Rattle.refusal.specs.Numbers.{number_of}
use Rattle.refusal.specs.Told.{Told, gives, refuses}
use Rattle.head_fields.specs.declared.Head.{Head}
use Rattle.granule.specs.declared.Position.{Position}
use Rattle.granule.specs.declared.Position.TheVariants.{Joined, At}
use Rattle.stream.specs.Page.{Page, page_of, last, granule_of, completes, whole, rest}
use Rattle.stream.specs.Readings.{Readings}
use Rattle.stream.specs.State.{Carried, State, expecting}
use Rattle.stream.specs.Packets.{Seen, seen}
use Rattle.stream.specs.Rules.{checks_on, Stamp, stamps_on, after_position, next_on, verdict, after, stamped}
use Rattle.stream.specs.Feedings.{Shown, bytes_of, stamps_of, drop_if, joined_from, has_position}
use Rattle.stream.proofs.Clear.{some≢none}
use Rattle.stream.proofs.Pieces.{seen-completes}
use Rattle.stream.proofs.Step.{state_by, tell_by}
use Rattle.stream.proofs.TwoReaders.{audio, is_dropped, Near, Close, close, NotJoined, going_passes, going-lists, last-refused, next_passes, next-lists}

-- ---- runs on states

-- the state after some pages that are all accepted
unfoldable pub after_all : Readings → State → List Bytes → State
after_all R s [] = s
after_all R s (b ∷ bs) = after_all R (after R s b) bs

-- what a state is told of some pages, and the state after them, where some are perhaps refused
abbrev pub told_all : Readings → State → List Bytes → List (Told (List Stamp))
told_all R s [] = []
told_all R s (b ∷ bs) = tell_by (verdict R s b) (stamped R s b) ∷ told_all R (state_by (verdict R s b) s (after R s b)) bs

abbrev pub after_told : Readings → State → List Bytes → State
after_told R s [] = s
after_told R s (b ∷ bs) = after_told R (state_by (verdict R s b) s (after R s b)) bs

-- each page is accepted in its turn, and these were its stamps
abbrev pub Follows : Readings → State → List Shown → Type 0
Follows R s [] = Unit {0}
Follows R s (x ∷ xs) = (verdict R s x.bytes ≡ none) × (stamps_of x ≡ stamped R s x.bytes) × Follows R (after R s x.bytes) xs

follows-after : (R : Readings) (xs : List Shown) (s : State) → Follows R s xs → after_told R s (bytes_of xs) ≡ after_all R s (bytes_of xs)
unfolding after_all
follows-after R [] s f = refl
follows-after R (x ∷ xs) s f =
    ap (λ (v : Option Refusal). after_told R (state_by v s (after R s x.bytes)) (bytes_of xs)) f.0
    ∙ follows-after R xs (after R s x.bytes) f.2

-- a reader in the same state is told the same
follows-told : (R : Readings) (d : Bool) (xs : List Shown) (s : State) → Follows R s xs → told_all R s (bytes_of xs) ≡ joined_from d true xs
unfolding joined_from
follows-told R d [] s f = refl
follows-told R d (x ∷ xs) s f =
    rw f.0
    (ap₂ (λ (t : List Stamp) (l : List (Told (List Stamp))). gives t ∷ l) (sym f.1) (follows-told R d xs (after R s x.bytes) f.2))

-- nothing follows the end
pub ended-none : (R : Readings) (h : Head) (cr : Carried) (position : Position) (serial next : ℕ) (b : Bytes)
    → verdict R (audio true cr position serial next h) b ≡ none → ⊥
unfolding verdict checks_on expecting first_of
ended-none R h cr position serial next b e = some≢none {n = AfterEnd} e

nothing-after : (R : Readings) (h : Head) (cr : Carried) (position : Position) (serial next : ℕ) (d : Bool) (s : State) (xs : List Shown)
    → Follows R (audio true cr position serial next h) xs → told_all R s (bytes_of xs) ≡ joined_from d false xs
unfolding joined_from
nothing-after R h cr position serial next d s [] f = refl
nothing-after R h cr position serial next d s (x ∷ xs) f = absurd (ended-none R h cr position serial next x.bytes f.0)

-- ---- the two readers, before the second has a granule position

abbrev Sim : Readings → Head → List Shown → Type 0
Sim R h xs =
    (ended : Bool) (cr cq : Carried) (position : Position) (serial next : ℕ) → Near cr cq → NotJoined position
    → Follows R (audio ended cr position serial next h) xs
    → told_all R (audio ended cq Joined serial next h) (bytes_of xs) ≡ joined_from (is_dropped cq) false xs

-- the states at the end, if a page gave a granule position to count from
abbrev SimState : Readings → Head → List Shown → Type 0
SimState R h xs =
    (ended : Bool) (cr cq : Carried) (position : Position) (serial next : ℕ) → Near cr cq → NotJoined position
    → Follows R (audio ended cr position serial next h) xs → has_position xs ≡ true
    → after_told R (audio ended cq Joined serial next h) (bytes_of xs) ≡ after_all R (audio ended cr position serial next h) (bytes_of xs)

none-has_position : (R : Readings) (h : Head) (cr : Carried) (position : Position) (serial next : ℕ) (xs : List Shown)
    → Follows R (audio true cr position serial next h) xs → has_position xs ≡ true → ⊥
unfolding has_position
none-has_position R h cr position serial next [] f t = false≢true t
none-has_position R h cr position serial next (x ∷ xs) f t = ended-none R h cr position serial next x.bytes f.0

-- one page; the second reader's state is q, which takes the page as a state among the audio pages does
module _ (R : Readings) (h : Head) (x : Shown) (xs : List Shown) (q : State) (cr cq : Carried) (position : Position) (serial next : ℕ)
    (same-verdict : verdict R q x.bytes ≡ verdict R (audio false cq Joined serial next h) x.bytes)
    (same-stamped : stamped R q x.bytes ≡ stamped R (audio false cq Joined serial next h) x.bytes)
    (same_after : after R q x.bytes ≡ after R (audio false cq Joined serial next h) x.bytes)
    (near : Near cr cq) (nj : NotJoined position) (f : Follows R (audio false cr position serial next h) (x ∷ xs)) where
  abbrev page : Page
  page = page_of x.bytes

  abbrev ended_at : Bool → Carried → Position → State
  ended_at e k at = audio e k at page.header.serial ((page.header.sequence + 1) % 2 ^ 32) h

  full_saw : Seen
  full_saw = seen (audio false cr position serial next h) page

  other_saw : Seen
  other_saw = seen (audio false cq Joined serial next h) page

  closely : Close (is_dropped cq) full_saw other_saw
  unfolding seen full_saw other_saw
  closely = close near (whole page) (rest page)

  full_pass : first_of (checks_on R (audio false cr position serial next h) x.bytes full_saw) ≡ none
  unfolding verdict expecting full_saw
  full_pass = f.0

  -- the states that follow
  full-after : (t : Bool) → full_saw.completes ≡ t
      → after R (audio false cr position serial next h) x.bytes ≡ ended_at (last page) full_saw.left (after_position t position (granule_of page))
  unfolding after next_on expecting full_saw
  full-after t e = ap (λ (w : Bool). ended_at (last page) full_saw.left (after_position w position (granule_of page))) e

  other_after : (t : Bool) → other_saw.completes ≡ t
      → after R q x.bytes ≡ ended_at (last page) other_saw.left (after_position t Joined (granule_of page))
  unfolding after next_on expecting other_saw
  other_after t e = same_after ∙ ap (λ (w : Bool). ended_at (last page) other_saw.left (after_position w Joined (granule_of page))) e

  other-verdict : verdict R q x.bytes ≡ first_of (checks_on R (audio false cq Joined serial next h) x.bytes other_saw)
  unfolding verdict expecting other_saw
  other-verdict = same-verdict

  other-stamped : stamped R q x.bytes ≡ stamps_on R (audio false cq Joined serial next h) page other_saw
  unfolding stamped expecting other_saw
  other-stamped = same-stamped

  full-stamped : stamps_of x ≡ stamps_on R (audio false cr position serial next h) page full_saw
  unfolding stamped expecting full_saw
  full-stamped = f.1

  told_pass : verdict R q x.bytes ≡ none → (t : List Stamp) → stamped R q x.bytes ≡ t → (l : List (Told (List Stamp)))
      → told_all R (after R q x.bytes) (bytes_of xs) ≡ l → told_all R q (x.bytes ∷ bytes_of xs) ≡ gives t ∷ l
  told_pass v t a l e = rw v (ap₂ (λ (u : List Stamp) (m : List (Told (List Stamp))). gives u ∷ m) a e)

  -- no packet completes: nothing is listed, and the two go on as they were
  passes_going : full_saw.completes ≡ false → verdict R q x.bytes ≡ none
  passes_going e = other-verdict ∙ going_passes R h cr cq position serial next x.bytes full_saw other_saw near closely nj full_pass e

  then_going : full_saw.completes ≡ false → Follows R (ended_at (last page) full_saw.left position) xs
  then_going e = subst (λ (s : State). Follows R s xs) (full-after false e) f.2

  going_on : Sim R h xs → full_saw.completes ≡ false
      → told_all R q (x.bytes ∷ bytes_of xs) ≡ gives (stamps_of x) ∷ joined_from (is_dropped cq) false xs
  going_on ih e =
      told_pass (passes_going e) (stamps_of x)
      (other-stamped ∙ going-lists R h cr cq position serial next x.bytes full_saw other_saw near closely nj full_pass e ∙ sym full-stamped)
      (joined_from (is_dropped cq) false xs)
      (ap (λ (s : State). told_all R s (bytes_of xs)) (other_after false (closely.completes ∙ e))
      ∙ ih (last page) full_saw.left other_saw.left position page.header.serial ((page.header.sequence + 1) % 2 ^ 32)
      (closely.going e) nj (then_going e)
      ∙ ap (λ (d : Bool). joined_from d false xs) (closely.drops e))

  -- the states are one from a page on that completes a packet
  same_states : full_saw.completes ≡ true → after R q x.bytes ≡ after R (audio false cr position serial next h) x.bytes
  same_states e =
      other_after true (closely.completes ∙ e)
      ∙ ap (λ (k : Carried). ended_at (last page) k (At (granule_of page))) (closely.done e)
      ∙ sym (full-after true e)

  ends-here : full_saw.completes ≡ true → last page ≡ true → Follows R (ended_at true full_saw.left (At (granule_of page))) xs
  ends-here e l =
      subst (λ (s : State). Follows R s xs) (full-after true e ∙ ap (λ (t : Bool). ended_at t full_saw.left (At (granule_of page))) l) f.2

  -- a packet completes on the last page: 19, and no page follows
  at_end_lem : full_saw.completes ≡ true → last page ≡ true
      → told_all R q (x.bytes ∷ bytes_of xs) ≡ refuses (number_of NoPosition) ∷ joined_from (is_dropped cq) false xs
  at_end_lem e l =
      let v : verdict R q x.bytes ≡ some NoPosition = other-verdict
      ∙ last-refused R h cr cq position serial next x.bytes full_saw other_saw near closely nj full_pass e l in
      rw v (ap (λ (m : List (Told (List Stamp))). refuses (number_of NoPosition) ∷ m) (nothing-after R h _ _ _ _ (is_dropped cq) q xs (ends-here e l)))

  -- a packet completes on another page: the states are one from here on
  passes_next : full_saw.completes ≡ true → last page ≡ false → verdict R q x.bytes ≡ none
  passes_next e l = other-verdict ∙ next_passes R h cr cq position serial next x.bytes full_saw other_saw near closely nj full_pass e l

  standing : full_saw.completes ≡ true → last page ≡ false
      → told_all R q (x.bytes ∷ bytes_of xs) ≡ gives (drop_if (is_dropped cq) (stamps_of x)) ∷ joined_from (is_dropped cq) true xs
  standing e l =
      told_pass (passes_next e l) (drop_if (is_dropped cq) (stamps_of x))
      (other-stamped ∙ next-lists R h cr cq position serial next x.bytes full_saw other_saw near closely nj full_pass e l
      ∙ ap (drop_if (is_dropped cq)) (sym full-stamped))
      (joined_from (is_dropped cq) true xs)
      (ap (λ (s : State). told_all R s (bytes_of xs)) (same_states e)
      ∙ follows-told R (is_dropped cq) xs (after R (audio false cr position serial next h) x.bytes) f.2)

  pub page-joined : Sim R h xs → told_all R q (x.bytes ∷ bytes_of xs) ≡ joined_from (is_dropped cq) false (x ∷ xs)
  unfolding joined_from full_saw
  page-joined ih = by (completes page) (last page) (seen-completes (audio false cr position serial next h) page) refl
    where
      by : (t l : Bool) → full_saw.completes ≡ t → last page ≡ l
          → told_all R q (x.bytes ∷ bytes_of xs)
          ≡ pick t (pick l (refuses (number_of NoPosition) ∷ joined_from (is_dropped cq) false xs)
          (gives (drop_if (is_dropped cq) (stamps_of x)) ∷ joined_from (is_dropped cq) true xs))
          (gives (stamps_of x) ∷ joined_from (is_dropped cq) false xs)
      by false l e k = going_on ih e
      by true true e k = at_end_lem e k
      by true false e k = standing e k

  -- the states at the end
  after_pass : verdict R q x.bytes ≡ none → after_told R q (x.bytes ∷ bytes_of xs) ≡ after_told R (after R q x.bytes) (bytes_of xs)
  after_pass v = ap (λ (w : Option Refusal). after_told R (state_by w q (after R q x.bytes)) (bytes_of xs)) v

  abbrev SameEnd : Type 0
  SameEnd = after_told R q (x.bytes ∷ bytes_of xs) ≡ after_all R (after R (audio false cr position serial next h) x.bytes) (bytes_of xs)

  going-state : SimState R h xs → full_saw.completes ≡ false → has_position xs ≡ true → SameEnd
  going-state ih e t =
      after_pass (passes_going e)
      ∙ ap (λ (s : State). after_told R s (bytes_of xs)) (other_after false (closely.completes ∙ e))
      ∙ ih (last page) full_saw.left other_saw.left position page.header.serial ((page.header.sequence + 1) % 2 ^ 32)
      (closely.going e) nj (then_going e) t
      ∙ ap (λ (s : State). after_all R s (bytes_of xs)) (sym (full-after false e))

  standing_state : full_saw.completes ≡ true → last page ≡ false → SameEnd
  standing_state e l =
      after_pass (passes_next e l)
      ∙ ap (λ (s : State). after_told R s (bytes_of xs)) (same_states e)
      ∙ follows-after R xs (after R (audio false cr position serial next h) x.bytes) f.2

  pub page-state : SimState R h xs → has_position (x ∷ xs) ≡ true
      → after_told R q (x.bytes ∷ bytes_of xs) ≡ after_all R (audio false cr position serial next h) (x.bytes ∷ bytes_of xs)
  unfolding has_position full_saw after_all
  page-state ih t = by (completes page) (last page) (seen-completes (audio false cr position serial next h) page) refl t
    where
      by : (t l : Bool) → full_saw.completes ≡ t → last page ≡ l → ((t && not l) || has_position xs) ≡ true → SameEnd
      by false l e k t = going-state ih e t
      by true true e k t = absurd (none-has_position R h _ _ _ _ xs (ends-here e k) t)
      by true false e k t = standing_state e k

pub sim : (R : Readings) (h : Head) (xs : List Shown) → Sim R h xs
unfolding joined_from
sim R h [] ended cr cq position serial next near nj f = refl
sim R h (x ∷ xs) true cr cq position serial next near nj f = absurd (ended-none R h cr position serial next x.bytes f.0)
sim R h (x ∷ xs) false cr cq position serial next near nj f =
    page-joined R h x xs (audio false cq Joined serial next h) cr cq position serial next refl refl refl near nj f (sim R h xs)

pub sim_state : (R : Readings) (h : Head) (xs : List Shown) → SimState R h xs
unfolding has_position
sim_state R h [] ended cr cq position serial next near nj f t = absurd (false≢true t)
sim_state R h (x ∷ xs) true cr cq position serial next near nj f t = absurd (ended-none R h cr position serial next x.bytes f.0)
sim_state R h (x ∷ xs) false cr cq position serial next near nj f t =
    page-state R h x xs (audio false cq Joined serial next h) cr cq position serial next refl refl refl near nj f (sim_state R h xs) t
