-- A page's lacing values split after the first piece: how the pieces, 9 and the sums go on after it. One record for each way,
-- `Ended` and `Open`: what is known once `ends` is tested. Assumes nothing.
use Prim.Native.Nat.{ℕ, ◌+◌, ◌≤◌}
use mathlib.Core.Path.{◌≡◌, refl, sym, ap, ◌∙◌}
use mathlib.Core.Bool.{Bool, true, false, ◌||◌, true≢false, false≢true}
use mathlib.Core.List.{[], ◌∷◌}
use native.Mathlib.Numerals.{add-one}
use native.Mathlib.Nat.{add_assoc}
use native.Mathlib.Omega.{arith}
use lib.Dec.{ltb}
use lib.ListN.{length, take, drop}
use Rattle.octets.specs.Pick.{pick}
use Rattle.octets.specs.Octets.{Bytes, total}
use Rattle.page_lacing.specs.Lacing.{cut_from, unfinished_from}
use Rattle.stream.specs.Page.{ends, whole_from}
use Rattle.stream.specs.Packets.{too_long, long_from, after_first}
use Rattle.stream.proofs.Pieces.{onwards}
use Rattle.feed_audio.specs.declared.packets.Piece.{Piece}
use Rattle.feed_audio.specs.Code.{first_from, one_more}
use Rattle.feed_lacing.proofs.Scanning.{long-ends, long-goes_on}

-- the first piece f ends a packet: what is left is cut alike
pub record Ended (n : ℕ) (l : Bytes) (f : Piece) : Type 0 where
  pub whole : (body : Bytes) → whole_from n l body ≡ take f.bytes body ∷ whole_from 0 (drop f.values l) (drop f.bytes body)
  pub long : (h : ℕ) → long_from (h + n) l ≡ (too_long (h + f.bytes) || long_from 0 (drop f.values l))
  pub tail : (h : ℕ) → unfinished_from (h + n) l ≡ unfinished_from 0 (drop f.values l)
  pub sums : f.bytes + total (drop f.values l) ≡ n + total l
  pub within : f.values ≤ length l
  pub some : 1 ≤ f.values
  pub after : after_first l ≡ drop f.values l
  pub done : ends l ≡ true

-- it does not: it is all that the page has
pub record Open (n : ℕ) (l : Bytes) (f : Piece) : Type 0 where
  pub whole : (body : Bytes) → whole_from n l body ≡ []
  pub tail : (h : ℕ) → unfinished_from (h + n) l ≡ h + f.bytes
  pub sums : f.bytes ≡ n + total l
  pub all : f.values ≡ length l
  pub after : after_first l ≡ drop f.values l
  pub done : ends l ≡ false

module _ (n v : ℕ) (l : Bytes) where
  ends-here : ltb v 255 ≡ true → Ended n (v ∷ l) (record { values = 1; bytes = n + v; ends = true })
  unfolding cut_from unfinished_from total after_first ends
  ends-here t = record {
    whole = λ (body : Bytes). ap (λ (b : Bool). (onwards b (n + v) l body).whole) t;
    long = λ (h : ℕ). (long-ends l (h + n) v t ∙ rw (add_assoc h n v));
    tail = λ (h : ℕ). (rw t);
    sums = omega arith;
    within = omega arith;
    some = omega arith;
    after = rw t;
    done = rw t;
  }

  ends-later : ltb v 255 ≡ false → (f : Piece) → Ended (n + v) l f → Ended n (v ∷ l) (one_more f)
  unfolding cut_from unfinished_from total after_first ends
  ends-later t f e = record {
    whole = λ (body : Bytes). (rw (add-one f.values) (ap (λ (b : Bool). (onwards b (n + v) l body).whole) t ∙ e.whole body));
    long = λ (h : ℕ). (rw (add-one f.values) (long-goes_on l (h + n) v t ∙ rw (add_assoc h n v) (e.long h)));
    tail = λ (h : ℕ). (rw (t, add-one f.values, add_assoc h n v) (e.tail h));
    sums = rw (add-one f.values) (omega (arith, e.sums));
    within = omega arith;
    some = omega arith;
    after = rw (t, add-one f.values) e.after;
    done = rw t e.done;
  }

  open_later : ltb v 255 ≡ false → (f : Piece) → Open (n + v) l f → Open n (v ∷ l) (one_more f)
  unfolding cut_from unfinished_from total after_first ends
  open_later t f e = record {
    whole = λ (body : Bytes). (ap (λ (b : Bool). (onwards b (n + v) l body).whole) t ∙ e.whole body);
    tail = λ (h : ℕ). (rw (t, add_assoc h n v) (e.tail h));
    sums = omega (arith, e.sums);
    all = omega arith;
    after = rw (t, add-one f.values) e.after;
    done = rw t e.done;
  }

abbrev Ways : ℕ → Bytes → Piece → Type 0
Ways n l f = (f.ends ≡ true → Ended n l f) × (f.ends ≡ false → Open n l f)

ways_at : (n v : ℕ) (l : Bytes) (b : Bool) → ltb v 255 ≡ b → Ways (n + v) l (first_from (n + v) l)
    → Ways n (v ∷ l) (pick b (record { values = 1; bytes = n + v; ends = true }) (one_more (first_from (n + v) l)))
ways_at n v l true t w = (λ e. ends-here n v l t, λ e. absurd (true≢false e))
ways_at n v l false t w = (λ e. ends-later n v l t (first_from (n + v) l) (w.0 e), λ e. open_later n v l t (first_from (n + v) l) (w.1 e))

pub ways : (n : ℕ) (l : Bytes) → Ways n l (first_from n l)
unfolding first_from cut_from unfinished_from total after_first ends
ways n [] = (
  λ e. absurd (false≢true e),
  λ e. record { whole = λ (body : Bytes). refl; tail = λ (h : ℕ). refl; sums = omega arith; all = refl; after = refl; done = refl },
)
ways n (v ∷ l) = ways_at n v l (ltb v 255) refl (ways (n + v) l)

-- by the test
pub split : {A : Type 0} (l : Bytes) → ((first_from 0 l).ends ≡ true → Ended 0 l (first_from 0 l) → A) → ((first_from 0 l).ends ≡ false → Open 0 l (first_from 0 l) → A) → A
split {A} l f g = by (first_from 0 l).ends refl
  where
    by : (b : Bool) → (first_from 0 l).ends ≡ b → A
    by true e = f e ((ways 0 l).0 e)
    by false e = g e ((ways 0 l).1 e)

pub after_first_lem : (l : Bytes) → after_first l ≡ drop (first_from 0 l).values l
after_first_lem l = split l (λ t e. e.after) (λ t o. o.after)

pub ends-first : (l : Bytes) → ends l ≡ (first_from 0 l).ends
ends-first l = split l (λ t e. e.done ∙ sym t) (λ t o. o.done ∙ sym t)

pub values-within : (l : Bytes) → (first_from 0 l).values ≤ length l
values-within l = split l (λ t e. e.within) (λ t o. omega (arith, o.all))
