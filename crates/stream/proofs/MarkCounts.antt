-- Samples counted over marks: each is kept, skipped or trimmed, the positions that they span, and the closed form. Assumes
-- nothing.
use Prim.Native.Nat.{ℕ, ◌+◌, ◌-◌, ◌≤◌, min}
use mathlib.Core.Path.{◌≡◌, refl, sym, ap, ◌∙◌}
use mathlib.Core.Bool.{Bool, true, false, not, ◌&&◌}
use mathlib.Core.List.{List, [], ◌∷◌, cons≢nil}
use native.Mathlib.Nat.{add-zero, add_assoc}
use native.Mathlib.Omega.{arith}
use lib.Dec.{ltb}
use Rattle.granule.specs.declared.Position.{Position}
use Rattle.granule.specs.declared.Position.TheVariants.{Unset, At}
use Rattle.granule.specs.Samples.{one, tally, kept_of, trimmed_of}
use Rattle.granule.specs.Judging.{too_small, before, hole, from, placed}
use Rattle.granule.specs.Statements.{Fits}
use Rattle.granule.proofs.Tallies.{tally-three}
use Rattle.granule.proofs.Counting.{closed_forms}
use Rattle.granule.proofs.Placing.{fits-placed}
use Rattle.stream.specs.Stream.{Mark, decoded, last_from, last_granule, initial, holes_from, holes, decoded_in, sample_trimmed, sample_skipped, sample_kept, count_from, kept_count, skipped_count, trimmed_count}
use Rattle.stream.proofs.AudioRun.{kept_same, trimmed-same}

-- marks that the checks let pass: 17 does not hold, and nothing follows a mark that is last
abbrev pub Legal : Position → List Mark → Type 0
Legal position [] = Unit {0}
Legal position (m ∷ ms) =
    (too_small position m.last m.granule (decoded m) ≡ false) × (m.last ≡ true → ms ≡ []) × Legal (At m.granule) ms

-- where the packets of a mark begin
abbrev begins : Position → Mark → ℕ
begins position m = from position m.last m.granule (decoded m)

-- ---- each decoded sample is kept, skipped or trimmed

one_of_three : (t s : Bool) → one (not t && not s) + one (not t && s) + one t ≡ 1
one_of_three true s = refl
one_of_three false true = refl
one_of_three false false = refl

shares-from : (k n : ℕ) (position : Position) (ms : List Mark)
    → count_from (sample_kept k) n position ms + count_from (sample_skipped k) n position ms + count_from sample_trimmed n position ms ≡ decoded_in ms
unfolding count_from decoded_in
shares-from k n position [] = refl
shares-from k n position (m ∷ ms) =
    let at : ℕ = begins position m in
    regroup _ _ _ _ _ _ (decoded m) (decoded_in ms)
    (tally-three (sample_kept k n m at) (sample_skipped k n m at) (sample_trimmed n m at)
    (λ (j : ℕ). one_of_three (sample_trimmed n m at j) (ltb (n + j) k)) (decoded m))
    (shares-from k (n + decoded m) (At m.granule) ms)
  where
    regroup : (a b c x y z d e : ℕ) → a + b + c ≡ d → x + y + z ≡ e → (a + x) + (b + y) + (c + z) ≡ d + e
    regroup a b c x y z d e p q = omega arith

pub shares : (k : ℕ) (ms : List Mark) → kept_count k ms + skipped_count k ms + trimmed_count ms ≡ decoded_in ms
shares k ms = shares-from k 0 Unset ms

-- ---- the positions that the samples span

-- one mark: what is before it, its hole and its samples reach G, and further by what is trimmed
spans-one : (b hole d dec hs g trimmed l t at : ℕ) → at + d ≡ g + trimmed → b + hole ≡ at → g + dec + hs ≡ l + t
    → b + (d + dec) + (hole + hs) ≡ l + (trimmed + t)
spans-one b hole d dec hs g trimmed l t at p q e = omega arith

mark-fits : (position : Position) (m : Mark) → too_small position m.last m.granule (decoded m) ≡ false
    → Fits m.granule (decoded m) (placed position m.last m.granule (decoded m))
mark-fits position m e = fits-placed position m.last m.granule (decoded m) e

spans-from : (n : ℕ) (position : Position) (m : Mark) (ms : List Mark) → Legal position (m ∷ ms)
    → before position m.granule (decoded m) + decoded_in (m ∷ ms) + holes_from position (m ∷ ms)
    ≡ last_from m.granule ms + count_from sample_trimmed n position (m ∷ ms)
unfolding count_from last_from holes_from decoded_in placed trimmed_of
spans-from n position m [] l =
    let k : Fits m.granule (decoded m) (placed position m.last m.granule (decoded m)) = mark-fits position m l.0 in
    spans-one (before position m.granule (decoded m)) (hole position m.granule (decoded m)) (decoded m) 0 0 m.granule
    (tally (sample_trimmed n m (begins position m)) (decoded m)) m.granule 0
    (begins position m) k.ends k.spans (omega arith)
spans-from n position m (o ∷ ms) l =
    let k : Fits m.granule (decoded m) (placed position m.last m.granule (decoded m)) = mark-fits position m l.0 in
    spans-one (before position m.granule (decoded m)) (hole position m.granule (decoded m)) (decoded m) (decoded_in (o ∷ ms))
    (holes_from (At m.granule) (o ∷ ms)) m.granule
    (tally (sample_trimmed n m (begins position m)) (decoded m)) (last_from o.granule ms)
    (count_from sample_trimmed (n + decoded m) (At m.granule) (o ∷ ms))
    (begins position m) k.ends k.spans (spans-from (n + decoded m) (At m.granule) o ms l.2)

pub spans : (ms : List Mark) → Legal Unset ms → initial ms + decoded_in ms + holes ms ≡ last_granule ms + trimmed_count ms
unfolding initial last_granule holes_from decoded_in count_from
spans [] l = refl
spans (m ∷ ms) l = spans-from 0 Unset m ms l

-- ---- the samples kept are those decoded and not trimmed, less the pre-skip

-- arithmetic in pieces small enough for `omega`, which splits each `-` and `min`
add-whole : (n k d : ℕ) → (n - k) + (d - min (k - n) d) ≡ (n + d) - k
add-whole n k d = omega arith

add-cut : (n k v d : ℕ) → v ≤ d → (n - k) + (v - min (k - n) d) ≡ (n + v) - k
add-cut n k v d h = omega arith

cut-is : (room d : ℕ) → d + 0 - (d - room + 0) ≡ min room d
cut-is room d = omega arith

least_le : (room d : ℕ) → min room d ≤ d
least_le room d = omega arith

less_late : (d dec t : ℕ) → t ≤ dec → d + dec - (0 + t) ≡ d + (dec - t)
less_late d dec t h = omega arith

few-trimmed : (k n : ℕ) (position : Position) (ms : List Mark) → count_from sample_trimmed n position ms ≤ decoded_in ms
few-trimmed k n position ms =
    let e : count_from (sample_kept k) n position ms + count_from (sample_skipped k) n position ms + count_from sample_trimmed n position ms
    ≡ decoded_in ms = shares-from k n position ms in
    omega arith

module _ (k n : ℕ) (position : Position) (m : Mark) where
  abbrev at : ℕ
  at = begins position m

  abbrev d : ℕ
  d = decoded m

  kept_whole : m.last ≡ false → tally (sample_kept k n m at) d ≡ d - min (k - n) d
  kept_whole e = sym (kept_same k n m at d) ∙ ap (λ (t : Bool). kept_of (k - n) t m.granule at d) e ∙ (closed_forms (k - n) m.granule at d).whole

  trimmed-none : m.last ≡ false → tally (sample_trimmed n m at) d ≡ 0
  trimmed-none e = sym (trimmed-same n m at d) ∙ ap (λ (t : Bool). trimmed_of t m.granule at d) e ∙ (closed_forms 0 m.granule at d).uncut

  kept-cut : m.last ≡ true → tally (sample_kept k n m at) d ≡ min (m.granule - at) d - min (k - n) d
  kept-cut e = sym (kept_same k n m at d) ∙ ap (λ (t : Bool). kept_of (k - n) t m.granule at d) e ∙ (closed_forms (k - n) m.granule at d).cut

  trimmed-cut : m.last ≡ true → tally (sample_trimmed n m at) d ≡ d - (m.granule - at)
  trimmed-cut e = sym (trimmed-same n m at d) ∙ ap (λ (t : Bool). trimmed_of t m.granule at d) e ∙ (closed_forms 0 m.granule at d).trimmed

  -- what is to be shown, a and t being kept and trimmed here
  abbrev Kept : ℕ → ℕ → List Mark → Type 0
  Kept a t rs =
      (n - k) + (a + count_from (sample_kept k) (n + d) (At m.granule) rs)
      ≡ (n + (d + decoded_in rs - (t + count_from sample_trimmed (n + d) (At m.granule) rs))) - k

  whole-kept : (ms : List Mark)
      → (n + d - k) + count_from (sample_kept k) (n + d) (At m.granule) ms
      ≡ (n + d + (decoded_in ms - count_from sample_trimmed (n + d) (At m.granule) ms)) - k
      → Kept (d - min (k - n) d) 0 ms
  whole-kept ms ih =
      let rest : ℕ = count_from (sample_kept k) (n + d) (At m.granule) ms in
      let t : ℕ = count_from sample_trimmed (n + d) (At m.granule) ms in
      sym (add_assoc (n - k) (d - min (k - n) d) rest) ∙ ap (λ (z : ℕ). z + rest) (add-whole n k d) ∙ ih
      ∙ ap (λ (z : ℕ). z - k) (add_assoc n d (decoded_in ms - t)
      ∙ ap (λ (z : ℕ). n + z) (sym (less_late d (decoded_in ms) t (few-trimmed k (n + d) (At m.granule) ms))))

  cut-kept : (ms : List Mark) → ms ≡ [] → Kept (min (m.granule - at) d - min (k - n) d) (d - (m.granule - at)) ms
  unfolding count_from decoded_in
  cut-kept [] e =
      ap (λ (z : ℕ). (n - k) + z) (add-zero (min (m.granule - at) d - min (k - n) d))
      ∙ add-cut n k (min (m.granule - at) d) d (least_le (m.granule - at) d)
      ∙ ap (λ (z : ℕ). (n + z) - k) (sym (cut-is (m.granule - at) d))
  cut-kept (o ∷ ms) e = absurd (cons≢nil e)

  kept_on : (ms : List Mark) (t : Bool) → m.last ≡ t → (m.last ≡ true → ms ≡ [])
      → (n + d - k) + count_from (sample_kept k) (n + d) (At m.granule) ms
      ≡ (n + d + (decoded_in ms - count_from sample_trimmed (n + d) (At m.granule) ms)) - k
      → Kept (tally (sample_kept k n m at) d) (tally (sample_trimmed n m at) d) ms
  kept_on ms true e end ih = rw (kept-cut e, trimmed-cut e) (cut-kept ms (end e))
  kept_on ms false e end ih = rw (kept_whole e, trimmed-none e) (whole-kept ms ih)

kept_from : (k n : ℕ) (position : Position) (ms : List Mark) → Legal position ms
    → (n - k) + count_from (sample_kept k) n position ms ≡ (n + (decoded_in ms - count_from sample_trimmed n position ms)) - k
unfolding count_from decoded_in
kept_from k n position [] l = omega arith
kept_from k n position (m ∷ ms) l = kept_on k n position m ms m.last refl l.1 (kept_from k (n + decoded m) (At m.granule) ms l.2)

reached : (i d h l t : ℕ) → i + d + h ≡ l + t → t ≤ d → d - t ≡ l - i - h
reached i d h l t e f = omega arith

kept-all : (k a v : ℕ) → (0 - k) + a ≡ (0 + v) - k → a ≡ v - k
kept-all k a v e = omega arith

pub closed-form : (k : ℕ) (ms : List Mark) → Legal Unset ms → kept_count k ms ≡ last_granule ms - initial ms - holes ms - k
closed-form k ms l =
    kept-all k (kept_count k ms) (decoded_in ms - trimmed_count ms) (kept_from k 0 Unset ms l)
    ∙ ap (λ (v : ℕ). v - k) (reached (initial ms) (decoded_in ms) (holes ms) (last_granule ms) (trimmed_count ms) (spans ms l)
    (few-trimmed k 0 Unset ms))
