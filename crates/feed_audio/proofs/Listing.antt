-- A list filled from the front, one entry a turn: the same for all fields of an entry. Assumes nothing.
use Prim.Native.Nat.{ℕ, suc, ◌+◌, ◌-◌, ◌/◌, ◌%◌, ◌<◌, ◌≤◌, ◌^◌}
use mathlib.Core.Path.{◌≡◌, refl, sym, ap, ap₂, ◌∙◌}
use mathlib.Core.Bool.{Bool}
use mathlib.Core.List.{List, [], ◌∷◌, ◌++◌, map, append_assoc, append-nil}
use native.Mathlib.Numerals.{add-one}
use native.Mathlib.Omega.{arith}
use lib.ListN.{length, get_or, take, drop, set, length-set, take-append-drop}
use lib.Seq.{take-suc-set, drop-set-lt, drop-length}
use Rattle.granule.specs.Samples.{kept_of}
use Rattle.packet_reader.specs.declared.Measure.{Measure}
use Rattle.stream.specs.Lent.{lent_of}
use Rattle.stream.specs.Packets.{samples_of}
use Rattle.stream.proofs.Lent.{same-lent}
use Rattle.stream.specs.Feed.{Entry, entry_of, entries, listed}
use Rattle.feed_audio.specs.Code.{unpacked, measures_in, Placeable, Lists}
use Rattle.feed_audio.proofs.Measuring.{length-measures}
use Rattle.feed_lacing.proofs.Values.{next}

pub length-entries : (skip : ℕ) (end : Bool) (g at : ℕ) (ms : List Measure) → length (entries skip end g at ms) ≡ length ms
unfolding entries
length-entries skip end g at [] = refl
length-entries skip end g at (m ∷ ms) = ap suc (length-entries (skip - m.samples) end g (at + m.samples) ms)

pub record Stored (f : Entry → ℕ) (n : ℕ) (goal left : List Entry) (old list : List ℕ) (i : ℕ) : Type 0 where
  pub front : take i list ++ map f left ≡ map f goal
  pub rest : drop n list ≡ drop n old
  pub size : length list ≡ length old

stores : {f : Entry → ℕ} {n : ℕ} {goal left : List Entry} {old list : List ℕ} {i : ℕ} {e : Entry}
    → Stored f n goal (e ∷ left) old list i → i < n → n ≤ length old → Stored f n goal left old (set list i (f e)) (i + 1)
stores {f} {n} {goal} {left} {old} {list} {i} {e} s h room =
    let in_l : i < length list = omega (arith, s.size) in
    record {
      front = rw (add-one i, take-suc-set list i (f e) in_l, append_assoc) s.front;
      rest = drop-set-lt n list i (f e) h ∙ s.rest;
      size = length-set list i (f e) ∙ s.size;
    }

all-stored : {f : Entry → ℕ} {n : ℕ} {goal : List Entry} {old list : List ℕ} {i : ℕ} → Stored f n goal [] old list i → i ≡ n → length goal ≡ n
    → list ≡ listed f goal old
all-stored {f} {n} {goal} {old} {list} {i} s e size =
    sym (take-append-drop n list)
    ∙ ap₂ (λ (x y : List ℕ). x ++ y) (sym (append-nil (take n list)) ∙ (rw e at s.front)) (s.rest ∙ ap (λ (k : ℕ). drop k old) (sym size))

-- ---- the four lists together

-- i of the n packets of the measures in vs are listed; the next begins after `at`, with `left` samples still to skip
pub record Listing (skip₀ : ℕ) (last : Bool) (g : ℕ) (goal : List Entry) (vs : List ℕ) (n : ℕ)
    (ends₀ lengths₀ kept₀ frames₀ ends lengths kept frames : List ℕ) (at left i : ℕ) : Type 0 where
  pub ended : Stored (λ (e : Entry). e.end) n goal (entries left last g at (measures_in (drop i vs))) ends₀ ends i
  pub sized : Stored (λ (e : Entry). e.samples) n goal (entries left last g at (measures_in (drop i vs))) lengths₀ lengths i
  pub keeps : Stored (λ (e : Entry). e.kept) n goal (entries left last g at (measures_in (drop i vs))) kept₀ kept i
  pub framed : Stored (λ (e : Entry). e.frames) n goal (entries left last g at (measures_in (drop i vs))) frames₀ frames i
  pub skips : left - samples_of (measures_in (drop i vs)) ≡ skip₀ - samples_of (measures_in vs)
  pub fits : at + samples_of (measures_in (drop i vs)) < 2 ^ 64
  pub within : i ≤ n
  pub count : length vs ≡ n
  pub goals : length goal ≡ n

module _ {skip₀ : ℕ} {last : Bool} {g : ℕ} {goal : List Entry} {vs : List ℕ} {n : ℕ}
    {ends₀ lengths₀ kept₀ frames₀ ends lengths kept frames : List ℕ} {at left i : ℕ}
    (s : Listing skip₀ last g goal vs n ends₀ lengths₀ kept₀ frames₀ ends lengths kept frames at left i)
    (h : i < n) {v : ℕ} (e : v ≡ get_or vs i 0) where
  -- the samples of the next packet
  abbrev d : ℕ
  d = v / 64

  samples-after : samples_of (measures_in (drop i vs)) ≡ d + samples_of (measures_in (drop (i + 1) vs))
  unfolding measures_in samples_of
  samples-after = rw (next vs i v (omega (arith, s.count)) e)

  entries_next : entries left last g at (measures_in (drop i vs))
      ≡ entry_of at (unpacked v) (kept_of left last g at d) ∷ entries (left - d) last g (at + d) (measures_in (drop (i + 1) vs))
  unfolding entries measures_in
  entries_next = rw (next vs i v (omega (arith, s.count)) e)

  pub fits_next : at + d < 2 ^ 64
  fits_next = omega (arith, samples-after, s.fits)

  pub placeable : n ≤ length ends₀ → n ≤ length lengths₀ → n ≤ length kept₀ → n ≤ length frames₀ → Placeable i v at ends lengths kept frames
  placeable p q r t = record {
    ends = omega (arith, s.ended.size);
    lengths = omega (arith, s.sized.size);
    kept = omega (arith, s.keeps.size);
    frames = omega (arith, s.framed.size);
    fits = fits_next;
  }

  pub lists : n ≤ length ends₀ → n ≤ length lengths₀ → n ≤ length kept₀ → n ≤ length frames₀
      → Listing skip₀ last g goal vs n ends₀ lengths₀ kept₀ frames₀ (set ends i (at + d)) (set lengths i d)
      (set kept i (kept_of left last g at d)) (set frames i (v % 64)) (at + d) (left - d) (i + 1)
  lists p q r t = record {
    ended = stores (rw entries_next at s.ended) h p;
    sized = stores (rw entries_next at s.sized) h q;
    keeps = stores (rw entries_next at s.keeps) h r;
    framed = stores (rw entries_next at s.framed) h t;
    skips = omega (arith, samples-after, s.skips);
    fits = omega (arith, samples-after, s.fits);
    within = omega arith;
    count = s.count;
    goals = s.goals;
  }

-- at the end nothing is left
pub all_listed : {skip₀ : ℕ} {last : Bool} {g : ℕ} {goal : List Entry} {vs : List ℕ} {n : ℕ}
    {ends₀ lengths₀ kept₀ frames₀ ends lengths kept frames : List ℕ} {at left i : ℕ}
    → Listing skip₀ last g goal vs n ends₀ lengths₀ kept₀ frames₀ ends lengths kept frames at left i → n ≤ i
    → Lists left skip₀ (samples_of (measures_in vs)) goal (lent_of [] ends₀ lengths₀ kept₀ frames₀) ends lengths kept frames
unfolding entries measures_in samples_of
all_listed {vs = vs} {n = n} {left = left} {i = i} s h =
    let e : i ≡ n = omega (arith, s.within) in
    let z : drop i vs ≡ [] = ap (λ (k : ℕ). drop k vs) (e ∙ sym s.count) ∙ drop-length vs in
    record {
      lists = same-lent refl (all-stored (rw z at s.ended) e s.goals) (all-stored (rw z at s.sized) e s.goals)
          (all-stored (rw z at s.keeps) e s.goals) (all-stored (rw z at s.framed) e s.goals);
      skips = omega (arith, rw z at s.skips);
    }

pub begins : (skip : ℕ) (last : Bool) (g from n : ℕ) (vs ends lengths kept frames : List ℕ) → length vs ≡ n
    → from + samples_of (measures_in vs) < 2 ^ 64
    → Listing skip last g (entries skip last g from (measures_in vs)) vs n ends lengths kept frames ends lengths kept frames from skip 0
begins skip last g from n vs ends lengths kept frames size fit =
    record {
      ended = record { front = refl; rest = refl; size = refl };
      sized = record { front = refl; rest = refl; size = refl };
      keeps = record { front = refl; rest = refl; size = refl };
      framed = record { front = refl; rest = refl; size = refl };
      skips = refl;
      fits = fit;
      within = omega arith;
      count = size;
      goals = length-entries skip last g from (measures_in vs) ∙ length-measures vs ∙ size;
    }
