-- Packets with one measure: its list, their samples, and what listing them answers. Assumes nothing.
use Rattle.std.specs.Prelude.{Result, Ok, Err}
use Rattle.refusal.specs.declared.Refusal.{Refusal}
use Prim.Native.Nat.{ℕ, zero, suc, ◌*◌, ◌≤◌}
use mathlib.Core.Path.{◌≡◌, refl, sym, ap, subst, ◌∙◌}
use mathlib.Core.List.{List, ◌∷◌}
use native.Mathlib.Nat.{le_of_suc-le-suc, le_trans, mul-le-mul_left, mul-le-mul_right}
use native.Mathlib.Omega.{arith}
use lib.Dec.{lit≤}
use lib.ListN.{take, replicate, length-replicate}
use Rattle.refusal.specs.Told.{Told, gives}
use Rattle.page_layout.specs.declared.PageHeader.{PageHeader}
use Rattle.page_flags.specs.Flags.{is_last_page}
use Rattle.packet_toc.specs.Toc.{frame_samples}
use Rattle.packet_toc.proofs.Samples.{frame-length}
use Rattle.packet_reader.specs.declared.Measure.{Measure}
use Rattle.granule.specs.declared.Placed.{Placed}
use Rattle.stream.specs.declared.Core.{Core}
use Rattle.stream.specs.Lent.{Lent}
use Rattle.stream.specs.Packets.{samples_of}
use Rattle.stream.specs.Feed.{entries}
use Rattle.feed_audio.specs.declared.times.Timed.{Timed}
use Rattle.feed_audio.specs.Code.{packed_of, measures_in, Packable, Measures, Times, Room, Lists}
use Rattle.feed_audio.specs.Alike.{single, Roomy, FilledAs}
use Rattle.feed_audio.proofs.Measuring.{packs}

-- fewer of them
take_fewer : (n k v : ℕ) → n ≤ k → take n (replicate k v) ≡ replicate n v
take_fewer zero k v h = refl
take_fewer (suc n) zero v h = absurd (omega arith)
take_fewer (suc n) (suc k) v h = ap (λ (vs : List ℕ). v ∷ vs) (take_fewer n k v (le_of_suc-le-suc h))

pub take-replicate : (n v : ℕ) → take n (replicate n v) ≡ replicate n v
take-replicate n v = take_fewer n n v (omega arith)

measures-replicate : (n : ℕ) (m : Measure) → Packable m → measures_in (replicate n (packed_of m)) ≡ replicate n m
unfolding measures_in
measures-replicate zero m p = refl
measures-replicate (suc n) m p = rw (packs m p, measures-replicate n m p)

samples-replicate : (n : ℕ) (m : Measure) → samples_of (replicate n m) ≡ n * m.samples
unfolding samples_of
samples-replicate zero m = omega arith
samples-replicate (suc n) m = rw (samples-replicate n m) (omega arith)

-- ---- packets of one frame

-- the answer being known
pub times_as : {r s : Result Timed Refusal} {packed : List ℕ} {k : Core} {h : PageHeader} {t : Told (List Measure)} → r ≡ s → Times r packed k h t → Times s packed k h t
times_as {packed = packed} {k = k} {h = h} {t = t} e m = subst (λ (x : Result Timed Refusal). Times x packed k h t) e m

pub single_packs : (toc : ℕ) → Packable (single toc)
single_packs toc = record { samples = le_trans (frame-length toc).most (lit≤ tt); frames = lit≤ tt }

module _ (count toc : ℕ) (few : count ≤ 255) where
  abbrev v : ℕ
  v = packed_of (single toc)

  abbrev packed : List ℕ
  packed = replicate count v

  pub most-samples : count * frame_samples toc ≤ 734400
  most-samples = le_trans (mul-le-mul_right (frame_samples toc) few) (mul-le-mul_left 255 (frame-length toc).most)

  measures_are : measures_in (take count packed) ≡ replicate count (single toc)
  measures_are = ap measures_in (take-replicate count v) ∙ measures-replicate count (single toc) (single_packs toc)

  pub measures-alike : {d : ℕ} → d ≡ count * frame_samples toc → Measures (Ok (record { count = count; samples = d })) packed (gives (replicate count (single toc)))
  measures-alike {d} e = record {
    tells = ap gives measures_are;
    sums = record {
      adds = e ∙ sym (samples-replicate count (single toc)) ∙ ap samples_of (sym measures_are);
      few = omega (arith, length-replicate count v);
      small = rw e (le_trans most-samples (lit≤ tt));
    };
  }

  module _ {k : Core} {h : PageHeader} {t : Told (List Measure)} {n d : ℕ} {w : Placed} (m : Times (Ok (record { count = n; samples = d; place = w })) packed k h t) where
    fewer : n ≤ count
    fewer = omega (arith, m.runs.few, length-replicate count v)

    taken : take n packed ≡ replicate n v
    taken = take_fewer n count v fewer

    pub room-alike : {es ss ks fs : List ℕ} → Roomy es ss ks fs → Room n w.from (replicate n v) es ss ks fs
    room-alike r = record {
      measures = omega (arith, length-replicate n v);
      ends = omega (arith, fewer, r.ends);
      lengths = omega (arith, fewer, r.lengths);
      kept = omega (arith, fewer, r.kept);
      frames = omega (arith, fewer, r.frames);
      fits = rw (take-replicate n v) (rw taken at m.runs.fits);
    }

    pub filled_alike : {skip left : ℕ} {old : Lent} {es ss ks fs : List ℕ}
        → Lists left skip (samples_of (measures_in (replicate n v)))
        (entries skip (is_last_page h.flags) h.granule w.from (measures_in (replicate n v))) old es ss ks fs
        → FilledAs n d w left k h skip t old es ss ks fs
    filled_alike l = record { packed = packed; times = m; lists = rw taken l }
