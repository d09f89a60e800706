-- Packets of one frame and one first byte: what a turn of `same_packets` keeps, and their measures. Assumes nothing.
use Rattle.std.specs.Prelude.{Option, Some, None}
use Prim.Native.Nat.{ℕ, zero, suc, ◌+◌, ◌*◌, ◌-◌, ◌≤◌, ◌<◌}
use mathlib.Core.Path.{◌≡◌, refl, sym, ap, subst, ◌∙◌}
use mathlib.Core.Bool.{true}
use mathlib.Core.List.{List, [], ◌∷◌, ◌++◌, append-nil}
use native.Mathlib.Numerals.{add-one}
use native.Mathlib.Omega.{arith}
use borrow.Author.Tests.{eqb-true}
use lib.Dec.{eqb}
use lib.ListN.{length, get_or, take, drop, replicate, drop_of_length-le}
use lib.Seq.{drop-drop}
use Rattle.octets.specs.Octets.{Bytes, total}
use Rattle.octets.proofs.Tests.{both}
use Rattle.refusal.specs.Told.{Told, gives}
use Rattle.packet_toc.specs.Toc.{frame_samples}
use Rattle.packet_reader.specs.declared.Measure.{Measure}
use Rattle.packet_reader.specs.Streams.{is_single}
use Rattle.packet_reader.proofs.Single.{reads-single}
use Rattle.stream.specs.declared.Pending.{Pending}
use Rattle.stream.specs.declared.Pending.TheVariants.{Nothing}
use Rattle.stream.specs.Page.{whole_from}
use Rattle.feed_audio.specs.declared.packets.Same.{Same}
use Rattle.feed_audio.specs.Code.{in_front, and_later, measure_in, measured, packets_by}
use Rattle.feed_audio.specs.Alike.{is_single_of, single, Singles, Alike, SinglesOn, AlikeOn}
use Rattle.feed_audio.proofs.Turns.{total-next}
use Rattle.feed_audio.proofs.Measuring.{measure_of, in_front-again, in_front-none, ahead, ahead_more, ahead-ends, ahead_none}
use Rattle.feed_lacing.proofs.Values.{next}

pub replicate_more : (n : ℕ) (m : Measure) → replicate n m ++ (m ∷ []) ≡ replicate (n + 1) m
replicate_more n m = rw (add-one n) (by n)
  where
    by : (k : ℕ) → replicate k m ++ (m ∷ []) ≡ replicate (suc k) m
    by zero = refl
    by (suc k) = ap (λ (ms : List Measure). m ∷ ms) (by k)

-- the measure of such a packet
reads-alike : (toc : ℕ) (b : Bytes) → is_single_of toc b ≡ true → measure_in b 1 ≡ gives (single toc)
reads-alike toc b e =
    let two = both (is_single b) (eqb (get_or b 0 0) toc) e in
    let first : 1 * frame_samples (get_or b 0 0) ≡ frame_samples toc = omega arith ∙ ap frame_samples (eqb-true (get_or b 0 0) toc two.1) in
    ap measure_of (reads-single b two.0) ∙ ap (λ (d : ℕ). gives (record { samples = d; frames = 1 })) first

-- ---- the loop

pub record Alikes (toc : ℕ) (l body : Bytes) (count start bytes i : ℕ) : Type 0 where
  pub tells : in_front (replicate count (single toc)) (ahead 1 bytes (drop i l) (drop start body)) ≡ measured 1 (whole_from 0 l body)
  pub few : count ≤ i
  pub within : i ≤ length l
  pub room : start + bytes + total (drop i l) ≤ length body

pub alikes_start : (toc : ℕ) (l body : Bytes) → total l ≤ length body → Alikes toc l body 0 0 0 0
alikes_start toc l body h = record { tells = in_front-none (ahead 1 0 l body); few = omega arith; within = omega arith; room = omega arith }

module _ {toc : ℕ} {l body : Bytes} {count start bytes i : ℕ} (g : Alikes toc l body count start bytes i)
    {v : ℕ} (e' : v ≡ get_or l i 0) (in_l : i < length l) where
  pub alike-fits : start + (bytes + v) ≤ length body
  alike-fits = omega (arith, total-next l i v in_l e')

  pub alike_on : 255 ≤ v → Alikes toc l body count start (bytes + v) (i + 1)
  alike_on h = record {
    tells = rw (next l i v in_l e', ahead_more 1 bytes v (drop (i + 1) l) (drop start body) h) at g.tells;
    few = omega arith;
    within = omega arith;
    room = omega (arith, total-next l i v in_l e');
  }

  module _ (h : v < 255) (alike : is_single_of toc (take (start + (bytes + v) - start) (drop start body)) ≡ true) where
    abbrev m : Measure
    m = single toc

    abbrev later : Told (List Measure)
    later = ahead 1 0 (drop (i + 1) l) (drop (start + (bytes + v)) body)

    reads : measure_in (take (bytes + v) (drop start body)) 1 ≡ gives m
    reads =
        let k : start + (bytes + v) - start ≡ bytes + v = omega arith in
        rw k at (reads-alike toc (take (start + (bytes + v) - start) (drop start body)) alike)

    told : {x : Told Measure} → measure_in (take (bytes + v) (drop start body)) 1 ≡ x
        → in_front (replicate count m) (and_later x later) ≡ measured 1 (whole_from 0 l body)
    told r =
        rw (← r, ← drop-drop (bytes + v) start body, ← ahead-ends 1 bytes v (drop (i + 1) l) (drop start body) h, ← next l i v in_l e')
        g.tells

    pub alike-ends : Alikes toc l body (count + 1) (start + (bytes + v)) 0 (i + 1)
    alike-ends = record {
      tells = ap (λ (ms : List Measure). in_front ms later) (sym (replicate_more count m)) ∙ sym (in_front-again (replicate count m) m later) ∙ told reads;
      few = omega arith;
      within = omega arith;
      room = omega (arith, total-next l i v in_l e');
    }

pub all_alike : {toc : ℕ} {l body : Bytes} {count start bytes i : ℕ} → Alikes toc l body count start bytes i → length l ≤ i → length l ≤ 255
    → Singles count toc l body
all_alike {toc} {l} {body} {count} {start} {bytes} {i} g h few =
    let all = rw (drop_of_length-le l h, ahead_none 1 bytes (drop start body)) at g.tells in
    record { few = omega (arith, g.few, g.within); reads = sym all ∙ ap gives (append-nil (replicate count (single toc))) }

-- what is pending, and the streams
pub on_page_lem : (r : Option Same) (pending : Pending) (streams : ℕ) (l body : Bytes) → pending ≡ Nothing → streams ≡ 1 → Alike r l body
    → AlikeOn r pending streams l body
on_page_lem (Some r) pending streams l body p s a = record { none = p; one = s; singles = a }
on_page_lem None pending streams l body p s a = tt

-- the answer and the number of streams being known
pub known_alike : {r : Option Same} {n toc : ℕ} {streams count : ℕ} (pending : Pending) (l body : Bytes) → r ≡ (Some (record { count = n; toc = toc })) → streams ≡ count
    → AlikeOn r pending streams l body → SinglesOn n toc pending count l body
known_alike {n = n} {toc = toc} {streams = streams} pending l body e s a =
    subst (λ (k : ℕ). SinglesOn n toc pending k l body) s (subst (λ (x : Option Same). AlikeOn x pending streams l body) e a)

-- the page's packets, where they are such packets
pub alike-measured : {n toc : ℕ} {pending : Pending} {streams : ℕ} {l body : Bytes} (values bytes : ℕ) (carry : Bytes)
    → SinglesOn n toc pending streams l body
    → measured streams (packets_by pending values bytes l body carry) ≡ gives (replicate n (single toc))
alike-measured {n} {toc} {pending} {streams} {l} {body} values bytes carry s =
    rw (s.none, s.one) s.singles.reads
