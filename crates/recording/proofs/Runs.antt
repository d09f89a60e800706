-- A run of `feed_pages` and the judgement of the pages that it fed and left. Assumes nothing.
use Prim.Native.Nat.{ℕ, zero, suc, ◌+◌, ◌-◌, ◌≤◌, ◌<◌}
use mathlib.Core.Path.{◌≡◌, refl, sym, ap, ap₂, subst, ◌∙◌}
use mathlib.Core.Bool.{Bool, true, false, true≢false}
use mathlib.Core.List.{[], ◌∷◌}
use mathlib.Core.Option.{Option, none, some}
use native.Mathlib.Omega.{arith}
use lib.Dec.{ltb}
use lib.ListN.{length, take, drop, length-drop, length-take}
use lib.Seq.{drop-drop}
use Rattle.octets.specs.Pick.{pick}
use Rattle.octets.specs.Octets.{Bytes}
use Rattle.refusal.specs.declared.Refusal.{Refusal}
use Rattle.refusal.specs.Numbers.{number_of}
use Rattle.refusal.specs.Told.{refuses}
use Rattle.page_end.specs.End.{end_at}
use Rattle.page_end.proofs.Ends.{end-inside}
use Rattle.stream.specs.Page.{page_of}
use Rattle.stream.specs.Readings.{Readings, readings}
use Rattle.stream.specs.State.{State, in_headers}
use Rattle.limits.specs.Limits.{packet_max, list_max}
use Rattle.stream.specs.Rules.{verdict, after}
use Rattle.stream.specs.Feed.{Reader, view, counts_on, Fed, fed_by, feed}
use Rattle.stream.specs.Lent.{Lent, is_short}
use Rattle.stream.specs.Feedings.{reader_by}
use Rattle.stream.proofs.Pieces.{or_left, or_right}
use Rattle.stream.proofs.Carry.{length-carry}
use Rattle.stream.proofs.Lists.{page-bounds}
use Rattle.stream.proofs.Step.{expected, saw, feeds, state_by, stepped, gives≢refuses}
use Rattle.feed_partial.specs.Rest.{rest_refusal}
use Rattle.feed_partial.proofs.Rest.{rest-refused}
use Rattle.feed_pages.specs.Run as Run
use Rattle.feed_pages.specs.Run.{is_full, past, Reached, Why, cut, full, Turn, goes, stops, fed_to, turn_to, turn, Ended, follow, runs, started, feed_pages}
use Rattle.recording.specs.Pages.{rest_of, pages_of}
use Rattle.recording.specs.Judging.{Judgement, refused, judged_by}
use Rattle.recording.specs.Code.{packets_on, go_on, judge_from}
use Rattle.recording.proofs.Cutting.{pages-cut, pages-next, cut-here, ends-here}
use Rattle.recording.proofs.Streams.{has_room, not_short}

-- the judgement of the bytes after the last whole page
abbrev pub at_cut : Reader → Bytes → ℕ → ℕ → Judgement
at_cut r [] k n = judged_by none (in_headers r.core.phase) k n
at_cut r (x ∷ rest) k n = refused (number_of (rest_refusal r)) k

-- fed as they stand they are refused
rest-verdict : (crc : Bytes → ℕ) (r : Reader) (m : Lent) (b : Bytes) (at k : ℕ) (later : Judgement) → is_short m ≡ false → end_at b at ≡ none
    → go_on (verdict (readings crc) (view r.core m.carry) (drop at b)) k later ≡ refused (number_of (rest_refusal r)) k
rest-verdict crc r m b at k later room q = by (verdict (readings crc) (view r.core m.carry) (drop at b)) refl
  where
    told : refuses (number_of (rest_refusal r)) ≡ (feed (readings crc) r m (drop at b)).told
    told = (rest-refused crc r m b at room q).told

    by : (v : Option Refusal) → verdict (readings crc) (view r.core m.carry) (drop at b) ≡ v → go_on v k later ≡ refused (number_of (rest_refusal r)) k
    by none e =
        absurd (gives≢refuses (sym (told ∙ ap (λ (g : Fed). g.told) (feeds (readings crc) r m (drop at b) room
        ∙ ap (λ (v : Option Refusal). fed_by v (readings crc) r m (expected r m.carry (drop at b)) (page_of (drop at b)) (saw r m.carry (drop at b))) e))))
    by (some n) e =
        let same : refuses (number_of (rest_refusal r)) ≡ refuses (number_of n) = told ∙ ap (λ (g : Fed). g.told) (feeds (readings crc) r m (drop at b) room
        ∙ ap (λ (v : Option Refusal). fed_by v (readings crc) r m (expected r m.carry (drop at b)) (page_of (drop at b)) (saw r m.carry (drop at b))) e) in
        let number : number_of (rest_refusal r) ≡ number_of n = cc in
        ap (λ (x : ℕ). refused x k) (sym number)

refused_full : {x : ℕ} → Run.refused x ≡ full → ⊥
refused_full e = let z : ◌≡◌ {A = ℕ} 0 1 = cc in omega arith

cut-full : cut ≡ full → ⊥
cut-full e = let z : ◌≡◌ {A = ℕ} 0 1 = cc in omega arith

-- b is the buffer of the run, k pages and n packets being before it
module _ (crc : Bytes → ℕ) (b : Bytes) (k n : ℕ) where
  abbrev R : Readings
  R = readings crc

  -- the judgement from here on
  abbrev pub left : Reached → Lent → Judgement
  left a m = judge_from R (view a.reader.core m.carry) (k + a.pages) (n + a.packets) (pages_of (drop a.bytes b))

  -- where a run stops
  abbrev pub stopped : Reached → Why → Lent → Judgement
  stopped a (Run.refused x) m = refused x (k + a.pages)
  stopped a cut m = at_cut a.reader (drop a.bytes b) (k + a.pages) (n + a.packets)
  stopped a full m = left a m

  abbrev turned : Reached → Turn → Judgement
  turned a (goes next m) = left next m
  turned a (stops why m) = stopped a why m

  -- what a turn moves
  abbrev Moves : Reached → Lent → Turn → Type 0
  Moves a m (goes next l) =
      (a.bytes < next.bytes) × (next.bytes ≤ length b) × (length l.carry ≡ length m.carry) × (next.pages ≡ a.pages + 1)
      × (next.packets + a.bytes ≤ a.packets + next.bytes)
  Moves a m (stops why l) = (length l.carry ≡ length m.carry) × (is_full a.packets m ≡ false → why ≡ full → ⊥)

  module _ (a : Reached) (m : Lent) (inside : a.bytes ≤ length b) (room : ltb (length m.carry) packet_max ≡ false) where
    abbrev s : State
    s = view a.reader.core m.carry

    places : is_full a.packets m ≡ false → is_short (past a.packets m) ≡ false
    unfolding is_full
    places e =
        let l = or_right (ltb (length m.ends - a.packets) list_max) _ e in
        let k = or_right (ltb (length m.lengths - a.packets) list_max) _ l in
        not_short (past a.packets m) (record {
          carry = room;
          ends = ap (λ (x : ℕ). ltb x list_max) (length-drop a.packets m.ends) ∙ or_left (ltb (length m.ends - a.packets) list_max) _ e;
          lengths = ap (λ (x : ℕ). ltb x list_max) (length-drop a.packets m.lengths) ∙ or_left (ltb (length m.lengths - a.packets) list_max) _ l;
          kept = ap (λ (x : ℕ). ltb x list_max) (length-drop a.packets m.kept) ∙ or_left (ltb (length m.kept - a.packets) list_max) _ k;
          frames = ap (λ (x : ℕ). ltb x list_max) (length-drop a.packets m.frames) ∙ or_right (ltb (length m.kept - a.packets) list_max) _ k;
        })

    -- the buffer's end cuts the page
    at_cut_lem : is_full a.packets m ≡ false → end_at b a.bytes ≡ none → left a m ≡ stopped a cut m
    unfolding judge_from
    at_cut_lem free q =
        ap (judge_from R s (k + a.pages) (n + a.packets)) (pages-cut (drop a.bytes b) (cut-here b a.bytes inside q))
        ∙ by (drop a.bytes b) refl
      where
        by : (rest : Bytes) → drop a.bytes b ≡ rest
            → judge_from R s (k + a.pages) (n + a.packets) (rest_of rest) ≡ at_cut a.reader rest (k + a.pages) (n + a.packets)
        by [] e = refl
        by (x ∷ rest) e =
            subst (λ (c : Bytes). go_on (verdict R s c) (k + a.pages) (judge_from R (after R s (x ∷ rest)) (suc (k + a.pages)) (n + a.packets + packets_on R s (x ∷ rest)) [])
            ≡ refused (number_of (rest_refusal a.reader)) (k + a.pages)) e
            (rest-verdict crc a.reader (past a.packets m) b a.bytes (k + a.pages) _ (places free) q)

    module _ (e : ℕ) (q : end_at b a.bytes ≡ some e) (free : is_full a.packets m ≡ false) where
      abbrev page : Bytes
      page = take (e - a.bytes) (drop a.bytes b)

      abbrev t : State
      t = expected a.reader m.carry page

      abbrev fed : Option Refusal → Fed
      fed v = fed_by v R a.reader (past a.packets m) t (page_of page) (saw a.reader m.carry page)

      next-page : pages_of (drop a.bytes b) ≡ page ∷ pages_of (drop e b)
      next-page =
          let there = end-inside b a.bytes e q in
          let place : a.bytes + (e - a.bytes) ≡ e = omega (arith, there.after) in
          pages-next (drop a.bytes b) (e - a.bytes) (ends-here b a.bytes inside e q)
          ∙ ap (λ (c : Bytes). page ∷ pages_of c) (drop-drop (e - a.bytes) a.bytes b ∙ ap (λ (i : ℕ). drop i b) place)

      module _ (v : Option Refusal) (is : verdict R s page ≡ v) where
        is-fed : feed R a.reader (past a.packets m) page ≡ fed v
        is-fed = feeds R a.reader (past a.packets m) page (places free) ∙ ap fed is

        next-state : view (reader_by (fed v).told a.reader).core (fed v).lent.carry ≡ state_by v s (after R s page)
        next-state =
            ap (λ (g : Fed). view (reader_by g.told a.reader).core g.lent.carry) (sym is-fed)
            ∙ (stepped R a.reader (past a.packets m) page (places free)).view
            ∙ ap (λ (w : Option Refusal). state_by w s (after R s page)) is

      judged-by : (v : Option Refusal) → verdict R s page ≡ v
          → go_on v (k + a.pages) (judge_from R (after R s page) (suc (k + a.pages)) (n + a.packets + packets_on R s page) (pages_of (drop e b)))
          ≡ turned a (fed_to a m e (fed v))
      unfolding counts_on packets_on
      judged-by none is =
          let state : State = view (reader_by (fed none).told a.reader).core (fed none).lent.carry in
          let i : suc (k + a.pages) ≡ k + (a.pages + 1) = omega arith in
          let j : n + a.packets + packets_on R s page ≡ n + (a.packets + packets_on R s page) = omega arith in
          ap (λ (u : State). judge_from R u (suc (k + a.pages)) (n + a.packets + packets_on R s page) (pages_of (drop e b))) (sym (next-state none is))
          ∙ ap₂ (λ (x y : ℕ). judge_from R state x y (pages_of (drop e b))) i j
      judged-by (some x) is = refl

      moved_by : (v : Option Refusal) → Moves a m (fed_to a m e (fed v))
      unfolding counts_on packets_on
      moved_by none =
          let there = end-inside b a.bytes e q in
          let few : packets_on R s page ≤ length page = page-bounds R t page in (
            there.after,
            there.within,
            length-carry none t (page_of page) m.carry,
            refl,
            omega (arith, few, there.after, length-take (e - a.bytes) (drop a.bytes b)),
          )
      moved_by (some x) = (length-carry (some x) t (page_of page) m.carry, λ f w. refused_full w)

    -- one turn
    record Turned (x : Turn) : Type 0 where
      same : left a m ≡ turned a x
      moves : Moves a m x

    turns : Turned (turn R b a m)
    unfolding turn judge_from
    turns = by (is_full a.packets m) refl (end_at b a.bytes) refl
      where
        fed-turn : (e : ℕ) (q : end_at b a.bytes ≡ some e) (free : is_full a.packets m ≡ false) → Turned (turn_to R b a m (some e))
        fed-turn e q free =
            let p : Bytes = page e q free in
            let v : Option Refusal = verdict R s p in
            subst (λ (g : Fed). Turned (fed_to a m e g)) (sym (is-fed e q free v refl)) (record {
              same = ap (judge_from R s (k + a.pages) (n + a.packets)) (next-page e q free) ∙ judged-by e q free v refl;
              moves = moved_by e q free v;
            })

        by : (x : Bool) → is_full a.packets m ≡ x → (y : Option ℕ) → end_at b a.bytes ≡ y → Turned (pick x (stops full m) (turn_to R b a m y))
        by true f y q = record { same = refl; moves = (refl, λ g w. true≢false (sym f ∙ g)) }
        by false f none q = record { same = at_cut_lem f q; moves = (refl, λ g w. cut-full w) }
        by false f (some e) q = fed-turn e q f

  -- ---- a run

  pub record Judges (a : Reached) (m : Lent) (z : Ended) : Type 0 where
    pub same : left a m ≡ stopped z.reached z.why z.lent
    pub forth : a.bytes ≤ z.reached.bytes
    pub inside : z.reached.bytes ≤ length b
    pub pages : z.reached.pages + a.bytes ≤ a.pages + z.reached.bytes
    pub packets : z.reached.packets + a.bytes ≤ a.packets + z.reached.bytes
    pub moved : is_full a.packets m ≡ false → z.why ≡ full → a.bytes < z.reached.bytes

  runs-judge : (f : ℕ) (a : Reached) (m : Lent) → a.bytes ≤ length b → ltb (length m.carry) packet_max ≡ false → length b - a.bytes < f
      → Judges a m (runs f R b a m)
  unfolding runs
  runs-judge zero a m i r x = absurd (omega arith)
  runs-judge (suc f) a m i r x = by (turn R b a m) (turns a m i r) (runs-judge f)
    where
      by : (t : Turn) → Turned a m i r t
          → ((c : Reached) (l : Lent) → c.bytes ≤ length b → ltb (length l.carry) packet_max ≡ false → length b - c.bytes < f → Judges c l (runs f R b c l))
          → Judges a m (follow (runs f R b) a t)
      by (goes next l) t later =
          let u = t.moves in
          let z = later next l u.1 (ap (λ (y : ℕ). ltb y packet_max) u.2 ∙ r) (omega (arith, u.0, u.1)) in
          record {
            same = t.same ∙ z.same;
            forth = omega (arith, u.0, z.forth);
            inside = z.inside;
            pages = omega (arith, u.0, u.3, z.forth, z.pages);
            packets = omega (arith, u.4, z.packets);
            moved = λ g w. omega (arith, u.0, z.forth);
          }
      by (stops why l) t later = record {
        same = t.same;
        forth = omega arith;
        inside = i;
        pages = omega arith;
        packets = omega arith;
        moved = λ g w. absurd (t.moves.1 g w);
      }

  pub run_judges : (r : Reader) (m : Lent) → is_short m ≡ false → Judges (started r) m (feed_pages R r m b)
  unfolding feed_pages
  run_judges r m e = runs-judge (suc (length b)) (started r) m (omega arith) (has_room m e).carry (omega arith)
