-- A run over two buffers joined is the run over the first and then that over the second. Assumes nothing.
use Rattle.std.proofs.Common.{◌≡◌, ℕ, zero, suc, ◌+◌, ◌-◌, ◌<◌, ◌≤◌, Bool, true, false, List, ◌++◌, length, take, drop, sym, refl, ap, ◌∙◌, subst, ap₂, append_assoc, arith, length-append, length-drop, take-append-drop, length-take, length-take-le}
use mathlib.Core.Option.{Option, none, some}
use lib.Seq.{take-append-le, take-append_seam, drop-append-le, drop-append_seam, take-append-add, drop-append-add}
use Rattle.octets.specs.Pick.{pick}
use Rattle.octets.specs.Octets.{Bytes, Octets}
use Rattle.octets.proofs.Parts.{octets-take, octets-drop}
use Rattle.refusal.specs.Told.{Told, gives, refuses}
use Rattle.page_size.specs.Size.{is_one_page}
use Rattle.page_end.specs.End.{end_at}
use Rattle.page_end.proofs.Ends.{none-some, end-inside}
use Rattle.stream.specs.Readings.{Readings, readings}
use Rattle.stream.specs.Feed.{Reader, Taken, Fed, feed, view}
use Rattle.stream.specs.Lent.{Lent}
use Rattle.stream.specs.Feedings.{Feeding, feed_in}
use Rattle.stream.proofs.Step.{gives≢refuses}
use Rattle.stream.proofs.TotalsAny.{fed_either}
use Rattle.feed_pages.specs.Run.{is_full, past, whole, Reached, Why, full, cut, Turn, goes, stops, after, fed_to, turn_to, turn, Ended, follow, runs, started, feed_pages, Inside}
use Rattle.feed_pages.proofs.Runs.{enough_turns, run_fits}
use Rattle.recording.proofs.Passing.{one-good}
use Rattle.recording.proofs.Cutting.{cut-here, ends-here, one-ends}
use Rattle.stream_parts.specs.Runs.{further, both}
use Rattle.stream_parts.specs.Statements.{RunsJoin}

-- ---- where pages end in the joined buffer

-- a page that ends n bytes after its start, by its place
ends_there : (b : Bytes) (at n : ℕ) → at ≤ length b → end_at (drop at b) 0 ≡ some n → end_at b at ≡ some (at + n)
ends_there b at n inside q = by (end_at b at) refl
  where
    by : (w : Option ℕ) → end_at b at ≡ w → w ≡ some (at + n)
    by none e = none-some (sym (cut-here b at inside e) ∙ q)
    by (some k) e =
        let same : some (k - at) ≡ some n = sym (ends-here b at inside k e) ∙ q in
        let size : k - at ≡ n = cc in
        let place : k ≡ at + n = omega (arith, (end-inside b at k e).after) in
        ap some place

module _ (b c : Bytes) where
  -- a whole page of the first buffer
  page-stays : (at e : ℕ) → at ≤ length b → end_at b at ≡ some e → is_one_page (take (e - at) (drop at b)) ≡ true → end_at (b ++ c) at ≡ some e
  page-stays at e inside q one =
      let there = end-inside b at e q in
      let p : Bytes = take (e - at) (drop at b) in
      let later : Bytes = drop (e - at) (drop at b) ++ c in
      let size : length p ≡ e - at = length-take-le (e - at) (drop at b) (omega (arith, there.within, length-drop at b)) in
      let cutting : drop at (b ++ c) ≡ p ++ later =
      drop-append-le at b c inside
      ∙ ap (λ (l : Bytes). l ++ c) (sym (take-append-drop (e - at) (drop at b)))
      ∙ append_assoc p (drop (e - at) (drop at b)) c in
      let place : at + (e - at) ≡ e = omega (arith, there.after) in
      ends_there (b ++ c) at (e - at) (omega (arith, length-append b c))
      (ap (λ (l : Bytes). end_at l 0) cutting ∙ one-ends p later one ∙ ap some size)
      ∙ ap some place

  bytes_stay : (at e : ℕ) → at ≤ length b → e ≤ length b → take (e - at) (drop at (b ++ c)) ≡ take (e - at) (drop at b)
  bytes_stay at e inside within =
      ap (take (e - at)) (drop-append-le at b c inside) ∙ take-append-le (e - at) (drop at b) c (omega (arith, length-drop at b))

  -- a place of the second buffer
  abbrev moved : Option ℕ → Option ℕ
  moved none = none
  moved (some e) = some (length b + e)

  end_moves : (x : ℕ) → x ≤ length c → end_at (b ++ c) (length b + x) ≡ moved (end_at c x)
  end_moves x inside = by (end_at c x) refl (end_at (b ++ c) (length b + x)) refl
    where
      fits : length b + x ≤ length (b ++ c)
      fits = omega (arith, length-append b c)

      same : end_at (drop (length b + x) (b ++ c)) 0 ≡ end_at (drop x c) 0
      same = ap (λ (l : Bytes). end_at l 0) (drop-append-add b c x)

      by : (u : Option ℕ) → end_at c x ≡ u → (v : Option ℕ) → end_at (b ++ c) (length b + x) ≡ v → v ≡ moved u
      by none p none q = refl
      by none p (some e) q = none-some (sym (cut-here c x inside p) ∙ sym same ∙ ends-here (b ++ c) (length b + x) fits e q)
      by (some e) p v q =
          let inner = end-inside c x e p in
          let place : length b + x + (e - x) ≡ length b + e = omega (arith, inner.after) in
          sym q ∙ ends_there (b ++ c) (length b + x) (e - x) fits (same ∙ ends-here c x inside e p) ∙ ap some place

-- ---- the first run

-- what is accepted is a whole page
is-page : (crc : Bytes → ℕ) (r : Reader) (m : Lent) (p : Bytes) (t : Taken) → (feed (readings crc) r m p).told ≡ gives t → is_one_page p ≡ true
unfolding readings
is-page crc r m p t g =
    fed_either (readings crc) r (record { bytes = p; lent = m }) (λ (f : Fed). f.told ≡ gives t → is_one_page p ≡ true)
    (λ f n e q. absurd (gives≢refuses (sym q ∙ e)))
    (λ v q. (one-good (readings crc) (view r.core m.carry) p v).page) g

module _ (crc : Bytes → ℕ) (b c : Bytes) where
  abbrev R : Readings
  R = readings crc

  -- the run over the joined buffer goes on where the first run ended, with turns enough for the second buffer
  record GoesOn (k : ℕ) (a : Reached) (m : Lent) (e : Ended) : Type 0 where
    turns : ℕ
    enough : length c < turns
    same : runs k R (b ++ c) a m ≡ runs turns R (b ++ c) e.reached e.lent

  abbrev page : Reached → ℕ → Bytes
  page a e = take (e - a.bytes) (drop a.bytes b)

  abbrev fed : Reached → Lent → ℕ → Fed
  fed a m e = feed R a.reader (past a.packets m) (page a e)

  -- an accepted page of the first buffer is a turn of the joined run
  same_turn : (a : Reached) (m : Lent) (e : ℕ) (t : Taken) → a.bytes ≤ length b → is_full a.packets m ≡ false → end_at b a.bytes ≡ some e
      → (fed a m e).told ≡ gives t → turn R (b ++ c) a m ≡ after a e (gives t) (whole a.packets m (fed a m e).lent)
  unfolding turn
  same_turn a m e t inside room q g =
      let there = end-inside b a.bytes e q in
      rw (room, page-stays b c a.bytes e inside q (is-page crc a.reader (past a.packets m) (page a e) t g), bytes_stay b c a.bytes e inside there.within, g)

  goes_on : (n k : ℕ) (a : Reached) (m : Lent) → a.bytes ≤ length b → length b - a.bytes < n → length (b ++ c) - a.bytes < k
      → (runs n R b a m).reached.bytes ≡ length b → GoesOn k a m (runs n R b a m)
  unfolding runs turn
  goes_on zero k a m inside x y h = absurd (omega arith)
  goes_on (suc n) zero a m inside x y h = absurd (omega arith)
  goes_on (suc n) (suc k) a m inside x y h = by (goes_on n k) (is_full a.packets m) refl (end_at b a.bytes) refl h
    where
      Later : Type 0
      Later = (z : Reached) (l : Lent) → z.bytes ≤ length b → length b - z.bytes < n → length (b ++ c) - z.bytes < k
          → (runs n R b z l).reached.bytes ≡ length b → GoesOn k z l (runs n R b z l)

      -- the first run stops here
      here : (why : Why) → a.bytes ≡ length b → GoesOn (suc k) a m (record { reached = a; why = why; lent = m })
      here why e = record { turns = suc k; enough = omega (arith, length-append b c); same = refl }

      by-told : Later → (e : ℕ) → is_full a.packets m ≡ false → end_at b a.bytes ≡ some e → (t : Told Taken) → (fed a m e).told ≡ t
          → (follow (runs n R b) a (after a e t (whole a.packets m (fed a m e).lent))).reached.bytes ≡ length b
          → GoesOn (suc k) a m (follow (runs n R b) a (after a e t (whole a.packets m (fed a m e).lent)))
      by-told later e room q (gives t) g w =
          let there = end-inside b a.bytes e q in
          let on = later _ _ there.within (omega (arith, there.after, there.within)) (omega (arith, there.after, there.within, length-append b c)) w in
          record {
            turns = on.turns;
            enough = on.enough;
            same = ap (follow (runs k R (b ++ c)) a) (same_turn a m e t inside room q g) ∙ on.same;
          }
      by-told later e room q (refuses i) g w = let there = end-inside b a.bytes e q in absurd (omega (arith, there.after, there.within, w))

      by : Later → (u : Bool) → is_full a.packets m ≡ u → (v : Option ℕ) → end_at b a.bytes ≡ v
          → (follow (runs n R b) a (pick u (stops full m) (turn_to R b a m v))).reached.bytes ≡ length b
          → GoesOn (suc k) a m (follow (runs n R b) a (pick u (stops full m) (turn_to R b a m v)))
      by later true p v q w = here full w
      by later false p none q w = here cut w
      by later false p (some e) q w = by-told later e p q (fed a m e).told refl w

-- ---- the second run: a is where the first ended, with the lent memory m

module _ (n k : ℕ) (l e : List ℕ) (low : n ≤ length l) where
  size : length (take n l) ≡ n
  size = length-take-le n l low

  drops : drop (n + k) (take n l ++ e) ≡ drop k e
  drops = ap (λ (i : ℕ). drop (i + k) (take n l ++ e)) (sym size) ∙ drop-append-add (take n l) e k

  takes : take (n + k) (take n l ++ e) ≡ take n l ++ take k e
  takes = ap (λ (i : ℕ). take (i + k) (take n l ++ e)) (sym size) ∙ take-append-add (take n l) e k

  left : length (take n l ++ e) - (n + k) ≡ length e - k
  left = omega (arith, length-append (take n l) e, size)

  fills : (f : List ℕ) → take (n + k) (take n l ++ e) ++ f ≡ take n l ++ (take k e ++ f)
  fills f = ap (λ (x : List ℕ). x ++ f) takes ∙ append_assoc (take n l) (take k e) f

module _ (R : Readings) (b c : Bytes) (a : Reached) (m : Lent) (fits : Inside a b m) (all : a.bytes ≡ length b) where
  abbrev n : ℕ
  n = a.packets

  full_moves : (k : ℕ) (l : Lent) → is_full (n + k) (whole n m l) ≡ is_full k l
  unfolding is_full
  full_moves k l =
      rw (left n k m.ends l.ends fits.ends, left n k m.lengths l.lengths fits.lengths, left n k m.kept l.kept fits.kept, left n k m.frames l.frames fits.frames)

  past_moves : (k : ℕ) (l : Lent) → past (n + k) (whole n m l) ≡ past k l
  past_moves k l =
      rw (drops n k m.ends l.ends fits.ends, drops n k m.lengths l.lengths fits.lengths, drops n k m.kept l.kept fits.kept, drops n k m.frames l.frames fits.frames)

  whole_moves : (k : ℕ) (l f : Lent) → whole (n + k) (whole n m l) f ≡ whole n m (whole k l f)
  whole_moves k l f =
      rw (fills n k m.ends l.ends fits.ends f.ends, fills n k m.lengths l.lengths fits.lengths f.lengths, fills n k m.kept l.kept fits.kept f.kept, fills n k m.frames l.frames fits.frames f.frames)

  -- a turn of the second run, as one of the joined run
  abbrev moved_turn : Turn → Turn
  moved_turn (goes z l) = goes (further a z) (whole n m l)
  moved_turn (stops why l) = stops why (whole n m l)

  abbrev ended : Ended → Ended
  ended e = record { reached = further a e.reached; why = e.why; lent = whole n m e.lent }

  bytes-move : (x e : ℕ) → x ≤ length c → take (length b + e - (length b + x)) (drop (length b + x) (b ++ c)) ≡ take (e - x) (drop x c)
  bytes-move x e inside =
      let less : length b + e - (length b + x) ≡ e - x = omega arith in
      ap₂ (λ (i : ℕ) (l : Bytes). take i l) less (drop-append-add b c x)

  after_moves : (z : Reached) (e : ℕ) (t : Told Taken) (l f : Lent)
      → after (further a z) (a.bytes + e) t (whole (n + z.packets) (whole n m l) f) ≡ moved_turn (after z e t (whole z.packets l f))
  after_moves z e (gives t) l f =
      let pages : a.pages + z.pages + 1 ≡ a.pages + (z.pages + 1) = omega arith in
      let packets : n + z.packets + t.counts.packets ≡ n + (z.packets + t.counts.packets) = omega arith in
      rw (pages, packets, whole_moves z.packets l f)
  after_moves z e (refuses i) l f = rw (whole_moves z.packets l f)

  turn_moves : (z : Reached) (l : Lent) → z.bytes ≤ length c → turn R (b ++ c) (further a z) (whole n m l) ≡ moved_turn (turn R c z l)
  unfolding turn
  turn_moves z l inside =
      let place : end_at (b ++ c) (a.bytes + z.bytes) ≡ moved b c (end_at c z.bytes) = rw all (end_moves b c z.bytes inside) in
      rw (full_moves z.packets l, place) (by (is_full z.packets l) (end_at c z.bytes))
    where
      by : (u : Bool) (v : Option ℕ)
          → pick u (stops full (whole n m l)) (turn_to R (b ++ c) (further a z) (whole n m l) (moved b c v))
          ≡ moved_turn (pick u (stops full l) (turn_to R c z l v))
      by true v = refl
      by false none = refl
      by false (some e) =
          let p : Bytes = take (e - z.bytes) (drop z.bytes c) in
          let same-page : take (length b + e - (a.bytes + z.bytes)) (drop (a.bytes + z.bytes) (b ++ c)) ≡ p =
          ap (λ (i : ℕ). take (length b + e - (i + z.bytes)) (drop (i + z.bytes) (b ++ c))) all ∙ bytes-move z.bytes e inside in
          let there : length b + e ≡ a.bytes + e = ap (λ (i : ℕ). i + e) (sym all) in
          ap₂ (λ (i : ℕ) (f : Fed). fed_to (further a z) (whole n m l) i f) there
          (ap₂ (λ (x : Lent) (q : Bytes). feed R z.reader x q) (past_moves z.packets l) same-page)
          ∙ after_moves z e (feed R z.reader (past z.packets l) p).told l (feed R z.reader (past z.packets l) p).lent

  runs-move : (k : ℕ) (z : Reached) (l : Lent) → z.bytes ≤ length c → runs k R (b ++ c) (further a z) (whole n m l) ≡ ended (runs k R c z l)
  unfolding runs turn
  runs-move zero z l inside = refl
  runs-move (suc k) z l inside =
      ap (follow (runs k R (b ++ c)) (further a z)) (turn_moves z l inside) ∙ by (runs-move k) (is_full z.packets l) (end_at c z.bytes) refl
    where
      Later : Type 0
      Later = (y : Reached) (w : Lent) → y.bytes ≤ length c → runs k R (b ++ c) (further a y) (whole n m w) ≡ ended (runs k R c y w)

      by-told : Later → (e : ℕ) → e ≤ length c → (t : Told Taken) (w : Lent)
          → follow (runs k R (b ++ c)) (further a z) (moved_turn (after z e t w)) ≡ ended (follow (runs k R c) z (after z e t w))
      by-told later e within (gives t) w = later _ w within
      by-told later e within (refuses i) w = refl

      by : Later → (u : Bool) (v : Option ℕ) → end_at c z.bytes ≡ v
          → follow (runs k R (b ++ c)) (further a z) (moved_turn (pick u (stops full l) (turn_to R c z l v)))
          ≡ ended (follow (runs k R c) z (pick u (stops full l) (turn_to R c z l v)))
      by later true v q = refl
      by later false none q = refl
      by later false (some e) q =
          let f : Fed = feed R z.reader (past z.packets l) (take (e - z.bytes) (drop z.bytes c)) in
          by-told later e (end-inside c z.bytes e q).within f.told (whole z.packets l f.lent)

  -- the lists as they are, cut after the places filled
  whole-past : whole n m (past n m) ≡ m
  whole-past = rw (take-append-drop n m.ends, take-append-drop n m.lengths, take-append-drop n m.kept, take-append-drop n m.frames)

  not-begun : further a (started a.reader) ≡ a
  not-begun =
      let bytes : a.bytes + 0 ≡ a.bytes = omega arith in
      let pages : a.pages + 0 ≡ a.pages = omega arith in
      let packets : n + 0 ≡ n = omega arith in
      ap₂ (λ (x y : ℕ). record { reader = a.reader; bytes = x; pages = y; packets = n + 0 }) bytes pages
      ∙ ap (λ (x : ℕ). record { reader = a.reader; bytes = a.bytes; pages = a.pages; packets = x }) packets

  run_moves : (k : ℕ) → runs k R (b ++ c) a m ≡ ended (runs k R c (started a.reader) (past n m))
  run_moves k =
      ap₂ (λ (x : Reached) (l : Lent). runs k R (b ++ c) x l) (sym not-begun) (sym whole-past)
      ∙ runs-move k (started a.reader) (past n m) (omega arith)

pub runs-join : RunsJoin
unfolding feed_pages
runs-join crc r m b c o e q h =
    let first : GoesOn crc b c (suc (length (b ++ c))) (started r) m e =
    subst (GoesOn crc b c (suc (length (b ++ c))) (started r) m) q
    (goes_on crc b c (suc (length b)) (suc (length (b ++ c))) (started r) m (omega arith) (omega arith) (omega arith)
    (ap (λ (x : Ended). x.reached.bytes) q ∙ h)) in
    let ob : Octets b = subst Octets (take-append_seam b c) (octets-take (length b) (b ++ c) o) in
    let oc : Octets c = subst Octets (drop-append_seam b c) (octets-drop (length b) (b ++ c) o) in
    let fits : Inside e.reached b e.lent =
    subst (λ (x : Ended). Inside x.reached b x.lent) q (run_fits (readings crc) r m b ob) in
    first.same
    ∙ run_moves (readings crc) b c e.reached e.lent fits h first.turns
    ∙ ap (both e) (enough_turns (readings crc) e.reached.reader (past e.reached.packets e.lent) c oc first.turns first.enough)
