-- A run feeds a list of feedings: all that is known of such lists holds of it. Assumes nothing.
use Prim.Native.Nat.{ℕ, zero, suc, ◌+◌, ◌-◌, ◌≤◌, ◌<◌}
use mathlib.Core.Path.{◌≡◌, refl, sym, ap, ◌∙◌}
use mathlib.Core.Bool.{Bool, true, false}
use mathlib.Core.List.{List, [], ◌∷◌, ◌++◌, map, append-nil, append_assoc}
use mathlib.Core.Option.{Option, none, some}
use native.Mathlib.Omega.{arith}
use lib.ListN.{length, take, replicate, length-append, length-map}
use lib.Seq.{take_at, take-add, length-take-le, take-append-add}
use Rattle.octets.specs.Pick.{pick}
use Rattle.octets.specs.Octets.{Bytes, Octets}
use Rattle.refusal.specs.Told.{Told, gives, refuses}
use Rattle.page_end.specs.End.{end_at}
use Rattle.page_end.proofs.Ends.{end-inside}
use Rattle.stream.specs.Readings.{Readings}
use Rattle.stream.specs.Feed.{Reader, Entry, Taken, Fed}
use Rattle.stream.specs.Lent.{Lent, is_short}
use Rattle.stream.specs.Feedings.{Feeding, feed_in, reader_by, reader_after, finally, left_in, carry_left, HandedOn, Shown, show_as, stream, bytes_of}
use Rattle.stream.specs.Statements.{HasFirst, Shows}
use Rattle.stream.proofs.Step.{feeds-short}
use Rattle.feed_pages.specs.Run.{is_full, past, whole, Reached, Why, refused, cut, full, stops, after, turn_to, turn, Ended, follow, runs, started, feed_pages, Inside}
use Rattle.feed_pages.specs.Feedings.{feeding_to, later_of, feedings_to, feedings_of, run_feedings, numbers_of, last_number, together, entries_of}
use Rattle.feed_pages.specs.Statements.{RunFeeds}
use Rattle.feed_pages.proofs.Turns.{shows, after-goes}
use Rattle.feed_pages.proofs.Runs.{begun}

-- ---- one feeding

-- with room or without, what is left is what the carry buffer holds at the end
left-same : (R : Readings) (r : Reader) (f : Feeding) → left_in R r f f.lent.carry ≡ (feed_in R r f).lent.carry
left-same R r f = by (is_short f.lent) refl
  where
    by : (t : Bool) → is_short f.lent ≡ t → pick t f.lent.carry (feed_in R r f).lent.carry ≡ (feed_in R r f).lent.carry
    by true e = sym (ap (λ (g : Fed). g.lent.carry) (feeds-short R r f.lent f.bytes e))
    by false e = refl

-- ---- lists

map-append : {A B : Type 0} (f : A → B) (xs ys : List A) → map f (xs ++ ys) ≡ map f xs ++ map f ys
map-append f [] ys = refl
map-append {B = B} f (x ∷ xs) ys = ap (λ (l : List B). f x ∷ l) (map-append f xs ys)

-- n places of l are filled, and then those of es
filled : (n k : ℕ) (l old end : List ℕ) (field : Entry → ℕ) (es : List Entry) → n ≤ length l → k ≡ length es → HasFirst old end (map field es)
    → take (n + k) (take n l ++ end) ≡ take n l ++ map field es
filled n k l old end field es h q is =
    let size : n + k ≡ length (take n l) + length (map field es) = omega (arith, length-take-le n l h, length-map es field) in
    ap (λ (i : ℕ). take i (take n l ++ end)) size
    ∙ take-append-add (take n l) end (length (map field es))
    ∙ ap (λ (x : List ℕ). take n l ++ x) is.first

-- they stay
stay : (n : ℕ) (l end : List ℕ) → n ≤ length l → take n (take n l ++ end) ≡ take n l
stay n l end h = take_at (take n l) end n (length-take-le n l h)

-- ---- a run from a to z

-- the places of a list: l at a, `end` at z
abbrev Filled : ℕ → ℕ → List ℕ → List ℕ → (Entry → ℕ) → List Entry → Type 0
Filled n k l end field es = take k end ≡ take n l ++ map field es

record Links (R : Readings) (b : Bytes) (a : Reached) (m : Lent) (z : Ended) (F : List Feeding) : Type 0 where
  handed : HandedOn R a.reader m.carry F
  reader : finally R a.reader F ≡ z.reached.reader
  carry : carry_left R a.reader m.carry F ≡ z.lent.carry
  pages : a.pages + length (stream R a.reader F) ≡ z.reached.pages
  bytes : take a.bytes b ++ together (bytes_of (stream R a.reader F)) ≡ take z.reached.bytes b
  packets : a.packets + length (entries_of (stream R a.reader F)) ≡ z.reached.packets
  ends : Filled a.packets z.reached.packets m.ends z.lent.ends (λ (n : Entry). n.end) (entries_of (stream R a.reader F))
  lengths : Filled a.packets z.reached.packets m.lengths z.lent.lengths (λ (n : Entry). n.samples) (entries_of (stream R a.reader F))
  kept : Filled a.packets z.reached.packets m.kept z.lent.kept (λ (n : Entry). n.kept) (entries_of (stream R a.reader F))
  frames : Filled a.packets z.reached.packets m.frames z.lent.frames (λ (n : Entry). n.frames) (entries_of (stream R a.reader F))
  numbers : numbers_of R a.reader F ≡ replicate (length (stream R a.reader F)) none ++ last_number z.why
  when_cut : z.why ≡ cut → end_at b z.reached.bytes ≡ none
  when_full : z.why ≡ full → is_full z.reached.packets z.lent ≡ true

refused-cut : {A : Type 0} {n : ℕ} → refused n ≡ cut → A
refused-cut e = let z : ◌≡◌ {A = ℕ} 0 1 = cc in absurd (omega arith)

refused_full : {A : Type 0} {n : ℕ} → refused n ≡ full → A
refused_full e = let z : ◌≡◌ {A = ℕ} 0 1 = cc in absurd (omega arith)

cut-full : {A : Type 0} → cut ≡ full → A
cut-full e = let z : ◌≡◌ {A = ℕ} 0 1 = cc in absurd (omega arith)

module _ (R : Readings) (b : Bytes) (o : Octets b) (a : Reached) (m : Lent) (fits : Inside a b m) where
  -- nothing more is fed
  none-fed : (why : Why) → last_number why ≡ [] → (why ≡ cut → end_at b a.bytes ≡ none) → (why ≡ full → is_full a.packets m ≡ true)
      → Links R b a m (record { reached = a; why = why; lent = m }) []
  unfolding HandedOn finally carry_left stream numbers_of together entries_of
  none-fed why n c f = record {
    handed = tt;
    reader = refl;
    carry = refl;
    pages = omega arith;
    bytes = append-nil (take a.bytes b);
    packets = omega arith;
    ends = sym (append-nil (take a.packets m.ends));
    lengths = sym (append-nil (take a.packets m.lengths));
    kept = sym (append-nil (take a.packets m.kept));
    frames = sym (append-nil (take a.packets m.frames));
    numbers = sym n;
    when_cut = c;
    when_full = f;
  }

  module _ (e : ℕ) (there : end_at b a.bytes ≡ some e) where
    abbrev f : Feeding
    f = feeding_to b a m e

    abbrev fed : Fed
    fed = feed_in R a.reader f

    abbrev lent : Lent
    lent = whole a.packets m fed.lent

    -- the page is refused
    refused-fed : (n : ℕ) → fed.told ≡ refuses n → Links R b a m (record { reached = a; why = refused n; lent = lent }) (f ∷ [])
    unfolding HandedOn finally carry_left stream numbers_of together entries_of
    refused-fed n g =
        let none-shown : show_as fed.told fed.entries f.bytes [] ≡ [] = ap (λ (t : Told Taken). show_as t fed.entries f.bytes []) g in
        record {
          handed = (λ room. refl, tt);
          reader = ap (λ (t : Told Taken). reader_by t a.reader) g;
          carry = left-same R a.reader f;
          pages = rw none-shown (omega arith);
          bytes = rw none-shown (append-nil (take a.bytes b));
          packets = rw none-shown (omega arith);
          ends = rw none-shown (stay a.packets m.ends fed.lent.ends fits.ends ∙ sym (append-nil (take a.packets m.ends)));
          lengths = rw none-shown (stay a.packets m.lengths fed.lent.lengths fits.lengths ∙ sym (append-nil (take a.packets m.lengths)));
          kept = rw none-shown (stay a.packets m.kept fed.lent.kept fits.kept ∙ sym (append-nil (take a.packets m.kept)));
          frames = rw none-shown (stay a.packets m.frames fed.lent.frames fits.frames ∙ sym (append-nil (take a.packets m.frames)));
          numbers = rw g;
          when_cut = λ w. refused-cut w;
          when_full = λ w. refused_full w;
        }

    -- it is accepted, and the run goes on from there to z, feeding `later`
    module _ (t : Taken) (g : fed.told ≡ gives t) where
      abbrev next : Reached
      next = record {
        reader = t.reader;
        bytes = e;
        pages = a.pages + 1;
        packets = a.packets + t.counts.packets;
      }

      abbrev x : Shown
      x = record { bytes = f.bytes; listing = record { entries = fed.entries; counts = t.counts } }

      module _ (z : Ended) (later : List Feeding) (is : Links R b next lent z later) where
        is-shown : stream R a.reader (f ∷ later) ≡ x ∷ stream R t.reader later
        unfolding stream
        is-shown = rw g

        is-numbers : numbers_of R a.reader (f ∷ later) ≡ none ∷ numbers_of R t.reader later
        unfolding numbers_of
        is-numbers = rw g

        is-bytes : take a.bytes b ++ (f.bytes ++ together (bytes_of (stream R t.reader later))) ≡ take z.reached.bytes b
        is-bytes =
            let inside = end-inside b a.bytes e there in
            let place : a.bytes + (e - a.bytes) ≡ e = omega (arith, inside.after) in
            sym (append_assoc (take a.bytes b) f.bytes (together (bytes_of (stream R t.reader later))))
            ∙ ap (λ (l : Bytes). l ++ together (bytes_of (stream R t.reader later))) (sym (take-add a.bytes (e - a.bytes) b) ∙ ap (λ (i : ℕ). take i b) place)
            ∙ is.bytes

        shown : Shows (past a.packets m) fed.lent fed.entries t.counts
        shown = shows R b o a m fits e t g

        -- one of the lists
        is_filled : (l old end last : List ℕ) (field : Entry → ℕ) → a.packets ≤ length l → HasFirst old end (map field fed.entries)
            → Filled (a.packets + t.counts.packets) z.reached.packets (take a.packets l ++ end) last field (entries_of (stream R t.reader later))
            → Filled a.packets z.reached.packets l last field (fed.entries ++ entries_of (stream R t.reader later))
        is_filled l old end last field h has q =
            q
            ∙ ap (λ (s : List ℕ). s ++ map field (entries_of (stream R t.reader later))) (filled a.packets t.counts.packets l old end field fed.entries h shown.packets has)
            ∙ append_assoc (take a.packets l) (map field fed.entries) (map field (entries_of (stream R t.reader later)))
            ∙ ap (λ (s : List ℕ). take a.packets l ++ s) (sym (map-append field fed.entries (entries_of (stream R t.reader later))))

        accepted-fed : Links R b a m z (f ∷ later)
        unfolding HandedOn finally carry_left together entries_of
        accepted-fed =
            let on : reader_after R a.reader f ≡ t.reader = ap (λ (u : Told Taken). reader_by u a.reader) g in
            let same = left-same R a.reader f in
            let s = is-shown in
            record {
              handed = (λ room. refl, rw (on, same) is.handed);
              reader = rw on is.reader;
              carry = rw (on, same) is.carry;
              pages = rw s (omega (arith, is.pages));
              bytes = rw s is-bytes;
              packets = rw (s, length-append fed.entries (entries_of (stream R t.reader later))) (omega (arith, is.packets, shown.packets));
              ends = rw s (is_filled m.ends _ fed.lent.ends z.lent.ends (λ (n : Entry). n.end) fits.ends shown.ends is.ends);
              lengths = rw s (is_filled m.lengths _ fed.lent.lengths z.lent.lengths (λ (n : Entry). n.samples) fits.lengths shown.lengths is.lengths);
              kept = rw s (is_filled m.kept _ fed.lent.kept z.lent.kept (λ (n : Entry). n.kept) fits.kept shown.kept is.kept);
              frames = rw s (is_filled m.frames _ fed.lent.frames z.lent.frames (λ (n : Entry). n.frames) fits.frames shown.frames is.frames);
              numbers = rw (s, is-numbers, is.numbers);
              when_cut = is.when_cut;
              when_full = is.when_full;
            }

-- ---- the turns

module _ (R : Readings) (b : Bytes) (o : Octets b) where
  links : (n : ℕ) (a : Reached) (m : Lent) → Inside a b m → length b - a.bytes < n → Links R b a m (runs n R b a m) (feedings_of n R b a m)
  unfolding runs turn feedings_of
  links zero a m fits x = absurd (omega arith)
  links (suc n) a m fits x = by (links n) (is_full a.packets m) refl (end_at b a.bytes) refl
    where
      Later : Type 0
      Later = (c : Reached) (l : Lent) → Inside c b l → length b - c.bytes < n → Links R b c l (runs n R b c l) (feedings_of n R b c l)

      fed : ℕ → Fed
      fed e = feed_in R a.reader (feeding_to b a m e)

      by-told : Later → (e : ℕ) → end_at b a.bytes ≡ some e → (t : Told Taken) → (fed e).told ≡ t
          → Links R b a m (follow (runs n R b) a (after a e t (whole a.packets m (fed e).lent)))
          (feeding_to b a m e ∷ later_of (feedings_of n R b) (after a e t (whole a.packets m (fed e).lent)))
      by-told later e q (gives t) g =
          let on = after-goes R b o a m fits e t g q refl in
          accepted-fed R b o a m fits e q t g _ _ (later _ _ on.fits (omega (arith, on.moves, on.fits.bytes)))
      by-told later e q (refuses k) g = refused-fed R b o a m fits e q k g

      by : Later → (y : Bool) → is_full a.packets m ≡ y → (w : Option ℕ) → end_at b a.bytes ≡ w
          → Links R b a m (follow (runs n R b) a (pick y (stops full m) (turn_to R b a m w))) (pick y [] (feedings_to (feedings_of n R b) R b a m w))
      by later true p w q = none-fed R b o a m fits full refl (λ c. cut-full (sym c)) (λ c. p)
      by later false p none q = none-fed R b o a m fits cut refl (λ c. q) (λ c. cut-full c)
      by later false p (some e) q = by-told later e q (fed e).told refl

pub run_feeds : RunFeeds
unfolding feed_pages run_feedings
run_feeds R r m b o =
    let k = links R b o (suc (length b)) (started r) m (begun r b m) (omega arith) in
    let pages : length (stream R r (run_feedings R r m b)) ≡ (feed_pages R r m b).reached.pages = omega (arith, k.pages) in
    record {
      handed = k.handed;
      reader = k.reader;
      carry = k.carry;
      pages = pages;
      bytes = k.bytes;
      packets = omega (arith, k.packets);
      ends = k.ends;
      lengths = k.lengths;
      kept = k.kept;
      frames = k.frames;
      numbers = k.numbers ∙ ap (λ (n : ℕ). replicate n none ++ last_number (feed_pages R r m b).why) pages;
      when_cut = k.when_cut;
      when_full = k.when_full;
    }
