-- The stream of a buffer's pages: what all feedings of them with room show. Assumes nothing.
use Prim.Native.Nat.{ℕ, suc, ◌-◌, ◌%◌, ◌^◌, ◌≤◌}
use mathlib.Core.Path.{◌≡◌, refl, sym, ap, ap₂, subst, ◌∙◌}
use mathlib.Core.Logic.{◌⊎◌, inl, inr}
use mathlib.Core.Bool.{Bool, true, false}
use mathlib.Core.List.{List, [], ◌∷◌, map}
use mathlib.Core.Option.{Option, none, some}
use native.Mathlib.Omega.{arith}
use borrow.Author.Tests.{ltb-false, le-ltb}
use lib.Dec.{ltb}
use lib.ListN.{length, take, drop, replicate, length-drop, length-append, length-map, length-replicate}
use Rattle.octets.specs.Pick.{pick}
use Rattle.octets.specs.Octets.{Bytes}
use Rattle.refusal.specs.declared.Refusal.{Refusal}
use Rattle.granule.specs.declared.Position.TheVariants.{Unset}
use Rattle.stream.specs.Page.{page_of}
use Rattle.stream.specs.Readings.{Readings}
use Rattle.stream.specs.State.{in_headers}
use Rattle.limits.specs.Limits.{packet_max, list_max}
use Rattle.stream.specs.Rules.{verdict}
use Rattle.stream.specs.Feed.{Reader, view, start, Entry, entries_on, carry_after, listed, fed_by, feed}
use Rattle.stream.specs.Lent.{Lent, lent_of, is_short}
use Rattle.stream.specs.Stream.{open_after, left_after, carried_of, head_of, phase_of, serial_of, marks, position_from, decoded_in, Listing, listings}
use Rattle.stream.specs.Feedings.{Feeding, reader_by, finally, held_of, carry_left, HandedOn, Shown, stream, bytes_in, bytes_of}
use Rattle.stream.specs.Statements.{Determined, Counted}
use Rattle.stream.proofs.Pieces.{or_left, or_right, or_none}
use Rattle.stream.proofs.Carry.{length-carry}
use Rattle.stream.proofs.Step.{expected, saw, feeds}
use Rattle.stream.proofs.Theorem1.{stream-state}
use Rattle.stream.proofs.Theorem4.{stream-counts}
use Rattle.recording.specs.Judging.{whole, refused, RefusedPage, first_refused, fresh, packets_in, judged_by, judge_pages}
use Rattle.recording.specs.Feedings.{Roomy, pages_fed, Feeds, feedings_from, shown_as}
use Rattle.recording.specs.Statements.{Whole, After, WholeIs, AcceptedStreams, WholeStreams, FeedingsFeed, RefusedStreams, Unfinished, RefusedIs}
use Rattle.recording.proofs.Passing.{all-good}
use Rattle.recording.proofs.Feedings.{all_shown, Stops, first_stops}

-- ---- from any feedings

abbrev listings_in : List Shown → List Listing
listings_in S = map (λ (x : Shown). x.listing) S

-- what is shown is the pages with their listings
apart : (X : List Shown) → shown_as (bytes_of X) (listings_in X) ≡ X
unfolding shown_as
apart [] = refl
apart (x ∷ X) = ap (λ (l : List Shown). x ∷ l) (apart X)

count : (X : List Shown) → length X ≡ length (bytes_of X)
count [] = refl
count (x ∷ X) = ap suc (count X)

module _ (R : Readings) (S : List Bytes) (F : List Feeding) (none-refused : first_refused R fresh 0 S ≡ none) (fed : Feeds R S F) where
  abbrev X : List Shown
  X = stream R start F

  pub bytes-shown : bytes_of X ≡ S
  bytes-shown =
      all_shown R F start [] 0 fed.handed fed.room (ap (first_refused R fresh 0) fed.pages ∙ none-refused) ∙ fed.pages

  determined : Determined R X (finally R start F) (carry_left R start [] F)
  determined = stream-state R F fed.handed

  pub all_listed : listings_in X ≡ listings R S
  all_listed = determined.listings ∙ ap (listings R) bytes-shown

  pub shows-all : X ≡ shown_as S (listings R S)
  shows-all = sym (apart X) ∙ ap₂ shown_as bytes-shown all_listed

  pub after-all : After R S (finally R start F) (carry_left R start [] F)
  after-all =
      let d = determined in
      let e = bytes-shown in
      record {
        phase = d.phase ∙ ap phase_of e;
        unfinished = d.unfinished ∙ ap (λ (l : List Bytes). carried_of (open_after false l) (left_after [] l)) e;
        position = d.position ∙ ap (λ (l : List Bytes). position_from Unset (marks R l)) e;
        serial = d.serial ∙ ap serial_of e;
        sequence = d.sequence ∙ ap (λ (n : ℕ). n % 2 ^ 32) (count X ∙ ap length e);
        streams = d.streams ∙ ap (λ (l : List Bytes). (head_of R l).streams) e;
        preskip = d.preskip ∙ ap (λ (l : List Bytes). (head_of R l).preskip) e;
        skip = d.skip ∙ ap (λ (l : List Bytes). (head_of R l).preskip - decoded_in (marks R l)) e;
      }

pub accepted-streams : AcceptedStreams
accepted-streams R S F e fed = record { shows = shows-all R S F e fed; ends = after-all R S F e fed }

pub refused-streams : RefusedStreams
refused-streams R S F x e fed =
    let k = first_stops R F start [] 0 x fed.handed fed.room (ap (first_refused R fresh 0) fed.pages ∙ e) in
    let j : x.page - 0 ≡ x.page = omega arith in
    let s : Stops R start F x.number x.page = subst (Stops R start F x.number) j k.1 in
    record {
      there = omega (arith, s.there, length-map F (λ (f : Feeding). f.bytes), ap length fed.pages);
      before = s.before ∙ ap (take x.page) fed.pages;
      told = s.told;
    }

-- ---- feedings in one lent memory

-- a list with entries in its first places is no shorter
grows : (field : Entry → ℕ) (es : List Entry) (old : List ℕ) (n : ℕ) → ltb (length old) n ≡ false → ltb (length (listed field es old)) n ≡ false
grows field es old n e =
    le-ltb (length (listed field es old)) n
    (omega (arith, ltb-false (length old) n e, length-append (map field es) (drop (length es) old), length-map es field, length-drop (length es) old))

-- the five tests of room
pub record Room (m : Lent) : Type 0 where
  pub carry : ltb (length m.carry) packet_max ≡ false
  pub ends : ltb (length m.ends) list_max ≡ false
  pub lengths : ltb (length m.lengths) list_max ≡ false
  pub kept : ltb (length m.kept) list_max ≡ false
  pub frames : ltb (length m.frames) list_max ≡ false

pub has_room : (m : Lent) → is_short m ≡ false → Room m
unfolding is_short
has_room m e =
    let l = or_right (ltb (length m.carry) packet_max) _ e in
    let k = or_right (ltb (length m.ends) list_max) _ l in
    let j = or_right (ltb (length m.lengths) list_max) _ k in
    record {
      carry = or_left (ltb (length m.carry) packet_max) _ e;
      ends = or_left (ltb (length m.ends) list_max) _ l;
      lengths = or_left (ltb (length m.lengths) list_max) _ k;
      kept = or_left (ltb (length m.kept) list_max) _ j;
      frames = or_right (ltb (length m.kept) list_max) _ j;
    }

pub not_short : (m : Lent) → Room m → is_short m ≡ false
unfolding is_short
not_short m r = or_none _ _ r.carry (or_none _ _ r.ends (or_none _ _ r.lengths (or_none _ _ r.kept r.frames)))

-- memory of the same lengths has room too
pub room-stays : (m n : Lent) → is_short m ≡ false → length n.carry ≡ length m.carry → length n.ends ≡ length m.ends
    → length n.lengths ≡ length m.lengths → length n.kept ≡ length m.kept → length n.frames ≡ length m.frames
    → is_short n ≡ false
unfolding is_short
room-stays m n e a x y z w = rw (a, x, y, z, w) e

fed-room : (R : Readings) (r : Reader) (m : Lent) (b : Bytes) → is_short m ≡ false → is_short (feed R r m b).lent ≡ false
fed-room R r m b e = rw (feeds R r m b e) (by (verdict R (view r.core m.carry) b))
  where
    old : Room m
    old = has_room m e

    es : List Entry
    es = entries_on R r.tally.skip (expected r m.carry b) (page_of b) (saw r m.carry b)

    carries : (v : Option Refusal) → ltb (length (carry_after v (expected r m.carry b) (page_of b) m.carry)) packet_max ≡ false
    carries v = ap (λ (n : ℕ). ltb n packet_max) (length-carry v (expected r m.carry b) (page_of b) m.carry) ∙ old.carry

    by : (v : Option Refusal) → is_short (fed_by v R r m (expected r m.carry b) (page_of b) (saw r m.carry b)).lent ≡ false
    by none = not_short (fed_by none R r m (expected r m.carry b) (page_of b) (saw r m.carry b)).lent (record {
      carry = carries none;
      ends = grows (λ (e : Entry). e.end) es m.ends list_max old.ends;
      lengths = grows (λ (e : Entry). e.samples) es m.lengths list_max old.lengths;
      kept = grows (λ (e : Entry). e.kept) es m.kept list_max old.kept;
      frames = grows (λ (e : Entry). e.frames) es m.frames list_max old.frames;
    })
    by (some n) = not_short (fed_by (some n) R r m (expected r m.carry b) (page_of b) (saw r m.carry b)).lent (record { carry = carries (some n); ends = old.ends; lengths = old.lengths; kept = old.kept; frames = old.frames })

chain_pages : (R : Readings) (S : List Bytes) (r : Reader) (m : Lent) → pages_fed (feedings_from R r m S) ≡ S
unfolding feedings_from
chain_pages R [] r m = refl
chain_pages R (b ∷ bs) r m = ap (λ (l : List Bytes). b ∷ l) (chain_pages R bs (reader_by (feed R r m b).told r) (feed R r m b).lent)

chain_room : (R : Readings) (S : List Bytes) (r : Reader) (m : Lent) → is_short m ≡ false → Roomy (feedings_from R r m S)
unfolding feedings_from Roomy
chain_room R [] r m e = tt
chain_room R (b ∷ bs) r m e = (e, chain_room R bs (reader_by (feed R r m b).told r) (feed R r m b).lent (fed-room R r m b e))

chain_handed : (R : Readings) (S : List Bytes) (r : Reader) (m : Lent) (old : Bytes) → is_short m ≡ false
    → take (held_of r.core.pending) m.carry ≡ take (held_of r.core.pending) old → HandedOn R r old (feedings_from R r m S)
unfolding feedings_from HandedOn
chain_handed R [] r m old e same = tt
chain_handed R (b ∷ bs) r m old e same =
    let next : Reader = reader_by (feed R r m b).told r in
    let left : (feed R r m b).lent.carry ≡ pick (is_short m) old (feed R r m b).lent.carry = rw e in
    (λ q. same, chain_handed R bs next (feed R r m b).lent _ (fed-room R r m b e) (ap (take (held_of next.core.pending)) left))

pub feedings-feed : FeedingsFeed
feedings-feed R S m e = record { pages = chain_pages R S start m; room = chain_room R S start m e; handed = chain_handed R S start m [] e refl }

-- memory full of zeros
abbrev pub zeros : ℕ → List ℕ
zeros n = replicate n 0

long : (n k : ℕ) → k ≤ n → ltb (length (zeros n)) k ≡ false
long n k h = le-ltb (length (zeros n)) k (let l : length (zeros n) ≡ n = length-replicate n 0 in omega arith)

pub zeros_room : (n k : ℕ) → packet_max ≤ n → list_max ≤ k → is_short (lent_of (zeros n) (zeros k) (zeros k) (zeros k) (zeros k)) ≡ false
zeros_room n k h l = not_short (lent_of (zeros n) (zeros k) (zeros k) (zeros k) (zeros k)) (record {
  carry = long n packet_max h;
  ends = long k list_max l;
  lengths = long k list_max l;
  kept = long k list_max l;
  frames = long k list_max l;
})

-- some lent memory with room
lent : Lent
lent = lent_of (zeros packet_max) (zeros list_max) (zeros list_max) (zeros list_max) (zeros list_max)

lent-room : is_short lent ≡ false
unfolding lent
lent-room = zeros_room packet_max list_max (omega arith) (omega arith)

pub some-feedings : Readings → List Bytes → List Feeding
some-feedings R S = feedings_from R start lent S

pub some-feed : (R : Readings) (S : List Bytes) → Feeds R S (some-feedings R S)
unfolding some-feedings
some-feed R S = feedings-feed R S lent lent-room

-- ---- by the pages alone

module _ (R : Readings) (S : List Bytes) (e : first_refused R fresh 0 S ≡ none) where
  abbrev F : List Feeding
  F = some-feedings R S

  fed : Feeds R S F
  fed = some-feed R S

  pub listed-all : length (listings R S) ≡ length S
  listed-all =
      let l = ap length (all_listed R S F e fed) in
      let b = ap length (bytes-shown R S F e fed) in
      omega (arith, l, b, length-map (stream R start F) (λ (x : Shown). x.listing), length-map (stream R start F) bytes_in)

  pub shown-all : bytes_of (shown_as S (listings R S)) ≡ S
  shown-all = ap bytes_of (sym (shows-all R S F e fed)) ∙ bytes-shown R S F e fed

  pub counted-all : Counted (shown_as S (listings R S)) (head_of R S).preskip (marks R S)
  counted-all =
      subst (λ (l : List Bytes). Counted (shown_as S (listings R S)) (head_of R l).preskip (marks R l)) (bytes-shown R S F e fed)
      (subst (λ (X : List Shown). Counted X (head_of R (bytes_of (stream R start F))).preskip (marks R (bytes_of (stream R start F)))) (shows-all R S F e fed)
      (stream-counts R F fed.handed))

-- ---- the judgement

refused-whole : {A : Type 0} {n k i j : ℕ} → refused n k ≡ whole i j → A
refused-whole e = let z : ◌≡◌ {A = ℕ} 0 1 = cc in absurd (omega arith)

pub whole_is : WholeIs
unfolding judge_pages
whole_is R S pages packets e = by (first_refused R fresh 0 S) refl (in_headers (phase_of S)) refl e
  where
    by : (x : Option RefusedPage) → first_refused R fresh 0 S ≡ x → (due : Bool) → in_headers (phase_of S) ≡ due
        → judged_by x due (length S) (packets_in (listings R S)) ≡ whole pages packets
        → Whole R S × (pages ≡ length S) × (packets ≡ packets_in (listings R S))
    by (some x) a due h q = refused-whole q
    by none a true h q = refused-whole q
    by none a false h q =
        (record { accepted = a; headed = h; good = all-good R S fresh 0 a; listed = listed-all R S a; shown = shown-all R S a; counted = counted-all R S a }, cc, cc)

pub whole-streams : WholeStreams
whole-streams R S F pages packets e fed = accepted-streams R S F (whole_is R S pages packets e).0.accepted fed

pub refused-is : RefusedIs
unfolding judge_pages
refused-is R S n k e = by (first_refused R fresh 0 S) refl (in_headers (phase_of S)) refl e
  where
    by : (x : Option RefusedPage) → first_refused R fresh 0 S ≡ x → (due : Bool) → in_headers (phase_of S) ≡ due
        → judged_by x due (length S) (packets_in (listings R S)) ≡ refused n k
        → (first_refused R fresh 0 S ≡ some (record { number = n; page = k })) ⊎ Unfinished R S n k
    by (some x) a due h q =
        let i : x.number ≡ n = cc in
        let j : x.page ≡ k = cc in
        inl (a ∙ ap₂ (λ (u v : ℕ). some (record { number = u; page = v })) i j)
    by none a true h q = inr (record { number = cc; page = cc; accepted = a; due = h })
    by none a false h q = refused-whole (sym q)
