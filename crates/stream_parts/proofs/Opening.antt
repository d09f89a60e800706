-- A reader opened at a page agrees with the full one after the first page that completes a packet: demand 3 over the pages from
-- there on. Assumes nothing.
use Rattle.std.proofs.Common.{◌≡◌, ℕ, ◌≤◌, Bool, true, false, not, ◌&&◌, List, [], ◌∷◌, ◌++◌, map, length, get_or, take, drop, sym, refl, ap, ◌∙◌, subst, arith, take-append-drop, length-take, eq-eqb, le-leb}
use lib.Seq.{drop-append_seam}
use Rattle.octets.specs.Pick.{pick}
use Rattle.octets.specs.Octets.{Bytes, begins}
use Rattle.octets.proofs.Beginnings.{begins-append}
use Rattle.refusal.specs.Told.{Told, gives, refuses, retold}
use Rattle.stream.specs.declared.Phase.TheVariants.{Audio}
use Rattle.stream.specs.declared.Pending.{Pending}
use Rattle.stream.specs.declared.Pending.TheVariants.{Nothing, Held, Dropped}
use Rattle.stream.specs.declared.Core.{Core}
use Rattle.stream.specs.Page.{page_of, completes, last}
use Rattle.stream.specs.Readings.{Readings}
use Rattle.stream.specs.Rules.{Stamp}
use Rattle.stream.specs.Feed.{Reader, carried_in, start, open_at, Entry, Taken}
use Rattle.stream.specs.Stream.{open_after, left_after, carried_of, head_of, audio_pages}
use Rattle.stream.specs.Feedings.{Feeding, feed_in, reader_after, finally, held_of, carry_left, HandedOn, Shown, show_as, stream, bytes_in, bytes_of, stamps_of, Marked, all_of, marked, RoomAtMarks, OthersRefused, told_at_marks, drop_if, joined_from, has_position}
use Rattle.stream.specs.Statements.{Determined, view_of, audio_in, began_before, opened_in, Followed}
use Rattle.stream.specs.SameAnswers.{CoresAgree, Twice, feeding, ones, others}
use Rattle.stream.proofs.Theorem1.{stream-state}
use Rattle.stream.proofs.Theorem3.{demand_3, demand_3_state}
use Rattle.stream.proofs.Unskipped.{opened_unskipped}
use Rattle.feed_numbers.specs.Numbers.{phase_number, pending_number, position_number, granule_in, numbers_of}
use Rattle.stream_parts.specs.Agree.{equal_at, compared, equal_bytes, agreeing}
use Rattle.stream_parts.specs.Statements.{pages_of, NoneCompletes, OthersHaveRoom, opened_after, PartBegins, PartJoins, OpenedJoins}
use Rattle.stream_parts.proofs.Appending.{stream-append, handed-first, audio-append, head-append}
use Rattle.stream_parts.proofs.Alike.{view-same}

-- ---- the second reader's feedings, all of them marked

marks : List Twice → List Marked
marks = map (λ (t : Twice). record { mark = true; fed = feeding t.bytes t.other })

all-marks : (ts : List Twice) → all_of (marks ts) ≡ others ts
unfolding all_of marks
all-marks [] = refl
all-marks (t ∷ ts) = ap (λ (l : List Feeding). feeding t.bytes t.other ∷ l) (all-marks ts)

marked-marks : (ts : List Twice) → marked (marks ts) ≡ pages_of ts
unfolding marked marks
marked-marks [] = refl
marked-marks (t ∷ ts) = ap (λ (l : List Bytes). t.bytes ∷ l) (marked-marks ts)

room_at_marks : (ts : List Twice) → OthersHaveRoom ts → RoomAtMarks (marks ts)
unfolding OthersHaveRoom RoomAtMarks marks
room_at_marks [] h = tt
room_at_marks (t ∷ ts) h = (λ e. h.0, room_at_marks ts h.1)

none_unmarked : (R : Readings) (ts : List Twice) (r : Reader) → OthersRefused R r (marks ts)
unfolding OthersRefused marks
none_unmarked R [] r = tt
none_unmarked R (t ∷ ts) r = (tt, none_unmarked R ts (reader_after R r (feeding t.bytes t.other)))

-- ---- what is told at the marks: no number

AllGiven : List (Told (List Stamp)) → Type 0
AllGiven [] = Unit {0}
AllGiven (gives s ∷ l) = AllGiven l
AllGiven (refuses n ∷ l) = ⊥

-- each feeding is accepted then
accepts-all : (R : Readings) (ts : List Twice) (r : Reader) → AllGiven (told_at_marks R r (marks ts)) → bytes_of (stream R r (others ts)) ≡ pages_of ts
unfolding told_at_marks marks stream AllGiven
accepts-all R [] r g = refl
accepts-all R (t ∷ ts) r g =
    let f : Feeding = feeding t.bytes t.other in
    by (feed_in R r f).told _ _ _ (told_at_marks R (reader_after R r f) (marks ts)) (accepts-all R ts (reader_after R r f)) g
  where
    by : (u : Told Taken) (es : List Entry) (tell : Taken → List Stamp) (later : List Shown) (l : List (Told (List Stamp)))
        → (AllGiven l → bytes_of later ≡ pages_of ts) → AllGiven (retold tell u ∷ l)
        → bytes_of (show_as u es t.bytes later) ≡ t.bytes ∷ pages_of ts
    by (gives x) es tell later l on k = ap (λ (b : List Bytes). t.bytes ∷ b) (on k)
    by (refuses n) es tell later l on k = absurd k

-- m completes a packet and is not marked last, and no page before it completes one
record Joins (began : Bool) (xs : List Shown) : Type 0 where
  given : AllGiven (joined_from began false xs)
  position : has_position xs ≡ true

joins : (began : Bool) (ts : List Twice) (m : Twice) (xs : List Shown) → bytes_of xs ≡ pages_of (ts ++ m ∷ []) → NoneCompletes ts
    → completes (page_of m.bytes) ≡ true → last (page_of m.bytes) ≡ false → Joins began xs
unfolding NoneCompletes joined_from has_position AllGiven
joins began [] m [] e h c l = let z : ◌≡◌ {A = ℕ} 0 1 = cc in absurd (omega arith)
joins began [] m (x ∷ []) e h c l =
    let same : x.bytes ≡ m.bytes = cc in
    record { given = rw (same, c, l) tt; position = rw (same, c, l) refl }
joins began [] m (x ∷ y ∷ ys) e h c l = let z : ◌≡◌ {A = ℕ} 0 1 = cc in absurd (omega arith)
joins began (t ∷ ts) m [] e h c l = let z : ◌≡◌ {A = ℕ} 0 1 = cc in absurd (omega arith)
joins began (t ∷ ts) m (x ∷ xs) e h c l =
    let same : x.bytes ≡ t.bytes = cc in
    let rest : bytes_of xs ≡ pages_of (ts ++ m ∷ []) = cc in
    let later : Joins began xs = joins began ts m xs rest h.1 c l in
    record { given = rw (same, h.0) later.given; position = rw (same, h.0) later.position }

-- ---- equal readers are found to agree

EqualIn : List ℕ → List ℕ → List ℕ → Type 0
EqualIn [] a b = Unit {0}
EqualIn (i ∷ is) a b = (get_or a i 0 ≡ get_or b i 0) × EqualIn is a b

equal_at_lem : (is a b : List ℕ) → EqualIn is a b → equal_at is a b ≡ true
unfolding equal_at EqualIn
equal_at_lem [] a b e = refl
equal_at_lem (i ∷ is) a b e = rw (eq-eqb (get_or a i 0) (get_or b i 0) e.0, equal_at_lem is a b e.1)

-- what is held is in the carry buffer
held_fits : (k : Pending) (c : Bytes) (o : Bool) (h : Bytes) → carried_in k c ≡ carried_of o h → held_of k ≤ length c
held_fits Nothing c o h e = omega arith
held_fits Dropped c o h e = omega arith
held_fits (Held n) c true h e =
    let count : n ≡ length h = cc in
    let bytes : take n c ≡ h = cc in
    let size : length (take n c) ≡ length h = ap length bytes in
    omega (arith, length-take n c)
held_fits (Held n) c false h e = let z : ◌≡◌ {A = ℕ} 0 1 = cc in absurd (omega arith)

found-equal : (n : ℕ) (c d : Bytes) → n ≤ length c → take n d ≡ take n c → equal_bytes n c d ≡ true
unfolding equal_bytes
found-equal n c d low e =
    let there : begins (take n c) d ≡ true =
    ap (begins (take n c)) (sym (take-append-drop n d) ∙ ap (λ (l : Bytes). l ++ drop n d) e) ∙ begins-append (take n c) (drop n d) in
    rw (le-leb n (length c) low, there)

found-agreeing : (r o : Reader) (c d : Bytes) → CoresAgree r o c d → o.tally.skip ≡ r.tally.skip → held_of r.core.pending ≤ length c
    → agreeing (numbers_of r) c (numbers_of o) d ≡ true
unfolding agreeing numbers_of EqualIn
found-agreeing r o c d e skip low =
    let k : r.core ≡ o.core = sym e.core in
    let numbers : equal_at compared (numbers_of r) (numbers_of o) ≡ true =
    equal_at_lem compared (numbers_of r) (numbers_of o) (
      ap (λ (x : Core). phase_number x.phase) k,
      (
        ap (λ (x : Core). pending_number x.pending) k,
        (
          ap (λ (x : Core). held_of x.pending) k,
          (
            ap (λ (x : Core). position_number x.position) k,
            (
              ap (λ (x : Core). granule_in x.position) k,
              (
                ap (λ (x : Core). x.serial) k,
                (
                  ap (λ (x : Core). x.next) k,
                  (
                    ap (λ (x : Core). x.streams) k,
                    (
                      ap (λ (x : Core). x.preskip) k,
                      (sym skip, tt),
                    ),
                  ),
                ),
              ),
            ),
          ),
        ),
      ),
    ) in
    rw (numbers, found-equal (held_of r.core.pending) c d low e.held)

-- ---- the part

module _ (R : Readings) (F : List Feeding) (ts : List Twice) (m : Twice) (p : PartBegins R F ts m) where
  abbrev P : List Twice
  P = ts ++ m ∷ []

  abbrev G : List Feeding
  G = F ++ ones P

  -- the stream before the part, and the pages of the part as they are told
  abbrev before : List Shown
  before = stream R start F

  abbrev part : List Shown
  part = stream R (finally R start F) (ones P)

  audio : audio_in R G ≡ audio_pages bytes_in before ++ part
  audio =
      let state : Determined R before (finally R start F) (carry_left R start [] F) = stream-state R F (handed-first R (ones P) F start [] p.full) in
      ap (audio_pages bytes_in) (stream-append R (ones P) F start) ∙ audio-append before part (sym state.phase ∙ p.audio)

  abbrev j : ℕ
  j = length (audio_pages bytes_in before)

  from-there : drop j (audio_in R G) ≡ part
  from-there = ap (drop j) audio ∙ drop-append_seam (audio_pages bytes_in before) part

  same_head : opened_in R G ≡ opened_after R F
  same_head =
      let state : Determined R before (finally R start F) (carry_left R start [] F) = stream-state R F (handed-first R (ones P) F start [] p.full) in
      ap (λ (S : List Shown). open_at (head_of R (bytes_of S))) (stream-append R (ones P) F start)
      ∙ ap open_at (head-append R before part (sym state.phase ∙ p.audio))

  followed : Followed R G j (marks P)
  followed = record {
    first = p.full;
    second = subst (λ (o : Reader). HandedOn R o [] (all_of (marks P))) (sym same_head)
        (subst (HandedOn R (opened_after R F) []) (sym (all-marks P)) p.opened);
    room = room_at_marks P p.room;
    pages = marked-marks P ∙ sym p.accepted ∙ ap bytes_of (sym from-there);
    others = none_unmarked R P (opened_in R G);
  }

  joined-there : Joins (began_before R G j) part
  joined-there = joins (began_before R G j) ts m part p.accepted p.before p.completes p.goes

  accepts : bytes_of (stream R (opened_after R F) (others P)) ≡ pages_of P
  accepts =
      accepts-all R P (opened_after R F)
      (subst (λ (o : Reader). AllGiven (told_at_marks R o (marks P))) same_head
      (subst AllGiven (sym (demand_3 R G j (marks P) followed ∙ ap (joined_from (began_before R G j) false) from-there)) joined-there.given))

  abbrev r : Reader
  r = finally R start G

  abbrev o : Reader
  o = finally R (opened_after R F) (others P)

  abbrev c : Bytes
  c = carry_left R start [] G

  abbrev d : Bytes
  d = carry_left R (opened_after R F) [] (others P)

  -- demand 3: the states are equal
  same-state : view_of o d ≡ view_of r c
  same-state =
      subst (λ (x : Reader). view_of (finally R x (others P)) (carry_left R x [] (others P)) ≡ view_of r c) same_head
      (subst (λ (M : List Feeding). view_of (finally R (opened_in R G) M) (carry_left R (opened_in R G) [] M) ≡ view_of r c) (all-marks P)
      (demand_3_state R G j (marks P) followed (ap has_position from-there ∙ joined-there.position)))

  agrees : agreeing (numbers_of r) c (numbers_of o) d ≡ true
  agrees =
      let state : Determined R (stream R start G) r c = stream-state R G p.full in
      found-agreeing r o c d (view-same r o c d same-state)
      ((opened_unskipped R (head_of R (bytes_of before)) (others P)).skip ∙ sym p.skipped)
      (held_fits r.core.pending c (open_after false (bytes_of (stream R start G))) (left_after [] (bytes_of (stream R start G))) state.unfinished)

pub opened_joins : OpenedJoins
opened_joins R F ts m p = record { accepts = accepts R F ts m p; agrees = agrees R F ts m p }
