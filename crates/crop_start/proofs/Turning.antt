-- One page more is fed in the walk: it is accepted, and its first packet starts where the lists say. Assumes nothing.
use Rattle.std.specs.Prelude.{Result, Ok, Err}
use Prim.Native.Nat.{ℕ, suc, ◌+◌, ◌-◌, ◌≤◌}
use mathlib.Core.Path.{◌≡◌, refl, sym, ap, ap₂, subst, ◌∙◌}
use mathlib.Core.Bool.{Bool, true, false}
use mathlib.Core.List.{List, [], ◌∷◌}
use mathlib.Core.Option.{Option, none, some}
use native.Mathlib.Omega.{arith}
use borrow.Author.Tests.{ltb-false, ne_eqb}
use lib.ListN.{length, get_or, take, drop, length-drop}
use Rattle.octets.specs.Pick.{pick}
use Rattle.octets.specs.Octets.{Bytes, Octets}
use Rattle.octets.proofs.Parts.{octets-drop, octets-take}
use Rattle.refusal.specs.declared.Refusal.{Refusal}
use Rattle.refusal.specs.Told.{Told, gives}
use Rattle.limits.specs.Limits.{list_max}
use Rattle.page_crc.specs.Crc.{page_crc}
use Rattle.stream.specs.declared.Counts.{Counts}
use Rattle.stream.specs.Readings.{Readings, readings}
use Rattle.stream.specs.Feed.{Entry, Taken, feed, Feeds}
use Rattle.stream.specs.Lent.{Lent, is_short}
use Rattle.stream.specs.Stream.{Listing, listings}
use Rattle.stream.specs.Statements.{HasFirst, Shows}
use Rattle.stream.proofs.Lists.{accepted-shows}
use Rattle.stream.proofs.Step.{gives≢refuses}
use Rattle.reader.specs.declared.Reader.{Reader}
use Rattle.reader.specs.Answers.{known_as, told_fed}
use Rattle.recording.specs.Pages.{pages_of}
use Rattle.recording.specs.Judging.{first_refused, fresh}
use Rattle.recording.specs.Statements.{After, Walked as WalkedOn}
use Rattle.recording.proofs.Passing.{empty_cons}
use Rattle.recording.proofs.Places.{place-goes_on, place_not_cut}
use Rattle.recording.proofs.Streams.{has_room, listed-all}
use Rattle.recording.proofs.Walking.{walk_goes_on}
use Rattle.recording_pages.specs.Places.{page_at}
use Rattle.recording_pages.proofs.Places.{Next, at_next}
use Rattle.std.specs.Prelude.{Option as CodeOption, Some, None}
use Rattle.crop_start.specs.declared.CropStart.{CropStart}
use Rattle.crop_start.specs.declared.Walk.{Walk}
use Rattle.crop_start.specs.Start.{first_start, start_in, start_of, starts_by, best_start}
use Rattle.crop_start.specs.Code.{best_as, first_in, may_start, CanTurn, Turned}
use Rattle.crop_start.proofs.Starts.{best-next, starts-here}

-- ---- where the first packet of a page starts

first-is : (n : ℕ) (l old end : List ℕ) → HasFirst old end (n ∷ l) → get_or end 0 0 ≡ n
first-is n l old [] h = empty_cons h.first
first-is n l old (x ∷ end) h = let e : x ∷ take (length l) end ≡ n ∷ l = h.first in cc

-- as the lists that a feeding leaves show it
first-shown : (m end : Lent) (es : List Entry) (c : Counts) → Shows m end es c → first_in c.packets end.ends end.lengths ≡ first_start es
first-shown m end [] c s = rw s.packets
first-shown m end (e ∷ es) c s =
    rw (s.packets, ne_eqb (suc (length es)) 0 (λ z. omega arith), first-is e.end _ m.ends end.ends s.ends, first-is e.samples _ m.lengths end.lengths s.lengths)

-- as the listing of page k of an accepted stream has it
first-listed : (R : Readings) (S : List Bytes) (k : ℕ) (p : Bytes) (later : List Bytes) (es : List Entry) (c : Counts) → first_refused R fresh 0 S ≡ none
    → drop k S ≡ p ∷ later → ((l : Listing) (ls : List Listing) → drop k (listings R S) ≡ l ∷ ls → l ≡ record { entries = es; counts = c })
    → start_of R S k ≡ first_start es
unfolding start_of
first-listed R S k p later es c ok here is = by (drop k (listings R S)) refl
  where
    by : (L : List Listing) → drop k (listings R S) ≡ L → start_in L ≡ first_start es
    by [] e = absurd (omega (arith, ap length e, ap length here, length-drop k (listings R S), length-drop k S, listed-all R S ok))
    by (l ∷ ls) e = ap (λ (x : Listing). first_start x.entries) (is l ls e)

best-by : (t : Bool) (a b : CodeOption CropStart) → best_as (pick t a b) ≡ pick t (best_as a) (best_as b)
best-by true a b = refl
best-by false a b = refl

same_taken : {a c : Taken} → ◌≡◌ {A = Told Taken} (gives a) (gives c) → a ≡ c
same_taken {a} {c} e = cc

-- memory with room has it for one packet, and so has memory of the same lengths
pub room_for_one : (m : Lent) (ends lengths : List ℕ) → is_short m ≡ false → length ends ≡ length m.ends → length lengths ≡ length m.lengths
    → (1 ≤ length ends) × (1 ≤ length lengths)
room_for_one m ends lengths e h l =
    let r = has_room m e in
    (omega (arith, ltb-false (length m.ends) list_max r.ends), omega (arith, ltb-false (length m.lengths) list_max r.lengths))

-- what is not none
record There (x : Option ℕ) : Type 0 where
  number : ℕ
  is : x ≡ some number

there : (x : Option ℕ) → (x ≡ none → ⊥) → There x
there none never = absurd (never refl)
there (some n) never = record { number = n; is = refl }

first-same : {a c : Bytes} {l k : List Bytes} → ◌≡◌ {A = List Bytes} (a ∷ l) (c ∷ k) → a ≡ c
first-same e = cc

-- ---- a turn

abbrev R : Readings
R = readings page_crc

-- the page p is fed to the walk w over b, m being lent, and `end` is left
module _ (b : Bytes) (headers position : ℕ) (w : Walk) (m end : Lent) (p : Bytes) (ready : CanTurn b headers position w m) (is : p ≡ page_at b w.at) where
  abbrev S : List Bytes
  S = pages_of b

  next : Next b w.page w.at
  next = at_next b w.page w.at (let u = ready.walked in record { begins = u.begins; place = u.place; few = u.few }) ready.more

  here : drop w.page S ≡ p ∷ drop (w.page + 1) S
  here = next.page ∙ ap (λ (q : Bytes). q ∷ drop (w.page + 1) S) (sym is)

  one : suc w.page ≡ w.page + 1
  one = omega arith

  -- it is a part of the stream
  bytes_of : Octets b → Octets p
  bytes_of o =
      let u = ready.walked in
      let end = there _ (place_not_cut page_crc b w.at w.page u.accepted u.begins ready.more) in
      let part : p ≡ take (end.number - w.at) (drop w.at b) = first-same (sym here ∙ (place-goes_on b w.at w.page end.number u.begins end.is).page) in
      subst Octets (sym part) (octets-take (end.number - w.at) (drop w.at b) (octets-drop w.at b o))

  walks : WalkedOn R S w.page (feed R (known_as w.reader) m p)
  walks = let u = ready.walked in walk_goes_on R S w.page p _ (known_as w.reader) m u.accepted here u.after ready.room

  pub inside : w.at + length p ≤ length b
  inside = rw is next.inside

  -- it is not refused
  pub never_refused : (why : Refusal) → Feeds R (known_as w.reader) p m (told_fed (Err why)) end → ⊥
  never_refused why fed = gives≢refuses (sym (fed.told ∙ walks.told))

  module _ (reader : Reader) (counts : Counts) (octets : Octets b) (fed : Feeds R (known_as w.reader) p m (told_fed (Ok (record { reader = reader; counts = counts }))) end) where
    shows : Shows m end (feed R (known_as w.reader) m p).entries counts
    shows = subst (λ (e : Lent). Shows m e (feed R (known_as w.reader) m p).entries counts) (sym fed.lent) (accepted-shows R (known_as w.reader) m p _ (bytes_of octets) (sym fed.told))

    first-start : first_in counts.packets end.ends end.lengths ≡ start_of R S w.page
    first-start = first-shown m end _ counts shows ∙ sym (first-listed R S w.page p _ _ _ ready.walked.accepted here walks.listing)

    after : After R (take (w.page + 1) S) (known_as reader) end.carry
    after =
        subst (λ (i : ℕ). After R (take i S) (known_as reader) end.carry) one
        (subst (λ (l : Lent). After R (take (suc w.page) S) (known_as reader) l.carry) (sym fed.lent)
        (subst (λ (t : Taken). After R (take (suc w.page) S) t.reader (feed R (known_as w.reader) m p).lent.carry) (sym (same_taken (fed.told ∙ walks.told))) walks.after))

    pub turned : (start : ℕ) (holds : Bool) (best : CodeOption CropStart) → start ≡ first_in counts.packets end.ends end.lengths
        → holds ≡ may_start p headers w.page start position → best ≡ pick holds (Some (record { page = w.page; position = start })) w.best
        → Turned b position w (record { reader = reader; page = w.page + 1; at = w.at + length p; best = best }) end.carry
    turned start holds best starts may chosen = record {
      walked = record {
        accepted = ready.walked.accepted;
        begins = rw is next.next.begins;
        place = rw is next.next.place;
        few = rw is next.next.few;
        after = after;
        best = best-is;
      };
      page = refl;
      onward = rw is (omega (arith, next.moves));
    }
      where
        here-starts : start ≡ start_of R S w.page
        here-starts = starts ∙ first-start

        here_may : holds ≡ starts_by R S position w.page
        here_may =
            may
            ∙ ap₂ (λ (h s : ℕ). may_start p h w.page s position) ready.headed here-starts
            ∙ sym (starts-here R S position w.page p _ here)

        best-is : best_as best ≡ best_start R S position (w.page + 1)
        best-is =
            ap best_as chosen
            ∙ best-by holds (Some (record { page = w.page; position = start })) w.best
            ∙ rw (here_may, here-starts, ready.walked.best) refl
            ∙ sym (best-next R S position w.page)
            ∙ ap (best_start R S position) one
