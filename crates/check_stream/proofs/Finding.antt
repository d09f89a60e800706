-- The walk over all pages, and what is told of the stream. Assumes nothing.
use Prim.Native.Nat.{ℕ, ◌+◌, ◌*◌, ◌≤◌, ◌<◌, min}
use mathlib.Core.Path.{◌≡◌, refl, sym, ap, ap₂, subst, ◌∙◌}
use mathlib.Core.Bool.{Bool}
use mathlib.Core.List.{List, [], ◌∷◌, ◌++◌, map}
use native.Mathlib.Omega.{arith}
use borrow.Author.Tests.{lt-ltb, le-ltb}
use lib.ListN.{length, drop, length-append, length-drop}
use lib.Seq.{sets}
use Rattle.octets.specs.Pick.{pick}
use Rattle.octets.specs.Octets.{Bytes}
use Rattle.refusal.specs.declared.Refusal.TheVariants.{ShortOutput}
use Rattle.refusal.specs.Numbers.{number_of}
use Rattle.refusal.specs.Told.{Told, gives, refuses, retold}
use Rattle.page_crc.specs.Crc.{page_crc}
use Rattle.stream.specs.Readings.{Readings, readings}
use Rattle.stream.specs.Feed.{Reader as Known, start}
use Rattle.stream.specs.Stream.{open_after, Listing, listings}
use Rattle.reader.specs.declared.Reader.{Reader}
use Rattle.reader.specs.Answers.{known_as}
use Rattle.recording.specs.Pages.{pages_of}
use Rattle.recording.specs.Judging.{whole, refused, judge_buffer}
use Rattle.recording.specs.Statements.{After}
use Rattle.recording.proofs.Streams.{listed-all}
use Rattle.recording.proofs.Walking.{walk_begins}
use Rattle.recording_pages.proofs.Places.{at_first, at_end_lem}
use Rattle.check_rules.specs.Findings.{last_in, Finding, findings_from, findings}
use Rattle.check_rules.specs.Checking.{Checks, checked, listed_by}
use Rattle.check_stream.specs.declared.walk.Walk.{Walk}
use Rattle.check_stream.specs.Code.{Accepted, found_list, findings_left, begun, Walked, Turned, kind_in, page_in, Put, Filled, checked_whole, ChecksWhole}
use Rattle.check_stream.proofs.Storing.{field-append, field_stored}

abbrev R : Readings
R = readings page_crc

-- ---- the walk

begun-walks : (b : Bytes) (r : Reader) (carry : Bytes) → known_as r ≡ start → Walked b (begun r) carry
unfolding open_after last_in
begun-walks b r carry e =
    let first = at_first b in
    record {
      begins = first.begins;
      place = first.place;
      few = omega arith;
      after = subst (λ (k : Known). After R [] k carry) (sym e) (walk_begins R carry);
      pending = refl;
      last = refl;
    }

pub walk_begun : (b : Bytes) (w : Walk) (carry : Bytes) → (w ≡ begun w.reader) × (known_as w.reader ≡ start) → Walked b w carry
walk_begun b w carry e = subst (λ (x : Walk). Walked b x carry) (sym e.0) (begun-walks b w.reader carry e.1)

-- with the findings from the walk's page on the lists become what all findings make of them
pub record Storing (b : Bytes) (w : Walk) (count : ℕ) (kinds₀ kinds pages₀ pages : List ℕ) : Type 0 where
  pub few : count ≤ 5 * w.page
  pub sum : count + length (findings_left b w.page) ≡ length (findings R (pages_of b))
  pub kind_size : length kinds ≡ length kinds₀
  pub page_size : length pages ≡ length pages₀
  pub kind : sets kinds count (map kind_in (findings_left b w.page)) ≡ sets kinds₀ 0 (map kind_in (findings R (pages_of b)))
  pub page : sets pages count (map page_in (findings_left b w.page)) ≡ sets pages₀ 0 (map page_in (findings R (pages_of b)))

begun_stores : (b : Bytes) (r : Reader) (kinds pages : List ℕ) → Storing b (begun r) 0 kinds kinds pages pages
unfolding findings
begun_stores b r kinds pages = record { few = omega arith; sum = omega arith; kind_size = refl; page_size = refl; kind = refl; page = refl }

pub storing_begun : (b : Bytes) (w : Walk) (kinds pages : List ℕ) → (w ≡ begun w.reader) × (known_as w.reader ≡ start) → Storing b w 0 kinds kinds pages pages
storing_begun b w kinds pages e = subst (λ (x : Walk). Storing b x 0 kinds kinds pages pages) (sym e.0) (begun_stores b w.reader kinds pages)

stored_on : (f : Finding → ℕ) (b : Bytes) (k k' at at' : ℕ) (fs : List Finding) (l l' all : List ℕ) → findings_left b k ≡ fs ++ findings_left b k'
    → sets l at (map f (findings_left b k)) ≡ all → l' ≡ sets l at (map f fs) → at' ≡ at + length fs → sets l' at' (map f (findings_left b k')) ≡ all
stored_on f b k k' at at' fs l l' all e s p q =
    ap₂ (λ (x : List ℕ) (i : ℕ). sets x i (map f (findings_left b k'))) p q
    ∙ sym (field-append f l at fs (findings_left b k')) ∙ ap (λ (x : List Finding). sets l at (map f x)) (sym e) ∙ s

pub storing_on : (b : Bytes) (w next : Walk) (carry : Bytes) (count r : ℕ) (kinds₀ kinds kinds' pages₀ pages pages' : List ℕ)
    → Storing b w count kinds₀ kinds pages₀ pages → Turned b w next carry
    → Put (found_list next.found w.page) count 5 r kinds kinds' pages pages' → length kinds' ≡ length kinds → length pages' ≡ length pages
    → Storing b next r kinds₀ kinds' pages₀ pages'
storing_on b w next carry count r kinds₀ kinds kinds' pages₀ pages pages' s t p x y = record {
  few = omega (arith, s.few, p.most, t.page);
  sum = omega (arith, s.sum, p.next, ap length t.found, length-append (found_list next.found w.page) (findings_left b next.page));
  kind_size = x ∙ s.kind_size;
  page_size = y ∙ s.page_size;
  kind = stored_on kind_in b w.page next.page count r (found_list next.found w.page) kinds kinds' _ t.found s.kind p.kind p.next;
  page = stored_on page_in b w.page next.page count r (found_list next.found w.page) pages pages' _ t.found s.page p.page p.next;
}

no_listing : (S : List Bytes) (k : ℕ) (L : List Listing) → length L ≡ 0 → findings_from R S k L ≡ []
unfolding findings_from
no_listing S k [] e = refl
no_listing S k (l ∷ L) e = absurd (omega arith)

-- at the end of the stream
pub storing_end : (b : Bytes) (w : Walk) (carry : Bytes) (count : ℕ) (kinds₀ kinds pages₀ pages : List ℕ) → Accepted b → Walked b w carry
    → Storing b w count kinds₀ kinds pages₀ pages → length b ≤ w.at → Filled b count kinds₀ kinds pages₀ pages
storing_end b w carry count kinds₀ kinds pages₀ pages ok u s h = record {
  count = omega (arith, s.sum, ap length over);
  kind = subst (λ (x : List Finding). sets kinds count (map kind_in x) ≡ sets kinds₀ 0 (map kind_in (findings R (pages_of b)))) over s.kind;
  page = subst (λ (x : List Finding). sets pages count (map page_in x) ≡ sets pages₀ 0 (map page_in (findings R (pages_of b)))) over s.page;
}
  where
    none_left : length (drop w.page (pages_of b)) ≡ 0
    none_left = ap length (at_end_lem b w.page w.at (record { begins = u.begins; place = u.place; few = omega (arith, u.few) }) h)

    over : findings_left b w.page ≡ []
    over =
        no_listing (pages_of b) w.page (drop w.page (listings R (pages_of b)))
        (omega (arith, none_left, length-drop w.page (pages_of b), length-drop w.page (listings R (pages_of b)), listed-all R (pages_of b) ok))

-- ---- what is told

module _ (b : Bytes) (kinds pages : List ℕ) (room n : ℕ) (e : room ≡ min (length kinds) (length pages)) (c : n ≡ length (findings R (pages_of b))) where
  abbrev fs : List Finding
  fs = findings R (pages_of b)

  -- more findings than places
  pub short-told : room < n → ChecksWhole b (refuses (number_of ShortOutput)) kinds kinds pages pages
  short-told h =
      let t : checked_whole b kinds pages ≡ refuses (number_of ShortOutput) =
      ap (λ (x : Bool). pick x (refuses (number_of ShortOutput)) (gives fs)) (lt-ltb (min (length kinds) (length pages)) (length fs) (omega (arith, e, c))) in
      record {
        told = ap (retold length) (sym t);
        kind = ap (λ (x : Told (List Finding)). listed_by kind_in x kinds) (sym t);
        page = ap (λ (x : Told (List Finding)). listed_by page_in x pages) (sym t);
      }

  pub found-told : (kinds' pages' : List ℕ) (r : ℕ) → n ≤ room → Filled b r kinds kinds' pages pages' → ChecksWhole b (gives r) kinds kinds' pages pages'
  found-told kinds' pages' r h f =
      let t : checked_whole b kinds pages ≡ gives fs =
      ap (λ (x : Bool). pick x (refuses (number_of ShortOutput)) (gives fs)) (le-ltb (min (length kinds) (length pages)) (length fs) (omega (arith, e, c))) in
      record {
        told = ap gives f.count ∙ ap (retold length) (sym t);
        kind = f.kind ∙ field_stored kind_in fs kinds (omega (arith, e, c)) ∙ ap (λ (x : Told (List Finding)). listed_by kind_in x kinds) (sym t);
        page = f.page ∙ field_stored page_in fs pages (omega (arith, e, c)) ∙ ap (λ (x : Told (List Finding)). listed_by page_in x pages) (sym t);
      }

module _ (b : Bytes) (kinds pages : List ℕ) where
  pub told-whole : (n k : ℕ) (t : Told ℕ) (kinds' pages' : List ℕ) → judge_buffer R b ≡ whole n k → ChecksWhole b t kinds kinds' pages pages'
      → Checks R b t kinds kinds' pages pages'
  unfolding checked
  told-whole n k t kinds' pages' j c = record { told = rw j c.told; kind = rw j c.kind; page = rw j c.page }

  pub told-refused : (n k : ℕ) → judge_buffer R b ≡ refused n k → Checks R b (refuses n) kinds kinds pages pages
  unfolding checked
  told-refused n k j = record { told = rw j refl; kind = rw j refl; page = rw j refl }
