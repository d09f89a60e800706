-- One page more is fed in the walk: it is accepted, and what is found on it is what the definitions say. Assumes nothing.
use Rattle.std.specs.Prelude.{Result, Ok, Err}
use Prim.Native.Nat.{ℕ, suc, ◌+◌, ◌-◌, ◌≤◌, ◌<◌}
use mathlib.Core.Path.{◌≡◌, refl, sym, ap, ap₂, subst, ◌∙◌}
use mathlib.Core.Bool.{Bool, false, not, ◌&&◌}
use mathlib.Core.List.{List, [], ◌∷◌, ◌++◌}
use mathlib.Core.Option.{Option, none, some}
use native.Mathlib.Omega.{arith}
use borrow.Author.Tests.{ltb-false}
use lib.Dec.{ltb, eqb}
use lib.ListN.{length, get_or, take, drop, length-drop}
use lib.Seq.{take_all}
use Rattle.octets.specs.Pick.{pick}
use Rattle.octets.specs.Octets.{Bytes, Octets}
use Rattle.octets.proofs.Parts.{octets-drop, octets-take}
use Rattle.refusal.specs.declared.Refusal.{Refusal}
use Rattle.refusal.specs.Told.{Told, gives}
use Rattle.limits.specs.Limits.{list_max}
use Rattle.page_crc.specs.Crc.{page_crc}
use Rattle.page_layout.specs.Page.{lacing_of, body_of}
use Rattle.page_size.specs.Size.{size_of}
use Rattle.page_size.proofs.Whole.{whole}
use Rattle.stream.specs.declared.Counts.{Counts}
use Rattle.stream.specs.Page.{page_of}
use Rattle.stream.specs.Readings.{Readings, readings}
use Rattle.stream.specs.State.{is_ended}
use Rattle.stream.specs.Feed.{Taken, feed, Feeds}
use Rattle.stream.specs.Lent.{Lent}
use Rattle.stream.specs.Stream.{segments_of, open_from, open_after, phase_of, Listing, listings}
use Rattle.stream.specs.Statements.{Shows}
use Rattle.stream.proofs.Lists.{accepted-shows}
use Rattle.stream.proofs.Step.{gives≢refuses}
use Rattle.reader.specs.declared.Reader.{Reader}
use Rattle.reader.specs.Answers.{known_as, told_fed}
use Rattle.recording.specs.Pages.{pages_of}
use Rattle.recording.specs.Judging.{fresh}
use Rattle.recording.specs.Statements.{After, Walked as WalkedOn}
use Rattle.recording.proofs.Passing.{next_passes, one-good}
use Rattle.recording.proofs.Places.{place-goes_on, place_not_cut}
use Rattle.recording.proofs.Streams.{has_room, listed-all}
use Rattle.recording.proofs.Walking.{walk_goes_on}
use Rattle.recording_pages.specs.Places.{page_at}
use Rattle.recording_pages.proofs.Places.{Next, at_next}
use Rattle.tags_replaygain.specs.ReplayGain.{has_replay_gain}
use Rattle.check_rules.specs.Findings.{last_of, last_in, comment_packet, left_unfinished, has_no_end, is_overtrimmed, has_gain_tag, has_hole, Finding, findings_on, findings_from}
use Rattle.check_stream.specs.declared.walk.Found.{Found}
use Rattle.check_stream.specs.declared.walk.Walk.{Walk}
use Rattle.check_stream.specs.Code.{Accepted as NoneRefused, open_on, found_by, found_list, findings_left, CanTurn, Turned}
use Rattle.check_stream.proofs.Laws.{open_is, open_next, last-next, last-is, ends_last, last-same, drop-next}

same_taken : {a c : Taken} → ◌≡◌ {A = Told Taken} (gives a) (gives c) → a ≡ c
same_taken {a} {c} e = cc

-- what is not none
record There (x : Option ℕ) : Type 0 where
  number : ℕ
  is : x ≡ some number

there : (x : Option ℕ) → (x ≡ none → ⊥) → There x
there none never = absurd (never refl)
there (some n) never = record { number = n; is = refl }

first-same : {a c : Bytes} {l k : List Bytes} → ◌≡◌ {A = List Bytes} (a ∷ l) (c ∷ k) → a ≡ c
first-same e = cc

-- the first of the listings from page k on
record HasListing (L : List Listing) : Type 0 where
  first : Listing
  later : List Listing
  is : L ≡ first ∷ later

has-listing : (L : List Listing) → 0 < length L → HasListing L
has-listing [] h = absurd (omega arith)
has-listing (l ∷ ls) h = record { first = l; later = ls; is = refl }

abbrev R : Readings
R = readings page_crc

-- the page p is fed to the walk w over b, m being lent, and `end` is left
module _ (b : Bytes) (headers : ℕ) (gains : Bool) (w : Walk) (m end : Lent) (p : Bytes) (ready : CanTurn b headers gains w m) (is : p ≡ page_at b w.at) where
  abbrev S : List Bytes
  S = pages_of b

  abbrev k : ℕ
  k = w.page

  accepted : NoneRefused b
  accepted = ready.tagged.headed.accepted

  next : Next b k w.at
  next = at_next b k w.at (let u = ready.walked in record { begins = u.begins; place = u.place; few = omega (arith, u.few) }) ready.more

  here : drop k S ≡ p ∷ drop (k + 1) S
  here = next.page ∙ ap (λ (q : Bytes). q ∷ drop (k + 1) S) (sym is)

  one : suc k ≡ k + 1
  one = omega arith

  counted : k < length S
  counted = omega (arith, ap length here, length-drop k S)

  -- it is a part of the stream
  bytes_of : Octets b → Octets p
  bytes_of o =
      let u = ready.walked in
      let end = there _ (place_not_cut page_crc b w.at k accepted u.begins ready.more) in
      let part : p ≡ take (end.number - w.at) (drop w.at b) = first-same (sym here ∙ (place-goes_on b w.at k end.number u.begins end.is).page) in
      subst Octets (sym part) (octets-take (end.number - w.at) (drop w.at b) (octets-drop w.at b o))

  -- it has 27 bytes at least
  long : 27 ≤ length p
  unfolding readings size_of
  long = let size = whole p (one-good R _ p (next_passes R S fresh 0 k p _ accepted here)).page in omega arith

  walks : WalkedOn R S k (feed R (known_as w.reader) m p)
  walks = walk_goes_on R S k p _ (known_as w.reader) m accepted here ready.walked.after ready.room

  pub inside : w.at + length p ≤ length b
  inside = rw is next.inside

  -- it is not refused
  pub never_refused : (why : Refusal) → Feeds R (known_as w.reader) p m (told_fed (Err why)) end → ⊥
  never_refused why fed = gives≢refuses (sym (fed.told ∙ walks.told))

  module _ (reader : Reader) (counts : Counts) (octets : Octets b) (fed : Feeds R (known_as w.reader) p m (told_fed (Ok (record { reader = reader; counts = counts }))) end) where
    shows : Shows m end (feed R (known_as w.reader) m p).entries counts
    shows = subst (λ (e : Lent). Shows m e (feed R (known_as w.reader) m p).entries counts) (sym fed.lent) (accepted-shows R (known_as w.reader) m p _ (bytes_of octets) (sym fed.told))

    pub few-packets : length end.lengths ≡ length m.lengths → counts.packets ≤ length end.lengths
    few-packets e =
        let r = has_room m ready.room in
        omega (arith, shows.packets, shows.few, ltb-false (length m.lengths) list_max r.lengths)

    after : After R (take (k + 1) S) (known_as reader) end.carry
    after =
        subst (λ (i : ℕ). After R (take i S) (known_as reader) end.carry) one
        (subst (λ (l : Lent). After R (take (suc k) S) (known_as reader) l.carry) (sym fed.lent)
        (subst (λ (t : Taken). After R (take (suc k) S) t.reader (feed R (known_as w.reader) m p).lent.carry) (sym (same_taken (fed.told ∙ walks.told))) walks.after))

    abbrev L : List Listing
    L = listings R S

    at_k : HasListing (drop k L)
    at_k = has-listing (drop k L) (omega (arith, counted, listed-all R S accepted, length-drop k L))

    listing-is : at_k.first ≡ record { entries = (feed R (known_as w.reader) m p).entries; counts = counts }
    listing-is =
        walks.listing at_k.first at_k.later at_k.is
        ∙ ap (λ (t : Taken). record { entries = (feed R (known_as w.reader) m p).entries; counts = t.counts }) (sym (same_taken (fed.told ∙ walks.told)))

    counts_are : at_k.first.counts ≡ counts
    counts_are = ap (λ (l : Listing). l.counts) listing-is

    module _ (pending : Bool) (last : ℕ) (gain ended : Bool) (found : Found) (p-is : pending ≡ open_on w.pending (lacing_of p))
        (l-is : last ≡ pick (eqb counts.packets 0) w.last (get_or end.lengths (counts.packets - 1) 0))
        (g-is : gain ≡ (eqb (k + 1) headers && gains)) (e-is : ended ≡ is_ended reader.core.phase)
        (f-is : found ≡ found_by (eqb (w.at + length p) (length b)) pending ended last gain counts) where
      pending-is : pending ≡ open_after false (take (suc k) S)
      unfolding segments_of page_of
      pending-is =
          p-is ∙ open_is w.pending (lacing_of p) (body_of p) ∙ ap (λ (o : Bool). open_from o (segments_of (page_of p))) ready.walked.pending
          ∙ sym (open_next false S k p _ here)

      last-now : last ≡ last_in 0 (take (suc k) L)
      last-now =
          l-is
          ∙ ap (λ (n : ℕ). pick (eqb n 0) w.last (get_or end.lengths (n - 1) 0)) shows.packets
          ∙ last-is w.last _ end.lengths shows.lengths.first
          ∙ ap₂ (λ (n : ℕ) (l : Listing). last_of n l.entries) ready.walked.last (sym listing-is)
          ∙ sym (last-next 0 L k at_k.first at_k.later at_k.is)

      ending-is : eqb (w.at + length p) (length b) ≡ eqb (suc k) (length S)
      ending-is = ends_last b k (w.at + length p) counted (rw is next.next)

      all-pages : suc k ≡ length S → take (suc k) S ≡ S
      all-pages e = take_all (suc k) S (omega arith)

      all-listings : suc k ≡ length S → take (suc k) L ≡ L
      all-listings e = take_all (suc k) L (omega (arith, listed-all R S accepted))

      found_here : found_list found k ≡ findings_on R S k at_k.first
      unfolding findings_on left_unfinished has_no_end is_overtrimmed has_gain_tag has_hole
      found_here =
          let a : found.unfinished ≡ left_unfinished S k =
          ap (λ (f : Found). f.unfinished) f-is ∙ ap₂ (λ (x y : Bool). x && y) ending-is pending-is
          ∙ last-same (suc k) (length S) _ _ (λ e. ap (open_after false) (all-pages e)) in
          let c : found.endless ≡ has_no_end S k =
          ap (λ (f : Found). f.endless) f-is
          ∙ ap₂ (λ (x y : Bool). x && not y) ending-is (e-is ∙ ap is_ended (subst (λ (i : ℕ). reader.core.phase ≡ phase_of (take i S)) (sym one) after.phase))
          ∙ last-same (suc k) (length S) _ _ (λ e. ap (λ (s : List Bytes). not (is_ended (phase_of s))) (all-pages e)) in
          let d : found.overtrimmed ≡ is_overtrimmed R S k at_k.first =
          ap (λ (f : Found). f.overtrimmed) f-is
          ∙ ap₂ (λ (x y : Bool). x && y) ending-is (ap₂ (λ (n : ℕ) (c : Counts). ltb n c.trimmed) last-now (sym counts_are))
          ∙ last-same (suc k) (length S) _ _ (λ e. ap (λ (l : List Listing). ltb (last_in 0 l) at_k.first.counts.trimmed) (all-listings e)) in
          let g : found.gain ≡ has_gain_tag S k =
          ap (λ (f : Found). f.gain) f-is ∙ g-is
          ∙ ap₂ (λ (n : ℕ) (t : Bool). eqb n headers && t) (sym one) ready.tagged.tag
          ∙ ap (λ (n : ℕ). eqb (suc k) n && has_replay_gain (comment_packet S)) ready.tagged.headed.pages in
          let h : found.hole ≡ has_hole at_k.first = ap (λ (f : Found). f.hole) f-is ∙ ap (λ (c : Counts). ltb 0 c.hole) (sym counts_are) in
          rw (a, c, d, g, h) refl

      left_is : findings_left b k ≡ found_list found k ++ findings_left b (k + 1)
      unfolding findings_from
      left_is =
          ap (findings_from R S k) at_k.is
          ∙ ap₂ (λ (x : List Finding) (n : ℕ). x ++ findings_from R S n at_k.later) (sym found_here) one
          ∙ ap (λ (l : List Listing). found_list found k ++ findings_from R S (k + 1) l) (sym (drop-next L k at_k.first at_k.later at_k.is))

      pub turned : Turned b w (record { reader = reader; page = k + 1; at = w.at + length p; pending = pending; last = last; found = found }) end.carry
      turned = record {
        walked = record {
          begins = rw is next.next.begins;
          place = rw is next.next.place;
          few = omega (arith, ready.walked.few, long);
          after = after;
          pending = pending-is ∙ ap (λ (i : ℕ). open_after false (take i S)) one;
          last = last-now ∙ ap (λ (i : ℕ). last_in 0 (take i L)) one;
        };
        page = refl;
        onward = omega (arith, long);
        found = left_is;
      }
