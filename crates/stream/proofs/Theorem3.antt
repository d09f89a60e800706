-- T3, demand 3: the two readers over their lists of feedings. Assumes nothing.
use Prim.Native.Nat.{ℕ, zero, suc, ◌+◌, ◌%◌, ◌^◌}
use mathlib.Core.Path.{◌≡◌, refl, sym, ap, ap₂, subst, ◌∙◌}
use mathlib.Core.Bool.{Bool, true, false, not, ◌&&◌, ◌||◌, false≢true, true≢false}
use mathlib.Core.List.{List, [], ◌∷◌, map}
use lib.ListN.{take, drop}
use Rattle.octets.specs.Pick.{pick}
use Rattle.octets.specs.Octets.{Bytes}
use Rattle.head_fields.specs.declared.Head.{Head}
use Rattle.granule.specs.declared.Position.{Position}
use Rattle.granule.specs.declared.Position.TheVariants.{Unset}
use Rattle.stream.specs.Page.{Page, page_of, continued, last, granule_of, completes}
use Rattle.stream.specs.Readings.{Readings}
use Rattle.stream.specs.State.{nothing, dropped, State, expecting}
use Rattle.stream.specs.Rules.{stamps_on, after_position, verdict, after, stamped}
use Rattle.stream.specs.Feed.{view, start, open_at, stamp_of, entries_on}
use Rattle.stream.specs.Stream.{segments_of, left_from, open_from, open_after, carried_of, head_of, serial_of, Listing}
use Rattle.stream.specs.Feedings.{Feeding, HandedOn, Shown, stream, bytes_of, joined_from, joined, has_position}
use Rattle.stream.specs.Statements.{audio_in, opened_in, Demand3, Demand3State, ContinuedSays}
use Rattle.stream.proofs.Step.{entries-stamps}
use Rattle.stream.proofs.Segments.{Begun, begun-left, carried_open}
use Rattle.stream.proofs.TwoReaders.{audio, is_dropped, Near, both-none, cut_off, NotJoined}
use Rattle.stream.proofs.Joining.{after_all, told_all, after_told, Follows, ended-none, page-joined, page-state, sim, sim_state}
use Rattle.stream.proofs.Runs.{Lists, runs, second}
use Rattle.stream.proofs.AudioRun.{Expected, expected, audio-after}
use Rattle.stream.proofs.HeaderRun.{Arrived}
use Rattle.stream.proofs.Theorem1.{fresh, whole-stream}

-- ---- the full reader at an audio page; o: a packet is unfinished before it; `end` is the state after all

record Ready (R : Readings) (head : Head) (end : State) (o : Bool) (xs : List Shown) : Type 0 where
  ended : Bool
  h : Bytes
  position : Position
  serial : ℕ
  next : ℕ
  begun : Begun o h
  stands : NotJoined position
  follows : Follows R (audio ended (carried_of o h) position serial next head) xs
  ends : has_position xs ≡ true → after_all R (audio ended (carried_of o h) position serial next head) (bytes_of xs) ≡ end

lists-follows : (R : Readings) (s : State) (skip : ℕ) (xs : List Shown) → Lists R s skip xs → Follows R s xs
unfolding stamped stamps_on entries_on
lists-follows R s skip [] f = tt
lists-follows R s skip (x ∷ xs) f =
    (f.0, ap (λ (l : Listing). map stamp_of l.entries) f.1 ∙ entries-stamps _ _ _ _ _, lists-follows R (after R s x.bytes) _ xs f.2)

-- one audio page on

stands_on : (t : Bool) (position : Position) (g : ℕ) → NotJoined position → NotJoined (after_position t position g)
stands_on true position g n = tt
stands_on false position g n = n

or-true : (a b : Bool) → b ≡ true → (a || b) ≡ true
or-true true b e = refl
or-true false b e = e

ready_on : (R : Readings) (head : Head) (end : State) (x : Shown) (xs : List Shown) (ended o : Bool) (h : Bytes) (position : Position)
    (serial next : ℕ)
    → Begun o h → NotJoined position → Follows R (audio ended (carried_of o h) position serial next head) (x ∷ xs)
    → (has_position (x ∷ xs) ≡ true → after_all R (audio ended (carried_of o h) position serial next head) (bytes_of (x ∷ xs)) ≡ end)
    → Ready R head end (open_from o (segments_of (page_of x.bytes))) xs
unfolding after_all has_position
ready_on R head end x xs true o h position serial next k n f g = absurd (ended-none R head (carried_of o h) position serial next x.bytes f.0)
ready_on R head end x xs false o h position serial next k n f g =
    let p : Page = page_of x.bytes in
    let same : after R (audio false (carried_of o h) position serial next head) x.bytes
    ≡ audio (last p) (carried_of (open_from o (segments_of p)) (left_from h (segments_of p)))
    (after_position (completes p) position (granule_of p)) serial ((next + 1) % 2 ^ 32) head =
    audio-after R head x.bytes o h position serial next k f.0 in
    record {
      ended = last p;
      h = left_from h (segments_of p);
      position = after_position (completes p) position (granule_of p);
      serial = serial;
      next = (next + 1) % 2 ^ 32;
      begun = begun-left o h (segments_of p) k;
      stands = stands_on (completes p) position (granule_of p) n;
      follows = subst (λ (s : State). Follows R s xs) same f.2;
      ends = λ t. ap (λ (s : State). after_all R s (bytes_of xs)) (sym same) ∙ g (or-true (completes p && not (last p)) (has_position xs) t);
    }

ready-drop : (R : Readings) (head : Head) (end : State) (j : ℕ) (o : Bool) (xs : List Shown) → Ready R head end o xs
    → Ready R head end (open_after o (bytes_of (take j xs))) (drop j xs)
unfolding open_after
ready-drop R head end zero o xs k = k
ready-drop R head end (suc j) o [] k = k
ready-drop R head end (suc j) o (x ∷ xs) k =
    ready-drop R head end j (open_from o (segments_of (page_of x.bytes))) xs
    (ready_on R head end x xs k.ended o k.h k.position k.serial k.next k.begun k.stands k.follows k.ends)

-- where the second reader is opened
ready_at : (R : Readings) (F : List Feeding) (j : ℕ) → HandedOn R start [] F
    → Ready R (head_of R (bytes_of (stream R start F))) (after_all R fresh (bytes_of (stream R start F)))
    (open_after false (bytes_of (take j (audio_in R F)))) (drop j (audio_in R F))
ready_at R F j handed =
    let S : List Shown = stream R start F in
    let head : Head = head_of R (bytes_of S) in
    let a : Arrived R head (serial_of (bytes_of S)) (after_all R fresh (bytes_of S)) (audio_in R F) = (whole-stream R F handed).arrives in
    ready-drop R head (after_all R fresh (bytes_of S)) j false (audio_in R F)
    (record {
      ended = false;
      h = [];
      position = Unset;
      serial = serial_of (bytes_of S);
      next = a.next;
      begun = λ e. refl;
      stands = tt;
      follows = lists-follows R (audio false nothing Unset (serial_of (bytes_of S)) a.next head) head.preskip (audio_in R F) a.lists;
      ends = a.ends;
    })

-- ---- the first page of the second reader

near_first : (o : Bool) (h : Bytes) (c : Bool) → c ≡ o → Near (carried_of o h) (pick c dropped nothing)
near_first true h true e = cut_off _ h
near_first true h false e = absurd (false≢true e)
near_first false h true e = absurd (true≢false e)
near_first false h false e = both-none

drops_first : (c : Bool) → is_dropped (pick c dropped nothing) ≡ c
drops_first true = refl
drops_first false = refl

module _ (R : Readings) (head : Head) (x : Shown) (xs : List Shown) (o : Bool) (h : Bytes) (position : Position) (serial next : ℕ)
    (stands : NotJoined position) (f : Follows R (audio false (carried_of o h) position serial next head) (x ∷ xs)) where
  abbrev page : Page
  page = page_of x.bytes

  says : Expected (audio false (carried_of o h) position serial next head) page
  unfolding expecting
  says = expected R (audio false (carried_of o h) position serial next head) x.bytes f.0

  pub continued-is : continued page ≡ o
  continued-is = says.continues ∙ carried_open o h

  -- the full reader expected what the page has
  at_page : Follows R (audio false (carried_of o h) position page.header.serial page.header.sequence head) (x ∷ xs)
  at_page =
      subst (λ (n : ℕ). Follows R (audio false (carried_of o h) position page.header.serial n head) (x ∷ xs)) (sym says.sequence)
      (subst (λ (n : ℕ). Follows R (audio false (carried_of o h) position n next head) (x ∷ xs)) (sym says.serial) f)

  -- an opened state takes its first page as a state among the audio pages that was expecting it
  pub opened-first : (d : Bytes) → told_all R (view (open_at head).core d) (bytes_of (x ∷ xs)) ≡ joined_from o false (x ∷ xs)
  unfolding verdict stamped after expecting
  opened-first d =
      page-joined R head x xs (view (open_at head).core d) (carried_of o h) (pick (continued page) dropped nothing) position
      page.header.serial page.header.sequence refl refl refl
      (near_first o h (continued page) continued-is) stands at_page (sim R head xs)
      ∙ ap (λ (t : Bool). joined_from t false (x ∷ xs)) (drops_first (continued page) ∙ continued-is)

  pub opened-end : (d : Bytes) → has_position (x ∷ xs) ≡ true
      → after_told R (view (open_at head).core d) (bytes_of (x ∷ xs))
      ≡ after_all R (audio false (carried_of o h) position serial next head) (bytes_of (x ∷ xs))
  unfolding verdict stamped after expecting
  opened-end d t =
      page-state R head x xs (view (open_at head).core d) (carried_of o h) (pick (continued page) dropped nothing) position
      page.header.serial page.header.sequence refl refl refl
      (near_first o h (continued page) continued-is) stands at_page (sim_state R head xs) t
      ∙ ap₂ (λ (a b : ℕ). after_all R (audio false (carried_of o h) position a b head) (bytes_of (x ∷ xs))) says.serial says.sequence

-- ---- the second reader

opened-told : (R : Readings) (head : Head) (end : State) (d : Bytes) (o : Bool) (xs : List Shown) → Ready R head end o xs
    → told_all R (view (open_at head).core d) (bytes_of xs) ≡ joined o xs
unfolding joined_from
opened-told R head end d o [] k = refl
opened-told R head end d o (x ∷ xs) k = by k.ended k.follows
  where
    by : (e : Bool) → Follows R (audio e (carried_of o k.h) k.position k.serial k.next head) (x ∷ xs)
        → told_all R (view (open_at head).core d) (bytes_of (x ∷ xs)) ≡ joined_from o false (x ∷ xs)
    by true f = absurd (ended-none R head (carried_of o k.h) k.position k.serial k.next x.bytes f.0)
    by false f = opened-first R head x xs o k.h k.position k.serial k.next k.stands f d

opened-state : (R : Readings) (head : Head) (end : State) (d : Bytes) (o : Bool) (xs : List Shown) → Ready R head end o xs → has_position xs ≡ true
    → after_told R (view (open_at head).core d) (bytes_of xs) ≡ end
unfolding has_position
opened-state R head end d o [] k t = absurd (false≢true t)
opened-state R head end d o (x ∷ xs) k t = by k.ended k.follows ∙ k.ends t
  where
    by : (e : Bool) → Follows R (audio e (carried_of o k.h) k.position k.serial k.next head) (x ∷ xs)
        → after_told R (view (open_at head).core d) (bytes_of (x ∷ xs))
        ≡ after_all R (audio e (carried_of o k.h) k.position k.serial k.next head) (bytes_of (x ∷ xs))
    by true f = absurd (ended-none R head (carried_of o k.h) k.position k.serial k.next x.bytes f.0)
    by false f = opened-end R head x xs o k.h k.position k.serial k.next k.stands f d t

pub continued-says : ContinuedSays
continued-says R F j x later handed e =
    let o : Bool = open_after false (bytes_of (take j (audio_in R F))) in
    let k : Ready R (head_of R (bytes_of (stream R start F))) (after_all R fresh (bytes_of (stream R start F))) o (x ∷ later) =
    subst (λ (xs : List Shown). Ready R (head_of R (bytes_of (stream R start F))) (after_all R fresh (bytes_of (stream R start F))) o xs) e
    (ready_at R F j handed) in
    by o k k.ended k.follows
  where
    by : (o : Bool) (k : Ready R (head_of R (bytes_of (stream R start F))) (after_all R fresh (bytes_of (stream R start F))) o (x ∷ later)) (t : Bool)
        → Follows R (audio t (carried_of o k.h) k.position k.serial k.next (head_of R (bytes_of (stream R start F)))) (x ∷ later)
        → continued (page_of x.bytes) ≡ o
    by o k true f = absurd (ended-none R (head_of R (bytes_of (stream R start F))) (carried_of o k.h) k.position k.serial k.next
        x.bytes f.0)
    by o k false f = continued-is R (head_of R (bytes_of (stream R start F))) x later o k.h k.position k.serial k.next k.stands f

pub demand_3 : Demand3
demand_3 R F j M followed =
    let S : List Shown = stream R start F in
    (second R M (opened_in R F) [] followed.second followed.room followed.others).told
    ∙ ap (told_all R (view (opened_in R F).core [])) followed.pages
    ∙ opened-told R (head_of R (bytes_of S)) (after_all R fresh (bytes_of S)) [] (open_after false (bytes_of (take j (audio_in R F))))
    (drop j (audio_in R F)) (ready_at R F j followed.first)

pub demand_3_state : Demand3State
demand_3_state R F j M followed t =
    let S : List Shown = stream R start F in
    (second R M (opened_in R F) [] followed.second followed.room followed.others).state
    ∙ ap (after_told R (view (opened_in R F).core [])) followed.pages
    ∙ opened-state R (head_of R (bytes_of S)) (after_all R fresh (bytes_of S)) [] (open_after false (bytes_of (take j (audio_in R F))))
    (drop j (audio_in R F)) (ready_at R F j followed.first) t
    ∙ sym (runs R F start [] followed.first).state
