-- The crop of a whole stream is accepted, with the stamps that its packets had. Assumes nothing.
use Prim.Native.Nat.{ℕ, zero, suc, ◌+◌, ◌-◌, ◌%◌, ◌^◌, ◌≤◌}
use mathlib.Core.Path.{◌≡◌, refl, sym, ap, ap₂, subst, ◌∙◌}
use mathlib.Core.Bool.{true, false, not, ◌&&◌, false≢true}
use mathlib.Core.List.{List, [], ◌∷◌, ◌++◌, map}
use mathlib.Core.Option.{none}
use native.Mathlib.Omega.{arith}
use borrow.Author.Tests.{leb-true, not-true}
use lib.Dec.{leb}
use lib.ListN.{length, take, drop, length-drop, take-append-drop}
use lib.Seq.{length-take-le, take_at, drop_at}
use Rattle.octets.specs.Octets.{Bytes}
use Rattle.octets.proofs.Tests.{both}
use Rattle.page_crc.specs.Crc.{page_crc}
use Rattle.head_fields.specs.declared.Head.{Head}
use Rattle.granule.specs.declared.Position.TheVariants.{Unset}
use Rattle.stream.specs.Page.{page_of, continued, last, completes}
use Rattle.stream.specs.State.{nothing, State, in_headers}
use Rattle.stream.specs.Rules.{Stamp, verdict, after}
use Rattle.stream.specs.Feed.{start}
use Rattle.stream.specs.Stream.{head_of, phase_of, serial_of}
use Rattle.stream.specs.Feedings.{stream}
use Rattle.stream.specs.Statements.{shifted, state_shifted}
use Rattle.stream.proofs.TwoReaders.{audio}
use Rattle.stream.proofs.Joining.{after_all}
use Rattle.stream.proofs.Entering.{SameStep}
use Rattle.recording.specs.Pages.{pages_of}
use Rattle.recording.specs.Judging.{whole, first_refused, fresh, judge_pages}
use Rattle.recording.specs.Statements.{Whole}
use Rattle.recording.proofs.Cutting.{pages-apart}
use Rattle.recording.proofs.Passing.{empty_cons, first, accepted-pages, accepted_prefix, accepted-append, next_passes}
use Rattle.recording.proofs.Streams.{whole_is}
use Rattle.recording_pages.specs.Places.{header_count}
use Rattle.recording_pages.proofs.Headers.{header-few}
use Rattle.crop_rules.specs.Crop.{may_begin, begins_with, is_start, renumbered, shift_of, crop_pages, crop_of}
use Rattle.crop_rules.specs.Statements.{Croppable, CropWhole, stamps_from, CropStamps}
use Rattle.crop_rules.proofs.Renumbered.{R}
use Rattle.crop_rules.proofs.Sound.{Sound, AllSound, sound-pages, sound-drop, sound-both}
use Rattle.crop_rules.proofs.Along.{stamps_all, Past, past_after, Moves, moves, Along, along}
use Rattle.crop_rules.proofs.Entry.{headers-end, Amid, amid_at, enters}
use Rattle.crop_rules.proofs.Listed.{take-both, after-append, later-accepted, phase-after, stamps_are}

-- ---- the crop of an accepted stream at page k

-- the page at which it begins, and those after it
pub record Begins (S : List Bytes) (k : ℕ) : Type 0 where
  pub page : Bytes
  pub later : List Bytes
  pub there : drop k S ≡ page ∷ later
  pub begins : continued (page_of page) ≡ false
  pub done : completes (page_of page) ≡ true
  pub goes : last (page_of page) ≡ false
  pub audio : header_count S ≤ k

begins_of : (S : List Bytes) (k : ℕ) → is_start S k ≡ true → Begins S k
unfolding is_start may_begin
begins_of S k e =
    let a = both (leb (header_count S) k) (begins_with (drop k S)) e in
    by (drop k S) refl (leb-true (header_count S) k a.0) a.1
  where
    by : (l : List Bytes) → drop k S ≡ l → header_count S ≤ k → begins_with l ≡ true → Begins S k
    by [] q low t = absurd (false≢true t)
    by (b ∷ bs) q low t =
        let x = both (not (continued (page_of b))) (completes (page_of b) && not (last (page_of b))) t in
        let y = both (completes (page_of b)) (not (last (page_of b))) x.1 in
        record { page = b; later = bs; there = q; begins = not-true _ x.0; done = y.0; goes = not-true _ y.1; audio = low }

module _ (S : List Bytes) (k : ℕ) (ok : first_refused R fresh 0 S ≡ none) (headed : in_headers (phase_of S) ≡ false)
    (sound : AllSound S) (b : Begins S k) where
  abbrev h : ℕ
  h = header_count S

  abbrev n : ℕ
  n = shift_of S k

  abbrev A : List Bytes
  A = take h S

  abbrev B : List Bytes
  B = drop k S

  abbrev head : Head
  head = head_of R S

  abbrev C : List Bytes
  C = A ++ map (renumbered n) B

  -- the state at page k of the stream, and after the headers
  abbrev here : State
  here = after_all R fresh (take k S)

  abbrev entry : State
  entry = audio false nothing Unset (serial_of S) (k % 2 ^ 32) head

  header-state : after_all R fresh A ≡ state_shifted n entry
  header-state =
      let low : h ≤ k = b.audio in
      let z : h % 2 ^ 32 ≡ shifted n (k % 2 ^ 32) = omega arith in
      headers-end R S ok headed ∙ ap (λ (q : ℕ). audio false nothing Unset (serial_of S) q head) z

  few : (l : List Bytes) (i : ℕ) (x : Bytes) (xs : List Bytes) → drop i l ≡ x ∷ xs → i ≤ length l
  few l zero x xs e = omega arith
  few [] (suc i) x xs e = empty_cons e
  few (y ∷ l) (suc i) x xs e = let z = few l i x xs e in omega arith

  amid : Amid head (serial_of S) k here
  amid =
      let low : h ≤ k = b.audio in
      let start : Amid head (serial_of S) h (after_all R fresh A) = record {
        ended = false;
        o = false;
        h = [];
        position = Unset;
        begun = λ e. refl;
        is = headers-end R S ok headed;
      } in
      let z : h + (k - h) ≡ k = omega arith in
      let joined : A ++ take (k - h) (drop h S) ≡ take k S = take-both h (k - h) S ∙ ap (λ (i : ℕ). take i S) z in
      let more : k - h ≤ length (drop h S) = (let x = few S k b.page b.later b.there in simp length-drop (omega arith)) in
      subst (λ (i : ℕ). Amid head (serial_of S) i here) z
      (subst (λ (s : State). Amid head (serial_of S) (h + (k - h)) s)
      (sym (after-append A (take (k - h) (drop h S)) fresh) ∙ ap (after_all R fresh) joined)
      (amid_at R head (serial_of S) (drop h S) (k - h) h (0 + h) (after_all R fresh A) start (later-accepted h S fresh 0 ok) more))

  passes : verdict R here b.page ≡ none
  passes = next_passes R S fresh 0 k b.page b.later ok b.there

  entered : SameStep R b.page here entry
  entered = enters R head (serial_of S) k here b.page amid passes b.begins b.done b.goes

  past : Past entry
  past = record { going = refl; small = omega arith }

  sound-here : AllSound (b.page ∷ b.later)
  sound-here = subst AllSound b.there (sound-drop k S sound)

  sound-page : Sound b.page
  sound-page = (sound-both b.page b.later sound-here).0

  moved : Moves n entry b.page
  moved = moves n entry b.page sound-page past

  -- the state after that page
  abbrev next : State
  next = after R here b.page

  next-shifted : after R (state_shifted n entry) (renumbered n b.page) ≡ state_shifted n next
  next-shifted = moved.follows ∙ ap (state_shifted n) entered.follows

  rest : Along n next (suc (0 + length A)) b.later
  unfolding first_refused
  rest =
      let e : first_refused R here (0 + k) (b.page ∷ b.later) ≡ none = subst (λ (l : List Bytes). first_refused R here (0 + k) l ≡ none) b.there (later-accepted k S fresh 0 ok) in
      along n next (suc (0 + length A)) (suc (0 + k)) b.later (sound-both b.page b.later sound-here).1 (past_after here b.page) (first R here (0 + k) b.page b.later e).later

  cut-pages : map (renumbered n) B ≡ renumbered n b.page ∷ map (renumbered n) b.later
  cut-pages = ap (map (renumbered n)) b.there

  pub accepted : first_refused R fresh 0 C ≡ none
  unfolding first_refused
  accepted =
      accepted-append R A (map (renumbered n) B) fresh 0 (accepted_prefix R S h ok)
      ∙ ap₂ (λ (s : State) (l : List Bytes). first_refused R s (0 + length A) l) header-state cut-pages
      ∙ rw (moved.judged, entered.passes, next-shifted) rest.accepted

  pub ends-shifted : after_all R fresh C ≡ state_shifted n (after_all R fresh S)
  unfolding after_all
  ends-shifted =
      after-append A (map (renumbered n) B) fresh
      ∙ ap₂ (λ (s : State) (l : List Bytes). after_all R s l) header-state cut-pages
      ∙ ap (λ (s : State). after_all R s (map (renumbered n) b.later)) next-shifted
      ∙ rest.end
      ∙ ap (state_shifted n) (ap (after_all R here) (sym b.there) ∙ sym (after-append (take k S) B fresh) ∙ ap (after_all R fresh) (take-append-drop k S))

  pub headed-crop : in_headers (phase_of C) ≡ false
  headed-crop =
      ap in_headers (sym (phase-after C accepted) ∙ ap (λ (s : State). s.phase) ends-shifted ∙ phase-after S ok) ∙ headed

  crop-drop : drop h C ≡ map (renumbered n) B
  crop-drop = drop_at A (map (renumbered n) B) h (length-take-le h S (header-few S))

  crop-take : take h C ≡ A
  crop-take = take_at A (map (renumbered n) B) h (length-take-le h S (header-few S))

  pub same-stamps : stamps_from h C ≡ stamps_from k S
  unfolding stamps_all
  same-stamps =
      stamps_are C accepted h
      ∙ ap₂ (λ (s : State) (l : List Bytes). stamps_all s l) (ap (after_all R fresh) crop-take ∙ header-state) (crop-drop ∙ cut-pages)
      ∙ ap₂ (λ (a : List Stamp) (l : List (List Stamp)). a ∷ l) (moved.stamps ∙ entered.stamps)
      (ap (λ (s : State). stamps_all s (map (renumbered n) b.later)) next-shifted ∙ rest.stamps)
      ∙ ap (stamps_all here) (sym b.there)
      ∙ sym (stamps_are S ok k)

-- ---- of a buffer

-- what the hypotheses give
pub record Given (b : Bytes) (k : ℕ) : Type 0 where
  pub accepted : first_refused R fresh 0 (pages_of b) ≡ none
  pub headed : in_headers (phase_of (pages_of b)) ≡ false
  pub crop-accepted : first_refused R fresh 0 (crop_pages (pages_of b) k) ≡ none
  pub crop-headed : in_headers (phase_of (crop_pages (pages_of b) k)) ≡ false
  pub ends : after_all R fresh (crop_pages (pages_of b) k) ≡ state_shifted (shift_of (pages_of b) k) (after_all R fresh (pages_of b))
  pub stamps : stamps_from (header_count (pages_of b)) (crop_pages (pages_of b) k) ≡ stamps_from k (pages_of b)

pub given : (b : Bytes) (k : ℕ) → Croppable b k → Given b k
unfolding crop_pages
given b k c =
    let S : List Bytes = pages_of b in
    let w : Whole R S = (whole_is R S c.pages c.packets c.whole).0 in
    let sound : AllSound S = sound-pages b c.octets w.accepted in
    let x : Begins S k = begins_of S k c.start in
    record {
      accepted = w.accepted;
      headed = w.headed;
      crop-accepted = accepted S k w.accepted w.headed sound x;
      crop-headed = headed-crop S k w.accepted w.headed sound x;
      ends = ends-shifted S k w.accepted w.headed sound x;
      stamps = same-stamps S k w.accepted w.headed sound x;
    }

pub crop-whole : CropWhole
unfolding judge_pages
crop-whole b k c =
    let g : Given b k = given b k c in
    let C : List Bytes = crop_pages (pages_of b) k in
    let pages : pages_of (crop_of b k) ≡ C = pages-apart C (accepted-pages page_crc C g.crop-accepted) in
    record { pages = pages; judged = rw (pages, g.crop-accepted, g.crop-headed) }

pub crop-stamps : CropStamps
crop-stamps b k c = (given b k c).stamps
