-- The state after the headers, the state at the page where a crop begins, and that page fed to both. Assumes nothing.
use Prim.Native.Nat.{ℕ, zero, suc, ◌+◌, ◌-◌, ◌%◌, ◌^◌, ◌≤◌}
use mathlib.Core.Path.{◌≡◌, refl, sym, ap, subst, ◌∙◌}
use mathlib.Core.Bool.{Bool, true, false, true≢false}
use mathlib.Core.List.{List, [], ◌∷◌}
use mathlib.Core.Option.{none}
use native.Mathlib.Omega.{arith}
use lib.ListN.{length, take}
use Rattle.octets.specs.Pick.{pick}
use Rattle.octets.specs.Octets.{Bytes}
use Rattle.head_fields.specs.declared.Head.{Head}
use Rattle.granule.specs.declared.Position.{Position}
use Rattle.granule.specs.declared.Position.TheVariants.{Unset}
use Rattle.stream.specs.declared.Phase.TheVariants.{Audio, Comment}
use Rattle.stream.specs.Page.{Page, page_of, continued, last, granule_of, completes}
use Rattle.stream.specs.Readings.{Readings}
use Rattle.stream.specs.State.{Carried, nothing, State, in_headers}
use Rattle.stream.specs.Rules.{after_position, verdict, after}
use Rattle.stream.specs.Stream.{segments_of, left_from, open_from, carried_of, head_of, audio_phase, ended_after, comment_phase, phase_of, serial_of}
use Rattle.stream.proofs.Segments.{Begun, begun-left}
use Rattle.stream.proofs.TwoReaders.{audio}
use Rattle.stream.proofs.Joining.{after_all, ended-none}
use Rattle.stream.proofs.AudioRun.{audio-after, next-page}
use Rattle.stream.proofs.HeaderRun.{commenting, comment-after, comment-closed}
use Rattle.stream.proofs.Theorem1.{first-after}
use Rattle.stream.proofs.Entering.{among, SameStep, meet, unheld}
use Rattle.recording.specs.Judging.{first_refused, fresh}
use Rattle.recording.proofs.Passing.{First, first}
use Rattle.recording_pages.specs.Places.{header_count}
use Rattle.recording_pages.proofs.Headers.{comment_count, count-done, count_on, header-first}

-- ---- after the headers

module _ (R : Readings) (head : Head) (serial : ℕ) where
  abbrev comments_at : Bool → Bytes → ℕ → State
  comments_at o h next = commenting Comment (carried_of o h) serial next head

  comments-end : (xs : List Bytes) (o : Bool) (h : Bytes) (next k : ℕ) → Begun o h → first_refused R (comments_at o h next) k xs ≡ none
      → in_headers (comment_phase xs) ≡ false
      → after_all R (comments_at o h next) (take (comment_count xs) xs) ≡ audio false nothing Unset serial ((next + comment_count xs) % 2 ^ 32) head
  unfolding comment_phase after_all
  comments-end [] o h next k b e due = absurd (true≢false due)
  comments-end (x ∷ xs) o h next k b e due =
      by (completes (page_of x)) refl due
      (comments-end xs (open_from o (segments_of (page_of x))) (left_from h (segments_of (page_of x))) ((next + 1) % 2 ^ 32) (suc k)
      (begun-left o h (segments_of (page_of x)) b))
    where
      f : First R (comments_at o h next) k x xs
      f = first R (comments_at o h next) k x xs e

      o' : Bool
      o' = open_from o (segments_of (page_of x))

      h' : Bytes
      h' = left_from h (segments_of (page_of x))

      next-state : (t : Bool) → completes (page_of x) ≡ t
          → after R (comments_at o h next) x ≡ commenting (pick t Audio Comment) (carried_of o' h') serial ((next + 1) % 2 ^ 32) head
      next-state t q =
          comment-after R head x o h serial next b f.passes
          ∙ ap (λ (w : Bool). commenting (pick w Audio Comment) (carried_of o' h') serial ((next + 1) % 2 ^ 32) head) q

      by : (t : Bool) → completes (page_of x) ≡ t → in_headers (pick t (audio_phase (ended_after false xs)) (comment_phase xs)) ≡ false
          → (first_refused R (comments_at o' h' ((next + 1) % 2 ^ 32)) (suc k) xs ≡ none → in_headers (comment_phase xs) ≡ false
          → after_all R (comments_at o' h' ((next + 1) % 2 ^ 32)) (take (comment_count xs) xs)
          ≡ audio false nothing Unset serial (((next + 1) % 2 ^ 32 + comment_count xs) % 2 ^ 32) head)
          → after_all R (comments_at o h next) (take (comment_count (x ∷ xs)) (x ∷ xs))
          ≡ audio false nothing Unset serial ((next + comment_count (x ∷ xs)) % 2 ^ 32) head
      by true q d later =
          rw (count-done x xs q)
          (next-state true q
          ∙ ap (λ (w : Bool). commenting Audio (carried_of w h') serial ((next + 1) % 2 ^ 32) head)
          (comment-closed R head x o h serial next b f.passes q))
      by false q d later =
          rw (count_on x xs q)
          (ap (λ (s : State). after_all R s (take (comment_count xs) xs)) (next-state false q)
          ∙ later (subst (λ (s : State). first_refused R s (suc k) xs ≡ none) (next-state false q) f.later) d
          ∙ ap (λ (i : ℕ). audio false nothing Unset serial i head) (next-page next (comment_count xs)))

pub headers-end : (R : Readings) (S : List Bytes) → first_refused R fresh 0 S ≡ none → in_headers (phase_of S) ≡ false
    → after_all R fresh (take (header_count S) S) ≡ audio false nothing Unset (serial_of S) (header_count S % 2 ^ 32) (head_of R S)
unfolding phase_of serial_of after_all
headers-end R [] e due = absurd (true≢false due)
headers-end R (b ∷ bs) e due =
    let f : First R fresh 0 b bs = first R fresh 0 b bs e in
    let p : Page = page_of b in
    let o : Bool = open_from false (segments_of p) in
    let h : Bytes = left_from [] (segments_of p) in
    let head : Head = head_of R (b ∷ bs) in
    let same : after R fresh b ≡ commenting Comment (carried_of o h) p.header.serial ((0 + 1) % 2 ^ 32) head = first-after R b bs f.passes in
    rw (header-first b bs)
    (ap (λ (s : State). after_all R s (take (comment_count bs) bs)) same
    ∙ comments-end R head p.header.serial bs o h ((0 + 1) % 2 ^ 32) 1 (begun-left false [] (segments_of p) (λ w. refl))
    (subst (λ (s : State). first_refused R s 1 bs ≡ none) same f.later) due
    ∙ ap (λ (i : ℕ). audio false nothing Unset p.header.serial i head) (omega arith))

-- ---- at an audio page

-- a state among the audio pages, n pages being before it
pub record Amid (head : Head) (serial n : ℕ) (s : State) : Type 0 where
  pub ended : Bool
  pub o : Bool
  pub h : Bytes
  pub position : Position
  pub begun : Begun o h
  pub is : s ≡ audio ended (carried_of o h) position serial (n % 2 ^ 32) head

amid_on : (R : Readings) (head : Head) (serial n : ℕ) (s : State) (b : Bytes) → Amid head serial n s → verdict R s b ≡ none
    → Amid head serial (suc n) (after R s b)
amid_on R head serial n s b a v = by a.ended a.is
  where
    by : (t : Bool) → s ≡ audio t (carried_of a.o a.h) a.position serial (n % 2 ^ 32) head → Amid head serial (suc n) (after R s b)
    by true e = absurd (ended-none R head (carried_of a.o a.h) a.position serial (n % 2 ^ 32) b (subst (λ (t : State). verdict R t b ≡ none) e v))
    by false e =
        let p : Page = page_of b in
        let z : (n % 2 ^ 32 + 1) % 2 ^ 32 ≡ suc n % 2 ^ 32 = omega arith in
        record {
          ended = last p;
          o = open_from a.o (segments_of p);
          h = left_from a.h (segments_of p);
          position = after_position (completes p) a.position (granule_of p);
          begun = begun-left a.o a.h (segments_of p) a.begun;
          is = ap (λ (t : State). after R t b) e
              ∙ audio-after R head b a.o a.h a.position serial (n % 2 ^ 32) a.begun (subst (λ (t : State). verdict R t b ≡ none) e v)
              ∙ ap (λ (i : ℕ). audio (last p) (carried_of (open_from a.o (segments_of p)) (left_from a.h (segments_of p)))
              (after_position (completes p) a.position (granule_of p)) serial i head) z;
        }

pub amid_at : (R : Readings) (head : Head) (serial : ℕ) (xs : List Bytes) (j n k : ℕ) (s : State) → Amid head serial n s
    → first_refused R s k xs ≡ none → j ≤ length xs → Amid head serial (n + j) (after_all R s (take j xs))
unfolding after_all
amid_at R head serial xs zero n k s a e h = let z : n ≡ n + 0 = omega arith in subst (λ (i : ℕ). Amid head serial i s) z a
amid_at R head serial [] (suc j) n k s a e h = absurd (omega arith)
amid_at R head serial (x ∷ xs) (suc j) n k s a e h =
    let f = first R s k x xs e in
    let z : suc n + j ≡ n + suc j = omega arith in
    subst (λ (i : ℕ). Amid head serial i (after_all R (after R s x) (take j xs))) z
    (amid_at R head serial xs j (suc n) (suc k) (after R s x) (amid_on R head serial n s x a f.passes) f.later (omega arith))

-- ---- the page at which a crop begins

-- It is accepted in s, among the audio pages, and so it is where nothing is unfinished and there is no granule position.
pub enters : (R : Readings) (head : Head) (serial n : ℕ) (s : State) (b : Bytes) → Amid head serial n s → verdict R s b ≡ none
    → continued (page_of b) ≡ false → completes (page_of b) ≡ true → last (page_of b) ≡ false
    → SameStep R b s (audio false nothing Unset serial (n % 2 ^ 32) head)
enters R head serial n s b a v begins done goes = by a.ended a.is
  where
    by : (t : Bool) → s ≡ audio t (carried_of a.o a.h) a.position serial (n % 2 ^ 32) head
        → SameStep R b s (audio false nothing Unset serial (n % 2 ^ 32) head)
    by true e = absurd (ended-none R head (carried_of a.o a.h) a.position serial (n % 2 ^ 32) b (subst (λ (t : State). verdict R t b ≡ none) e v))
    by false e =
        let q : ℕ = n % 2 ^ 32 in
        let cr : Carried = carried_of a.o a.h in
        let none_left : cr ≡ nothing =
        unheld R b cr serial q head.streams head.preskip a.position begins (subst (λ (t : State). verdict R t b ≡ none) e v) in
        let here : s ≡ among nothing serial q head.streams head.preskip a.position =
        e ∙ ap (λ (c : Carried). among c serial q head.streams head.preskip a.position) none_left in
        subst (λ (t : State). SameStep R b t (audio false nothing Unset serial q head)) (sym here)
        (meet R b nothing serial q head.streams head.preskip a.position Unset refl done goes
        (subst (λ (t : State). verdict R t b ≡ none) here v))
