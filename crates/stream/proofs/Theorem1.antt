-- T1: the state and the listings that a stream's pages alone determine. Assumes nothing.
use Prim.Native.Nat.{ℕ, suc, ◌+◌, ◌-◌, ◌%◌, ◌^◌}
use mathlib.Core.Path.{◌≡◌, refl, sym, ap, ap₂, subst, ◌∙◌}
use mathlib.Core.Bool.{Bool, false}
use mathlib.Core.List.{List, [], ◌∷◌, map}
use mathlib.Core.Option.{none}
use native.Mathlib.Nat.{zero-add}
use native.Mathlib.Omega.{arith}
use lib.ListN.{length}
use Rattle.octets.specs.Octets.{Bytes}
use Rattle.head_fields.specs.declared.Head.{Head}
use Rattle.granule.specs.declared.Position.TheVariants.{Unset}
use Rattle.granule.specs.Samples.{tally, kept_of, skipped_of, trimmed_of}
use Rattle.stream.specs.declared.Phase.TheVariants.{First, Comment}
use Rattle.stream.specs.Page.{Page, page_of}
use Rattle.stream.specs.Readings.{Readings}
use Rattle.stream.specs.State.{Carried, nothing, State, expecting}
use Rattle.stream.specs.Packets.{seen, audio_packets, measures_of, samples_of}
use Rattle.stream.specs.Rules.{first_packet, next_on, verdict, after}
use Rattle.stream.specs.Feed.{start, entries, entries_on, counts_on, skip_on}
use Rattle.stream.specs.Stream.{segments_of, left_from, open_from, open_after, left_after, carried_of, head_of, after_comment, audio_pages, phase_of, serial_of, marks_from, marks, position_from, decoded_in, Listing, nothing_listed, listings}
use Rattle.stream.specs.Feedings.{Feeding, finally, carry_left, HandedOn, Shown, stream, bytes_in, bytes_of}
use Rattle.stream.specs.Statements.{view_of, StreamState}
use Rattle.stream.proofs.Segments.{begun-left, joins}
use Rattle.stream.proofs.Joining.{after_all}
use Rattle.stream.proofs.Runs.{listing_on, skip_in, Lists, skip_all, Ran, runs}
use Rattle.stream.proofs.AudioRun.{Expected, expected, next-page}
use Rattle.stream.proofs.HeaderRun.{commenting, Arrived, none_arrived, Comments, comment_run}

-- the state of a reader just started
abbrev pub fresh : State
fresh = record { phase = First; carried = nothing; position = Unset; serial = 0; next = 0; streams = 0; preskip = 0 }

-- ---- the first page

module _ (R : Readings) (b : Bytes) (bs : List Bytes) where
  abbrev page : Page
  page = page_of b

  abbrev head : Head
  head = head_of R (b ∷ bs)

  abbrev o : Bool
  o = open_from false (segments_of page)

  abbrev h : Bytes
  h = left_from [] (segments_of page)

  pub first-after : verdict R fresh b ≡ none → after R fresh b ≡ commenting Comment (carried_of o h) page.header.serial ((0 + 1) % 2 ^ 32) head
  unfolding after next_on expecting seen head_of
  first-after v =
      let e : Expected (expecting fresh page) page = expected R fresh b v in
      ap₂ (λ (k : Carried) (ws : List Bytes). commenting Comment k page.header.serial ((page.header.sequence + 1) % 2 ^ 32)
      (R.head_of (first_packet ws))) (joins false [] page (λ w. refl)).left (joins false [] page (λ w. refl)).packets
      ∙ ap (λ (q : ℕ). commenting Comment (carried_of o h) page.header.serial ((q + 1) % 2 ^ 32) head) e.sequence

  first-skip : skip_in R 0 fresh b ≡ head.preskip
  unfolding skip_on next_on expecting seen head_of
  first-skip = ap (λ (ws : List Bytes). (R.head_of (first_packet ws)).preskip) (joins false [] page (λ w. refl)).packets

  first_lists_nothing : listing_on R 0 fresh b ≡ nothing_listed
  unfolding entries_on counts_on entries measures_of samples_of audio_packets expecting kept_of skipped_of trimmed_of tally
  first_lists_nothing = refl

-- ---- the stream

-- its state, the sequence number q being due
abbrev end : Readings → List Bytes → ℕ → State
end R bs q = record {
  phase = phase_of bs;
  carried = carried_of (open_after false bs) (left_after [] bs);
  position = position_from Unset (marks R bs);
  serial = serial_of bs;
  next = q;
  streams = (head_of R bs).streams;
  preskip = (head_of R bs).preskip;
}

pub record Whole (R : Readings) (S : List Shown) : Type 0 where
  pub arrives : Arrived R (head_of R (bytes_of S)) (serial_of (bytes_of S)) (after_all R fresh (bytes_of S)) (audio_pages bytes_in S)
  pub state : after_all R fresh (bytes_of S) ≡ end R (bytes_of S) (length S % 2 ^ 32)
  pub skips : skip_all R fresh 0 (bytes_of S) ≡ (head_of R (bytes_of S)).preskip - decoded_in (marks R (bytes_of S))
  pub listings : map (λ (x : Shown). x.listing) S ≡ listings R (bytes_of S)

whole : (R : Readings) (S : List Shown) → Lists R fresh 0 S → Whole R S
unfolding after_all skip_all phase_of open_after left_after audio_pages marks marks_from decoded_in serial_of head_of listings
whole R [] f = record { arrives = none_arrived R (head_of R []) 0 fresh; state = refl; skips = refl; listings = refl }
whole R (x ∷ xs) f =
    let b : Bytes = x.bytes in
    let bs : List Bytes = bytes_of xs in
    let p : Page = page_of b in
    let head : Head = head_of R (b ∷ bs) in
    let o : Bool = open_from false (segments_of p) in
    let h : Bytes = left_from [] (segments_of p) in
    let due : ℕ = (0 + 1) % 2 ^ 32 in
    let then : State = commenting Comment (carried_of o h) p.header.serial due head in
    let same : after R fresh b ≡ then = first-after R b bs f.0 in
    let skip : skip_in R 0 fresh b ≡ head.preskip = first-skip R b bs in
    let later : Lists R then head.preskip xs = subst (λ (j : ℕ). Lists R then j xs) skip
    (subst (λ (s : State). Lists R s (skip_in R 0 fresh b) xs) same f.2) in
    let k : Comments R head xs o h p.header.serial due =
    comment_run R head xs o h p.header.serial due (begun-left false [] (segments_of p) (λ w. refl)) (omega arith) later in
    let count : (due + length xs) % 2 ^ 32 ≡ suc (length xs) % 2 ^ 32 = next-page 0 (length xs)
    ∙ ap (λ (n : ℕ). n % 2 ^ 32) (zero-add (suc (length xs))) in
    record {
      arrives = subst (λ (s : State). Arrived R head p.header.serial (after_all R s bs) (after_comment bytes_in xs)) (sym same) k.arrives;
      state = ap (λ (s : State). after_all R s bs) same ∙ k.state ∙ ap (end R (b ∷ bs)) count;
      skips = ap₂ (λ (s : State) (j : ℕ). skip_all R s j bs) same skip ∙ k.skips;
      listings = ap₂ (λ (a : Listing) (l : List Listing). a ∷ l) (f.1 ∙ first_lists_nothing R b bs) k.listings;
    }

-- ---- from feedings

pub whole-stream : (R : Readings) (F : List Feeding) → HandedOn R start [] F → Whole R (stream R start F)
whole-stream R F handed = whole R (stream R start F) (runs R F start [] handed).lists

pub stream-state : StreamState
stream-state R F handed =
    let S : List Shown = stream R start F in
    let ran : Ran R fresh 0 S (finally R start F) (carry_left R start [] F) = runs R F start [] handed in
    let w : Whole R S = whole R S ran.lists in
    let e : view_of (finally R start F) (carry_left R start [] F) ≡ end R (bytes_of S) (length S % 2 ^ 32) = ran.state ∙ w.state in
    record {
      phase = ap (λ (s : State). s.phase) e;
      unfinished = ap (λ (s : State). s.carried) e;
      position = ap (λ (s : State). s.position) e;
      serial = ap (λ (s : State). s.serial) e;
      sequence = ap (λ (s : State). s.next) e;
      streams = ap (λ (s : State). s.streams) e;
      preskip = ap (λ (s : State). s.preskip) e;
      skip = ran.skips ∙ w.skips;
      listings = w.listings;
    }
