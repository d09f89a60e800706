-- The full reader over its header pages: it comes to the audio pages with the stream's header, nothing unfinished, no granule
-- position, and the whole pre-skip still to skip. Assumes nothing.
use Prim.Native.Nat.{ℕ, suc, ◌+◌, ◌-◌, ◌%◌, ◌^◌, ◌<◌}
use mathlib.Core.Path.{◌≡◌, refl, sym, ap, ap₂, subst, ◌∙◌}
use mathlib.Core.Bool.{Bool, true, false, false≢true, true≢false}
use mathlib.Core.List.{List, [], ◌∷◌, map}
use mathlib.Core.Option.{Option, none, some}
use native.Mathlib.Nat.{sub-zero, zero-add}
use native.Mathlib.Omega.{arith}
use lib.ListN.{length}
use Rattle.octets.specs.Pick.{pick}
use Rattle.octets.specs.Octets.{Bytes}
use Rattle.head_fields.specs.declared.Head.{Head}
use Rattle.granule.specs.declared.Position.TheVariants.{Unset}
use Rattle.granule.specs.Samples.{tally, kept_of, skipped_of, trimmed_of}
use Rattle.stream.specs.declared.Phase.{Phase}
use Rattle.stream.specs.declared.Phase.TheVariants.{Comment, Audio}
use Rattle.stream.specs.declared.Shape.{Shape}
use Rattle.stream.specs.declared.Shape.TheVariants.{Ends, GoesOn, Other}
use Rattle.stream.specs.Page.{Page, page_of, completes, whole, rest}
use Rattle.stream.specs.Readings.{Readings}
use Rattle.stream.specs.State.{Carried, nothing, dropped, held, State, unfinished, expecting}
use Rattle.stream.specs.Packets.{join, seen, audio_packets, measures_of, samples_of}
use Rattle.stream.specs.Rules.{next_on, verdict, after}
use Rattle.stream.specs.Shape.{shape_of, is_other}
use Rattle.stream.specs.Feed.{entries, entries_on, counts_on, skip_on}
use Rattle.stream.specs.Stream.{segments_of, left_from, open_from, open_after, left_after, carried_of, after_comment, ended_after, audio_phase, comment_phase, Mark, marks_from, position_from, decoded_in, Listing, nothing_listed, audio_listings, comment_listings}
use Rattle.stream.specs.Feedings.{Shown, bytes_in, bytes_of, has_position}
use Rattle.stream.proofs.Passed.{shaped}
use Rattle.stream.proofs.Shapes.{Says, shape-says}
use Rattle.stream.proofs.Pieces.{page-completes}
use Rattle.stream.proofs.Segments.{Begun, begun-left, carried_open, joins}
use Rattle.stream.proofs.TwoReaders.{audio}
use Rattle.stream.proofs.Joining.{after_all}
use Rattle.stream.proofs.Runs.{listing_on, skip_in, Lists, skip_all}
use Rattle.stream.proofs.AudioRun.{Expected, expected, next-page, Audio as AudioPages, audio_run}

-- a state among the pages of the comment packet, or the first of the audio pages
abbrev pub commenting : Phase → Carried → ℕ → ℕ → Head → State
commenting ph cr serial next head = record {
  phase = ph;
  carried = cr;
  position = Unset;
  serial = serial;
  next = next;
  streams = head.streams;
  preskip = head.preskip;
}

-- ---- one page of the comment packet

none-completes : (cr : Carried) (r : Option Bytes) → (join cr [] r).completes ≡ true → ⊥
unfolding join
none-completes nothing r e = false≢true e
none-completes dropped r e = false≢true e
none-completes (held n h) none e = false≢true e
none-completes (held n h) (some b) e = false≢true e

one_left : (cr : Carried) (piece : Bytes) → (join cr (piece ∷ []) none).left ≡ nothing
unfolding join
one_left nothing piece = refl
one_left dropped piece = refl
one_left (held n h) piece = refl

-- the page that completes it leaves nothing unfinished
one-packet : (cr : Carried) (s : Shape) (ws : List Bytes) (r : Option Bytes) (piece : Bytes) → Says s ws r piece → is_other s ≡ false
    → (join cr ws r).completes ≡ true → (join cr ws r).left ≡ nothing
one-packet cr Ends ws r piece says o e =
    ap₂ (λ (l : List Bytes) (t : Option Bytes). (join cr l t).left) says.0 says.1 ∙ one_left cr piece
one-packet cr GoesOn ws r piece says o e =
    absurd (none-completes cr r (subst (λ (l : List Bytes). (join cr l r).completes ≡ true) says.0 e))
one-packet cr Other ws r piece says o e = absurd (true≢false o)

module _ (R : Readings) (head : Head) (b : Bytes) (o : Bool) (h : Bytes) (serial next : ℕ) (begun : Begun o h) where
  abbrev page : Page
  page = page_of b

  abbrev now : State
  now = commenting Comment (carried_of o h) serial next head

  abbrev o_after : Bool
  o_after = open_from o (segments_of page)

  abbrev h_after : Bytes
  h_after = left_from h (segments_of page)

  pub comment-after : verdict R now b ≡ none
      → after R now b ≡ commenting (pick (completes page) Audio Comment) (carried_of o_after h_after) serial ((next + 1) % 2 ^ 32) head
  unfolding after next_on expecting seen
  comment-after v =
      let e : Expected now page = expected R now b v in
      ap₂ (λ (k : Carried) (t : Bool). commenting (pick t Audio Comment) k page.header.serial
      ((page.header.sequence + 1) % 2 ^ 32) head) (joins o h page begun).left (page-completes (carried_of o h) page)
      ∙ ap₂ (λ (s q : ℕ). commenting (pick (completes page) Audio Comment) (carried_of o_after h_after) s ((q + 1) % 2 ^ 32) head) e.serial
      e.sequence

  comment-shape : verdict R now b ≡ none → is_other (shape_of page.lacing) ≡ false
  unfolding verdict expecting
  comment-shape v = (shaped R now b (seen now page) v).shape

  -- nothing is open after the page that completes it
  pub comment-closed : verdict R now b ≡ none → completes page ≡ true → o_after ≡ false
  comment-closed v e =
      sym (carried_open o_after h_after) ∙ ap unfinished (sym (joins o h page begun).left)
      ∙ ap unfinished (one-packet (carried_of o h) (shape_of page.lacing) (whole page) (rest page) _ (shape-says page) (comment-shape v)
      (page-completes (carried_of o h) page ∙ e))

  -- nothing is told of it
  pub comment_lists_nothing : (skip : ℕ) → listing_on R skip now b ≡ nothing_listed
  unfolding entries_on counts_on entries measures_of samples_of audio_packets expecting kept_of skipped_of trimmed_of tally
  comment_lists_nothing skip = refl

  pub comment-skip : (skip : ℕ) → skip_in R skip now b ≡ skip
  unfolding skip_on expecting
  comment-skip skip = refl

-- ---- all pages after the first

-- where the audio pages begin; `end` is the state after them
pub record Arrived (R : Readings) (head : Head) (serial : ℕ) (end : State) (xs : List Shown) : Type 0 where
  pub next : ℕ
  pub lists : Lists R (audio false nothing Unset serial next head) head.preskip xs
  pub ends : has_position xs ≡ true → after_all R (audio false nothing Unset serial next head) (bytes_of xs) ≡ end

pub none_arrived : (R : Readings) (head : Head) (serial : ℕ) (end : State) → Arrived R head serial end []
unfolding has_position
none_arrived R head serial end = record { next = 0; lists = tt; ends = λ t. absurd (false≢true t) }

abbrev pub id_bytes : Bytes → Bytes
id_bytes b = b

abbrev later_marks : Readings → Head → List Bytes → List Mark
later_marks R head bs = marks_from R head.streams [] (after_comment id_bytes bs)

pub record Comments (R : Readings) (head : Head) (xs : List Shown) (o : Bool) (h : Bytes) (serial next : ℕ) : Type 0 where
  pub arrives : Arrived R head serial (after_all R (commenting Comment (carried_of o h) serial next head) (bytes_of xs)) (after_comment bytes_in xs)
  pub state : after_all R (commenting Comment (carried_of o h) serial next head) (bytes_of xs)
      ≡ record {
        phase = comment_phase (bytes_of xs);
        carried = carried_of (open_after o (bytes_of xs)) (left_after h (bytes_of xs));
        position = position_from Unset (later_marks R head (bytes_of xs));
        serial = serial;
        next = (next + length xs) % 2 ^ 32;
        streams = head.streams;
        preskip = head.preskip;
      }
  pub skips : skip_all R (commenting Comment (carried_of o h) serial next head) head.preskip (bytes_of xs)
      ≡ head.preskip - decoded_in (later_marks R head (bytes_of xs))
  pub listings : map (λ (x : Shown). x.listing) xs ≡ comment_listings R head (bytes_of xs)

-- one more page, t: it completes the comment packet
module _ (R : Readings) (head : Head) (x : Shown) (xs : List Shown) (o : Bool) (h : Bytes) (serial next : ℕ) (begun : Begun o h)
    (f : Lists R (commenting Comment (carried_of o h) serial next head) head.preskip (x ∷ xs)) where
  abbrev this : State
  this = now R head x.bytes o h serial next begun

  abbrev bs : List Bytes
  bs = bytes_of xs

  abbrev o_next : Bool
  o_next = open_from o (segments_of (page_of x.bytes))

  abbrev h_next : Bytes
  h_next = left_from h (segments_of (page_of x.bytes))

  abbrev due : ℕ
  due = (next + 1) % 2 ^ 32

  -- the state after all pages
  abbrev end : Phase → Bool → Bytes → List Mark → ℕ → State
  end ph w k ms q = record {
    phase = ph;
    carried = carried_of (open_after w bs) (left_after k bs);
    position = position_from Unset ms;
    serial = serial;
    next = q;
    streams = head.streams;
    preskip = head.preskip;
  }

  record More (t : Bool) : Type 0 where
    arrives : Arrived R head serial (after_all R (after R this x.bytes) bs) (pick t xs (after_comment bytes_in xs))
    state : after_all R (after R this x.bytes) bs
        ≡ end (pick t (audio_phase (ended_after false bs)) (comment_phase bs)) o_next h_next
        (marks_from R head.streams [] (pick t bs (after_comment id_bytes bs))) ((next + suc (length xs)) % 2 ^ 32)
    skips : skip_all R (after R this x.bytes) (skip_in R head.preskip this x.bytes) bs
        ≡ head.preskip - decoded_in (marks_from R head.streams [] (pick t bs (after_comment id_bytes bs)))
    listings : map (λ (y : Shown). y.listing) xs ≡ pick t (audio_listings R head [] Unset 0 bs) (comment_listings R head bs)

  then_after : (t : Bool) → completes (page_of x.bytes) ≡ t
      → after R this x.bytes ≡ commenting (pick t Audio Comment) (carried_of o_next h_next) serial due head
  then_after t e =
      comment-after R head x.bytes o h serial next begun f.0
      ∙ ap (λ (w : Bool). commenting (pick w Audio Comment) (carried_of o_next h_next) serial due head) e

  then_lists : (t : Bool) → completes (page_of x.bytes) ≡ t
      → Lists R (commenting (pick t Audio Comment) (carried_of o_next h_next) serial due head) head.preskip xs
  then_lists t e =
      subst (λ (j : ℕ). Lists R (commenting (pick t Audio Comment) (carried_of o_next h_next) serial due head) j xs)
      (comment-skip R head x.bytes o h serial next begun head.preskip)
      (subst (λ (s : State). Lists R s (skip_in R head.preskip this x.bytes) xs) (then_after t e) f.2)

  skips_on : (t : Bool) → completes (page_of x.bytes) ≡ t
      → skip_all R (after R this x.bytes) (skip_in R head.preskip this x.bytes) bs
      ≡ skip_all R (commenting (pick t Audio Comment) (carried_of o_next h_next) serial due head) head.preskip bs
  skips_on t e = ap₂ (λ (s : State) (j : ℕ). skip_all R s j bs) (then_after t e) (comment-skip R head x.bytes o h serial next begun head.preskip)

  ended : completes (page_of x.bytes) ≡ true → More true
  ended e =
      let closed : o_next ≡ false = comment-closed R head x.bytes o h serial next begun f.0 e in
      let empty : h_next ≡ [] = begun-left o h (segments_of (page_of x.bytes)) begun closed in
      let none_left : carried_of o_next h_next ≡ nothing = ap (λ (w : Bool). carried_of w h_next) closed in
      let audio-state : State = audio false nothing Unset serial due head in
      let lists : Lists R audio-state head.preskip xs = subst
      (λ (k : Carried). Lists R (commenting Audio k serial due head) head.preskip xs) none_left (then_lists true e) in
      let same : after R this x.bytes ≡ audio-state = then_after true e ∙ ap (λ (k : Carried). commenting Audio k serial due head) none_left in
      let run : AudioPages R head xs false false [] Unset serial due 0 =
      audio_run R head xs false false [] Unset serial due 0 (λ w. refl) (omega arith)
      (subst (λ (j : ℕ). Lists R audio-state j xs) (sym (sub-zero head.preskip)) lists) in
      record {
        arrives = record { next = due; lists = lists; ends = λ t. ap (λ (s : State). after_all R s bs) (sym same) };
        state = ap (λ (s : State). after_all R s bs) same ∙ run.state
            ∙ ap (end (audio_phase (ended_after false bs)) false [] (marks_from R head.streams [] bs)) (next-page next (length xs))
            ∙ ap₂ (λ (w : Bool) (k : Bytes). end (audio_phase (ended_after false bs)) w k (marks_from R head.streams [] bs)
            ((next + suc (length xs)) % 2 ^ 32)) (sym closed) (sym empty);
        skips = skips_on true e ∙ ap₂ (λ (k : Carried) (j : ℕ). skip_all R (commenting Audio k serial due head) j bs) none_left
            (sym (sub-zero head.preskip)) ∙ run.skips
            ∙ ap (λ (j : ℕ). head.preskip - j) (zero-add (decoded_in (marks_from R head.streams [] bs)));
        listings = run.listings;
      }

  going : completes (page_of x.bytes) ≡ false → Comments R head xs o_next h_next serial due → More false
  going e k = record {
    arrives = subst (λ (s : State). Arrived R head serial (after_all R s bs) (after_comment bytes_in xs)) (sym (then_after false e)) k.arrives;
    state = ap (λ (s : State). after_all R s bs) (then_after false e) ∙ k.state
        ∙ ap (end (comment_phase bs) o_next h_next (later_marks R head bs)) (next-page next (length xs));
    skips = skips_on false e ∙ k.skips;
    listings = k.listings;
  }

  more : (t : Bool) → completes (page_of x.bytes) ≡ t
      → (Lists R (commenting Comment (carried_of o_next h_next) serial due head) head.preskip xs
      → Comments R head xs o_next h_next serial due) → More t
  more true e again = ended e
  more false e again = going e (again (then_lists false e))

pub comment_run : (R : Readings) (head : Head) (xs : List Shown) (o : Bool) (h : Bytes) (serial next : ℕ) → Begun o h → next < 2 ^ 32
    → Lists R (commenting Comment (carried_of o h) serial next head) head.preskip xs → Comments R head xs o h serial next
unfolding after_all skip_all comment_phase open_after left_after after_comment marks_from decoded_in comment_listings
comment_run R head [] o h serial next k small f =
    let z : (next + 0) % 2 ^ 32 ≡ next = omega arith in
    record {
      arrives = none_arrived R head serial (commenting Comment (carried_of o h) serial next head);
      state = ap (λ (q : ℕ). commenting Comment (carried_of o h) serial q head) (sym z);
      skips = sym (sub-zero head.preskip);
      listings = refl;
    }
comment_run R head (x ∷ xs) o h serial next k small f =
    let p : Page = page_of x.bytes in
    let m : More R head x xs o h serial next k f (completes p) =
    more R head x xs o h serial next k f (completes p) refl
    (comment_run R head xs (open_from o (segments_of p)) (left_from h (segments_of p)) serial ((next + 1) % 2 ^ 32)
    (begun-left o h (segments_of p) k) (omega arith)) in
    record {
      arrives = m.arrives;
      state = m.state;
      skips = m.skips;
      listings = ap₂ (λ (a : Listing) (l : List Listing). a ∷ l) (f.1 ∙ comment_lists_nothing R head x.bytes o h serial next k head.preskip)
          m.listings;
    }
