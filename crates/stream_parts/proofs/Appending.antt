-- Feedings after others: the reader, the stream that is accepted, its audio pages and its header. Assumes nothing.
use Rattle.std.proofs.Common.{◌≡◌, ℕ, Bool, true, false, List, [], ◌∷◌, ◌++◌, refl, ap, ◌∙◌, arith}
use Rattle.octets.specs.Pick.{pick}
use Rattle.octets.specs.Octets.{Bytes}
use Rattle.refusal.specs.Told.{Told, gives, refuses}
use Rattle.stream.specs.declared.Phase.{Phase}
use Rattle.stream.specs.declared.Phase.TheVariants.{First, Comment, Audio}
use Rattle.stream.specs.Page.{page_of, completes}
use Rattle.stream.specs.Readings.{Readings}
use Rattle.stream.specs.Feed.{Reader, Entry, Taken}
use Rattle.stream.specs.Stream.{head_of, after_comment, audio_pages, audio_phase, ended_after, comment_phase, phase_of}
use Rattle.stream.specs.Feedings.{Feeding, feed_in, reader_after, finally, left_in, HandedOn, Shown, show_as, stream, bytes_in, bytes_of}

show-append : (t : Told Taken) (es : List Entry) (b : Bytes) (S T : List Shown) → show_as t es b (S ++ T) ≡ show_as t es b S ++ T
show-append (gives t) es b S T = refl
show-append (refuses n) es b S T = refl

module _ (R : Readings) (G : List Feeding) where
  pub stream-append : (F : List Feeding) (r : Reader) → stream R r (F ++ G) ≡ stream R r F ++ stream R (finally R r F) G
  unfolding stream finally
  stream-append [] r = refl
  stream-append (f ∷ F) r =
      ap (show_as (feed_in R r f).told (feed_in R r f).entries f.bytes) (stream-append F (reader_after R r f))
      ∙ show-append (feed_in R r f).told (feed_in R r f).entries f.bytes (stream R (reader_after R r f) F) _

  pub handed-first : (F : List Feeding) (r : Reader) (old : Bytes) → HandedOn R r old (F ++ G) → HandedOn R r old F
  unfolding HandedOn
  handed-first [] r old h = tt
  handed-first (f ∷ F) r old h = (h.0, handed-first F (reader_after R r f) (left_in R r f old) h.1)

-- ---- after pages that are past both headers every page is one of audio

apart : {A : Type 0} → First ≡ Audio → A
apart e = let z : ◌≡◌ {A = ℕ} 0 1 = cc in absurd (omega arith)

comment-apart : {A : Type 0} → Comment ≡ Audio → A
comment-apart e = let z : ◌≡◌ {A = ℕ} 0 1 = cc in absurd (omega arith)

after-append : (S T : List Shown) → comment_phase (bytes_of S) ≡ Audio → after_comment bytes_in (S ++ T) ≡ after_comment bytes_in S ++ T
unfolding comment_phase after_comment
after-append [] T e = comment-apart e
after-append (x ∷ S) T e = by (completes (page_of x.bytes)) (after-append S T) e
  where
    by : (t : Bool) → (comment_phase (bytes_of S) ≡ Audio → after_comment bytes_in (S ++ T) ≡ after_comment bytes_in S ++ T)
        → pick t (audio_phase (ended_after false (bytes_of S))) (comment_phase (bytes_of S)) ≡ Audio
        → pick t (S ++ T) (after_comment bytes_in (S ++ T)) ≡ pick t S (after_comment bytes_in S) ++ T
    by true later q = refl
    by false later q = later q

pub audio-append : (S T : List Shown) → phase_of (bytes_of S) ≡ Audio → audio_pages bytes_in (S ++ T) ≡ audio_pages bytes_in S ++ T
unfolding phase_of audio_pages
audio-append [] T e = apart e
audio-append (x ∷ S) T e = after-append S T e

pub head-append : (R : Readings) (S T : List Shown) → phase_of (bytes_of S) ≡ Audio → head_of R (bytes_of (S ++ T)) ≡ head_of R (bytes_of S)
unfolding phase_of head_of
head-append R [] T e = apart e
head-append R (x ∷ S) T e = refl
