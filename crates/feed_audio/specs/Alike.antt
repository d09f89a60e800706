-- Pages whose packets have one frame and one first byte, and what listing a page answers, in the code's words. Assumes nothing.
use Rattle.std.specs.Prelude.{Option, Some, None, Result, Ok, Err, ℕ, ◌≤◌, ◌≡◌, Bool, ◌&&◌, List, eqb, length, get_or, take, replicate}
use Rattle.octets.specs.Octets.{Bytes, total}
use Rattle.refusal.specs.declared.Refusal.{Refusal}
use Rattle.refusal.specs.Told.{Told, gives}
use Rattle.page_layout.specs.declared.PageHeader.{PageHeader}
use Rattle.page_flags.specs.Flags.{is_last_page}
use Rattle.packet_toc.specs.Toc.{frame_samples}
use Rattle.packet_reader.specs.declared.Measure.{Measure}
use Rattle.packet_reader.specs.Streams.{is_single}
use Rattle.granule.specs.declared.Placed.{Placed}
use Rattle.stream.specs.declared.Core.{Core}
use Rattle.stream.specs.declared.Pending.{Pending}
use Rattle.stream.specs.declared.Pending.TheVariants.{Nothing}
use Rattle.stream.specs.Page.{whole_from}
use Rattle.stream.specs.Lent.{Lent, lent_of}
use Rattle.stream.specs.Packets.{samples_of}
use Rattle.stream.specs.Feed.{entries}
use Rattle.feed_audio.specs.declared.packets.Same.{Same}
use Rattle.feed_audio.specs.declared.lists.Listed.{Listed}
use Rattle.feed_audio.specs.Code.{measures_in, measured, Times, Lists}

-- ---- packets that are alike

-- a packet of one frame that has no length coded, with this first byte
abbrev pub is_single_of : ℕ → Bytes → Bool
is_single_of toc b = is_single b && eqb (get_or b 0 0) toc

-- its measure
abbrev pub single : ℕ → Measure
single toc = record { samples = frame_samples toc; frames = 1 }

-- what the code that looks for them asks
pub record Cut (l body : Bytes) : Type 0 where
  pub few : length l ≤ 255
  pub sums : total l ≤ length body

-- the n packets that complete are all such packets
pub record Singles (n toc : ℕ) (l body : Bytes) : Type 0 where
  pub few : n ≤ 255
  pub reads : measured 1 (whole_from 0 l body) ≡ gives (replicate n (single toc))

abbrev pub Alike : Option Same → Bytes → Bytes → Type 0
Alike (Some r) l body = Singles r.count r.toc l body
Alike None l body = Unit {0}

-- on a page of a reader of so many streams, by what is pending
pub record SinglesOn (n toc : ℕ) (pending : Pending) (streams : ℕ) (l body : Bytes) : Type 0 where
  pub none : pending ≡ Nothing
  pub one : streams ≡ 1
  pub singles : Singles n toc l body

abbrev pub AlikeOn : Option Same → Pending → ℕ → Bytes → Bytes → Type 0
AlikeOn (Some r) pending streams l body = SinglesOn r.count r.toc pending streams l body
AlikeOn None pending streams l body = Unit {0}

-- ---- the lists of a page, the packets being measured as t

-- there is room for the packets of any page
pub record Roomy (es ss ks fs : List ℕ) : Type 0 where
  pub ends : 255 ≤ length es
  pub lengths : 255 ≤ length ss
  pub kept : 255 ≤ length ks
  pub frames : 255 ≤ length fs

-- n packets of d samples lie at w: they are listed, and `left` samples are still to skip
pub record FilledAs (n d : ℕ) (w : Placed) (left : ℕ) (k : Core) (h : PageHeader) (skip : ℕ) (t : Told (List Measure))
    (old : Lent) (ends lengths kept frames : List ℕ) : Type 0 where
  pub packed : List ℕ
  pub times : Times (Ok (record { count = n; samples = d; place = w })) packed k h t
  pub lists : Lists left skip (samples_of (measures_in (take n packed)))
      (entries skip (is_last_page h.flags) h.granule w.from (measures_in (take n packed))) old ends lengths kept frames

-- refused: the lists stay
pub record UnfilledAs (why : Refusal) (k : Core) (h : PageHeader) (t : Told (List Measure))
    (old : Lent) (ends lengths kept frames : List ℕ) : Type 0 where
  pub packed : List ℕ
  pub times : Times (Err why) packed k h t
  pub stays : lent_of old.carry ends lengths kept frames ≡ old

abbrev pub ListsPage : Result Listed Refusal → Core → PageHeader → ℕ → Told (List Measure) → Lent → List ℕ → List ℕ → List ℕ → List ℕ → Type 0
ListsPage (Ok r) k h skip t old es ss ks fs = FilledAs r.count r.samples r.place r.left k h skip t old es ss ks fs
ListsPage (Err why) k h skip t old es ss ks fs = UnfilledAs why k h t old es ss ks fs
