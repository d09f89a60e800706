-- What a call from C returns and leaves in its outputs, from what the library tells (RULES.md, 14): the refusal's number, or 0
-- with the outputs stored. On a refusal every output stays. Assumes nothing.
use Rattle.std.specs.Prelude.{ℕ, ◌≡◌, Bool, true, ◌&&◌, List, [], ◌∷◌, ltb, length, get_or, drop}
use Rattle.std.specs.Int.{w16}
use Rattle.std.proofs.Common.{to_z, of_z}
use Rattle.octets.specs.Pick.{pick}
use Rattle.octets.specs.Octets.{Bytes}
use Rattle.refusal.specs.declared.Refusal.TheVariants.{UnfitFields}
use Rattle.refusal.specs.Numbers.{number_of}
use Rattle.refusal.specs.Told.{Told, gives, refuses, retold, number_in}
use Rattle.page_crc.specs.Crc.{page_crc}
use Rattle.page_layout.specs.declared.PageHeader.{PageHeader}
use Rattle.page_layout.specs.Page.{lacing_of, body_of}
use Rattle.page_reader.specs.Reading.{read_page}
use Rattle.page_writer.specs.Writing.{write_told, write_out}
use Rattle.packet_reader.specs.declared.Contents.{Contents}
use Rattle.packet_reader.specs.Streams.{read_packet}
use Rattle.head_fields.specs.declared.Head.{Head}
use Rattle.head_numbers.specs.Numbers.{head_numbers, fitting, head_from, matrix_numbers}
use Rattle.head_matrix.specs.Matrix.{read_size, read_entry}
use Rattle.head_reader.specs.Reading.{read_head}
use Rattle.head_writer.specs.Writing as headWriting
use Rattle.tags_layout.specs.declared.Part.{Part}
use Rattle.tags_reader.specs.Reading.{read_tags, comment_count, find_vendor, find_comment, read_gain}
use Rattle.tags_writer.specs.Writing as tagsWriting
use Rattle.old_clock.specs.declared.Clock.{Clock}
use Rattle.old_clock.specs.Clock.{add_samples}

-- an output at the end: what is given, or what it held
abbrev pub stored : {A : Type 0} → Told A → A → A
stored (gives a) old = a
stored (refuses n) old = old

-- a call with one output: the returned number, and the output from `old` at entry to `end` at exit
pub record Answered {A : Type 0} (told : Told A) (number : ℕ) (old end : A) : Type 0 where
  pub answer : number ≡ number_in told
  pub output : end ≡ stored told old

-- a writer: the returned number, the output at exit, and the count of bytes from `old` to `count`
pub record Wrote (told : Told ℕ) (laid : Bytes) (number : ℕ) (end : Bytes) (old count : ℕ) : Type 0 where
  pub answer : number ≡ number_in told
  pub output : end ≡ laid
  pub written : count ≡ stored told old

-- ---- pages

-- flags, granule position, serial, sequence, number of lacing values, body length
abbrev pub page_numbers : Bytes → PageHeader → List ℕ
page_numbers p h = h.flags ∷ h.granule ∷ h.serial ∷ h.sequence ∷ length (lacing_of p) ∷ length (body_of p) ∷ []

abbrev pub PageIn : Bytes → ℕ → List ℕ → List ℕ → Type 0
PageIn p number old end = Answered (retold (page_numbers p) (read_page page_crc p)) number old end

abbrev pub PageOut : PageHeader → Bytes → Bytes → ℕ → Bytes → Bytes → ℕ → ℕ → Type 0
PageOut h l b number out end old count = Wrote (write_told h l b out) (write_out h l b out) number end old count

-- ---- packets

-- samples, frames, stereo and silent, the last two 0 or 1
abbrev pub packet_numbers : Contents → List ℕ
packet_numbers c = c.measure.samples ∷ c.measure.frames ∷ pick c.stereo 1 0 ∷ pick c.silent 1 0 ∷ []

-- those of a packet of so many streams
abbrev pub PacketIn : Bytes → ℕ → ℕ → List ℕ → List ℕ → Type 0
PacketIn p streams number old end = Answered (retold packet_numbers (read_packet p streams)) number old end

-- ---- identification headers

-- reading: the returned number, the eight numbers and the mapping's places from `old` to `end`
pub record HeadIn (p : Bytes) (number : ℕ) (oldNumbers endNumbers oldPlaces endPlaces : List ℕ) : Type 0 where
  pub answer : number ≡ number_in (read_head p)
  pub numbers : endNumbers ≡ stored (retold head_numbers (read_head p)) oldNumbers
  pub places : endPlaces ≡ stored (retold (λ (h : Head). h.mapping) (read_head p)) oldPlaces

-- writing: a number that its field's width cannot hold is 23
unfoldable pub head_told : List ℕ → Bytes → Bytes → Bytes → Told ℕ
head_told f places matrix out =
    pick (fitting f) (headWriting.write_told (head_from f places) matrix out) (refuses (number_of UnfitFields))

unfoldable pub head_out : List ℕ → Bytes → Bytes → Bytes → Bytes
head_out f places matrix out = pick (fitting f) (headWriting.write_out (head_from f places) matrix out) out

abbrev pub HeadLaid : List ℕ → Bytes → Bytes → ℕ → Bytes → Bytes → ℕ → ℕ → Type 0
HeadLaid f places matrix number out end old count =
    Wrote (head_told f places matrix out) (head_out f places matrix out) number end old count

-- where the matrix lies
abbrev pub MatrixIn : Bytes → ℕ → List ℕ → List ℕ → Type 0
MatrixIn p number old end = Answered (retold matrix_numbers (read_size p)) number old end

-- an entry of the matrix in 16 bits
abbrev pub EntryIn : Bytes → ℕ → ℕ → ℕ → ℕ → Type 0
EntryIn p i number old end = Answered (retold (of_z w16) (read_entry p i)) number old end

-- ---- comment headers

-- the number of comments
abbrev pub TagsIn : Bytes → ℕ → ℕ → ℕ → Type 0
TagsIn b number old end = Answered (retold comment_count (read_tags b)) number old end

-- where a part starts in the packet, and its length
abbrev pub part_numbers : Part → List ℕ
part_numbers p = p.start ∷ p.size ∷ []

abbrev pub PartIn : Told Part → ℕ → List ℕ → List ℕ → Type 0
PartIn found number old end = Answered (retold part_numbers found) number old end

abbrev pub VendorIn : Bytes → ℕ → List ℕ → List ℕ → Type 0
VendorIn b number old end = PartIn (find_vendor b) number old end

abbrev pub CommentIn : Bytes → ℕ → ℕ → List ℕ → List ℕ → Type 0
CommentIn b i number old end = PartIn (find_comment b i) number old end

-- the gain in 16 bits
abbrev pub GainIn : Bytes → ℕ → ℕ → ℕ → ℕ → Type 0
GainIn b i number old end = Answered (retold (of_z w16) (read_gain b i)) number old end

abbrev pub TagsOut : Bytes → Bytes → List ℕ → ℕ → Bytes → Bytes → ℕ → ℕ → Type 0
TagsOut vendor text ns number out end old count =
    Wrote (tagsWriting.write_told vendor text ns out) (tagsWriting.write_out vendor text ns out) number end old count

-- ---- the old clock

abbrev pub ClockAfter : Clock → ℕ → ℕ → Clock → Type 0
ClockAfter old samples number end = Answered (add_samples old samples) number old end
