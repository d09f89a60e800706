-- The real readings: they agree with reading alone, and opening part way takes a stream's header record. Assumes nothing.
use Prim.Native.Nat.{ℕ, ◌+◌, ◌-◌, ◌<◌}
use mathlib.Core.Path.{◌≡◌, refl, sym, ap, ◌∙◌}
use mathlib.Core.Bool.{Bool, true, false, not}
use mathlib.Core.List.{List, [], ◌∷◌}
use mathlib.Core.Option.{Option, none, some}
use native.Mathlib.Omega.{arith}
use borrow.Author.Tests.{ne_eqb, le-ltb}
use lib.Dec.{ltb, eqb, lit<}
use lib.ListN.{length}
use Rattle.octets.specs.Pick.{pick}
use Rattle.octets.specs.Octets.{Bytes, Octets}
use Rattle.octets.proofs.Parts.{octets-take, octets-drop}
use Rattle.refusal.specs.declared.Refusal.{Refusal}
use Rattle.refusal.specs.declared.Refusal.TheVariants.{IllegalPacket, MixedLengths}
use Rattle.refusal.specs.Checks.{first_of}
use Rattle.refusal.specs.Told.{Told, gives, refuses, decided, retold}
use Rattle.page_layout.specs.Page.{body_of, count_of}
use Rattle.page_lacing.specs.Lacing.{cut_from}
use Rattle.page_reader.specs.Reading.{read_page}
use Rattle.head_fields.specs.declared.Head.{Head}
use Rattle.head_reader.specs.Fields.{head_of as fields_of}
use Rattle.head_fields.specs.Right.{right_head, right_mapping}
use Rattle.head_reader.specs.Reading.{is_head, read_head}
use Rattle.head_reader.proofs.ReadRight.{read-is_right}
use Rattle.tags_reader.specs.Reading.{read_tags}
use Rattle.packet_reader.specs.declared.Contents.{Contents}
use Rattle.packet_reader.specs.Streams.{measured_of, is_illegal, is_mixed, first_contents, read_packet}
use Rattle.stream.specs.Page.{Page, page_of, whole_from, whole, rest}
use Rattle.stream.specs.Readings.{Readings, readings}
use Rattle.stream.specs.State.{nothing, State, expecting}
use Rattle.stream.specs.Packets.{join, seen}
use Rattle.stream.specs.Rules.{first_packet, packet_checks, verdict}
use Rattle.stream.specs.Feed.{Reader, start, open_at, open_part_way, Taken}
use Rattle.stream.specs.Stream.{head_of}
use Rattle.stream.specs.Feedings.{Feeding, feed_in, reader_after, Shown, show_as, stream, bytes_of}
use Rattle.stream.specs.Statements.{ReadingsAgree, AllOctets, OpensStream}
use Rattle.stream.proofs.Passed.{Shaped, shaped}
use Rattle.stream.proofs.Pieces.{onwards}
use Rattle.stream.proofs.Segments.{joins}
use Rattle.stream.proofs.Runs.{Lists, runs}
use Rattle.stream.proofs.Theorem1.{fresh}

-- ---- reading alone

twice : (t : Bool) → not (not t) ≡ t
twice true = refl
twice false = refl

retold-decided : {A B : Type 0} (f : A → B) (o : Option Refusal) (a : A) → retold f (decided o a) ≡ decided o (f a)
retold-decided f none a = refl
retold-decided f (some r) a = refl

pub readings-agree : ReadingsAgree
unfolding readings read_page page_of read_head read_tags read_packet packet_checks first_of
readings-agree crc = record {
  page = λ b. refl;
  head = λ b. refl;
  tags = λ b. refl;
  packet = λ b n low high.
      let z : eqb n 0 ≡ false = ne_eqb n 0 (λ e. (omega arith)) in
      let few : ltb 255 n ≡ false = le-ltb 255 n high in
      let o : Option Refusal = pick (is_mixed (measured_of (n - 1) b)) (some MixedLengths) none in
      let c : Contents = first_contents (measured_of (n - 1) b) in
      (rw (z, few)
      (ap (λ (t : Bool). decided (pick t (some IllegalPacket) o) c.measure) (twice (is_illegal (measured_of (n - 1) b)))
      ∙ sym (retold-decided (λ (x : Contents). x.measure) (pick (is_illegal (measured_of (n - 1) b)) (some IllegalPacket) o) c)));
}

-- ---- the header of a stream

-- a page's first packet is bytes
first-octets : (n : ℕ) (l body : Bytes) → Octets body → Octets (first_packet (whole_from n l body))
unfolding cut_from
first-octets n [] body o = record { below = λ i. lit< tt }
first-octets n (v ∷ l) body o = by (ltb v 255) (first-octets (n + v) l body o)
  where
    by : (t : Bool) → Octets (first_packet (whole_from (n + v) l body)) → Octets (first_packet (onwards t (n + v) l body).whole)
    by true k = octets-take (n + v) body o
    by false k = k

page-octets : (b : Bytes) → Octets b → Octets (first_packet (whole (page_of b)))
unfolding whole page_of body_of
page-octets b o = first-octets 0 (page_of b).lacing (page_of b).body (octets-drop (27 + count_of b) b o)

nothing_joins : (p : Page) → (join nothing (whole p) (rest p)).packets ≡ whole p
unfolding join
nothing_joins p = by (whole p)
  where
    by : (ws : List Bytes) → (join nothing ws (rest p)).packets ≡ ws
    by [] = refl
    by (w ∷ ws) = refl

-- the first page that a stream has
head_right : (crc : Bytes → ℕ) (b : Bytes) → Octets b → verdict (readings crc) fresh b ≡ none
    → right_head (fields_of (first_packet (whole (page_of b)))) ≡ true
unfolding verdict expecting readings seen read_head first_of
head_right crc b o v =
    let R : Readings = readings crc in
    let t : State = expecting fresh (page_of b) in
    let k : Shaped R t b (seen t (page_of b)) = shaped R t b (seen t (page_of b)) v in
    let w : Bytes = first_packet (whole (page_of b)) in
    let same : first_packet (seen t (page_of b)).packets ≡ w = ap first_packet (nothing_joins (page_of b)) in
    let a : not (is_head w) ≡ false = ap (λ (x : Bytes). not (is_head x)) (sym same) ∙ k.head in
    let m : not (right_mapping (fields_of w)) ≡ false = ap (λ (x : Bytes). not (right_mapping (fields_of x))) (sym same) ∙ k.mapping in
    read-is_right w (fields_of w) (page-octets b o) (rw (a, m) refl)

-- the stream's pages are bytes
abbrev AllShown : List Shown → Type 0
AllShown [] = Unit {0}
AllShown (x ∷ xs) = Octets x.bytes × AllShown xs

stream-octets : (R : Readings) (r : Reader) (F : List Feeding) → AllOctets F → AllShown (stream R r F)
unfolding stream
stream-octets R r [] o = tt
stream-octets R r (f ∷ fs) o = by (feed_in R r f).told (stream-octets R (reader_after R r f) fs o.1)
  where
    by : (t : Told Taken) → AllShown (stream R (reader_after R r f) fs)
        → AllShown (show_as t (feed_in R r f).entries f.bytes (stream R (reader_after R r f) fs))
    by (gives t) k = (o.0, k)
    by (refuses n) k = k

takes : (h : Head) → right_head h ≡ true → open_part_way h ≡ gives (open_at h)
unfolding open_part_way first_of
takes h e = rw e refl

stream-head : (crc : Bytes → ℕ) (S : List Shown) → AllShown S → Lists (readings crc) fresh 0 S → 0 < length S
    → right_head (head_of (readings crc) (bytes_of S)) ≡ true
unfolding head_of readings
stream-head crc [] o f some-page = absurd (omega arith)
stream-head crc (x ∷ xs) o f some-page =
    ap (λ (ws : List Bytes). right_head (fields_of (first_packet ws)))
    (sym (joins false [] (page_of x.bytes) (λ w. refl)).packets ∙ nothing_joins (page_of x.bytes))
    ∙ head_right crc x.bytes o.0 f.0

pub opens-stream : OpensStream
opens-stream crc F o handed some-page =
    let R : Readings = readings crc in
    takes (head_of R (bytes_of (stream R start F)))
    (stream-head crc (stream R start F) (stream-octets R start F o) (runs R F start [] handed).lists some-page)
