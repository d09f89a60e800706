-- An accepted stream with whole headers comes out as it is, with no lines. Assumes nothing.
use Prim.Native.Nat.{ℕ, suc, ◌+◌, ◌%◌, ◌^◌}
use mathlib.Core.Path.{◌≡◌, refl, sym, ap, ◌∙◌}
use mathlib.Core.Bool.{true, false}
use mathlib.Core.List.{List, [], ◌∷◌, ◌++◌, map}
use mathlib.Core.Option.{none, some}
use native.Mathlib.Omega.{arith}
use borrow.Author.Tests.{eq-eqb, le-ltb}
use lib.ListN.{length, length-append}
use lib.Seq.{take-append_seam, drop-append_seam}
use Rattle.octets.specs.Octets.{Bytes, Octets}
use Rattle.octets.proofs.Parts.{octets-take, octets-drop}
use Rattle.refusal.specs.Told.{gives}
use Rattle.page_crc.specs.Crc.{page_crc}
use Rattle.page_layout.specs.Page.{header_of}
use Rattle.page_size.specs.Size.{size_of, is_one_page}
use Rattle.page_reader.specs.Reading.{read_page}
use Rattle.page_reader.proofs.Reading.{right_page}
use Rattle.stream.specs.Page.{page_of}
use Rattle.stream.specs.Readings.{Readings, readings}
use Rattle.stream.specs.State.{State, in_headers}
use Rattle.stream.specs.Stream.{phase_of}
use Rattle.stream.specs.Rules.{after}
use Rattle.feed_pages.specs.Feedings.{together}
use Rattle.recording.specs.Pages.{pages_of}
use Rattle.recording.specs.Judging.{first_refused, fresh}
use Rattle.recording.specs.Statements.{Good as GoodBy, AllGood}
use Rattle.recording.proofs.Cutting.{one-ends, pages-together}
use Rattle.recording.proofs.Passing.{first, one-good, all-good}
use Rattle.recording.proofs.Streams.{whole_is}
use Rattle.salvage_search.specs.Search.{is_good, starts_page}
use Rattle.salvage_search.proofs.Starting.{starts-whole, starts-size}
use Rattle.salvage_rules.specs.Good.{Good, good_from, good_pages, serial_in, of_serial, of_stream}
use Rattle.salvage_rules.specs.Tidy.{tidy}
use Rattle.salvage_rules.specs.Lines.{skipped, changes, lines_from}
use Rattle.salvage_rules.specs.Rounds.{page_out, pages_out, refused_in, settled, saved, salvage}
use Rattle.salvage_rules.specs.Statements.{Numbered, as_it_is, AcceptedUnchanged}
use Rattle.salvage_rules.proofs.Greedy.{good-there, good-over}
use Rattle.salvage_rules.proofs.Settling.{accepted-settled}
use Rattle.salvage_rules.proofs.Unbroken.{unbroken_stays}
use Rattle.salvage_rules.proofs.Written.{Same, same}
use Rattle.salvage_rules.proofs.Fields.{is_later, later, next-serial, next-sequence, serial-later, sequence-later, first-sequence, first-mark}

-- ---- the good pages are the pages, each at its place

unfoldable placed : ℕ → List Bytes → List Good
placed at [] = []
placed at (b ∷ bs) = record { place = at; page = page_of b } ∷ placed (at + length b) bs

module _ (crc : Bytes → ℕ) (b c : Bytes) (good : GoodBy (readings crc) b) where
  one : is_one_page b ≡ true
  unfolding readings
  one = good.page

  reads : read_page crc b ≡ gives (header_of b)
  unfolding readings
  reads = right_page crc b good.page good.checksummed

  starts : starts_page crc (b ++ c) ≡ true
  starts =
      starts-whole crc (b ++ c) (one-ends b c one)
      ∙ ap (λ (p : Bytes). is_good (read_page crc p)) (take-append_seam b c) ∙ ap is_good reads

  size : size_of (b ++ c) ≡ length b
  size =
      let e : some (size_of (b ++ c)) ≡ some (length b) = sym (starts-size crc (b ++ c) starts) ∙ one-ends b c one in
      cc

all_placed : (crc : Bytes → ℕ) (at : ℕ) (S : List Bytes) → AllGood (readings crc) S → good_from crc 0 at (together S) ≡ placed at S
unfolding together AllGood placed
all_placed crc at [] g = good-over crc at
all_placed crc at (b ∷ bs) g =
    good-there crc at (b ++ together bs) (starts crc b (together bs) g.0)
    ∙ rw (size crc b (together bs) g.0, take-append_seam b (together bs), drop-append_seam b (together bs), all_placed crc (at + length b) bs g.1)

-- ---- of one serial, numbered one after the other

one_more : (a n : ℕ) → a ≡ n % 2 ^ 32 → (a + 1) % 2 ^ 32 ≡ suc n % 2 ^ 32
one_more a n e = omega arith

module _ (R : Readings) where
  rest-numbered : (bs : List Bytes) (s : State) (k n at : ℕ) → first_refused R s k bs ≡ none → is_later s.phase ≡ true → s.next ≡ n % 2 ^ 32
      → Numbered n (placed at bs)
  unfolding placed Numbered
  rest-numbered [] s k n at e l q = tt
  rest-numbered (b ∷ bs) s k n at e l q =
      let f = first R s k b bs e in
      let here : (page_of b).header.sequence ≡ n % 2 ^ 32 = sequence-later R s b f.passes l ∙ q in
      (here, rest-numbered bs (after R s b) (suc k) (suc n) (at + length b) f.later (later R s b) (next-sequence R s b ∙ one_more (page_of b).header.sequence n here))

  rest-serial : (bs : List Bytes) (s : State) (k at x : ℕ) → first_refused R s k bs ≡ none → is_later s.phase ≡ true → s.serial ≡ x
      → of_serial x (placed at bs) ≡ placed at bs
  unfolding placed of_serial
  rest-serial [] s k at x e l q = refl
  rest-serial (b ∷ bs) s k at x e l q =
      let f = first R s k b bs e in
      let here : (page_of b).header.serial ≡ x = serial-later R s b f.passes l ∙ q in
      simp (eq-eqb (page_of b).header.serial x here, rest-serial bs (after R s b) (suc k) (at + length b) x f.later (later R s b) (next-serial R s b ∙ here))

  -- with the first page
  all-numbered : (S : List Bytes) → first_refused R fresh 0 S ≡ none → Numbered 0 (placed 0 S)
  unfolding placed Numbered
  all-numbered [] e = tt
  all-numbered (b ∷ bs) e =
      let f = first R fresh 0 b bs e in
      let here : (page_of b).header.sequence ≡ 0 % 2 ^ 32 = first-sequence R b f.passes in
      (here, rest-numbered bs (after R fresh b) 1 1 (0 + length b) f.later (later R fresh b) (next-sequence R fresh b ∙ one_more (page_of b).header.sequence 0 here))

  all-serial : (S : List Bytes) → first_refused R fresh 0 S ≡ none → of_stream (serial_in (placed 0 S)) (placed 0 S) ≡ placed 0 S
  unfolding placed serial_in of_serial
  all-serial [] e = refl
  all-serial (b ∷ bs) e =
      let f = first R fresh 0 b bs e in
      simp (
        first-mark R b f.passes,
        eq-eqb (page_of b).header.serial (page_of b).header.serial refl,
        rest-serial bs (after R fresh b) 1 (0 + length b) (page_of b).header.serial f.later (later R fresh b) (next-serial R fresh b),
      )

-- ---- written as they were

unfoldable AllSame : List Bytes → Type 0
AllSame [] = Unit {0}
AllSame (b ∷ bs) = Same b × AllSame bs

all_same : (bs : List Bytes) (s : State) (k : ℕ) → first_refused (readings page_crc) s k bs ≡ none → Octets (together bs) → AllSame bs
unfolding AllSame together page_of
all_same [] s k e o = tt
all_same (b ∷ bs) s k e o =
    let f = first (readings page_crc) s k b bs e in
    let here : Octets b = rw (take-append_seam b (together bs)) at (octets-take (length b) (b ++ together bs) o) in
    let later-bytes : Octets (together bs) = rw (drop-append_seam b (together bs)) at (octets-drop (length b) (b ++ together bs) o) in (
      same b here (one-good (readings page_crc) s b f.passes),
      all_same bs (after (readings page_crc) s b) (suc k) f.later later-bytes,
    )

all_out : (at : ℕ) (bs : List Bytes) → AllSame bs → map page_out (map as_it_is (placed at bs)) ≡ bs
unfolding AllSame placed
all_out at [] a = refl
all_out at (b ∷ bs) a = rw (a.0.bytes, all_out (at + length b) bs a.1)

-- ---- no lines

none-skipped : (at : ℕ) → skipped at at ≡ []
unfolding skipped
none-skipped at = rw (le-ltb at at (omega arith))

no_change : (g : Good) → changes (as_it_is g) ≡ []
unfolding changes
no_change g = rw (eq-eqb g.page.header.sequence g.page.header.sequence refl)

no_lines : (n at : ℕ) (bs : List Bytes) → AllSame bs → n ≡ at + length (together bs) → lines_from n at (map as_it_is (placed at bs)) ≡ []
unfolding AllSame placed together lines_from
no_lines n at [] a e = let here : n ≡ at = omega arith in rw (here, none-skipped at)
no_lines n at (b ∷ bs) a e =
    let g : Good = record { place = at; page = page_of b } in
    rw (none-skipped at, no_change g, a.0.size) (no_lines n (at + length b) bs a.1 (omega (arith, length-append b (together bs))))

-- ---- all together

module _ (b : Bytes) (o : Octets b) (ok : first_refused (readings page_crc) fresh 0 (pages_of b) ≡ none) (headed : in_headers (phase_of (pages_of b)) ≡ false) where
  abbrev S : List Bytes
  S = pages_of b

  found : of_stream (serial_in (good_pages page_crc b)) (good_pages page_crc b) ≡ placed 0 S
  found =
      let there : good_pages page_crc b ≡ placed 0 S =
      (ap (good_from page_crc 0 0) (sym (pages-together b)) ∙ all_placed page_crc 0 S (all-good (readings page_crc) S fresh 0 ok)) in
      rw there (all-serial (readings page_crc) S ok)

  tidied : tidy (placed 0 S) ≡ map as_it_is (placed 0 S)
  tidied = unbroken_stays (placed 0 S) (all-numbered (readings page_crc) S ok)

  wrote : AllSame S
  wrote = all_same S fresh 0 ok (rw (← pages-together b) at o)

  out : pages_out (placed 0 S) ≡ S
  unfolding pages_out
  out = ap (map page_out) tidied ∙ all_out 0 S wrote

  kept : settled (readings page_crc) (placed 0 S) ≡ placed 0 S
  unfolding refused_in
  kept = accepted-settled (readings page_crc) (placed 0 S) (ap (first_refused (readings page_crc) fresh 0) out ∙ ok)

  lines : lines_from (length b) 0 (tidy (placed 0 S)) ≡ []
  lines = rw tidied (no_lines (length b) 0 S wrote (let e = ap length (pages-together b) in omega arith))

  unchanged : salvage page_crc b ≡ saved b []
  unfolding salvage
  unchanged = rw (found, kept, lines, out, headed, pages-together b)

pub accepted_unchanged : AcceptedUnchanged
accepted_unchanged b pages packets o e =
    let w = (whole_is (readings page_crc) (pages_of b) pages packets e).0 in
    unchanged b o w.accepted w.headed
