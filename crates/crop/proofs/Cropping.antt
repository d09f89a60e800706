-- The crop of an accepted stream, by the places of its pages. Assumes nothing.
use Prim.Native.Nat.{ℕ, ◌+◌, ◌-◌, ◌%◌, ◌^◌, ◌≤◌, ◌<◌}
use mathlib.Core.Path.{◌≡◌, refl, sym, ap, ap₂, ◌∙◌}
use mathlib.Core.Bool.{true, false, false≢true}
use mathlib.Core.List.{List, [], ◌∷◌, ◌++◌, map, append_assoc}
use native.Mathlib.Omega.{arith}
use borrow.Author.Tests.{leb-true, lt-ltb, le-ltb}
use lib.Dec.{leb}
use lib.ListN.{length, take, drop, length-append, length-drop, take-append-drop}
use lib.Seq.{take-append_seam, length-take-le}
use Rattle.octets.specs.Octets.{Bytes, Octets, copied}
use Rattle.octets.proofs.Tests.{both}
use Rattle.octets.proofs.Copying.{length-copied, copied-append}
use Rattle.refusal.specs.declared.Refusal.TheVariants.{ShortOutput, NoCropStart}
use Rattle.refusal.specs.Numbers.{number_of}
use Rattle.refusal.specs.Checks.{first_of}
use Rattle.refusal.specs.Told.{Told, gives, refuses, retold}
use Rattle.page_crc.specs.Crc.{page_crc}
use Rattle.stream.specs.Readings.{readings}
use Rattle.feed_pages.specs.Feedings.{together}
use Rattle.recording.specs.Pages.{pages_of}
use Rattle.recording.specs.Judging.{Judgement, whole, refused, judge_buffer}
use Rattle.recording.specs.Statements.{Begins}
use Rattle.recording.proofs.Cutting.{pages-together}
use Rattle.recording_pages.specs.declared.Place.{Place}
use Rattle.recording_pages.specs.Places.{place_of, header_count, headers_end}
use Rattle.recording_pages.proofs.Places.{at_page}
use Rattle.recording_pages.proofs.Headers.{header-few}
use Rattle.crop_rules.specs.Crop.{begins_with, is_start, back, renumbered, crop_pages, crop_of}
use Rattle.crop_rules.specs.Cropping.{cropped_by, cropped, put_by, Crops}
use Rattle.crop.specs.Code.{Accepted, IsPlaced, moved_pages, CanPut, cropped_whole, CropsWhole}
use Rattle.crop.proofs.Putting.{moved-size}

-- ---- pages one after the other

together-append : (A B : List Bytes) → together (A ++ B) ≡ together A ++ together B
unfolding together
together-append [] B = refl
together-append (a ∷ A) B = ap (λ (x : Bytes). a ++ x) (together-append A B) ∙ sym (append_assoc a (together A) (together B))

-- the first pages are the first bytes
first-pages : (b : Bytes) (k : ℕ) → together (take k (pages_of b)) ≡ take (place_of (pages_of b) k) b
unfolding place_of
first-pages b k =
    let S : List Bytes = pages_of b in
    let all : together (take k S) ++ together (drop k S) ≡ b =
    sym (together-append (take k S) (drop k S)) ∙ ap together (take-append-drop k S) ∙ pages-together b in
    sym (take-append_seam (together (take k S)) (together (drop k S))) ∙ ap (take (length (together (take k S)))) all

-- the same shift, by fewer digits
same_back : (d : ℕ) → back (d % 2 ^ 32) ≡ back d
same_back d = omega arith

-- ---- a crop that may begin at page k

module _ (b : Bytes) (k : ℕ) (o : Octets b) (ok : Accepted b) (start : is_start (pages_of b) k ≡ true) where
  abbrev S : List Bytes
  S = pages_of b

  abbrev h : ℕ
  h = header_count S

  -- where it begins, and where the headers end
  abbrev at : ℕ
  at = place_of S k

  abbrev end : ℕ
  end = place_of S h

  abbrev d : ℕ
  d = (k - h) % 2 ^ 32

  audio : h ≤ k
  unfolding is_start
  audio = leb-true h k (both (leb h k) (begins_with (drop k S)) start).0

  some-page : 0 < length (drop k S)
  unfolding is_start
  some-page = by (drop k S) (both (leb h k) (begins_with (drop k S)) start).1
    where
      by : (l : List Bytes) → begins_with l ≡ true → 0 < length l
      by [] e = absurd (false≢true e)
      by (x ∷ l) e = omega arith

  few : k ≤ length S
  few = omega (arith, some-page, length-drop k S)

  here : Begins b at k
  here = (at_page b k few).begins

  headed : Begins b end h
  headed = (at_page b h (header-few S)).begins

  crop-is : crop_of b k ≡ take end b ++ moved_pages d b at
  unfolding crop_pages
  crop-is =
      together-append (take h S) (map (renumbered (back (k - h))) (drop k S))
      ∙ ap₂ (λ (x y : Bytes). x ++ y) (first-pages b h)
      (ap₂ (λ (n : ℕ) (l : List Bytes). together (map (renumbered n) l)) (sym (same_back (k - h))) (sym here.pages))

  pub crop-size : length (crop_of b k) ≡ end + (length b - at)
  crop-size =
      ap length crop-is ∙ length-append (take end b) (moved_pages d b at)
      ∙ ap₂ (λ (x y : ℕ). x + y) (length-take-le end b headed.inside) (moved-size b o ok at k here d)

  -- places in the buffer
  pub inside : (end ≤ length b) × (at ≤ length b) × (h ≤ k)
  inside = (headed.inside, here.inside, audio)

  pub can_put : (out : Bytes) → end + (length b - at) ≤ length out → CanPut b at (copied out 0 (take end b)) end
  can_put out room = record {
    accepted = ok;
    page = k;
    begins = here;
    room = rw (length-copied out 0 (take end b)) room;
  }

  -- the headers copied, and then the pages
  pub crop-put : (out : Bytes) → end + (length b - at) ≤ length out
      → copied (copied out 0 (take end b)) end (moved_pages d b at) ≡ copied out 0 (crop_of b k)
  crop-put out room =
      let size : length (take end b) ≡ end = length-take-le end b headed.inside in
      copied-append out 0 (take end b) (moved_pages d b at) end (omega arith) (omega (arith, moved-size b o ok at k here d))
      ∙ ap (copied out 0) (sym crop-is)

  -- what is told
  pub fits_told : (out : Bytes) → end + (length b - at) ≤ length out → cropped_whole b k (length out) ≡ gives (crop_of b k)
  unfolding first_of
  fits_told out room = rw (start, le-ltb (length out) (length (crop_of b k)) (omega (arith, crop-size)))

  pub short-told : (out : Bytes) → length out < end + (length b - at) → cropped_whole b k (length out) ≡ refuses (number_of ShortOutput)
  unfolding first_of
  short-told out short = rw (start, lt-ltb (length out) (length (crop_of b k)) (omega (arith, crop-size)))

pub no_start-told : (b : Bytes) (k n : ℕ) → is_start (pages_of b) k ≡ false → cropped_whole b k n ≡ refuses (number_of NoCropStart)
unfolding first_of
no_start-told b k n e = rw e

-- ---- the contract, by what is told

pub crop-told : (b : Bytes) (k : ℕ) (t : Told Bytes) (out : Bytes) → cropped_whole b k (length out) ≡ t
    → CropsWhole b k (retold length t) out (put_by t out)
crop-told b k t out e = record { told = ap (retold length) (sym e); output = ap (λ (x : Told Bytes). put_by x out) (sym e) }

-- by the places that the code has found: `headers` is the first page after the headers, and page k begins at `place`
module _ (b : Bytes) (k : ℕ) (headers : Place) (place : ℕ) (is : headers ≡ headers_end b) (there : place ≡ place_of (pages_of b) k) where
  pub is-placed : IsPlaced b headers.page k place
  is-placed = record { headed = ap (λ (x : Place). x.page) is; place = there }

  module _ (o : Octets b) (ok : Accepted b) (start : is_start (pages_of b) k ≡ true) where
    pub found_inside : (headers.at ≤ length b) × (place ≤ length b) × (headers.page ≤ k)
    found_inside = rw (is, there) (inside b k o ok start)

    pub found-short : (out : Bytes) → length out < headers.at + (length b - place) → CropsWhole b k (refuses (number_of ShortOutput)) out out
    found-short out short = crop-told b k (refuses (number_of ShortOutput)) out (short-told b k o ok start out (rw (is, there) at short))

    pub found-room : (out mid : Bytes) → headers.at + (length b - place) ≤ length out → mid ≡ copied out 0 (take headers.at b)
        → CanPut b place mid headers.at
    found-room out mid room e = rw (e, is, there) (can_put b k o ok start out (rw (is, there) at room))

    pub found-put : (out mid end : Bytes) (back : ℕ) → headers.at + (length b - place) ≤ length out → back ≡ (k - headers.page) % 2 ^ 32
        → mid ≡ copied out 0 (take headers.at b) → end ≡ copied mid headers.at (moved_pages back b place)
        → CropsWhole b k (gives (headers.at + (length b - place))) out end
    found-put out mid end back room less first rest =
        let fits : place_of (pages_of b) (header_count (pages_of b)) + (length b - place_of (pages_of b) k) ≤ length out = rw (is, there) at room in
        let all : end ≡ copied out 0 (crop_of b k) = rest ∙ rw (first, less, is, there) (crop-put b k o ok start out fits) in
        rw (all, is, there, ← crop-size b k o ok start) (crop-told b k (gives (crop_of b k)) out (fits_told b k o ok start out fits))

-- ---- by the judgement

pub crops_whole : (b : Bytes) (k pages packets : ℕ) (t : Told ℕ) (out after : Bytes)
    → whole pages packets ≡ judge_buffer (readings page_crc) b → CropsWhole b k t out after → Crops (readings page_crc) b k t out after
unfolding cropped
crops_whole b k pages packets t out after e c = record {
  told = c.told ∙ ap (λ (j : Judgement). retold length (cropped_by j b k (length out))) e;
  output = c.output ∙ ap (λ (j : Judgement). put_by (cropped_by j b k (length out)) out) e;
}

pub crops_refused : (b : Bytes) (k n page : ℕ) (out : Bytes) → refused n page ≡ judge_buffer (readings page_crc) b
    → Crops (readings page_crc) b k (refuses n) out out
unfolding cropped
crops_refused b k n page out e = record {
  told = ap (λ (j : Judgement). retold length (cropped_by j b k (length out))) e;
  output = ap (λ (j : Judgement). put_by (cropped_by j b k (length out)) out) e;
}
