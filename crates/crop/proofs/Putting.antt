-- The pages of an accepted stream from a place on, written one after the other with their numbers less. Assumes nothing.
use Rattle.refusal.specs.declared.Refusal.{Refusal}
use Rattle.std.specs.Prelude.{Result, Ok, Err}
use Prim.Native.Nat.{ℕ, suc, ◌+◌, ◌-◌, ◌≤◌, ◌<◌}
use mathlib.Core.Path.{◌≡◌, refl, sym, ap, subst, ◌∙◌}
use mathlib.Core.Bool.{true}
use mathlib.Core.List.{List, [], ◌++◌, map}
use mathlib.Core.Option.{none}
use native.Mathlib.Omega.{arith}
use borrow.Rule.Slice.PartMut.{mid_of, put_mid}
use lib.ListN.{length, drop, length-drop, drop_of_length-le}
use lib.Seq.{paste-zero}
use Rattle.octets.specs.Octets.{Bytes, Octets, copied}
use Rattle.octets.proofs.Copying.{copied-fits, length-copied, copied-append}
use Rattle.refusal.specs.Checks.{first_of}
use Rattle.page_layout.specs.Places.{count_at}
use Rattle.page_layout.specs.Page.{lacing_of, body_of}
use Rattle.page_lacing.proofs.Bodies.{is_body_lem}
use Rattle.page_size.specs.Size.{is_one_page}
use Rattle.page_size.proofs.Whole.{lacing-length, body-length}
use Rattle.page_writer.specs.Writing.{page_size, any_checks, write_any_out}
use Rattle.page_writer.proofs.Writing.{any_writable}
use Rattle.page_writer.proofs.RoundTrip.{size_same}
use Rattle.page_writer.proofs.Part.{part_from, in_part}
use Rattle.stream.specs.Readings.{readings}
use Rattle.feed_pages.specs.Feedings.{together}
use Rattle.recording.specs.Pages.{pages_of}
use Rattle.recording.specs.Statements.{Begins, Good}
use Rattle.recording.proofs.Cutting.{pages-together}
use Rattle.recording.proofs.Places.{no_pages, next-drop}
use Rattle.recording_pages.specs.Places.{page_at}
use Rattle.recording_pages.proofs.Pages.{Front, front}
use Rattle.crop_rules.specs.Crop.{back, renumbered}
use Rattle.crop_rules.proofs.Renumbered.{R, same_size}
use Rattle.crop_rules.proofs.Sound.{Sound, AllSound, sound-pages, sound-drop, sound-both, same_sizes}
use Rattle.crop_page.specs.Renumbering.{WroteBack}
use Rattle.crop.specs.Code.{Accepted, moved_pages, CanPut}

-- ---- one page written

one-page : (p : Bytes) → Good R p → is_one_page p ≡ true
unfolding readings
one-page p g = g.page

pub put_back : (p : Bytes) (d : ℕ) (out : Bytes) (at : ℕ) (r : Result ℕ Refusal) (ys : Bytes) → Sound p → at + length p ≤ length out
    → WroteBack d p (mid_of at (length out - at) out) r ys → put_mid at (length out - at) out ys ≡ copied out at (renumbered (back d) p)
unfolding write_any_out renumbered
put_back p d out at r ys s room w =
    let one : is_one_page p ≡ true = one-page p s.good in
    let part : length (mid_of at (length out - at) out) ≡ length out - at = ap length (part_from out at) ∙ length-drop at out in
    let size : page_size (lacing_of p) (body_of p) ≡ length p = size_same p one in
    let few : length (lacing_of p) ≤ 255 = omega (arith, s.octets.below count_at, lacing-length p one) in
    let clear : first_of (any_checks (lacing_of p) (body_of p) (length (mid_of at (length out - at) out))) ≡ none =
    any_writable (lacing_of p) (body_of p) _ (is_body_lem (lacing_of p) (body_of p) few (sym (body-length p one))) (omega arith) in
    in_part out at (renumbered (back d) p) ys (omega (arith, same_size (back d) p s.octets s.good)) (w.output ∙ rw clear)

-- ---- the pages from a place on

module _ (b : Bytes) (o : Octets b) (ok : Accepted b) (at k : ℕ) (g : Begins b at k) where
  sound-from : AllSound (pages_of (drop at b))
  sound-from = subst AllSound (sym g.pages) (sound-drop k (pages_of b) (sound-pages b o ok))

  pub moved-size : (d : ℕ) → length (moved_pages d b at) ≡ length b - at
  moved-size d = same_sizes (back d) (pages_of (drop at b)) sound-from ∙ ap length (pages-together (drop at b)) ∙ length-drop at b

  module _ (more : at < length b) where
    abbrev page : Bytes
    page = page_at b at

    pub sound-here : Sound page
    sound-here = (sound-both page _ (subst AllSound (front b at more).pages sound-from)).0

    pub begins-next : Begins b (at + length page) (suc k)
    begins-next =
        let f : Front b at = front b at more in
        record { inside = f.inside; pages = sym (next-drop (pages_of b) k page _ (sym g.pages ∙ f.pages)) }

    pub moved_on : (d : ℕ) → moved_pages d b at ≡ renumbered (back d) page ++ moved_pages d b (at + length page)
    unfolding together
    moved_on d = ap (λ (S : List Bytes). together (map (renumbered (back d)) S)) (front b at more).pages

-- at the end nothing is left
none-moved : (b : Bytes) (d at : ℕ) → length b ≤ at → moved_pages d b at ≡ []
unfolding together
none-moved b d at h = ap (λ (c : Bytes). together (map (renumbered (back d)) (pages_of c))) (drop_of_length-le b h) ∙ ap (λ (S : List Bytes). together (map (renumbered (back d)) S)) no_pages

copied-nothing : (d : Bytes) (at : ℕ) → at ≤ length d → copied d at [] ≡ d
copied-nothing d at h = copied-fits d at [] (omega arith) ∙ sym (paste-zero d at [])

-- ---- one after the other

-- what is left, from the place `at` of the stream on, at the place `put` of the output, makes what all of it makes
pub record Puts (b : Bytes) (d from : ℕ) (old : Bytes) (to : ℕ) (out : Bytes) (at put : ℕ) : Type 0 where
  pub page : ℕ
  pub begins : Begins b at page
  pub size : length out ≡ length old
  pub room : put + (length b - at) ≤ length out
  pub same : copied out put (moved_pages d b at) ≡ copied old to (moved_pages d b from)

pub puts_begin : (b : Bytes) (d from : ℕ) (out : Bytes) (to : ℕ) → CanPut b from out to → Puts b d from out to out from to
puts_begin b d from out to c = record { page = c.page; begins = c.begins; size = refl; room = c.room; same = refl }

module _ (b : Bytes) (d from : ℕ) (old : Bytes) (to : ℕ) (out : Bytes) (at put : ℕ) (p : Puts b d from old to out at put) where
  pub puts_end : length b ≤ at → out ≡ copied old to (moved_pages d b from)
  puts_end h = sym (copied-nothing out put (omega (arith, p.room))) ∙ ap (copied out put) (sym (none-moved b d at h)) ∙ p.same

  pub puts_on : Octets b → Accepted b → at < length b
      → Puts b d from old to (copied out put (renumbered (back d) (page_at b at))) (at + length (page_at b at)) (put + length (page_at b at))
  puts_on o ok more =
      let page : Bytes = page_at b at in
      let f : Front b at = front b at more in
      let s : Sound page = sound-here b o ok at p.page p.begins more in
      let next : Begins b (at + length page) (suc p.page) = begins-next b o ok at p.page p.begins more in
      let kept : length (copied out put (renumbered (back d) page)) ≡ length out = length-copied out put (renumbered (back d) page) in
      let size : length (renumbered (back d) page) ≡ length page = same_size (back d) page s.octets s.good in
      let left : length (moved_pages d b (at + length page)) ≡ length b - (at + length page) = moved-size b o ok (at + length page) (suc p.page) next d in
      let room : put + (length b - at) ≤ length out = p.room in
      let inside : at + length page ≤ length b = f.inside in
      record {
        page = suc p.page;
        begins = next;
        size = kept ∙ p.size;
        room = rw kept (omega arith);
        same =
            copied-append out put (renumbered (back d) page) (moved_pages d b (at + length page)) (put + length page) (omega arith) (omega arith)
            ∙ ap (copied out put) (sym (moved_on b o ok at p.page p.begins more d))
            ∙ p.same;
      }

  -- the page at a place, p, written to the part of the output from `put` on
  module _ (o : Octets b) (ok : Accepted b) (more : at < length b) (q : Bytes) (is : q ≡ page_at b at) where
    pub fits : put + length q ≤ length out
    fits = let f : Front b at = front b at more in omega (arith, ap length is, f.inside, p.room)

    pub nearer : (0 < length q) × (at + length q ≤ length b)
    nearer = let f : Front b at = front b at more in (omega (arith, ap length is, f.moves), omega (arith, ap length is, f.inside))

    pub turned : (r : Result ℕ Refusal) (ys : Bytes) → WroteBack d q (mid_of put (length out - put) out) r ys
        → Puts b d from old to (put_mid put (length out - put) out ys) (at + length q) (put + length q)
    turned r ys w =
        let s : Sound q = subst Sound (sym is) (sound-here b o ok at p.page p.begins more) in
        subst (λ (x : Bytes). Puts b d from old to x (at + length q) (put + length q)) (sym (put_back q d out put r ys s fits w))
        (rw is (puts_on o ok more))
