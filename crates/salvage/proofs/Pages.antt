-- A page put into its place of the output. Assumes nothing.
use Rattle.refusal.specs.declared.Refusal.{Refusal}
use Rattle.std.specs.Prelude.{Result, Ok, Err}
use Rattle.std.proofs.Common.{◌≡◌, ℕ, ◌+◌, ◌-◌, ◌%◌, ◌^◌, ◌<◌, ◌≤◌, Bool, true, false, eqb, length, sym, refl, ap, ◌∙◌, arith, length-drop, eqb-true}
use mathlib.Core.Bool.{false≢true}
use borrow.Rule.Slice.PartMut.{mid_of, put_mid}
use Rattle.octets.specs.Pick.{pick}
use Rattle.octets.specs.Octets.{Bytes, Octets, copied}
use Rattle.page_crc.specs.Crc.{page_crc}
use Rattle.page_layout.specs.Page.{checksum_of}
use Rattle.page_size.specs.Size.{is_one_page}
use Rattle.page_reader.specs.Reading.{read_page}
use Rattle.page_reader.proofs.Reading.{wrong_checksum}
use Rattle.page_writer.specs.Writing.{page_bytes}
use Rattle.page_writer.proofs.RoundTrip.{page-again}
use Rattle.page_writer.proofs.Part.{part_from, in_part}
use Rattle.stream.specs.Page.{page_of}
use Rattle.salvage_search.specs.Search.{is_good}
use Rattle.salvage_rules.specs.declared.Form.{Form}
use Rattle.salvage_rules.specs.declared.Link.{Link}
use Rattle.salvage_rules.specs.Tidy.{tidy_page}
use Rattle.salvage_rules.specs.Links.{link_of, tidied}
use Rattle.salvage_rules.proofs.Found.{read_one}
use Rattle.salvage_rules.proofs.Room.{page_out_lem}
use Rattle.salvage_page.specs.Tidied.{WroteTidied}
use Rattle.salvage_page.specs.Statements.{kept_size}
use Rattle.salvage_page.proofs.Saving.{page-saved}
use Rattle.salvage_feed.specs.Feeding.{tidied_bytes}
use Rattle.salvage_list.specs.declared.Listed.{Listed}
use Rattle.salvage.specs.Code.{is_same}

-- ---- a page that nothing is done to

summed : (p : Bytes) → is_good (read_page page_crc p) ≡ true → eqb (page_crc p) (checksum_of p) ≡ true
summed p good = by (eqb (page_crc p) (checksum_of p)) refl
  where
    by : (t : Bool) → eqb (page_crc p) (checksum_of p) ≡ t → eqb (page_crc p) (checksum_of p) ≡ true
    by true e = e
    by false e =
        let z : ◌≡◌ {A = Bool} false true = sym (ap is_good (wrong_checksum page_crc p (read_one page_crc p good) e)) ∙ good in e ∙ z

written-again : (p : Bytes) → Octets p → is_good (read_page page_crc p) ≡ true → page_bytes (page_of p).header (page_of p).lacing (page_of p).body ≡ p
unfolding page_of
written-again p o good = page-again p o (read_one page_crc p good) (eqb-true (page_crc p) (checksum_of p) (summed p good))

untouched : (p : Bytes) (n : ℕ) (f : Form) → f.lead ≡ false → f.trail ≡ false → n % 2 ^ 32 ≡ (page_of p).header.sequence
    → tidied_bytes f n p ≡ page_bytes (page_of p).header (page_of p).lacing (page_of p).body
unfolding tidy_page
untouched p n f l t e = rw (l, t, e)

pub as_it_is_lem : (p : Bytes) (next : Listed) (n : ℕ) → Octets p → is_good (read_page page_crc p) ≡ true → next.link ≡ link_of (page_of p) → n < 2 ^ 32
    → is_same next n ≡ true → tidied_bytes next.form n p ≡ p
as_it_is_lem p next n o good link small same = by next.form.lead refl same
  where
    stays : next.form.lead ≡ false → next.form.trail ≡ false → eqb next.link.sequence n ≡ true → tidied_bytes next.form n p ≡ p
    stays l t e =
        let q : next.link.sequence ≡ n = eqb-true next.link.sequence n e in
        let s : next.link.sequence ≡ (page_of p).header.sequence = ap (λ (a : Link). a.sequence) link in
        let m : n % 2 ^ 32 ≡ (page_of p).header.sequence = omega arith in
        untouched p n next.form l t m ∙ written-again p o good

    by2 : next.form.lead ≡ false → (u : Bool) → next.form.trail ≡ u → pick u false (eqb next.link.sequence n) ≡ true → tidied_bytes next.form n p ≡ p
    by2 l true t e = let z : ◌≡◌ {A = Bool} false true = e in absurd (false≢true z)
    by2 l false t e = stays l t e

    by : (u : Bool) → next.form.lead ≡ u → pick u false (pick next.form.trail false (eqb next.link.sequence n)) ≡ true → tidied_bytes next.form n p ≡ p
    by true l e = let z : ◌≡◌ {A = Bool} false true = e in absurd (false≢true z)
    by false l e = by2 l next.form.trail refl e

-- ---- a page written to a part of the output

pub put-tidied : (p : Bytes) (f : Form) (n : ℕ) (d : Bytes) (at : ℕ) (r : Result ℕ Refusal) (ys : Bytes) → Octets p → is_one_page p ≡ true
    → at + kept_size f p ≤ length d → WroteTidied f n p (mid_of at (length d - at) d) r ys
    → put_mid at (length d - at) d ys ≡ copied d at (tidied_bytes f n p)
unfolding tidy_page
put-tidied p f n d at r ys o one room w =
    let s : Bytes = tidied_bytes f n p in
    let size : length s ≡ kept_size f p = page_out_lem (tidied f n (record { place = 0; page = page_of p })) in
    let saved = page-saved f n p (mid_of at (length d - at) d) r ys o one (rw (part_from d at) (omega (arith, length-drop at d))) w in
    in_part d at s ys (omega (arith, size)) saved.output
