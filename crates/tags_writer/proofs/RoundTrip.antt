-- What was written is read as the same vendor and comments. Assumes nothing.
use mathlib.Core.Path.{◌≡◌, refl, sym, ap, ap₂, ◌∙◌}
use mathlib.Core.Bool.{true}
use mathlib.Core.List.{List, [], ◌∷◌, ◌++◌, append_assoc, append-nil}
use Prim.Native.Nat.{ℕ, ◌+◌, ◌^◌, ◌≤◌, ◌<◌}
use native.Mathlib.Omega.{arith}
use borrow.Author.Tests.{le-leb, ltb-false, eqb-true, not-false}
use lib.ListN.{length, drop, length-append, drop_of_length-le}
use lib.Seq.{take_at, drop_at, take-length, take-append_seam}
use Rattle.octets.specs.Octets.{Bytes, begins, total}
use Rattle.octets.specs.Numbers.{octets, number}
use Rattle.octets.proofs.Numbers.{length-octets, value-octets}
use Rattle.octets.proofs.Copying.{copied-fits}
use Rattle.limits.specs.Limits.{packet_max}
use Rattle.refusal.specs.Checks.{first_of}
use Rattle.refusal.specs.Told.{gives}
use Rattle.refusal.proofs.Checks.{no_refusal, passed}
use Rattle.octets.proofs.Beginnings.{begins-append}
use Rattle.tags_layout.specs.Layout.{Tags, signature, part_at, next_place, fits_at, bytes_of, all_fit, texts_from, place_after, vendor_part, count_place, count_of, first_place, comment_place, is_laid_out, tags_of}
use Rattle.tags_reader.specs.Right.{right_tags, is_tags}
use Rattle.tags_reader.specs.Reading.{read_tags}
use Rattle.tags_reader.specs.Packet.{text_bytes, comments_bytes, tags_bytes}
use Rattle.tags_writer.specs.Writing.{cut_by, given, packet_of, write_checks, write_told, write_out}
use Rattle.tags_writer.specs.Statements.{ReadsBack}
use Rattle.tags_writer.proofs.Laying.{length-text, length_cut, length-comments, length-packet}

-- a number right after a
number-there : (p a r : Bytes) (x : ℕ) → p ≡ a ++ (octets 4 x ++ r) → x < 256 ^ 4 → number 4 p (length a) ≡ x
unfolding number
number-there p a r x e h =
    rw (e, drop_at a (octets 4 x ++ r) (length a) refl, take_at (octets 4 x) r 4 (length-octets 4 x)) (value-octets 4 x h)

-- ---- a text right after a

module _ (p a t r : Bytes) (whole : p ≡ a ++ (text_bytes t ++ r)) (small : length t < 256 ^ 4) where
  after-length : p ≡ a ++ (octets 4 (length t) ++ (t ++ r))
  unfolding text_bytes
  after-length = whole ∙ ap (λ (l : Bytes). a ++ l) (append_assoc (octets 4 (length t)) t r)

  size-there : number 4 p (length a) ≡ length t
  size-there = number-there p a (t ++ r) (length t) after-length small

  whole_length : length p ≡ length a + 4 + length t + length r
  whole_length = ap length whole ∙ length-append a (text_bytes t ++ r) ∙ omega (arith, length-append (text_bytes t) r, length-text t)

  next-there : next_place p (length a) ≡ length (a ++ text_bytes t)
  next-there = omega (arith, size-there, length-append a (text_bytes t), length-text t)

  fits-there : fits_at p (length a) ≡ true
  unfolding fits_at
  fits-there =
      rw (
        le-leb (length a + 4) (length p) (omega (arith, whole_length)),
        le-leb (next_place p (length a)) (length p) (omega (arith, whole_length, size-there)),
      )

  bytes-there : bytes_of p (part_at p (length a)) ≡ t
  bytes-there =
      let front : Bytes = a ++ octets 4 (length t) in
      let long : length front ≡ length a + 4 = omega (arith, length-append a (octets 4 (length t)), length-octets 4 (length t)) in
      let cut : p ≡ front ++ (t ++ r) = after-length ∙ sym (append_assoc a (octets 4 (length t)) (t ++ r)) in
      rw (size-there, cut, drop_at front (t ++ r) (length a + 4) long) (take_at t r (length t) refl)

-- ---- comments right after a

record There (p a : Bytes) (cs : List Bytes) : Type 0 where
  fit : all_fit p (length cs) (length a) ≡ true
  texts : texts_from p (length cs) (length a) ≡ cs
  place : place_after p (length cs) (length a) ≡ length (a ++ comments_bytes cs)

comments-there : (p a r : Bytes) (cs : List Bytes) → p ≡ a ++ (comments_bytes cs ++ r) → length (comments_bytes cs) < 256 ^ 4 → There p a cs
unfolding comments_bytes all_fit texts_from place_after
comments-there p a r [] e h = record { fit = refl; texts = refl; place = ap length (sym (append-nil a)) }
comments-there p a r (c ∷ cs) e h =
    let t : Bytes = text_bytes c in
    let later : Bytes = comments_bytes cs in
    let size : length (t ++ later) ≡ length t + length later = length-append t later in
    let whole : p ≡ a ++ (t ++ (later ++ r)) = e ∙ ap (λ (l : Bytes). a ++ l) (append_assoc t later r) in
    let small : length c < 256 ^ 4 = omega (arith, size, length-text c) in
    let next = next-there p a c (later ++ r) whole small in
    let rest = comments-there p (a ++ t) r cs (whole ∙ sym (append_assoc a t (later ++ r))) (omega (arith, size)) in
    record {
      fit = rw (fits-there p a c (later ++ r) whole small, next) rest.fit;
      texts = rw (bytes-there p a c (later ++ r) whole small, next) (ap (λ (l : List Bytes). c ∷ l) rest.texts);
      place = ap (place_after p (length cs)) next ∙ rest.place ∙ ap length (append_assoc a t later);
    }

-- ---- the packet

module _ (vendor : Bytes) (cs : List Bytes) (short : length vendor < 256 ^ 4) (few : length cs < 256 ^ 4) (small : length (comments_bytes cs) < 256 ^ 4) where
  abbrev t : Tags
  t = record { vendor = vendor; comments = cs; trailing = [] }

  abbrev p : Bytes
  p = tags_bytes t

  abbrev v : Bytes
  v = text_bytes vendor

  abbrev k : Bytes
  k = octets 4 (length cs)

  abbrev c : Bytes
  c = comments_bytes cs

  -- the parts after the signature, after the vendor, after the number
  after-signature : p ≡ signature ++ (v ++ (k ++ (c ++ [])))
  unfolding tags_bytes
  after-signature = ap (λ (l : Bytes). signature ++ l) (append_assoc (v ++ k) c [] ∙ append_assoc v k (c ++ []))

  after-vendor : p ≡ (signature ++ v) ++ (k ++ (c ++ []))
  after-vendor = after-signature ∙ sym (append_assoc signature v (k ++ (c ++ [])))

  after-count : p ≡ ((signature ++ v) ++ k) ++ (c ++ [])
  after-count = after-vendor ∙ sym (append_assoc (signature ++ v) k (c ++ []))

  count-place : count_place p ≡ length (signature ++ v)
  count-place = next-there p signature vendor (k ++ (c ++ [])) after-signature short

  count-there : count_of p ≡ length cs
  count-there = ap (number 4 p) count-place ∙ number-there p (signature ++ v) (c ++ []) (length cs) after-vendor few

  first-place : first_place p ≡ length ((signature ++ v) ++ k)
  first-place = omega (arith, count-place, length-append (signature ++ v) k, length-octets 4 (length cs))

  there : There p ((signature ++ v) ++ k) cs
  there = comments-there p ((signature ++ v) ++ k) [] cs after-count small

  all-length : length p ≡ length (((signature ++ v) ++ k) ++ c)
  all-length = ap length (after-count ∙ ap (λ (l : Bytes). ((signature ++ v) ++ k) ++ l) (append-nil c))

  end-place : comment_place p (count_of p) ≡ length p
  end-place = ap₂ (place_after p) count-there first-place ∙ there.place ∙ sym all-length

  value_there : tags_of p ≡ t
  unfolding tags_of
  value_there =
      let same : (x y : Bytes) (l m : List Bytes) (r q : Bytes) → x ≡ y → l ≡ m → r ≡ q
      → ◌≡◌ {A = Tags} (record { vendor = x; comments = l; trailing = r }) (record { vendor = y; comments = m; trailing = q }) =
      (λ x y l m r q e f g. rw (e, f, g)) in
      same (bytes_of p (vendor_part p)) vendor (texts_from p (count_of p) (first_place p)) cs (drop (comment_place p (count_of p)) p) []
      (bytes-there p signature vendor (k ++ (c ++ [])) after-signature short)
      (ap₂ (texts_from p) count-there first-place ∙ there.texts)
      (drop_of_length-le p {i = comment_place p (count_of p)} (omega (arith, end-place)))

  laid_out : is_laid_out p ≡ true
  unfolding is_laid_out
  laid_out =
      let all : all_fit p (count_of p) (first_place p) ≡ true = ap₂ (all_fit p) count-there first-place ∙ there.fit in
      let count : first_place p ≤ length p =
      (omega (arith, first-place, all-length, length-append ((signature ++ v) ++ k) c)) in
      let start : begins signature p ≡ true = rw after-signature (begins-append signature (v ++ (k ++ (c ++ [])))) in
      rw (start, fits-there p signature vendor (k ++ (c ++ [])) after-signature short, le-leb (first_place p) (length p) count) all

  pub read_back : right_tags t ≡ true → read_tags p ≡ gives t
  unfolding read_tags is_tags first_of
  read_back e = rw (laid_out, value_there, e)

-- ---- what the writer took

pub reads-back : ReadsBack
unfolding write_told write_out
reads-back vendor text ns out n e =
    let p : Bytes = packet_of vendor text ns in
    let told = no_refusal (first_of (write_checks vendor text ns (length out))) (length p) n e in
    let sums = passed _ _ _ told.0 in
    let size = passed _ _ _ sums.1 in
    let right = passed _ _ _ size.1 in
    let sum : total ns ≡ length text = eqb-true _ _ (not-false _ sums.0) in
    let most : length p ≤ packet_max = ltb-false _ _ size.0 in
    let room : length p ≤ length out = ltb-false _ _ (passed _ _ _ right.1).0 in
    let long = length-packet vendor text ns sum in
    let count = length_cut ns text in
    let comments = length-comments ns text sum in
    let back : read_tags p ≡ gives (given vendor text ns) =
    (read_back vendor (cut_by ns text) (omega (arith, long)) (omega (arith, long, count)) (omega (arith, long, comments)) (not-false _ right.0)) in
    rw (told.0, copied-fits out 0 p (omega arith), ← told.1, take-length p, take-append_seam) back
