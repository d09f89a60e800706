-- The parts of a packet that was read, put together again. Assumes nothing.
use mathlib.Core.Path.{◌≡◌, refl, ap, ◌∙◌}
use mathlib.Core.Bool.{true}
use mathlib.Core.List.{◌++◌, append_assoc}
use Prim.Native.Nat.{ℕ, zero, suc, ◌+◌}
use native.Mathlib.Omega.{arith}
use lib.ListN.{length, take, drop, length-drop, take-append-drop}
use lib.Seq.{length-take-le, drop-drop}
use Rattle.octets.specs.Octets.{Bytes, Octets}
use Rattle.octets.specs.Numbers.{octets, number}
use Rattle.octets.proofs.Tests.{both}
use Rattle.octets.proofs.Fields.{field}
use Rattle.octets.proofs.Beginnings.{begins-take}
use Rattle.tags_layout.specs.Layout.{signature, part_at, next_place, fits_at, bytes_of, all_fit, texts_from, place_after, vendor_place, vendor_part, count_place, count_of, first_place, comment_place, tags_of}
use Rattle.tags_layout.proofs.Fitting.{inside}
use Rattle.tags_reader.specs.Packet.{text_bytes, comments_bytes, tags_bytes}
use Rattle.tags_reader.specs.Statements.{PartsTogether}
use Rattle.tags_reader.proofs.Finding.{length_texts}
use Rattle.tags_reader.proofs.Places.{was_read}

-- a text and what follows it
text-back : (b : Bytes) (at : ℕ) → Octets b → fits_at b at ≡ true → text_bytes (bytes_of b (part_at b at)) ++ drop (next_place b at) b ≡ drop at b
unfolding text_bytes
text-back b at o e =
    let n : ℕ = number 4 b at in
    let t : Bytes = take n (drop (at + 4) b) in
    let within = inside b at e in
    let size : length t ≡ n = length-take-le n (drop (at + 4) b) (omega (arith, length-drop (at + 4) b)) in
    let rest : t ++ drop (next_place b at) b ≡ drop (at + 4) b =
    (rw (← drop-drop n (at + 4) b) (take-append-drop n (drop (at + 4) b))) in
    rw size (append_assoc (octets 4 n) t (drop (next_place b at) b) ∙ ap (λ (l : Bytes). octets 4 n ++ l) rest ∙ field 4 at b o (omega arith))

comments-back : (b : Bytes) (n at : ℕ) → Octets b → all_fit b n at ≡ true → comments_bytes (texts_from b n at) ++ drop (place_after b n at) b ≡ drop at b
unfolding comments_bytes texts_from place_after all_fit
comments-back b zero at o e = refl
comments-back b (suc n) at o e =
    let fits = both (fits_at b at) (all_fit b n (next_place b at)) e in
    let t : Bytes = text_bytes (bytes_of b (part_at b at)) in
    append_assoc t (comments_bytes (texts_from b n (next_place b at))) (drop (place_after b n (next_place b at)) b)
    ∙ ap (λ (l : Bytes). t ++ l) (comments-back b n (next_place b at) o fits.1)
    ∙ text-back b at o fits.0

pub parts-together : PartsTogether
unfolding tags_bytes tags_of
parts-together b t o e =
    let r = was_read b t e in
    let s : Bytes = signature in
    let v : Bytes = text_bytes (bytes_of b (vendor_part b)) in
    let k : Bytes = octets 4 (count_of b) in
    let c : Bytes = comments_bytes (texts_from b (count_of b) (first_place b)) in
    let x : Bytes = drop (comment_place b (count_of b)) b in
    let fourth : c ++ x ≡ drop (first_place b) b = comments-back b (count_of b) (first_place b) o r.comments in
    let third : k ++ drop (first_place b) b ≡ drop (count_place b) b = field 4 (count_place b) b o r.counted in
    let second : v ++ drop (count_place b) b ≡ drop vendor_place b = text-back b vendor_place o r.vendor in
    let first : s ++ drop vendor_place b ≡ b = rw (begins-take signature b r.starts) at (take-append-drop vendor_place b) in
    let after : v ++ k ++ c ++ x ≡ drop vendor_place b =
    (append_assoc (v ++ k) c x
    ∙ append_assoc v k (c ++ x)
    ∙ ap (λ (l : Bytes). v ++ (k ++ l)) fourth
    ∙ ap (λ (l : Bytes). v ++ l) third
    ∙ second) in
    rw (← r.value, length_texts b (count_of b) (first_place b)) (ap (λ (l : Bytes). s ++ l) after ∙ first)
