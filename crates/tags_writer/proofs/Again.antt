-- What was read, written again, gives the bytes up to the trailing ones. Assumes nothing.
use mathlib.Core.Path.{◌≡◌, refl, sym, ap, ◌∙◌}
use mathlib.Core.Bool.{true}
use mathlib.Core.List.{List, [], ◌∷◌, ◌++◌, map, append-nil}
use mathlib.Core.Option.{none}
use Prim.Native.Nat.{ℕ, ◌+◌, ◌≤◌}
use native.Mathlib.Omega.{arith}
use borrow.Author.Tests.{le-ltb, eq-eqb}
use lib.ListN.{length, take, length-append}
use lib.Seq.{take_at, drop_at}
use Rattle.octets.specs.Octets.{Bytes, total, copied}
use Rattle.octets.specs.Numbers.{octets}
use Rattle.octets.proofs.Tests.{both}
use Rattle.limits.specs.Limits.{packet_max}
use Rattle.refusal.specs.Checks.{first_of}
use Rattle.tags_layout.specs.Layout.{Tags, signature, is_laid_out, tags_of}
use Rattle.tags_reader.specs.Right.{right_tags, is_tags}
use Rattle.tags_reader.specs.Packet.{text_bytes, comments_bytes, tags_bytes}
use Rattle.tags_reader.proofs.Places.{was_read}
use Rattle.tags_reader.proofs.Together.{parts-together}
use Rattle.tags_writer.specs.Writing.{cut_by, given, packet_of, write_checks, write_told, write_out}
use Rattle.tags_writer.specs.Statements.{joined, size_before, WritesBack}

-- ---- comments joined and cut again

cut-joined : (cs : List Bytes) → cut_by (map length cs) (joined cs) ≡ cs
unfolding cut_by joined
cut-joined [] = refl
cut-joined (c ∷ cs) =
    rw (take_at c (joined cs) (length c) refl, drop_at c (joined cs) (length c) refl) (ap (λ (l : List Bytes). c ∷ l) (cut-joined cs))

sum-joined : (cs : List Bytes) → total (map length cs) ≡ length (joined cs)
unfolding total joined
sum-joined [] = refl
sum-joined (c ∷ cs) = omega (arith, sum-joined cs, length-append c (joined cs))

-- ---- a packet without its trailing bytes

abbrev no_trailing : Tags → Tags
no_trailing t = record { vendor = t.vendor; comments = t.comments; trailing = [] }

given-joined : (t : Tags) → given t.vendor (joined t.comments) (map length t.comments) ≡ no_trailing t
given-joined t =
    ap (λ (cs : List Bytes). record { vendor = t.vendor; comments = cs; trailing = [] }) (cut-joined t.comments)

bytes-before : (t : Tags) → tags_bytes (no_trailing t) ++ t.trailing ≡ tags_bytes t
unfolding tags_bytes
bytes-before t =
    let q : Bytes = signature ++ text_bytes t.vendor ++ octets 4 (length t.comments) ++ comments_bytes t.comments in
    ap (λ (l : Bytes). l ++ t.trailing) (append-nil q)

right_before : (t : Tags) → right_tags (no_trailing t) ≡ right_tags t
unfolding right_tags
right_before t = refl

-- ---- the writer

module _ (vendor text : Bytes) (ns : List ℕ) (out : Bytes) (sum : total ns ≡ length text)
    (most : length (packet_of vendor text ns) ≤ packet_max) (right : right_tags (given vendor text ns) ≡ true)
    (room : length (packet_of vendor text ns) ≤ length out) where
  nothing-refused : first_of (write_checks vendor text ns (length out)) ≡ none
  unfolding first_of
  nothing-refused =
      rw (
        eq-eqb (total ns) (length text) sum,
        le-ltb packet_max (length (packet_of vendor text ns)) most,
        right,
        le-ltb (length out) (length (packet_of vendor text ns)) room,
      )

pub writes_back : WritesBack
unfolding write_told write_out is_tags
writes_back b out t o e few room =
    let n : ℕ = size_before b t in
    let cs : List Bytes = t.comments in
    let read = was_read b t e in
    let p : Bytes = tags_bytes (no_trailing t) in
    let whole : p ++ t.trailing ≡ b = bytes-before t ∙ parts-together b t o e in
    let long : length b ≡ length p + length t.trailing = ap length (sym whole) ∙ length-append p t.trailing in
    let size : length p ≡ n = omega arith in
    let front : take n b ≡ p = ap (take n) (sym whole) ∙ take_at p t.trailing n size in
    let packet : packet_of t.vendor (joined cs) (map length cs) ≡ p = ap tags_bytes (given-joined t) in
    let fits : length (packet_of t.vendor (joined cs) (map length cs)) ≡ n = ap length packet ∙ size in
    let right : right_tags (given t.vendor (joined cs) (map length cs)) ≡ true =
    (ap right_tags (given-joined t) ∙ right_before t ∙ ap right_tags (sym read.value)
    ∙ (both (is_laid_out b) (right_tags (tags_of b)) read.right).1) in
    let none-refused = nothing-refused t.vendor (joined cs) (map length cs) out (sum-joined cs) (omega arith) right (omega arith) in
    record {
      told = rw (none-refused, fits);
      output = rw none-refused (ap (copied out 0) (packet ∙ sym front));
    }
