-- `tags_writer::put_comments` meets its contract. The loop's invariant: what is left to copy makes the whole. Assumes nothing.
use mathlib.Core.Path.{◌≡◌, refl, ap, ◌∙◌}
use mathlib.Core.List.{List}
use Prim.Native.Nat.{ℕ, ◌+◌, ◌-◌, ◌≤◌}
use native.Mathlib.Omega.{arith}
use borrow.Author.Rules.{rules}
use lib.ListN.{length, get_or, take, drop}
use Rattle.octets.specs.Octets.{Bytes, copied}
use Rattle.octets.proofs.Copying.{length-copied}
use Rattle.tags_reader.specs.Packet.{text_bytes, comments_bytes}
use Rattle.tags_writer.specs.Writing.{cut_by}
use Rattle.tags_writer.proofs.Laying.{all-copied, comment-inside, comment-length, rest_sum, comments-copied}
use Rattle.tags_writer.proofs.put_comments.Goals as goal

pub loop-length-init : goal.loop-length-init
loop-length-init c =
    let sum = c.requires.sum in (refl, omega arith, omega arith, omega arith, omega arith, refl)

pub put_text-requires : goal.put_text-requires
put_text-requires c =
    -- what a turn takes from the text is inside it
    let text : Bytes = c.args.text.now in
    let lengths : List ℕ = c.args.lengths.now in
    let n : ℕ = get_or lengths c.loop-length.length-index 0 in
    let inside : n ≤ length text - c.loop-length.from = let l = c.loop-length in comment-inside l.out text lengths l.at l.from l.length-index c.loop-length-test.true l.invariant.1 in
    let sized : length (take n (drop c.loop-length.from text)) ≡ n = let l = c.loop-length in comment-length l.out text lengths l.at l.from l.length-index c.loop-length-test.true l.invariant.1 in
    let size = ap length c.part_of.ensures ∙ sized in
    record { small = omega (arith, size, inside, c.requires.small); room = omega (arith, size, inside) }

pub overflow_add-at : goal.overflow_add-at
overflow_add-at c =
    let text : Bytes = c.args.text.now in
    let lengths : List ℕ = c.args.lengths.now in
    let n : ℕ = get_or lengths c.loop-length.length-index 0 in
    let inside : n ≤ length text - c.loop-length.from = let l = c.loop-length in comment-inside l.out text lengths l.at l.from l.length-index c.loop-length-test.true l.invariant.1 in
    let small = inside in search rules

pub overflow_add-at-in-loop-length : goal.overflow_add-at-in-loop-length
overflow_add-at-in-loop-length c =
    let text : Bytes = c.args.text.now in
    let lengths : List ℕ = c.args.lengths.now in
    let n : ℕ = get_or lengths c.loop-length.length-index 0 in
    let inside : n ≤ length text - c.loop-length.from = let l = c.loop-length in comment-inside l.out text lengths l.at l.from l.length-index c.loop-length-test.true l.invariant.1 in
    let small = inside in search rules

pub overflow_add-from : goal.overflow_add-from
overflow_add-from c =
    let text : Bytes = c.args.text.now in
    let lengths : List ℕ = c.args.lengths.now in
    let n : ℕ = get_or lengths c.loop-length.length-index 0 in
    let inside : n ≤ length text - c.loop-length.from = let l = c.loop-length in comment-inside l.out text lengths l.at l.from l.length-index c.loop-length-test.true l.invariant.1 in
    let small = inside in search rules

pub loop-length-preserved : goal.loop-length-preserved
loop-length-preserved c =
    let text : Bytes = c.args.text.now in
    let lengths : List ℕ = c.args.lengths.now in
    let n : ℕ = get_or lengths c.loop-length.length-index 0 in
    let inside : n ≤ length text - c.loop-length.from = let l = c.loop-length in comment-inside l.out text lengths l.at l.from l.length-index c.loop-length-test.true l.invariant.1 in
    let l = c.loop-length in
    let s = text in
    let ns = lengths in
    let put : c.put_text.new.out ≡ copied l.out l.at (text_bytes (take n (drop l.from s))) =
    (c.put_text.ensures ∙ ap (λ (t : Bytes). copied l.out l.at (text_bytes t)) c.part_of.ensures) in
    let size = ap length put ∙ length-copied l.out l.at (text_bytes (take n (drop l.from s))) in
    let small = inside in
    let later : Bytes = comments_bytes (cut_by (drop (l.length-index + 1) ns) (drop (l.from + n) s)) in (
      ap (λ (d : Bytes). copied d (l.at + (4 + n)) later) put
          ∙ comments-copied l.out s ns l.at l.from l.length-index c.loop-length-test.true l.invariant.1 (omega arith)
          ∙ l.invariant.0,
      rest_sum l.out s ns l.at l.from l.length-index c.loop-length-test.true l.invariant.1,
      omega arith,
      omega arith,
      omega arith,
      omega arith,
    )

pub shape_of-out : goal.shape_of-out
shape_of-out c = c.loop-length.invariant.5

pub returns : goal.returns
returns c =
    let l = c.loop-length in
    let a = c.args in
    all-copied l.out a.text.now a.lengths.now l.at l.from l.length-index c.loop-length-test.false (omega arith) ∙ l.invariant.0
