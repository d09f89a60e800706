-- Held bytes copied from one buffer to another. Assumes nothing.
use Rattle.std.proofs.Common.{◌≡◌, ℕ, ◌+◌, ◌<◌, ◌≤◌, min, Bool, true, false, not, ltb, List, [], ◌++◌, length, take, drop, sym, refl, ap, ◌∙◌, ap₂, append-nil, arith, drop_of_length-le, length-take, take_all, ltb-false, ltb-true}
use lib.Seq.{take-length, take-append_seam}
use Rattle.octets.specs.Pick.{pick}
use Rattle.octets.specs.Octets.{Bytes, copied}
use Rattle.octets.proofs.Copying.{copied-fits}
use Rattle.stream.specs.declared.Core.{Core}
use Rattle.stream.specs.State.{State, Carried}
use Rattle.stream.specs.Feed.{view}
use Rattle.stream.specs.Feedings.{held_of}
use Rattle.stream.proofs.Step.{take-held}

-- where they agree
pub agreed : (a b : Bool) → pick a b (not b) ≡ true → a ≡ b
agreed true true e = refl
agreed true false e = sym e
agreed false true e = e
agreed false false e = refl

-- the first n bytes of s, copied to the start of d
pub copied-first : (n : ℕ) (s d : Bytes) → length s ≡ length d → take n (copied d 0 (take n s)) ≡ take n s
copied-first n s d e = ap (take n) laid ∙ by (ltb (length s) n) refl
  where
    t : Bytes
    t = take n s

    size : length t ≡ min n (length s)
    size = length-take n s

    laid : copied d 0 t ≡ t ++ drop (length t) d
    laid =
        let z : 0 + length t ≡ length t = omega arith in
        copied-fits d 0 t (omega (arith, size)) ∙ ap₂ (λ (x : Bytes) (k : ℕ). x ++ drop k d) (take-length t) z

    by : (u : Bool) → ltb (length s) n ≡ u → take n (t ++ drop (length t) d) ≡ t
    by true h =
        let long : length s < n = ltb-true (length s) n h in
        let none : drop (length t) d ≡ [] = drop_of_length-le d {i = length t} (omega (arith, size)) in
        ap (λ (x : Bytes). take n (t ++ x)) none ∙ ap (take n) (append-nil t) ∙ take_all n t (omega (arith, size))
    by false h =
        let short : n ≤ length s = ltb-false (length s) n h in
        let k : n ≡ length t = omega (arith, size) in
        ap (λ (m : ℕ). take m (t ++ drop (length t) d)) k ∙ take-append_seam t (drop (length t) d)

-- a state has no more of the carry buffer than the held bytes, of which there are n
pub same_view : (core : Core) (n : ℕ) (c d : Bytes) → n ≡ held_of core.pending → take n c ≡ take n d → view core c ≡ view core d
same_view core n c d h e =
    ap (λ (x : Carried). record {
      phase = core.phase;
      carried = x;
      position = core.position;
      serial = core.serial;
      next = core.next;
      streams = core.streams;
      preskip = core.preskip;
    })
    (take-held core.pending c d (rw h at e))
