-- Parts that fit and parts that do not, by orders; and a line made in a buffer of its own. Assumes nothing.
use mathlib.Core.Path.{◌≡◌, ap, ◌∙◌}
use mathlib.Core.List.{◌++◌}
use Prim.Native.Nat.{ℕ, ◌+◌, ◌≤◌, ◌<◌}
use native.Mathlib.Nat.{le_refl}
use native.Mathlib.Omega.{arith}
use borrow.Author.Tests.{le-leb, lt-ltb, le-ltb}
use lib.ListN.{length, take}
use lib.Seq.{take-length, take-paste}
use Rattle.octets.specs.Octets.{Bytes}
use Rattle.octets.proofs.Copying.{copied-fits, length-copied}
use Rattle.text_put.specs.Writing.{place_after, Put, Laid}
use Rattle.text_put.proofs.Laying.{put_all, put-none, laid_next}

pub put-laid : {d e : Bytes} {at r : ℕ} {s : Bytes} → at + length s ≤ length d → Laid d at s r e → Put d at s r e
put-laid {d} {e} {at} {r} {s} room x = put_all (le-ltb (length d) (at + length s) room) x

pub put-nothing : {d : Bytes} {at : ℕ} {s : Bytes} → length d < at + length s → Put d at s at d
put-nothing {d} {at} {s} short = put-none (lt-ltb (length d) (at + length s) short)

-- what a call put, where it fits
pub laid-put : {d e : Bytes} {at r : ℕ} {s : Bytes} → at + length s ≤ length d → Put d at s r e → Laid d at s r e
unfolding place_after
laid-put {d} {e} {at} {r} {s} room x =
    record { place = x.place ∙ rw (le-leb (at + length s) (length d) room); output = x.output }

pub length-laid : {d e : Bytes} {at r : ℕ} {s : Bytes} → Laid d at s r e → length e ≡ length d
length-laid {d} {e} {at} {r} {s} x = ap length x.output ∙ length-copied d at s

-- a text laid at the front of a buffer, taken out again
pub front : {d e : Bytes} {n : ℕ} {s : Bytes} → Laid d 0 s n e → length s ≤ length d → take n e ≡ s
front {d} {e} {n} {s} x room =
    let inside : 0 + length s ≤ length d = omega arith in
    rw (x.place, x.output, copied-fits d 0 s inside)
    (take-paste d 0 s (length s) (omega arith) (le_refl (length s)) ∙ take-length s)

-- a text made at the front of a buffer z, and put as a part p of that
pub put_made : {d e f z p s : Bytes} {at n r : ℕ} → Laid z 0 s n e → length s ≤ length z → p ≡ take n e → Put d at p r f → Put d at s r f
put_made x room same y = rw (same ∙ front x room) at y

-- a text known in other words
pub put-known : {d e s t : Bytes} {at r : ℕ} → s ≡ t → Put d at s r e → Put d at t r e
put-known same x = rw same at x

-- a part that a call put after a part that is laid
pub laid_then : {d e f s t : Bytes} {at a b : ℕ} → Laid d at s a e → a + length t ≤ length d → Put e a t b f → Laid d at (s ++ t) b f
laid_then x room y = laid_next x (laid-put (omega (arith, length-laid x)) y) room

pub laid-known : {d e s t : Bytes} {at r : ℕ} → s ≡ t → Laid d at s r e → Laid d at t r e
laid-known same x = rw same at x
