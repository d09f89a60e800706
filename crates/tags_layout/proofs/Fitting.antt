-- When a text fits into the packet, whose length is at a place. Assumes nothing.
use mathlib.Core.Path.{◌≡◌, refl}
use mathlib.Core.Bool.{Bool, true, false}
use Prim.Native.Nat.{ℕ, ◌+◌, ◌-◌, ◌≤◌, ◌<◌}
use native.Mathlib.Omega.{arith}
use borrow.Author.Tests.{le-leb, lt-leb, leb-true, leb-false}
use lib.Dec.{leb}
use lib.ListN.{length}
use Rattle.octets.specs.Octets.{Bytes}
use Rattle.octets.specs.Numbers.{number}
use Rattle.octets.proofs.Tests.{both}
use Rattle.refusal.specs.declared.Refusal.TheVariants.{BadTags}
use Rattle.refusal.specs.Numbers.{number_of}
use Rattle.refusal.specs.Checks.{first_of}
use Rattle.refusal.specs.Told.{gives, refuses}
use Rattle.tags_layout.specs.Layout.{next_place, fits_at}
use Rattle.tags_layout.specs.Finding.{find_text}

-- its length passes the end
pub no_length : (b : Bytes) (at : ℕ) → length b < at + 4 → fits_at b at ≡ false
unfolding fits_at
no_length b at h = rw (lt-leb (at + 4) (length b) h)

-- its length is there
pub has-length : (b : Bytes) (at n : ℕ) → at + 4 ≤ length b → n ≡ number 4 b at → leb n (length b - at - 4) ≡ fits_at b at
unfolding fits_at
has-length b at n h e = rw (e, le-leb (at + 4) (length b) h) (by (leb (number 4 b at) (length b - at - 4)) refl)
  where
    by : (t : Bool) → leb (number 4 b at) (length b - at - 4) ≡ t → t ≡ leb (next_place b at) (length b)
    by true e =
        let small = leb-true (number 4 b at) (length b - at - 4) e in
        rw (le-leb (next_place b at) (length b) (omega arith))
    by false e =
        let big = leb-false (number 4 b at) (length b - at - 4) e in
        rw (lt-leb (next_place b at) (length b) (omega arith))

-- it is inside
pub inside : (b : Bytes) (at : ℕ) → fits_at b at ≡ true → next_place b at ≤ length b
unfolding fits_at
inside b at e = leb-true (next_place b at) (length b) (both (leb (at + 4) (length b)) (leb (next_place b at) (length b)) e).1

-- ---- what is found at a place

pub no_part : (b : Bytes) (at : ℕ) → fits_at b at ≡ false → find_text b at ≡ refuses (number_of BadTags)
unfolding find_text first_of
no_part b at e = rw e

pub a_part : (b : Bytes) (at n : ℕ) → fits_at b at ≡ true → n ≡ number 4 b at → find_text b at ≡ gives (record { start = at + 4; size = n })
unfolding find_text first_of
a_part b at n e size = rw (e, size)
