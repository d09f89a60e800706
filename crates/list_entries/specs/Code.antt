-- What the code keeps from one line to the next. Assumes nothing.
use Rattle.std.specs.Prelude.{ℕ, ◌+◌, ◌-◌, ◌/◌, ◌%◌, ◌≤◌, ◌<◌, ◌≡◌, Bool, ◌&&◌, ◌++◌, ltb, leb, eqb, length, take, drop}
use Rattle.octets.specs.Octets.{Bytes}
use Rattle.octets.specs.Numbers.{octets}
use Rattle.text_put.specs.Writing.{Laid}
use Rattle.text_put.specs.Marks.{space, line_feed}
use Rattle.text_decimal.specs.Decimal.{decimal}
use Rattle.list_lines.specs.Lines.{longest}
use Rattle.list_entries.specs.declared.Repeat.{Repeat}
use Rattle.list_entries.specs.declared.Next.{Next}

-- what follows the end stamp
unfoldable pub tail_line : ℕ → ℕ → ℕ → Bytes
tail_line samples frames kept = space ++ decimal samples ++ space ++ decimal frames ++ space ++ decimal kept ++ line_feed

abbrev pub tail_of : Repeat → Bytes
tail_of c = tail_line c.samples c.frames c.kept

-- the bytes that c has: the digits of the stamps from `base` on but the last four, and what follows a stamp
pub record Has (c : Repeat) : Type 0 where
  pub high : 10000 ≤ c.base
  pub round : c.base % 10000 ≡ 0
  pub four : 4 ≤ c.digits
  pub eight : c.digits ≤ 8
  pub upper : take c.digits (octets 8 c.upper) ≡ decimal (c.base / 10000)
  pub long : c.bytes ≡ length (tail_of c)
  pub least : 8 ≤ c.bytes
  pub most : c.bytes ≤ 16
  pub first : octets 8 c.first ≡ take 8 (tail_of c)
  pub last : octets 8 c.last ≡ drop (c.bytes - 8) (tail_of c)

-- no digits: nothing is kept
abbrev pub Sound : Repeat → Type 0
Sound c = 1 ≤ c.digits → Has c

-- the line of this packet is made of the bytes that c has, and its last four digits
abbrev pub is_again : Repeat → ℕ → ℕ → ℕ → ℕ → Bool
is_again c end samples frames kept =
    ltb 0 c.digits && (leb c.base end && (ltb (end - c.base) 10000
    && (eqb samples c.samples && (eqb frames c.frames && eqb kept c.kept))))

-- there is room for it
pub record Again (out : Bytes) (at : ℕ) (c : Repeat) (end : ℕ) : Type 0 where
  pub has : Has c
  pub room : at + longest ≤ length out
  pub above : c.base ≤ end
  pub near : end - c.base < 10000

-- a line s lies from place `at` of the buffer to `next`
pub record Stands (out : Bytes) (at next : ℕ) (s : Bytes) : Type 0 where
  pub place : next ≡ at + length s
  pub inside : next ≤ length out
  pub line : take (length s) (drop at out) ≡ s

-- a line s is laid, and bytes are kept of it
pub record Lays (d : Bytes) (at : ℕ) (s : Bytes) (r : Next) (out : Bytes) : Type 0 where
  pub laid : Laid d at s r.at out
  pub within : r.at ≤ length d
  pub sound : Sound r.repeat
