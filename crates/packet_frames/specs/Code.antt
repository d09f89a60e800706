-- What the functions answer, in the code's words: a number with the place that follows it, how the frames lie, and how many
-- they are. Assumes nothing.
use Rattle.std.specs.Prelude.{Option, Some, None, ℕ, ◌+◌, ◌≤◌, ◌≡◌, Bool, List, ltb, eqb, length, get_or, drop}
use Rattle.octets.specs.Pick.{pick}
use Rattle.octets.specs.Octets.{Bytes, total}
use Rattle.packet_frames.specs.declared.Found.{Found}
use Rattle.packet_frames.specs.declared.Layout.{Layout}
use Rattle.packet_frames.specs.declared.Framed.{Framed}
use Rattle.packet_frames.specs.Frames.{Read, short, value, R1, padding_from, is_silent}
use Rattle.packet_frames.specs.Packet.{Shape, broken, shape, counted_shape, shape_of}
use Rattle.packet_frames.specs.Packet.{Parsed, breaks, frames, parse_shape}

-- a number and the place after it, in s
abbrev pub told_found : Bytes → Option Found → Read ℕ
told_found s None = short
told_found s (Some r) = value r.value (drop r.next s)

-- a number n of at most k, and the place `next` in s
pub record ValueIn (s : Bytes) (k n next : ℕ) : Type 0 where
  pub most : n ≤ k
  pub inside : next ≤ length s

-- what is found is at most k, and its next place is in s
abbrev pub Within : Bytes → ℕ → Option Found → Type 0
Within s k None = Unit {0}
Within s k (Some r) = ValueIn s k r.value r.next

-- the answer r tells what was read of s
pub record FoundIs (s : Bytes) (k : ℕ) (read : Read ℕ) (r : Option Found) : Type 0 where
  pub told : told_found s r ≡ read
  pub within : Within s k r

-- some lengths by their sum
abbrev pub summed : Read (List ℕ) → Read ℕ
summed short = short
summed (value ns s) = value (total ns) s

-- a number above the bound k counts as none
abbrev pub capped : ℕ → Read ℕ → Read ℕ
capped k short = short
capped k (value n s) = pick (ltb k n) short (value n s)

-- the length of the padding from place `at` of s on; one that is longer than all of s counts as none
abbrev pub padding_in : Bytes → ℕ → Read ℕ
padding_in s at = capped (length s) (padding_from 0 (drop at s))

-- how the frames of a packet lie in it, with no rule named
pub data Plain : Type 0 where
  -- the packet breaks a rule, or its padding would be longer than the packet
  none : Plain
  -- the number of frames, whether each has a length of its own, the bytes of padding, and what follows, as in `shape`
  plain : ℕ → Bool → ℕ → Bytes → Plain

abbrev pub plain_of : ℕ → Shape → Plain
plain_of k (broken rule) = none
plain_of k (shape m vary p s rule) = pick (ltb k p) none (plain m vary p s)

-- those of the packet s of code 3, and of any packet s
abbrev pub counted_in : Bytes → Plain
counted_in s = plain_of (length s) (counted_shape (get_or s 0 0) (drop 1 s))

abbrev pub plain_in : Bytes → Plain
plain_in s = plain_of (length s) (shape_of s)

abbrev pub told_layout : Bytes → Option Layout → Plain
told_layout s None = none
told_layout s (Some r) = plain r.count r.vary r.padding (drop r.at s)

-- m frames, p bytes of padding, and the place `at` in s of what follows
pub record FramesIn (s : Bytes) (m p at : ℕ) : Type 0 where
  pub some : 1 ≤ m
  pub few : m ≤ 63
  pub padding : p ≤ length s
  pub inside : at ≤ length s

abbrev pub Sound : Bytes → Option Layout → Type 0
Sound s None = Unit {0}
Sound s (Some r) = FramesIn s r.count r.padding r.at

-- the answer r tells how the frames of s lie
pub record LayoutIs (s : Bytes) (stand : Plain) (r : Option Layout) : Type 0 where
  pub told : told_layout s r ≡ stand
  pub sound : Sound s r

-- m frames, or m lengths of frames, from the place `at` of s on
pub record FramesAt (s : Bytes) (at m : ℕ) : Type 0 where
  pub few : m ≤ 63
  pub inside : at ≤ length s

-- the same of at least one frame
pub record SomeFramesAt (s : Bytes) (at m : ℕ) : Type 0 where
  pub some : 1 ≤ m
  pub few : m ≤ 63
  pub inside : at ≤ length s

-- a packet by the number of its frames and whether all of them are empty
pub record Outline : Type 0 where
  pub count : ℕ
  pub silent : Bool

abbrev pub outline : Parsed → Read Outline
outline (breaks rule) = short
outline (frames sizes s) = value (record { count = length sizes; silent = is_silent sizes }) s

-- the frames of a layout by their outline; the rule that a packet breaks is not told
abbrev pub frames_in : Bool → Plain → Read Outline
frames_in self none = short
frames_in self (plain m vary p s) = outline (parse_shape self (shape m vary p s R1))

-- m frames of n bytes in all and p bytes of padding, in s
abbrev pub placed_in : ℕ → ℕ → ℕ → Bytes → Read Outline
placed_in m n p s = pick (ltb (length s) (n + p)) short (value (record { count = m; silent = eqb n 0 }) (drop (n + p) s))

-- frames and the place after them, in s
abbrev pub told_framed : Bytes → Option Framed → Read Outline
told_framed s None = short
told_framed s (Some r) = value (record { count = r.count; silent = r.silent }) (drop r.next s)

-- there are at most 63 frames, as many as a count byte can tell, and the place after them is in s
abbrev pub FramedIn : Bytes → Option Framed → Type 0
FramedIn s None = Unit {0}
FramedIn s (Some r) = ValueIn s 63 r.count r.next

-- the answer r tells the frames that were read of s
pub record FramedIs (s : Bytes) (read : Read Outline) (r : Option Framed) : Type 0 where
  pub told : told_framed s r ≡ read
  pub within : FramedIn s r
