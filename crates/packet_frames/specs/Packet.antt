-- One Opus packet: the sizes of its frames, and what it leaves (RFC 6716, 3.2, 3.4 and Appendix B; RULES.md, refusal 15).
-- The self-delimited form differs only in that one length more is coded, which the plain form takes from the packet's end.
-- Assumes nothing.
use Rattle.std.specs.Prelude.{ℕ, ◌+◌, ◌*◌, ◌-◌, ◌/◌, ◌%◌, Bool, true, false, ◌||◌, List, [], ◌∷◌, ◌++◌, ltb, leb, eqb, length, drop, replicate}
use Rattle.octets.specs.Pick.{pick}
use Rattle.octets.specs.Octets.{Bytes, total}
use Rattle.packet_toc.specs.Toc.{code_of, frame_samples}
use Rattle.packet_frames.specs.Frames.{Rule, R1, R2, R3, R4, R5, R6, R7, frame_max, samples_max}
use Rattle.packet_frames.specs.Frames.{Read, short, value, coded, coded_times, padding_from}

-- how the frames of a packet lie in it
pub data Shape : Type 0 where
  -- the rule that the packet breaks
  broken : Rule → Shape
  -- the number of frames, whether each has a length of its own, the bytes of padding at the end, what follows the bytes that
  -- say this, and the rule that the lengths obey
  shape : ℕ → Bool → ℕ → Bytes → Rule → Shape

-- code 3 (RFC 6716, 3.2.5): the rule for its lengths by the bit for frames of different lengths
abbrev pub length_rule : Bool → Rule
length_rule true = R7
length_rule false = R6

abbrev pub padded : ℕ → Bool → Read ℕ → Shape
padded m vary short = broken (length_rule vary)
padded m vary (value p s) = shape m vary p s (length_rule vary)

-- the count byte: frames in its low six bits, 0x40 padding, 0x80 frames of different lengths
abbrev pub count_of : ℕ → ℕ
count_of c = c % 64

abbrev pub has_padding : ℕ → Bool
has_padding c = eqb (c / 64 % 2) 1

abbrev pub is_variable : ℕ → Bool
is_variable c = leb 128 c

unfoldable pub counted_shape : ℕ → Bytes → Shape
counted_shape toc [] = broken R6
counted_shape toc (c ∷ s) =
    pick (eqb (count_of c) 0 || ltb samples_max (count_of c * frame_samples toc)) (broken R5)
    (padded (count_of c) (is_variable c) (pick (has_padding c) (padding_from 0 s) (value 0 s)))

-- code 0: one frame; code 1: two of one length; code 2: two; code 3: counted
unfoldable pub shape_of : Bytes → Shape
shape_of [] = broken R1
shape_of (toc ∷ s) =
    pick (eqb (code_of toc) 0) (shape 1 true 0 s R2)
    (pick (eqb (code_of toc) 1) (shape 2 false 0 s R3)
    (pick (eqb (code_of toc) 2) (shape 2 true 0 s R4)
    (counted_shape toc s)))

-- what is read of a packet
pub data Parsed : Type 0 where
  -- the rule that it breaks
  breaks : Rule → Parsed
  -- the sizes of the frames and what is left after the packet
  frames : List ℕ → Bytes → Parsed

-- frames of these sizes and p bytes of padding, in s
abbrev pub placed : Rule → List ℕ → ℕ → Bytes → Parsed
placed rule sizes p s = pick (ltb (length s) (total sizes + p)) (breaks rule) (frames sizes (drop (total sizes + p) s))

-- the last frame takes what the others and the padding leave of s
abbrev pub last_frame : Rule → List ℕ → ℕ → Bytes → Parsed
last_frame rule sizes p s =
    pick (ltb (length s) (total sizes + p)) (breaks rule)
    (pick (ltb frame_max (length s - (total sizes + p))) (breaks R2)
    (frames (sizes ++ ((length s - (total sizes + p)) ∷ [])) []))

-- m equal frames take what the padding leaves of s
abbrev pub equal_frames : Rule → ℕ → ℕ → Bytes → Parsed
equal_frames rule m p s =
    pick (ltb (length s) p) (breaks rule)
    (pick (eqb ((length s - p) % m) 0)
    (pick (ltb frame_max ((length s - p) / m)) (breaks R2) (frames (replicate m ((length s - p) / m)) []))
    (breaks rule))

abbrev pub on_read : {A : Type 0} → Rule → (A → Bytes → Parsed) → Read A → Parsed
on_read rule f short = breaks rule
on_read rule f (value a s) = f a s

-- self-delimited: a length for each frame, or one for all of them. Else the last frame, or all of them, have theirs from
-- where the packet ends
abbrev pub parse_shape : Bool → Shape → Parsed
parse_shape self (broken rule) = breaks rule
parse_shape true (shape m true p s rule) = on_read rule (λ ns r. placed rule ns p r) (coded_times m s)
parse_shape true (shape m false p s rule) = on_read rule (λ n r. placed rule (replicate m n) p r) (coded s)
parse_shape false (shape m true p s rule) = on_read rule (λ ns r. last_frame rule ns p r) (coded_times (m - 1) s)
parse_shape false (shape m false p s rule) = equal_frames rule m p s

unfoldable pub parse : Bool → Bytes → Parsed
parse self b = parse_shape self (shape_of b)
