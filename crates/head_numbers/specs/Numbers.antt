-- The fields of an identification header (RFC 7845, 5.1) as numbers, as callers in other languages pass them (RULES.md, 14).
-- Assumes nothing.
use Rattle.std.specs.Prelude.{ℕ, ◌%◌, Bool, true, ◌&&◌, List, [], ◌∷◌, ltb, eqb, get_or, drop}
use Rattle.std.specs.Int.{w16}
use Rattle.std.proofs.Common.{to_z, of_z}
use Rattle.octets.specs.Octets.{Bytes}
use Rattle.octets.specs.Pick.{pick}
use Rattle.head_fields.specs.declared.Head.{Head}
use Rattle.head_fields.specs.Layout.{matrix_place}

-- version, channels, pre-skip, input rate, gain in 16 bits, family, streams, coupled
abbrev pub head_numbers : Head → List ℕ
head_numbers h =
    h.version ∷ h.channels ∷ h.preskip ∷ h.rate ∷ of_z w16 h.gain ∷ h.family ∷ h.streams ∷ h.coupled ∷ []

-- what each number has to be below, by its field's width
abbrev pub bounds : List ℕ
bounds = 256 ∷ 256 ∷ 65536 ∷ 4294967296 ∷ 65536 ∷ 256 ∷ 256 ∷ 256 ∷ []

unfoldable pub all_below : List ℕ → List ℕ → Bool
all_below [] f = true
all_below (w ∷ ws) f = ltb (get_or f 0 0) w && all_below ws (drop 1 f)

unfoldable pub fitting : List ℕ → Bool
fitting f = all_below bounds f

-- the field of the number at place i: the number itself where it is below its bound
abbrev pub field_at : List ℕ → ℕ → ℕ
field_at f i = get_or f i 0 % get_or bounds i 0

-- the record of such numbers and a mapping
unfoldable pub head_from : List ℕ → Bytes → Head
head_from f m = record {
  version = field_at f 0;
  channels = field_at f 1;
  preskip = field_at f 2;
  rate = field_at f 3;
  gain = to_z w16 (field_at f 4);
  family = field_at f 5;
  streams = field_at f 6;
  coupled = field_at f 7;
  mapping = m;
}

-- where a matrix of n bytes lies, and its length; two zeros where there is none
abbrev pub matrix_numbers : ℕ → List ℕ
matrix_numbers n = pick (eqb n 0) (0 ∷ 0 ∷ []) (matrix_place ∷ n ∷ [])
