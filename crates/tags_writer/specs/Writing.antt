-- Writing a comment header (RULES.md, refusals 23 and 22; RFC 7845, 5.2). The comments are given joined, with a list of
-- their lengths. Assumes nothing.
use Rattle.refusal.specs.Told.{told, Told, decided}
use Rattle.std.specs.Prelude.{Result, ℕ, ◌≡◌, not, List, [], ◌∷◌, ltb, eqb, length, take, drop}
use Rattle.std.proofs.Math.Option.{Option, none, some}
use Rattle.octets.specs.Octets.{Bytes, total, copied}
use Rattle.limits.specs.Limits.{packet_max}
use Rattle.refusal.specs.declared.Refusal.{Refusal}
use Rattle.refusal.specs.declared.Refusal.TheVariants.{ShortOutput, UnfitFields}
use Rattle.refusal.specs.Checks.{Check, ◌when◌, first_of}
use Rattle.tags_layout.specs.Layout.{Tags}
use Rattle.tags_reader.specs.Right.{right_tags}
use Rattle.tags_reader.specs.Packet.{comments_bytes, tags_bytes}

-- the text cut into comments of these lengths
unfoldable pub cut_by : List ℕ → Bytes → List Bytes
cut_by [] s = []
cut_by (n ∷ ns) s = take n s ∷ cut_by ns (drop n s)

-- the bytes of these comments
abbrev pub comments_of : Bytes → List ℕ → Bytes
comments_of text ns = comments_bytes (cut_by ns text)

-- what is to be written: no trailing bytes
abbrev pub given : Bytes → Bytes → List ℕ → Tags
given vendor text ns = record { vendor = vendor; comments = cut_by ns text; trailing = [] }

abbrev pub packet_of : Bytes → Bytes → List ℕ → Bytes
packet_of vendor text ns = tags_bytes (given vendor text ns)

abbrev pub write_checks : Bytes → Bytes → List ℕ → ℕ → List Check
write_checks vendor text ns room =
    UnfitFields when not (eqb (total ns) (length text))
    ∷ UnfitFields when ltb packet_max (length (packet_of vendor text ns))
    ∷ UnfitFields when not (right_tags (given vendor text ns))
    ∷ ShortOutput when ltb room (length (packet_of vendor text ns))
    ∷ []

-- the output at the end: a refusal writes nothing
abbrev pub written : Option Refusal → Bytes → Bytes → Bytes
written none out b = copied out 0 b
written (some r) out b = out

unfoldable pub write_told : Bytes → Bytes → List ℕ → Bytes → Told ℕ
write_told vendor text ns out =
    decided (first_of (write_checks vendor text ns (length out))) (length (packet_of vendor text ns))

unfoldable pub write_out : Bytes → Bytes → List ℕ → Bytes → Bytes
write_out vendor text ns out = written (first_of (write_checks vendor text ns (length out))) out (packet_of vendor text ns)

-- the answer r, and the output from `out` at entry to `end` at exit
pub record Wrote (vendor text : Bytes) (ns : List ℕ) (out : Bytes) (r : Result ℕ Refusal) (end : Bytes) : Type 0 where
  pub told : told r ≡ write_told vendor text ns out
  pub output : end ≡ write_out vendor text ns out
