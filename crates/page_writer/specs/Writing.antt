-- Writing a page (RULES.md, 3, refusals 23 and 22; RFC 3533, 6), and a page's checksum computed again. Assumes nothing.
use Rattle.refusal.specs.Told.{told, Told, gives, refuses, decided}
use Rattle.std.specs.Prelude.{Result, Ok, Err, ℕ, ◌+◌, ◌≡◌, not, List, [], ◌∷◌, ◌++◌, ltb, length}
use Rattle.std.proofs.Math.Option.{Option, none, some}
use Rattle.octets.specs.Octets.{Bytes, copied}
use Rattle.octets.specs.Numbers.{octets}
use Rattle.refusal.specs.declared.Refusal.{Refusal}
use Rattle.refusal.specs.declared.Refusal.TheVariants.{ShortOutput, UnfitFields}
use Rattle.refusal.specs.Checks.{Check, ◌when◌, first_of}
use Rattle.refusal.specs.Numbers.{number_of}
use Rattle.page_crc.specs.Crc.{page_crc}
use Rattle.page_lacing.specs.Lacing.{is_body}
use Rattle.page_layout.specs.declared.PageHeader.{PageHeader}
use Rattle.page_layout.specs.Places.{capture_pattern, checksum_at, lacing_at}

-- the page's own checksum put into its field; bytes that end before the field's end stay
unfoldable pub with_checksum : Bytes → Bytes
with_checksum p = copied p checksum_at (octets 4 (page_crc p))

-- the bytes before the lacing values, the checksum zero
unfoldable pub start_of : PageHeader → ℕ → Bytes
start_of h count =
    capture_pattern ++ (0 ∷ h.flags ∷ [])
    ++ octets 8 h.granule ++ octets 4 h.serial ++ octets 4 h.sequence ++ octets 4 0 ++ (count ∷ [])

-- the page of these fields, lacing values and body
unfoldable pub page_bytes : PageHeader → Bytes → Bytes → Bytes
page_bytes h lacing body = with_checksum (start_of h (length lacing) ++ lacing ++ body)

abbrev pub page_size : Bytes → Bytes → ℕ
page_size lacing body = lacing_at + length lacing + length body

-- any flags, and an output of n bytes
abbrev pub any_checks : Bytes → Bytes → ℕ → List Check
any_checks lacing body n = UnfitFields when not (is_body lacing body) ∷ ShortOutput when ltb n (page_size lacing body) ∷ []

-- flags of at most 7, and an output of n bytes
abbrev pub write_checks : PageHeader → Bytes → Bytes → ℕ → List Check
write_checks h lacing body n =
    UnfitFields when not (is_body lacing body)
    ∷ UnfitFields when ltb 7 h.flags
    ∷ ShortOutput when ltb n (page_size lacing body)
    ∷ []

-- the output at the end: a refusal writes nothing
abbrev pub written : Option Refusal → Bytes → Bytes → Bytes
written none out page = copied out 0 page
written (some r) out page = out

-- how many bytes were written, or a refusal
unfoldable pub write_told : PageHeader → Bytes → Bytes → Bytes → Told ℕ
write_told h lacing body out = decided (first_of (write_checks h lacing body (length out))) (page_size lacing body)

unfoldable pub write_out : PageHeader → Bytes → Bytes → Bytes → Bytes
write_out h lacing body out = written (first_of (write_checks h lacing body (length out))) out (page_bytes h lacing body)

-- the same for any flags
unfoldable pub write_any_told : Bytes → Bytes → Bytes → Told ℕ
write_any_told lacing body out = decided (first_of (any_checks lacing body (length out))) (page_size lacing body)

unfoldable pub write_any_out : PageHeader → Bytes → Bytes → Bytes → Bytes
write_any_out h lacing body out = written (first_of (any_checks lacing body (length out))) out (page_bytes h lacing body)

-- the answer r, and the output from `out` at entry to `end` at exit
pub record Wrote (h : PageHeader) (lacing body out : Bytes) (r : Result ℕ Refusal) (end : Bytes) : Type 0 where
  pub told : told r ≡ write_told h lacing body out
  pub output : end ≡ write_out h lacing body out

-- the same for any flags
pub record WroteAny (h : PageHeader) (lacing body out : Bytes) (r : Result ℕ Refusal) (end : Bytes) : Type 0 where
  pub told : told r ≡ write_any_told lacing body out
  pub output : end ≡ write_any_out h lacing body out
