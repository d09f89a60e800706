-- The ways of writing a page, by its tests, and what the copies make of the output. Assumes nothing.
use Rattle.std.specs.Prelude.{Result, Ok, Err}
use mathlib.Core.Path.{◌≡◌, refl, sym, ap, ◌∙◌}
use mathlib.Core.Bool.{Bool, true, false, not}
use mathlib.Core.List.{[], ◌∷◌, ◌++◌}
use mathlib.Core.Option.{none, some}
use Prim.Native.Nat.{ℕ, ◌+◌, ◌≤◌, ◌<◌}
use native.Mathlib.Omega.{arith}
use borrow.Author.Tests.{lt-ltb, le-ltb}
use lib.Dec.{ltb}
use lib.ListN.{length, take, drop, length-append}
use lib.Seq.{take_at, drop_at}
use Rattle.octets.specs.Octets.{Bytes, copied}
use Rattle.octets.specs.Numbers.{octets}
use Rattle.octets.proofs.Copying.{copied_next, length-copied}
use Rattle.refusal.specs.declared.Refusal.{Refusal}
use Rattle.refusal.specs.declared.Refusal.TheVariants.{ShortOutput, UnfitFields}
use Rattle.refusal.specs.Checks.{◌when◌, first_of}
use Rattle.page_crc.specs.Crc.{page_crc}
use Rattle.page_lacing.specs.Lacing.{is_body}
use Rattle.page_layout.specs.declared.PageHeader.{PageHeader}
use Rattle.page_layout.specs.Places.{checksum_at, lacing_at}
use Rattle.page_writer.specs.Writing.{with_checksum, start_of, page_bytes, page_size, any_checks, write_checks, write_told, write_out, write_any_told, write_any_out, Wrote, WroteAny}

-- ---- any flags

module _ (l b : Bytes) (n : ℕ) where
  pub no_body : is_body l b ≡ false → first_of (any_checks l b n) ≡ some UnfitFields
  unfolding first_of
  no_body e = rw e

  pub short-output : is_body l b ≡ true → n < page_size l b → first_of (any_checks l b n) ≡ some ShortOutput
  unfolding first_of
  short-output e r = rw (e, lt-ltb n (page_size l b) r)

  pub any_writable : is_body l b ≡ true → page_size l b ≤ n → first_of (any_checks l b n) ≡ none
  unfolding first_of
  any_writable e r = rw (e, le-ltb n (page_size l b) r)

module _ (h : PageHeader) (l b out : Bytes) where
  pub refused : (w : Refusal) → first_of (any_checks l b (length out)) ≡ some w → WroteAny h l b out (Err w) out
  unfolding write_any_told write_any_out
  refused w e = record { told = rw e; output = rw e }

  pub wrote : first_of (any_checks l b (length out)) ≡ none → WroteAny h l b out (Ok (page_size l b)) (copied out 0 (page_bytes h l b))
  unfolding write_any_told write_any_out
  wrote e = record { told = rw e; output = rw e }

-- ---- flags of at most 7

module _ (h : PageHeader) (l b : Bytes) where
  module _ (n : ℕ) where
    -- flags above 7 are refused, whatever the body
    wrong-flags : 7 < h.flags → first_of (write_checks h l b n) ≡ some UnfitFields
    unfolding first_of
    wrong-flags f = by (is_body l b)
      where
        by : (t : Bool)
            → first_of (UnfitFields when not t ∷ UnfitFields when ltb 7 h.flags ∷ ShortOutput when ltb n (page_size l b) ∷ []) ≡ some UnfitFields
        by true = rw (lt-ltb 7 h.flags f)
        by false = refl

    -- the other checks are those for any flags
    low-flags : h.flags ≤ 7 → first_of (write_checks h l b n) ≡ first_of (any_checks l b n)
    unfolding first_of
    low-flags f = rw (le-ltb 7 h.flags f)

    pub writable : is_body l b ≡ true → h.flags ≤ 7 → page_size l b ≤ n → first_of (write_checks h l b n) ≡ none
    writable e f r = low-flags f ∙ any_writable l b n e r

  module _ (out : Bytes) where
    pub flags-refused : 7 < h.flags → Wrote h l b out (Err UnfitFields) out
    unfolding write_told write_out
    flags-refused f = record { told = rw (wrong-flags (length out) f); output = rw (wrong-flags (length out) f) }

    pub flags_taken : (r : Result ℕ Refusal) (end : Bytes) → h.flags ≤ 7 → WroteAny h l b out r end → Wrote h l b out r end
    unfolding write_told write_out write_any_told write_any_out
    flags_taken r end f w = record { told = w.told ∙ rw (low-flags (length out) f); output = w.output ∙ rw (low-flags (length out) f) }

-- ---- the copies

pub length-start : (h : PageHeader) (n : ℕ) → length (start_of h n) ≡ lacing_at
unfolding start_of octets
length-start h n = refl

pub length-with_checksum : (p : Bytes) → length (with_checksum p) ≡ length p
unfolding with_checksum
length-with_checksum p = length-copied p checksum_at (octets 4 (page_crc p))

-- three copies one after the other
pub three : (s l b out : Bytes) → length s ≡ lacing_at → page_size l b ≤ length out
    → copied (copied (copied out 0 s) lacing_at l) (lacing_at + length l) b ≡ (s ++ l ++ b) ++ drop (page_size l b) out
three s l b out e room =
    let sl : length (s ++ l) ≡ lacing_at + length l = length-append s l ∙ ap (λ (n : ℕ). n + length l) e in
    let slb : length (s ++ l ++ b) ≡ page_size l b = length-append (s ++ l) b ∙ ap (λ (n : ℕ). n + length b) sl in
    let one = copied_next out [] s (omega arith) in
    let two = copied_next out s l (omega arith) in
    let last = copied_next out (s ++ l) b (omega arith) in
    ap (λ (o : Bytes). copied (copied o lacing_at l) (lacing_at + length l) b) one
    ∙ ap (λ (n : ℕ). copied (copied (s ++ drop (length s) out) n l) (lacing_at + length l) b) (sym e)
    ∙ ap (λ (o : Bytes). copied o (lacing_at + length l) b) two
    ∙ ap (λ (n : ℕ). copied ((s ++ l) ++ drop (length (s ++ l)) out) n b) (sym sl)
    ∙ last
    ∙ ap (λ (n : ℕ). (s ++ l ++ b) ++ drop n out) slb

-- a page in place of the first bytes of the output
pub whole : (p out : Bytes) → length p ≤ length out → p ++ drop (length p) out ≡ copied out 0 p
whole p out room = sym (copied_next out [] p (omega arith))

-- the output after the three copies and the checksum: a, d and f are the output after each copy, e its first bytes with their checksum
pub put : (h : PageHeader) (l b out s a d f e : Bytes) → page_size l b ≤ length out → s ≡ start_of h (length l)
    → a ≡ copied out 0 s → d ≡ copied a lacing_at l → f ≡ copied d (lacing_at + length l) b → e ≡ with_checksum (take (page_size l b) f)
    → e ++ drop (page_size l b) f ≡ copied out 0 (page_bytes h l b)
unfolding page_bytes
put h l b out s a d f e room hs ha hd hf he =
    let n : ℕ = page_size l b in
    let u : Bytes = start_of h (length l) ++ l ++ b in
    let size : length u ≡ n =
    (length-append (start_of h (length l) ++ l) b ∙ ap (λ (k : ℕ). k + length b) (length-append (start_of h (length l)) l ∙ ap (λ (k : ℕ). k + length l) (length-start h (length l)))) in
    let all : f ≡ u ++ drop n out = hf ∙ rw (hd, ha, hs) (three (start_of h (length l)) l b out (length-start h (length l)) room) in
    let front : e ≡ with_checksum u = he ∙ ap with_checksum (ap (take n) all ∙ take_at u (drop n out) n size) in
    let back : drop n f ≡ drop (length (with_checksum u)) out = ap (drop n) all ∙ drop_at u (drop n out) n size ∙ ap (λ (k : ℕ). drop k out) (sym (length-with_checksum u ∙ size)) in
    rw (front, back) (whole (with_checksum u) out (omega (arith, length-with_checksum u)))
