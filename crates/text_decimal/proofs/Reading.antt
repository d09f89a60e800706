-- Reading the digits of a number back, and that no others mean it. Assumes nothing.
use mathlib.Core.Path.{◌≡◌, refl, sym, ap, ◌∙◌}
use mathlib.Core.List.{[], ◌∷◌, ◌++◌, append-nil, append_assoc}
use Prim.Native.Nat.{ℕ, zero, suc, ◌+◌, ◌*◌, ◌-◌, ◌/◌, ◌%◌, ◌≤◌, ◌<◌}
use native.Mathlib.Omega.{arith}
use lib.ListN.{length, get_or, get_or-append}
use Rattle.octets.specs.Octets.{Bytes}
use Rattle.text_decimal.specs.Decimal.{digit, decimal, number_after, number_read}
use Rattle.text_decimal.specs.Statements.{IsDigit, Digits, DecimalRight, DecimalOnly}
use Rattle.text_decimal.proofs.Decimal.{decimal-one, decimal-more, length_more, by_tens}

-- ---- the digits of a number are its own

some-digit : (x : ℕ) → 1 ≤ length (decimal x)
some-digit = by_tens (λ (x : ℕ). 1 ≤ length (decimal x)) (λ x h. rw (decimal-one x h) (omega arith)) (λ x h e. omega (arith, length_more x h))

digits-one : (d : ℕ) → d < 10 → Digits (digit d ∷ [])
digits-one d h = record { each = each }
  where
    each : (i : ℕ) → i < 1 → IsDigit (get_or (digit d ∷ []) i 0)
    each zero l = omega arith
    each (suc i) l = absurd (omega arith)

digits-tail : (a : ℕ) (s : Bytes) → Digits (a ∷ s) → Digits s
digits-tail a s o = record { each = λ i l. o.each (suc i) (omega arith) }

digits_append : (s t : Bytes) → Digits s → Digits t → Digits (s ++ t)
digits_append [] t o p = p
digits_append (a ∷ s) t o p = record { each = each (digits_append s t (digits-tail a s o) p) }
  where
    each : Digits (s ++ t) → (i : ℕ) → i < suc (length (s ++ t)) → IsDigit (get_or (a ∷ (s ++ t)) i 0)
    each q zero l = o.each 0 (omega arith)
    each q (suc i) l = q.each i (omega arith)

own_digits : (x : ℕ) → Digits (decimal x)
own_digits =
    by_tens (λ (x : ℕ). Digits (decimal x)) (λ x h. rw (decimal-one x h) (digits-one x h))
    (λ x h o. rw (decimal-more x h) (digits_append (decimal (x / 10)) (digit (x % 10) ∷ []) o (digits-one (x % 10) (omega arith))))

pub number_append : (v : ℕ) (s t : Bytes) → number_after v (s ++ t) ≡ number_after (number_after v s) t
unfolding number_after
number_append v [] t = refl
number_append v (b ∷ s) t = number_append (v * 10 + (b - 48)) s t

own_number : (x : ℕ) → number_read (decimal x) ≡ x
unfolding number_after
own_number =
    by_tens (λ (x : ℕ). number_read (decimal x) ≡ x) (λ x h. rw (decimal-one x h) (omega arith))
    (λ x h e. rw (decimal-more x h, number_append 0 (decimal (x / 10)) (digit (x % 10) ∷ []), e) (omega arith))

no_zero : (x : ℕ) → 1 ≤ x → 48 < get_or (decimal x) 0 0
no_zero =
    by_tens (λ (x : ℕ). 1 ≤ x → 48 < get_or (decimal x) 0 0) (λ x h k. rw (decimal-one x h) (omega arith))
    (λ x h f k. rw (decimal-more x h, get_or-append (decimal (x / 10)) (digit (x % 10) ∷ []) 0 0 (some-digit (x / 10))) (f (omega arith)))

not_none : (x : ℕ) → 1 < length (decimal x) → 1 ≤ x
not_none zero h = let e = ap length (decimal-one 0 (omega arith)) in absurd (omega arith)
not_none (suc x) h = omega arith

pub decimal_right : DecimalRight
decimal_right x = record {
  some = some-digit x;
  digits = own_digits x;
  number = own_number x;
  leading = λ h. no_zero x (not_none x h);
}

-- ---- and no others mean it

next-digit : (v d : ℕ) → 1 ≤ v → d < 10 → decimal (v * 10 + d) ≡ decimal v ++ (digit d ∷ [])
next-digit v d h k =
    let q : (v * 10 + d) / 10 ≡ v = omega arith in
    let r : (v * 10 + d) % 10 ≡ d = omega arith in
    decimal-more (v * 10 + d) (omega arith) ∙ rw (q, r)

-- what is read after a number is written after it
after : (v : ℕ) (t : Bytes) → 1 ≤ v → Digits t → decimal (number_after v t) ≡ decimal v ++ t
unfolding number_after
after v [] h o = sym (append-nil (decimal v))
after v (b ∷ t) h o =
    let low = o.each 0 (omega arith) in
    let same : digit (b - 48) ≡ b = omega arith in
    after (v * 10 + (b - 48)) t (omega arith) (digits-tail b t o)
    ∙ rw (next-digit v (b - 48) h (omega arith), same) (append_assoc (decimal v) (b ∷ []) t)

first : (a : ℕ) → 48 ≤ a → a ≤ 57 → decimal (a - 48) ≡ a ∷ []
first a h k =
    let same : digit (a - 48) ≡ a = omega arith in
    decimal-one (a - 48) (omega arith) ∙ rw same

pub decimal-only : DecimalOnly
unfolding number_after
decimal-only [] x w = absurd (omega (arith, w.some))
decimal-only (a ∷ []) x w =
    let low = w.digits.each 0 (omega arith) in
    let v : a - 48 ≡ 0 * 10 + (a - 48) = omega arith in
    sym (first a low.least low.most) ∙ ap decimal (v ∙ w.number)
decimal-only (a ∷ b ∷ t) x w =
    let low = w.digits.each 0 (omega arith) in
    let high = w.leading (omega arith) in
    let more = after (a - 48) (b ∷ t) (omega arith) (digits-tail a (b ∷ t) w.digits) in
    let v : a - 48 ≡ 0 * 10 + (a - 48) = omega arith in
    sym (more ∙ ap (λ (s : Bytes). s ++ b ∷ t) (first a low.least low.most))
    ∙ ap decimal (ap (λ (n : ℕ). number_after n (b ∷ t)) v ∙ w.number)
