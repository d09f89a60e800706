-- T2, with a shift of the sequence numbers. Assumes nothing.
use Prim.Native.Nat.{ℕ, ◌+◌, ◌%◌, ◌<◌, ◌^◌}
use mathlib.Core.Path.{◌≡◌, refl, sym, ap, ap₂, ◌∙◌}
use mathlib.Core.Bool.{Bool, true, false, true≢false}
use mathlib.Core.Option.{Option, none, some}
use native.Mathlib.Omega.{arith}
use borrow.Author.Tests.{eqb-true, eqb-false, eq-eqb, ne_eqb}
use lib.Dec.{eqb}
use Rattle.octets.specs.Octets.{Bytes}
use Rattle.refusal.specs.declared.Refusal.{Refusal}
use Rattle.refusal.specs.Checks.{first_of}
use Rattle.stream.specs.declared.Phase.{Phase}
use Rattle.stream.specs.declared.Phase.TheVariants.{First, Comment, Audio, Opened, Ended}
use Rattle.stream.specs.Page.{Page, page_of, continued, last, whole, rest}
use Rattle.stream.specs.Readings.{Readings}
use Rattle.stream.specs.State.{State, is_first, expecting_in, expecting}
use Rattle.stream.specs.Packets.{Seen, seen, audio_packets, measures_of}
use Rattle.stream.specs.Rules.{time_checks, checks_on, start_on, stamps_on, next_on, verdict, after, stamped}
use Rattle.stream.specs.Feedings.{feed_in}
use Rattle.stream.specs.Statements.{shifted, state_shifted, BytesShifted, view_of, Congruence}
use Rattle.stream.proofs.Step.{state_by, tell_by, Stepped, stepped}

same-shifted : (n a b : ℕ) → a < 2 ^ 32 → b < 2 ^ 32 → eqb (shifted n a) (shifted n b) ≡ eqb a b
same-shifted n a b p q = by (eqb a b) refl
  where
    by : (t : Bool) → eqb a b ≡ t → eqb (shifted n a) (shifted n b) ≡ t
    by true e = eq-eqb (shifted n a) (shifted n b) (ap (shifted n) (eqb-true a b e))
    by false e = ne_eqb (shifted n a) (shifted n b) (λ h. eqb-false a b e (omega arith))

next-shifted : (n q : ℕ) → (shifted n q + 1) % 2 ^ 32 ≡ shifted n ((q + 1) % 2 ^ 32)
next-shifted n q = omega arith

with_next : State → ℕ → State
with_next s q = record { phase = s.phase; carried = s.carried; position = s.position; serial = s.serial; next = q; streams = s.streams; preskip = s.preskip }

-- s expects the page b, t the page c
pub record Shifted (R : Readings) (n : ℕ) (b c : Bytes) (s t : State) : Type 0 where
  pub judged : first_of (checks_on R t c (seen t (page_of c))) ≡ first_of (checks_on R s b (seen s (page_of b)))
  pub lists : stamps_on R t (page_of c) (seen t (page_of c)) ≡ stamps_on R s (page_of b) (seen s (page_of b))
  pub follows : next_on R t (page_of c) (seen t (page_of c)) ≡ state_shifted n (next_on R s (page_of b) (seen s (page_of b)))

module _ (R : Readings) (n : ℕ) (b c : Bytes) (k : BytesShifted R n b c) where
  same_seen : (s : State) → seen (state_shifted n s) (page_of c) ≡ seen s (page_of b)
  unfolding seen whole rest
  same_seen s = ap (λ (p : Page). seen s p) k.page

  -- the sequence number is looked at by one check alone
  same_checks : (s : State) (x : Seen) → s.next < 2 ^ 32 → checks_on R (state_shifted n s) c x ≡ checks_on R s b x
  unfolding checks_on time_checks measures_of audio_packets continued last whole rest
  same_checks s x small = rw (k.page, k.is_page, k.is_checksummed, same-shifted n (page_of b).header.sequence s.next k.small small) refl

  same-stamps : (s : State) (x : Seen) → stamps_on R (state_shifted n s) (page_of c) x ≡ stamps_on R s (page_of b) x
  unfolding stamps_on start_on measures_of audio_packets last
  same-stamps s x = rw k.page refl

  same_next : (s : State) (x : Seen) → next_on R (state_shifted n s) (page_of c) x ≡ state_shifted n (next_on R s (page_of b) x)
  unfolding next_on last with_next
  same_next s x = rw k.page (ap (with_next (next_on R s (page_of b) x)) (next-shifted n (page_of b).header.sequence))

  shifted_on : (s : State) → s.next < 2 ^ 32 → Shifted R n b c s (state_shifted n s)
  shifted_on s small = record {
    judged = ap (λ (x : Seen). first_of (checks_on R (state_shifted n s) c x)) (same_seen s) ∙ ap first_of (same_checks s (seen s (page_of b)) small);
    lists = ap (stamps_on R (state_shifted n s) (page_of c)) (same_seen s) ∙ same-stamps s (seen s (page_of b));
    follows = ap (next_on R (state_shifted n s) (page_of c)) (same_seen s) ∙ same_next s (seen s (page_of b));
  }

  -- what an opened reader expects of the page
  opened-shifted : (s : State) → expecting_in Opened (state_shifted n s) (page_of c) ≡ state_shifted n (expecting_in Opened s (page_of b))
  unfolding continued
  opened-shifted s = rw k.page refl

  shifted_in : (s : State) (ph : Phase) → is_first ph ≡ false → s.next < 2 ^ 32
      → Shifted R n b c (expecting_in ph s (page_of b)) (expecting_in ph (state_shifted n s) (page_of c))
  shifted_in s First f small = absurd (true≢false f)
  shifted_in s Comment f small = shifted_on s small
  shifted_in s Audio f small = shifted_on s small
  shifted_in s Opened f small =
      mathlib.Core.Path.subst (Shifted R n b c (expecting_in Opened s (page_of b))) (sym (opened-shifted s))
      (shifted_on (expecting_in Opened s (page_of b)) k.small)
  shifted_in s Ended f small = shifted_on s small

  pub shifted_step : (s : State) → is_first s.phase ≡ false → s.next < 2 ^ 32
      → Shifted R n b c (expecting s (page_of b)) (expecting (state_shifted n s) (page_of c))
  unfolding expecting
  shifted_step s f small = shifted_in s s.phase f small

state-shifted : (n : ℕ) (v : Option Refusal) (s t : State) → state_by v (state_shifted n s) (state_shifted n t) ≡ state_shifted n (state_by v s t)
state-shifted n none s t = refl
state-shifted n (some m) s t = refl

pub congruence : Congruence
unfolding verdict stamped after
congruence R n r s f g rf rg going small bytes same =
    let u : State = view_of r f.lent.carry in
    let b : Bytes = f.bytes in
    let c : Bytes = g.bytes in
    let k : Shifted R n b c (expecting u (page_of b)) (expecting (state_shifted n u) (page_of c)) = shifted_step R n b c bytes u going small in
    let x : Stepped R r u b (verdict R u b) (feed_in R r f) = stepped R r f.lent b rf in
    let y : Stepped R s (view_of s g.lent.carry) c (verdict R (view_of s g.lent.carry) c) (feed_in R s g) = stepped R s g.lent c rg in
    record {
      told = y.told ∙ ap (λ (t : State). tell_by (verdict R t c) (stamped R t c)) same ∙ ap₂ tell_by k.judged k.lists ∙ sym x.told;
      stays = y.view ∙ ap (λ (t : State). state_by (verdict R t c) t (after R t c)) same
          ∙ ap₂ (λ (v : Option Refusal) (t : State). state_by v (state_shifted n u) t) k.judged k.follows
          ∙ state-shifted n (verdict R u b) u (after R u b)
          ∙ ap (state_shifted n) (sym x.view);
    }
