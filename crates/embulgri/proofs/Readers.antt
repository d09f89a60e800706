-- Opening part way and feeding for C, by what the reader's own functions on numbers promise. Assumes nothing.
use Rattle.std.specs.Prelude.{⊤, Result, Ok, Err}
use Prim.Native.Nat.{ℕ}
use mathlib.Core.Path.{◌≡◌, refl, sym, ap, ◌∙◌}
use mathlib.Core.Bool.{true, false}
use mathlib.Core.List.{List, [], ◌∷◌}
use Rattle.octets.specs.Octets.{Bytes}
use Rattle.refusal.specs.declared.Refusal.{Refusal}
use Rattle.refusal.specs.declared.Refusal.TheVariants.{UnfitFields}
use Rattle.refusal.specs.Numbers.{number_of}
use Rattle.refusal.specs.Told.{Told, gives, refuses, retold}
use Rattle.refusal.proofs.Numbers.{numbers_positive}
use Rattle.head_fields.specs.declared.Head.{Head}
use Rattle.stream.specs.declared.Counts.{Counts}
use Rattle.stream.specs.Feed.{Reader, open_part_way, Taken}
use Rattle.stream.specs.Lent.{Lent}
use Rattle.feed_numbers.specs.Numbers.{numbers_of}
use Rattle.reader.specs.Numbers.{told_opened_in, numbers_opened, StateOpenedIs, told_in, numbers_after, StateFedIs}
use Rattle.feed_pages.specs.declared.StatePagesFed.{StatePagesFed}
use Rattle.feed_pages.specs.Run.{Ended}
use Rattle.feed_pages.specs.Answers.{told_stop}
use Rattle.feed_pages.specs.State.{StateRun}
use Rattle.head_numbers.specs.Numbers.{fitting, head_from}
use Rattle.embulgri.specs.Answers.{stored}
use Rattle.embulgri.specs.Feeding.{open_told, OpenedIn, page_record, fed_of, FedIn, why_number, refusal_number, PagesIn}

-- ---- opening part way

stored-opened : (t : Told Reader) (old : List ℕ) → numbers_opened t old ≡ stored (retold numbers_of t) old
stored-opened (gives r) old = refl
stored-opened (refuses n) old = refl

module _ (f : List ℕ) (m : Bytes) (old : List ℕ) where
  pub open_unfit : fitting f ≡ false → OpenedIn f m (number_of UnfitFields) old old
  unfolding open_told
  open_unfit e = record { opens = rw e; state = rw e }

  module _ {h : Head} (from : h ≡ head_from f m) (fit : fitting f ≡ true) {r : Result ⊤ Refusal} {new : List ℕ} (is : StateOpenedIs (open_part_way h) r old new) where
    told : open_told f m ≡ open_part_way h
    unfolding open_told
    told = rw (fit, ← from)

    state-opened : new ≡ stored (retold numbers_of (open_told f m)) old
    state-opened = is.numbers ∙ stored-opened (open_part_way h) old ∙ ap (λ (t : Told Reader). stored (retold numbers_of t) old) (sym told)

    pub opened : r ≡ Ok tt → OpenedIn f m 0 old new
    opened e = record { opens = sym (ap (λ (s : Result ⊤ Refusal). told_opened_in s new) e) ∙ is.told ∙ sym told; state = state-opened }

    pub unopened : {number : ℕ} (why : Refusal) → r ≡ Err why → number ≡ number_of why → OpenedIn f m number old new
    unopened why e n =
        record { opens = rw (n, numbers_positive why) (sym (ap (λ (s : Result ⊤ Refusal). told_opened_in s new) e) ∙ is.told ∙ sym told); state = state-opened }

-- ---- feeding

stored-after : (t : Told Taken) (old : List ℕ) → numbers_after t old ≡ stored (retold (λ (x : Taken). numbers_of x.reader) t) old
stored-after (gives x) old = refl
stored-after (refuses n) old = refl

module _ (old : List ℕ) (page : Bytes) (m : Lent) {r : Result Counts Refusal} {new : List ℕ} {after : Lent} (is : StateFedIs (fed_of old page m) r old new after)
    (out : List ℕ) where
  told-by : {s : Result Counts Refusal} → r ≡ s → told_in s new ≡ (fed_of old page m).told
  told-by e = sym (ap (λ (s : Result Counts Refusal). told_in s new) e) ∙ is.fed.told

  state-after : new ≡ stored (retold (λ (x : Taken). numbers_of x.reader) (fed_of old page m).told) old
  state-after = is.numbers ∙ stored-after (fed_of old page m).told old

  pub fed : {end : List ℕ} (c : Counts) → r ≡ Ok c → end ≡ page_record c → FedIn old page m 0 new after out end
  fed c e same = record {
    feeds = record { told = rw same (told-by e); lent = is.fed.lent };
    state = state-after;
    counts = rw (same, ← told-by e);
  }

  pub unfed : {number : ℕ} (why : Refusal) → r ≡ Err why → number ≡ number_of why → FedIn old page m number new after out out
  unfed why e n = record {
    feeds = record { told = rw (n, numbers_positive why) (told-by e); lent = is.fed.lent };
    state = state-after;
    counts = rw (← told-by e);
  }

-- ---- the pages of a buffer

module _ {e : Ended} {r : StatePagesFed} {old new : List ℕ} {after : Lent} (is : StateRun e r old new after) where
  pub pages-fed : {number why : ℕ} → number ≡ refusal_number (told_stop r.stop) → why ≡ why_number (told_stop r.stop)
      → PagesIn e number old new after (r.bytes ∷ r.pages ∷ r.packets ∷ why ∷ [])
  pages-fed n w = record {
    refusal = n ∙ ap refusal_number is.why;
    counts = rw (w, is.bytes, is.pages, is.packets, is.why);
    state = is.numbers;
    reader = is.reader;
    lent = is.lent;
  }
