-- What holds of every good page holds of every kept one. Assumes nothing.
use Prim.Native.Nat.{ℕ, zero, suc}
use mathlib.Core.Bool.{Bool, true, false}
use mathlib.Core.List.{List, [], ◌∷◌}
use mathlib.Core.Option.{Option, none, some}
use lib.ListN.{length}
use Rattle.octets.specs.Pick.{pick}
use Rattle.octets.specs.Octets.{Bytes}
use Rattle.stream.specs.Readings.{Readings, readings}
use Rattle.recording.specs.Judging.{RefusedPage}
use Rattle.salvage_rules.specs.Good.{Good, good_pages, serial_in, has_serial, of_serial, of_stream}
use Rattle.salvage_rules.specs.Rounds.{refused_in, missing, round_by, rounds, settled, kept_in}
use Rattle.salvage_rules.specs.Statements.{Each}

module _ (P : Good → Type 0) where
  each-serial : (n : ℕ) (gs : List Good) → Each P gs → Each P (of_serial n gs)
  unfolding of_serial Each
  each-serial n [] a = tt
  each-serial n (g ∷ gs) a = by (has_serial n g) (each-serial n gs a.1)
    where
      by : (t : Bool) → Each P (of_serial n gs) → Each P (pick t (g ∷ of_serial n gs) (of_serial n gs))
      by true l = (a.0, l)
      by false l = l

  pub each-stream : (x : Option ℕ) (gs : List Good) → Each P gs → Each P (of_stream x gs)
  unfolding Each
  each-stream none gs a = tt
  each-stream (some n) gs a = each-serial n gs a

  each-missing : (k : ℕ) (gs : List Good) → Each P gs → Each P (missing k gs)
  unfolding Each
  each-missing zero [] a = tt
  each-missing zero (g ∷ gs) a = a.1
  each-missing (suc k) [] a = tt
  each-missing (suc k) (g ∷ gs) a = (a.0, each-missing k gs a.1)

  each-rounds : (R : Readings) (n : ℕ) (gs : List Good) → Each P gs → Each P (rounds R n gs)
  unfolding rounds
  each-rounds R zero gs a = a
  each-rounds R (suc n) gs a = by (refused_in R gs) (λ (ks : List Good) b. each-rounds R n ks b)
    where
      by : (v : Option RefusedPage) → ((ks : List Good) → Each P ks → Each P (rounds R n ks)) → Each P (round_by (rounds R n) gs v)
      by none later = a
      by (some x) later = later (missing x.page gs) (each-missing x.page gs a)

  pub each-settled : (R : Readings) (gs : List Good) → Each P gs → Each P (settled R gs)
  unfolding settled
  each-settled R gs a = each-rounds R (length gs) gs a

  pub each-kept : (crc : Bytes → ℕ) (b : Bytes) → Each P (good_pages crc b) → Each P (kept_in crc b)
  each-kept crc b a =
      let gs : List Good = good_pages crc b in
      each-settled (readings crc) (of_stream (serial_in gs) gs) (each-stream (serial_in gs) gs a)
