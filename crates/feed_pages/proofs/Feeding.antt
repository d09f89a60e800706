-- One page fed with the parts of the lists past the places filled, and the whole lists again. Assumes nothing.
use Prim.Native.Nat.{ℕ, ◌-◌, ◌≤◌}
use mathlib.Core.Path.{◌≡◌, sym, ◌∙◌}
use mathlib.Core.Bool.{false, true}
use mathlib.Core.List.{List, ◌++◌, append-nil}
use mathlib.Core.Option.{none, some}
use native.Mathlib.Omega.{arith}
use lib.ListN.{length, take, drop, length-drop, drop_of_length-le}
use lib.Seq.{take_all}
use Rattle.octets.specs.Octets.{Bytes, Octets}
use Rattle.refusal.specs.Told.{Told, gives}
use Rattle.stream.specs.declared.Counts.{Counts}
use Rattle.stream.specs.Readings.{Readings}
use Rattle.stream.specs.Feed.{Reader as Known, Taken, FedIs, feed}
use Rattle.stream.specs.Lent.{Lent, lent_of}
use Rattle.reader.specs.Answers.{known_as}
use Rattle.page_end.specs.End.{end_at}
use Rattle.feed_pages.specs.declared.Progress.{Progress}
use Rattle.feed_pages.specs.Run.{is_full, past, cut, full, stops, after, turn, Inside}
use Rattle.feed_pages.specs.Answers.{reached}
use Rattle.feed_pages.proofs.Turns.{shows}

-- ---- a list from place n on

abbrev pub from_place : ℕ → List ℕ → List ℕ
from_place n l = take (length l - n) (drop n l)

-- the list with ys there
abbrev pub back : ℕ → List ℕ → List ℕ → List ℕ
back n l ys = take n l ++ (ys ++ drop (length l - n) (drop n l))

from_place_all : (n : ℕ) (l : List ℕ) → from_place n l ≡ drop n l
from_place_all n l = take_all (length l - n) (drop n l) (omega (arith, length-drop n l))

back-all : (n : ℕ) (l ys : List ℕ) → back n l ys ≡ take n l ++ ys
back-all n l ys = rw (drop_of_length-le (drop n l) (rest n l), append-nil ys)
  where
    rest : (n : ℕ) (l : List ℕ) → length (drop n l) ≤ length l - n
    rest n l = omega (arith, length-drop n l)

-- ---- the turn

module _ (R : Readings) (b : Bytes) (p : Progress) (m : Lent) where
  pub turn-full : is_full p.packets m ≡ true → stops full m ≡ turn R b (reached p) m
  unfolding turn
  turn-full e = rw e

  module _ (places : is_full p.packets m ≡ false) where
    pub turn-cut : end_at b p.bytes ≡ none → stops cut m ≡ turn R b (reached p) m
    unfolding turn
    turn-cut e = rw (places, e)

    module _ (e : ℕ) (ends_at : end_at b p.bytes ≡ some e) {t : Told Taken} {carry : Bytes} {ends lengths kept frames : List ℕ}
        (is : FedIs (feed R (known_as p.reader) (lent_of m.carry (from_place p.packets m.ends) (from_place p.packets m.lengths) (from_place p.packets m.kept) (from_place p.packets m.frames)) (take (e - p.bytes) (drop p.bytes b))) t (lent_of carry ends lengths kept frames)) where
      same : lent_of m.carry (from_place p.packets m.ends) (from_place p.packets m.lengths) (from_place p.packets m.kept) (from_place p.packets m.frames) ≡ past p.packets m
      same = rw (from_place_all p.packets m.ends, from_place_all p.packets m.lengths, from_place_all p.packets m.kept, from_place_all p.packets m.frames)

      by_parts : FedIs (feed R (known_as p.reader) (past p.packets m) (take (e - p.bytes) (drop p.bytes b))) t (lent_of carry ends lengths kept frames)
      by_parts = rw same at is

      abbrev end : Lent
      end = lent_of carry (back p.packets m.ends ends) (back p.packets m.lengths lengths) (back p.packets m.kept kept) (back p.packets m.frames frames)

      pub turn-told : {x : Told Taken} → t ≡ x → after (reached p) e x end ≡ turn R b (reached p) m
      unfolding turn
      turn-told q =
          rw (
            places,
            ends_at,
            ← by_parts.told,
            ← by_parts.lent,
            q,
            back-all p.packets m.ends ends,
            back-all p.packets m.lengths lengths,
            back-all p.packets m.kept kept,
            back-all p.packets m.frames frames,
          )

      -- at most 255 packets
      module _ (o : Octets b) (fits : Inside (reached p) b m) {next : Known} {c : Counts} (q : t ≡ gives (record { reader = next; counts = c })) where
        gave : (feed R (known_as p.reader) (past p.packets m) (take (e - p.bytes) (drop p.bytes b))).told ≡ gives (record { reader = next; counts = c })
        gave = sym by_parts.told ∙ q

        pub few-packets : c.packets ≤ 255
        few-packets =
            let is = shows R b o (reached p) m fits e (record { reader = next; counts = c }) gave in
            omega (arith, is.packets, is.few)
