-- Feeding looks at a page's checksum only to see whether it is right, and so does a run. Assumes nothing.
use Prim.Native.Nat.{ℕ, zero, suc, ◌-◌}
use mathlib.Core.Path.{◌≡◌, refl, ap, ◌∙◌}
use mathlib.Core.List.{List, [], ◌∷◌}
use mathlib.Core.Option.{Option, none, some}
use lib.ListN.{length, take, drop}
use Rattle.octets.specs.Pick.{pick}
use Rattle.octets.specs.Octets.{Bytes, Octets}
use Rattle.octets.proofs.Parts.{octets-take, octets-drop}
use Rattle.refusal.specs.declared.Refusal.{Refusal}
use Rattle.refusal.specs.declared.Refusal.TheVariants.{ShortRoom}
use Rattle.refusal.specs.Checks.{Check, ◌when◌, first_of}
use Rattle.stream.specs.Page.{Page, page_of}
use Rattle.stream.specs.Readings.{readings}
use Rattle.stream.specs.State.{State, expecting}
use Rattle.stream.specs.Packets.{Seen, seen, measures_of}
use Rattle.stream.specs.Rules.{packet_checks, time_checks, checks_on, start_on, next_on}
use Rattle.stream.specs.Feed.{Reader, view, entries_on, counts_on, skip_on, tally_on, fed_by, feed}
use Rattle.stream.specs.Lent.{Lent, is_short}
use Rattle.page_end.specs.End.{end_at}
use Rattle.feed_pages.specs.Run.{is_full, past, Reached, Turn, goes, stops, full, fed_to, turn_to, turn, follow, runs, started, feed_pages}

module _ (c d : Bytes → ℕ) where
  same-packets : (n : ℕ) (bs : List Bytes) → packet_checks (readings c) n bs ≡ packet_checks (readings d) n bs
  unfolding packet_checks readings
  same-packets n [] = refl
  same-packets n (b ∷ bs) = rw (same-packets n bs)

  same-fed : (v : Option Refusal) (r : Reader) (m : Lent) (t : State) (p : Page) (x : Seen) → fed_by v (readings c) r m t p x ≡ fed_by v (readings d) r m t p x
  unfolding readings next_on skip_on tally_on counts_on entries_on start_on measures_of
  same-fed none r m t p x = refl
  same-fed (some n) r m t p x = refl

  same_checks : (t : State) (b : Bytes) (x : Seen) → c b ≡ d b → checks_on (readings c) t b x ≡ checks_on (readings d) t b x
  unfolding checks_on time_checks readings measures_of
  same_checks t b x e = rw (e, same-packets t.streams _)

  pub same-feeding : (r : Reader) (m : Lent) (b : Bytes) → c b ≡ d b → feed (readings c) r m b ≡ feed (readings d) r m b
  unfolding feed
  same-feeding r m b e =
      let t : State = expecting (view r.core m.carry) (page_of b) in
      let x : Seen = seen t (page_of b) in
      ap (λ (cs : List Check). fed_by (first_of (ShortRoom when is_short m ∷ cs)) (readings c) r m t (page_of b) x) (same_checks t b x e)
      ∙ same-fed (first_of (ShortRoom when is_short m ∷ checks_on (readings d) t b x)) r m t (page_of b) x

-- a run by two ways of working out a checksum that agree on bytes
module _ (c d : Bytes → ℕ) (agree : (s : Bytes) → Octets s → c s ≡ d s) (b : Bytes) (o : Octets b) where
  same_turn : (a : Reached) (m : Lent) → turn (readings c) b a m ≡ turn (readings d) b a m
  unfolding turn
  same_turn a m = ap (pick (is_full a.packets m) (stops full m)) (by (end_at b a.bytes))
    where
      by : (e : Option ℕ) → turn_to (readings c) b a m e ≡ turn_to (readings d) b a m e
      by none = refl
      by (some e) =
          ap (fed_to a m e)
          (same-feeding c d a.reader (past a.packets m) (take (e - a.bytes) (drop a.bytes b))
          (agree (take (e - a.bytes) (drop a.bytes b)) (octets-take (e - a.bytes) (drop a.bytes b) (octets-drop a.bytes b o))))

  same_runs : (n : ℕ) (a : Reached) (m : Lent) → runs n (readings c) b a m ≡ runs n (readings d) b a m
  unfolding runs
  same_runs zero a m = refl
  same_runs (suc n) a m = ap (follow (runs n (readings c) b) a) (same_turn a m) ∙ by (same_runs n) (turn (readings d) b a m)
    where
      by : ((x : Reached) (l : Lent) → runs n (readings c) b x l ≡ runs n (readings d) b x l) → (t : Turn)
          → follow (runs n (readings c) b) a t ≡ follow (runs n (readings d) b) a t
      by later (goes next l) = later next l
      by later (stops why l) = refl

  pub same-pages : (r : Reader) (m : Lent) → feed_pages (readings c) r m b ≡ feed_pages (readings d) r m b
  unfolding feed_pages
  same-pages r m = same_runs (suc (length b)) (started r) m
