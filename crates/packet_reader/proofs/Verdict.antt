-- The answer for an audio packet, by the number of its streams and whether their lengths agree. Assumes nothing.
use Rattle.std.specs.Prelude.{Ok, Err}
use mathlib.Core.Path.{◌≡◌, refl}
use mathlib.Core.Bool.{Bool, true, false, not}
use mathlib.Core.List.{[], ◌∷◌}
use Prim.Native.Nat.{ℕ, ◌-◌, ◌≤◌, ◌<◌}
use borrow.Author.Tests.{eq-eqb, ne_eqb, lt-ltb, le-ltb}
use Rattle.octets.specs.Pick.{pick}
use Rattle.octets.specs.Octets.{Bytes}
use Rattle.refusal.specs.declared.Refusal.TheVariants.{BadMapping, IllegalPacket, MixedLengths}
use Rattle.refusal.specs.Numbers.{number_of}
use Rattle.refusal.specs.Checks.{◌when◌, first_of}
use Rattle.refusal.specs.Told.{refuses, decided, told}
use Rattle.packet_reader.specs.declared.Contents.{Contents}
use Rattle.packet_reader.specs.Streams.{Measured, illegal, measured, all_are, is_illegal, is_mixed, first_contents, measured_of, read_packet}
use Rattle.packet_reader.specs.Code.{agreed}

by_test : (c : Contents) (t : Bool)
    → decided (first_of (IllegalPacket when false ∷ MixedLengths when not t ∷ [])) c ≡ told (pick t (Ok c) (Err MixedLengths))
unfolding first_of
by_test c true = refl
by_test c false = refl

by_lengths : (m : Measured) → decided (first_of (IllegalPacket when is_illegal m ∷ MixedLengths when is_mixed m ∷ [])) (first_contents m) ≡ told (agreed m)
unfolding first_of
by_lengths illegal = refl
by_lengths (measured c ds) = by_test c (all_are c.measure.samples ds)

module _ (b : Bytes) (n : ℕ) where
  pub no_streams : n ≡ 0 → read_packet b n ≡ refuses (number_of BadMapping)
  unfolding read_packet first_of
  no_streams e = rw (eq-eqb n 0 e)

  pub too_many_streams : (n ≡ 0 → ⊥) → 255 < n → read_packet b n ≡ refuses (number_of BadMapping)
  unfolding read_packet first_of
  too_many_streams z h = rw (ne_eqb n 0 z, lt-ltb 255 n h)

  pub by-streams : (n ≡ 0 → ⊥) → n ≤ 255 → read_packet b n ≡ told (agreed (measured_of (n - 1) b))
  unfolding read_packet first_of
  by-streams z h = rw (ne_eqb n 0 z, le-ltb 255 n h) (by_lengths (measured_of (n - 1) b))
