-- A packet of one frame that has no length coded. Assumes nothing.
use mathlib.Core.Path.{◌≡◌, refl, ap, ◌∙◌}
use mathlib.Core.Bool.{Bool, true, false, ◌&&◌}
use mathlib.Core.List.{[], ◌∷◌}
use Prim.Native.Nat.{ℕ, suc, ◌+◌, ◌-◌, ◌≤◌}
use native.Mathlib.Omega.{arith}
use borrow.Author.Tests.{le-ltb, ltb-true}
use lib.Dec.{ltb, eqb, eqb-suc-suc}
use lib.ListN.{length, get_or}
use Rattle.octets.specs.Octets.{Bytes, total}
use Rattle.octets.proofs.Tests.{both}
use Rattle.refusal.specs.Told.{gives}
use Rattle.packet_toc.specs.Toc.{code_of}
use Rattle.packet_frames.specs.Frames.{frame_max, coded_times, is_silent}
use Rattle.packet_frames.specs.Packet.{shape_of, parse}
use Rattle.packet_reader.specs.Streams.{contents_of, measured, measured_of, all_are, read_packet, is_single}
use Rattle.packet_reader.specs.Code.{made_of}
use Rattle.packet_reader.proofs.Verdict.{by-streams}

and-true : (t : Bool) → t && true ≡ t
and-true true = refl
and-true false = refl

measured-single : (toc : ℕ) (s : Bytes) → length s ≤ frame_max → eqb (code_of toc) 0 ≡ true
    → measured_of 0 (toc ∷ s) ≡ measured (contents_of (toc ∷ s) ((length s - 0) ∷ [])) []
unfolding measured_of parse shape_of coded_times total
measured-single toc s h e = rw (e, le-ltb (length s) 0 (omega arith), le-ltb frame_max (length s - 0) (omega arith))

-- its frame is empty where it has the first byte alone
silent-single : (s : Bytes) → is_silent ((length s - 0) ∷ []) ≡ eqb (suc (length s)) 1
unfolding is_silent
silent-single s = let e : length s - 0 ≡ length s = omega arith in rw (e, eqb-suc-suc (length s) 0) (and-true (eqb (length s) 0))

pub reads-single : (b : Bytes) → is_single b ≡ true → read_packet b 1 ≡ gives (made_of (get_or b 0 0) 1 (eqb (length b) 1))
unfolding is_single all_are
reads-single [] e = let z : ◌≡◌ {A = ℕ} 0 1 = cc in absurd (omega arith)
reads-single (toc ∷ s) e =
    let more = both (ltb 0 (length (toc ∷ s))) _ e in
    let last = both (ltb (length (toc ∷ s)) (frame_max + 2)) _ more.1 in
    let short = ltb-true (length (toc ∷ s)) (frame_max + 2) last.0 in
    by-streams (toc ∷ s) 1 (λ z. omega arith) (omega arith)
    ∙ rw (measured-single toc s (omega arith) last.1) (ap (λ (t : Bool). gives (made_of toc 1 t)) (silent-single s))
