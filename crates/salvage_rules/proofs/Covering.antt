-- Kept pages lie one after the other in the input, and what lies between them is skipped. Assumes nothing.
use Prim.Native.Nat.{ℕ, zero, suc, ◌+◌, ◌-◌, ◌≤◌}
use mathlib.Core.Path.{◌≡◌, refl, ap, ◌∙◌}
use mathlib.Core.Bool.{Bool, true, false, ◌&&◌}
use mathlib.Core.List.{List, [], ◌∷◌, ◌++◌, map, append-nil}
use mathlib.Core.Option.{Option, none, some}
use native.Mathlib.Omega.{arith}
use borrow.Author.Tests.{ltb-false}
use lib.Dec.{ltb, eqb}
use lib.ListN.{length}
use Rattle.octets.specs.Pick.{pick}
use Rattle.octets.specs.Octets.{Bytes}
use Rattle.page_size.specs.Size.{size_of}
use Rattle.stream.specs.Readings.{Readings, readings}
use Rattle.recording.specs.Judging.{RefusedPage}
use Rattle.salvage_search.specs.Search.{starts_page}
use Rattle.salvage_rules.specs.Good.{Good, end_of, good_at, good_from, good_pages, serial_in, has_serial, of_serial, of_stream}
use Rattle.salvage_rules.specs.Tidy.{Before, page_before, no_page, goes_through, cut_before, leading_cut, trailing_cut, Tidied, tidy_page, tidy_from}
use Rattle.salvage_rules.specs.Lines.{Line, line, skipped, changes, lines_from}
use Rattle.salvage_rules.specs.Rounds.{refused_in, missing, round_by, rounds, settled}
use Rattle.salvage_rules.specs.Statements.{Apart, between, skips_in, bytes_of, sizes_of, InputMadeUp}
use Rattle.salvage_rules.proofs.Found.{there, good-end}

-- ---- one after the other, between two places

lower : (lo low n : ℕ) (gs : List Good) → low ≤ lo → Apart lo n gs → Apart low n gs
unfolding Apart
lower lo low n [] h w = omega arith
lower lo low n (g ∷ gs) h w = (omega (arith, w.0), w.1)

left_out : (lo n : ℕ) (g : Good) (gs : List Good) → Apart lo n (g ∷ gs) → Apart lo n gs
unfolding Apart
left_out lo n g gs w = lower (end_of g) lo n gs (omega (arith, w.0)) w.1

-- ---- good pages

pub good-apart : (crc : Bytes → ℕ) (inside at n : ℕ) (s : Bytes) → inside ≤ length s → at + length s ≡ n → Apart (at + inside) n (good_from crc inside at s)
unfolding Apart good_from
good-apart crc inside at n [] h e = omega arith
good-apart crc (suc inside) at n (x ∷ s) h e =
    lower (suc at + inside) (at + suc inside) n (good_from crc inside (suc at) s) (omega arith) (good-apart crc inside (suc at) n s (omega arith) (omega arith))
good-apart crc zero at n (x ∷ s) h e =
    by (starts_page crc (x ∷ s)) refl (λ w. good-apart crc (size_of (x ∷ s) - 1) (suc at) n s w (omega arith)) (good-apart crc 0 (suc at) n s (omega arith) (omega arith))
  where
    by : (t : Bool) → starts_page crc (x ∷ s) ≡ t
        → (size_of (x ∷ s) - 1 ≤ length s → Apart (suc at + (size_of (x ∷ s) - 1)) n (good_from crc (size_of (x ∷ s) - 1) (suc at) s))
        → Apart (suc at + 0) n (good_from crc 0 (suc at) s)
        → Apart (at + 0) n (pick t (good_at at (x ∷ s) ∷ good_from crc (size_of (x ∷ s) - 1) (suc at) s) (good_from crc 0 (suc at) s))
    by true q a b =
        let t = there crc (x ∷ s) q in
        let w = a (omega (arith, t.after, t.within)) in
        (omega arith, lower (suc at + (size_of (x ∷ s) - 1)) (end_of (good_at at (x ∷ s))) n (good_from crc (size_of (x ∷ s) - 1) (suc at) s) (omega (arith, good-end crc (x ∷ s) q at, t.after)) w)
    by false q a b = lower (suc at + 0) (at + 0) n (good_from crc 0 (suc at) s) (omega arith) b

-- ---- some of them

serial-apart : (k lo n : ℕ) (gs : List Good) → Apart lo n gs → Apart lo n (of_serial k gs)
unfolding of_serial Apart
serial-apart k lo n [] w = w
serial-apart k lo n (g ∷ gs) w = by (has_serial k g) (serial-apart k (end_of g) n gs w.1)
  where
    by : (t : Bool) → Apart (end_of g) n (of_serial k gs) → Apart lo n (pick t (g ∷ of_serial k gs) (of_serial k gs))
    by true l = (w.0, l)
    by false l = lower (end_of g) lo n (of_serial k gs) (omega (arith, w.0)) l

none_apart : (lo n : ℕ) (gs : List Good) → Apart lo n gs → Apart lo n []
unfolding Apart
none_apart lo n [] w = w
none_apart lo n (g ∷ gs) w = let l = none_apart (end_of g) n gs w.1 in omega (arith, w.0)

pub stream-apart : (x : Option ℕ) (lo n : ℕ) (gs : List Good) → Apart lo n gs → Apart lo n (of_stream x gs)
stream-apart none lo n gs w = none_apart lo n gs w
stream-apart (some k) lo n gs w = serial-apart k lo n gs w

missing-apart : (k lo n : ℕ) (gs : List Good) → Apart lo n gs → Apart lo n (missing k gs)
unfolding Apart
missing-apart zero lo n [] w = w
missing-apart zero lo n (g ∷ gs) w = left_out lo n g gs w
missing-apart (suc k) lo n [] w = w
missing-apart (suc k) lo n (g ∷ gs) w = (w.0, missing-apart k (end_of g) n gs w.1)

rounds-apart : (R : Readings) (m lo n : ℕ) (gs : List Good) → Apart lo n gs → Apart lo n (rounds R m gs)
unfolding rounds
rounds-apart R zero lo n gs w = w
rounds-apart R (suc m) lo n gs w = by (refused_in R gs) (λ (ks : List Good) b. rounds-apart R m lo n ks b)
  where
    by : (v : Option RefusedPage) → ((ks : List Good) → Apart lo n ks → Apart lo n (rounds R m ks)) → Apart lo n (round_by (rounds R m) gs v)
    by none later = w
    by (some x) later = later (missing x.page gs) (missing-apart x.page lo n gs w)

-- ---- lines

skips-append : (a b : List Line) → skips_in (a ++ b) ≡ skips_in a ++ skips_in b
unfolding skips_in
skips-append [] b = refl
skips-append (l ∷ a) b = by (eqb l.what 0) (skips-append a b)
  where
    by : (t : Bool) → skips_in (a ++ b) ≡ skips_in a ++ skips_in b
        → pick t (l ∷ skips_in (a ++ b)) (skips_in (a ++ b)) ≡ pick t (l ∷ skips_in a) (skips_in a) ++ skips_in b
    by true e = ap (λ (ls : List Line). l ∷ ls) e
    by false e = e

cuts-skip : (at : ℕ) (ns : List ℕ) → skips_in (map (line 3 at) ns) ≡ []
unfolding skips_in
cuts-skip at [] = refl
cuts-skip at (n ∷ ns) = cuts-skip at ns

small-skip : (at : ℕ) (x y : Bool) → skips_in (pick x [] (line 1 at 4 ∷ []) ++ pick y (line 2 at 1 ∷ []) []) ≡ []
unfolding skips_in
small-skip at true true = refl
small-skip at true false = refl
small-skip at false true = refl
small-skip at false false = refl

changes-skip : (t : Tidied) → skips_in (changes t) ≡ []
unfolding changes
changes-skip t =
    let x : Bool = eqb t.page.header.sequence t.old.page.header.sequence in
    let at : ℕ = t.old.place in
    skips-append (pick x [] (line 1 at 4 ∷ []) ++ pick t.cleared (line 2 at 1 ∷ []) []) (map (line 3 at) t.cuts)
    ∙ rw (small-skip at x t.cleared, cuts-skip at t.cuts)

gap : (at to : ℕ) → skips_in (skipped at to) ≡ skipped at to
unfolding skipped skips_in
gap at to = by (ltb at to)
  where
    by : (t : Bool) → skips_in (pick t (line 0 at (to - at) ∷ []) []) ≡ pick t (line 0 at (to - at) ∷ []) []
    by true = refl
    by false = refl

skips_are : (x : Before) (k lo n : ℕ) (gs : List Good) → skips_in (lines_from n lo (tidy_from x k gs)) ≡ between lo n gs
unfolding lines_from tidy_from tidy_page between
skips_are x k lo n [] = gap lo n
skips_are x k lo n (g ∷ gs) =
    let t : Tidied = tidy_page (leading_cut x g.page gs) (trailing_cut g.page gs) k g in
    let y : Before = page_before g.page (cut_before x g.page && goes_through g.page) in
    let later : List Line = lines_from n (end_of g) (tidy_from y (suc k) gs) in
    skips-append (skipped lo g.place ++ changes t) later
    ∙ ap (λ (ls : List Line). ls ++ skips_in later) (skips-append (skipped lo g.place) (changes t))
    ∙ rw (gap lo g.place, changes-skip t, append-nil (skipped lo g.place), skips_are y (suc k) (end_of g) n gs)

-- ---- their sum

bytes-append : (a b : List Line) → bytes_of (a ++ b) ≡ bytes_of a + bytes_of b
unfolding bytes_of
bytes-append [] b = omega arith
bytes-append (l ∷ a) b = let e = bytes-append a b in omega arith

gap_bytes : (at to : ℕ) → at ≤ to → bytes_of (skipped at to) ≡ to - at
unfolding skipped bytes_of
gap_bytes at to h = by (ltb at to) refl
  where
    by : (t : Bool) → ltb at to ≡ t → bytes_of (pick t (line 0 at (to - at) ∷ []) []) ≡ to - at
    by true e = omega arith
    by false e = let l = ltb-false at to e in omega arith

sums : (lo n : ℕ) (gs : List Good) → Apart lo n gs → lo + (bytes_of (between lo n gs) + sizes_of gs) ≡ n
unfolding Apart between sizes_of
sums lo n [] w = omega (arith, gap_bytes lo n w)
sums lo n (g ∷ gs) w =
    let a = bytes-append (skipped lo g.place) (between (end_of g) n gs) in
    let d = gap_bytes lo g.place w.0 in
    let rest = sums (end_of g) n gs w.1 in
    omega (arith, w.0)

-- ---- all together

pub input_made_up : InputMadeUp
unfolding settled
input_made_up crc b =
    let gs : List Good = good_pages crc b in
    let zero_more : 0 + 0 ≡ 0 = omega arith in
    let w : Apart 0 (length b) gs = good-apart crc 0 0 (length b) b (omega arith) (omega arith) in
    let of_stream_lem : List Good = of_stream (serial_in gs) gs in
    let kept : List Good = rounds (readings crc) (length of_stream_lem) of_stream_lem in
    let apart : Apart 0 (length b) kept = rounds-apart (readings crc) (length of_stream_lem) 0 (length b) of_stream_lem (stream-apart (serial_in gs) 0 (length b) gs w) in
    let skips : skips_in (lines_from (length b) 0 (tidy_from no_page 0 kept)) ≡ between 0 (length b) kept = skips_are no_page 0 0 (length b) kept in
    let sum = sums 0 (length b) kept apart in
    record { apart = apart; skips = skips; sum = rw skips (omega arith) }
