-- The output is no longer than the input, and there is a line for each 7 bytes and one more at most. Assumes nothing.
use Prim.Native.Nat.{ℕ, suc, ◌+◌, ◌-◌, ◌*◌, ◌≤◌}
use mathlib.Core.Path.{◌≡◌, refl, ap, subst, ◌∙◌}
use mathlib.Core.Bool.{Bool, true, false, ◌&&◌}
use mathlib.Core.List.{List, [], ◌∷◌, ◌++◌, map}
use native.Mathlib.Omega.{arith}
use borrow.Author.Tests.{ltb-true}
use lib.Dec.{ltb, eqb}
use lib.ListN.{length, length-take, length-drop, length-append}
use Rattle.octets.specs.Pick.{pick}
use Rattle.octets.specs.Octets.{Bytes}
use Rattle.page_lacing.specs.Lacing.{unfinished}
use Rattle.page_size.proofs.Whole.{body-length}
use Rattle.page_writer.specs.Writing.{page_size}
use Rattle.page_writer.proofs.Written.{page-length, page-with_checksum}
use Rattle.stream.specs.Page.{Page, page_of, continued}
use Rattle.feed_pages.specs.Feedings.{together}
use Rattle.salvage_rules.specs.Good.{Good, end_of}
use Rattle.salvage_rules.specs.Tidy.{goes_through, Before, no_page, page_before, cut_before, leading_cut, trailing_cut, without_first, without_last, without, first_cut, Tidied, tidy_page, tidy_from}
use Rattle.salvage_rules.specs.Lines.{Line, line, skipped, changes, lines_from}
use Rattle.salvage_rules.specs.Rounds.{page_out, pages_out, kept_in}
use Rattle.salvage_rules.specs.Statements.{Each, bytes_in, Read, Apart, sizes_of, RoomEnough}
use Rattle.salvage_rules.proofs.Found.{read_one, kept_read}
use Rattle.salvage_rules.proofs.Covering.{input_made_up}
use Rattle.salvage_rules.proofs.Bytes.{first-length, last-length}
use Rattle.salvage_rules.proofs.Removing.{Fits, open_last}
use Rattle.salvage_rules.proofs.Differing.{trail_open, trail_through}
use Rattle.salvage_rules.specs.Changes.{cuts_of}
use Rattle.recording.proofs.Passing.{empty_cons}
use Rattle.salvage_rules.proofs.Pieces.{last_part, last-total, last-many}

-- ---- the output

-- no longer than the page p
pub record Shorter (p new : Page) : Type 0 where
  pub lacing : length new.lacing ≤ length p.lacing
  pub body : length new.body ≤ length p.body

first_shorter : (p : Page) → Shorter p (without_first p)
first_shorter p = record { lacing = first-length p.lacing; body = simp length-drop (omega arith) }

last_shorter : (p : Page) → Shorter p (without_last p)
last_shorter p = record { lacing = last-length p.lacing; body = simp length-take (omega arith) }

pub shorter : (lead trail : Bool) (p : Page) → Shorter p (without lead trail p)
shorter true true p =
    let a = last_shorter p in
    let b = first_shorter (without_last p) in
    record { lacing = omega (arith, a.lacing, b.lacing); body = omega (arith, a.body, b.body) }
shorter true false p = first_shorter p
shorter false true p = last_shorter p
shorter false false p = record { lacing = omega arith; body = omega arith }

pub page_out_lem : (t : Tidied) → length (page_out t) ≡ page_size t.page.lacing t.page.body
page_out_lem t =
    let p : Page = t.page in
    ap length (page-with_checksum p.header p.lacing p.body) ∙ page-length p.header _ p.lacing p.body

out_length : (x : Before) (k : ℕ) (gs : List Good) → length (together (map page_out (tidy_from x k gs))) ≤ sizes_of gs
unfolding tidy_from tidy_page together sizes_of
out_length x k [] = omega arith
out_length x k (g ∷ gs) =
    let t : Tidied = tidy_page (leading_cut x g.page gs) (trailing_cut g.page gs) k g in
    let y : Before = page_before g.page (cut_before x g.page && goes_through g.page) in
    let s = shorter (leading_cut x g.page gs) (trailing_cut g.page gs) g.page in
    let later = out_length y (suc k) gs in
    let e = length-append (page_out t) (together (map page_out (tidy_from y (suc k) gs))) in
    let here = page_out_lem t in
    omega (arith, s.lacing, s.body)

-- ---- the lines

first-few : (l : Bytes) → length (first_cut l) ≤ 1
first-few [] = omega arith
first-few (v ∷ l) = omega arith

two : (at : ℕ) (x y : Bool) → length (pick x [] (line 1 at 4 ∷ []) ++ pick y (line 2 at 1 ∷ []) []) ≤ 2
two at true true = omega arith
two at true false = omega arith
two at false true = omega arith
two at false false = omega arith

as_many : (at : ℕ) (ns : List ℕ) → length (map (line 3 at) ns) ≡ length ns
as_many at [] = refl
as_many at (n ∷ ns) = ap suc (as_many at ns)

-- a trailing piece has 255 bytes at least
some-values : (m : Bytes) → cuts_of m [] ≡ 0 ∷ [] → 1 ≤ length m
some-values [] e = empty_cons e
some-values (v ∷ m) e = omega arith

many-bytes : (p : Page) (qs : List Good) → Fits p → trailing_cut p qs ≡ true → 255 ≤ length p.body
unfolding goes_through
many-bytes p qs f h =
    let a = some-values (last_part p.lacing) (open_last (continued p) p.lacing [] (trail_open p qs h) (trail_through p qs h)) in
    omega (arith, last-many p.lacing, last-total p.lacing)

-- s lines before the page and c at it, which takes `size` bytes; `later` after it
sum : (lo place end n s c later all size : ℕ) → lo ≤ place → end ≡ place + size → end + 7 * later ≤ n + 7 → 7 * c + 6 ≤ size
    → s ≤ 1 → s ≤ place - lo → all ≡ s + c + later → lo + 7 * all ≤ n + 7
sum lo place end n s c later all size h e rest here one gap q = omega arith

-- of the removed pieces
few-cuts : (lead trail : Bool) (l body : Bytes) → (trail ≡ true → 255 ≤ length body)
    → 7 * length (pick lead (first_cut l) [] ++ pick trail (unfinished l ∷ []) []) ≤ 7 + length body
few-cuts true true l body many = let h = many refl in simp length-append (omega (arith, first-few l))
few-cuts true false l body many = simp length-append (omega (arith, first-few l))
few-cuts false true l body many = omega arith
few-cuts false false l body many = omega arith

few-changes : (t : Tidied) → length (changes t) ≤ 2 + length t.cuts
unfolding changes
few-changes t =
    let at : ℕ = t.old.place in
    let x : Bool = eqb t.page.header.sequence t.old.page.header.sequence in
    let a = length-append (pick x [] (line 1 at 4 ∷ []) ++ pick t.cleared (line 2 at 1 ∷ []) []) (map (line 3 at) t.cuts) in
    let b = as_many at t.cuts in
    omega (arith, two at x t.cleared)

page-lines : (lead trail : Bool) (k : ℕ) (g : Good) → (trail ≡ true → 255 ≤ length g.page.body)
    → 7 * length (changes (tidy_page lead trail k g)) + 6 ≤ page_size g.page.lacing g.page.body
unfolding tidy_page
page-lines lead trail k g many =
    omega (arith, few-changes (tidy_page lead trail k g), few-cuts lead trail g.page.lacing g.page.body many)

gap_lines : (at to : ℕ) → at ≤ to → (length (skipped at to) ≤ 1) × (length (skipped at to) ≤ to - at)
unfolding skipped
gap_lines at to h = by (ltb at to) refl
  where
    by : (t : Bool) → ltb at to ≡ t
        → (length (pick t (line 0 at (to - at) ∷ []) []) ≤ 1) × (length (pick t (line 0 at (to - at) ∷ []) []) ≤ to - at)
    by true e = let l = ltb-true at to e in (omega arith, omega arith)
    by false e = (omega arith, omega arith)

lines-length : (x : Before) (k lo n : ℕ) (gs : List Good) → Each (λ (g : Good). Fits g.page) gs → Apart lo n gs
    → lo + 7 * length (lines_from n lo (tidy_from x k gs)) ≤ n + 7
unfolding tidy_from tidy_page lines_from Each Apart
lines-length x k lo n [] f w = omega (arith, (gap_lines lo n w).0)
lines-length x k lo n (g ∷ gs) f w =
    let lead : Bool = leading_cut x g.page gs in
    let trail : Bool = trailing_cut g.page gs in
    let t : Tidied = tidy_page lead trail k g in
    let y : Before = page_before g.page (cut_before x g.page && goes_through g.page) in
    let later : List Line = lines_from n (end_of g) (tidy_from y (suc k) gs) in
    let rest : end_of g + 7 * length later ≤ n + 7 = lines-length y (suc k) (end_of g) n gs f.1 w.1 in
    let here = page-lines lead trail k g (many-bytes g.page gs f.0) in
    let gap = gap_lines lo g.place w.0 in
    let a = length-append (skipped lo g.place ++ changes t) later in
    let b = length-append (skipped lo g.place) (changes t) in
    sum lo g.place (end_of g) n (length (skipped lo g.place)) (length (changes t)) (length later) _ (page_size g.page.lacing g.page.body)
    w.0 refl rest here gap.0 gap.1 (a ∙ ap (λ (z : ℕ). z + length later) b)

-- ---- all together

all-fit : (crc : Bytes → ℕ) (b : Bytes) (gs : List Good) → Each (Read crc b) gs → Each (λ (g : Good). Fits g.page) gs
unfolding Each page_of
all-fit crc b [] a = tt
all-fit crc b (g ∷ gs) a =
    let fit : Fits (page_of (bytes_in b g)) = body-length (bytes_in b g) (read_one crc (bytes_in b g) a.0.good) in
    (subst (λ (p : Page). Fits p) a.0.page fit, all-fit crc b gs a.1)

pub room_enough : RoomEnough
unfolding pages_out
room_enough crc b =
    let m = input_made_up crc b in
    let kept : List Good = kept_in crc b in
    let lines = lines-length no_page 0 0 (length b) kept (all-fit crc b kept (kept_read crc b)) m.apart in
    record { output = omega (arith, out_length no_page 0 kept, m.sum); lines = omega arith }
