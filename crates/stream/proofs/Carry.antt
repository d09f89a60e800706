-- What a feeding leaves in the carry buffer is what the state that follows holds; a refusal keeps the held bytes (T0).
-- Assumes nothing.
use Prim.Native.Nat.{ℕ, ◌+◌, ◌≤◌}
use mathlib.Core.Path.{◌≡◌, refl, sym, ap, subst, ◌∙◌}
use mathlib.Core.Bool.{Bool, true, false, false≢true}
use mathlib.Core.List.{List, [], ◌∷◌, ◌++◌}
use mathlib.Core.Option.{Option, none, some}
use native.Mathlib.Nat.{le_refl}
use native.Mathlib.Omega.{arith}
use lib.ListN.{length, take, drop, length-append}
use lib.Seq.{take-length, take-append_seam, take-append-le, take-take, take-paste, length-take-le}
use Rattle.octets.specs.Pick.{pick}
use Rattle.octets.specs.Octets.{Bytes, copied}
use Rattle.octets.proofs.Copying.{copied-fits, length-copied}
use Rattle.refusal.specs.declared.Refusal.{Refusal}
use Rattle.refusal.specs.declared.Refusal.TheVariants.{AfterEnd, NotOnePage, WrongChecksum, OtherSerial, OutOfSequence, WrongFlags, WrongContinued, PacketTooLong}
use Rattle.refusal.specs.Checks.{Check, ◌when◌, first_of}
use Rattle.stream.specs.declared.Phase.{Phase}
use Rattle.stream.specs.declared.Phase.TheVariants.{First, Comment, Audio, Opened, Ended}
use Rattle.stream.specs.declared.Pending.{Pending}
use Rattle.stream.specs.declared.Pending.TheVariants.{Nothing, Held, Dropped}
use Rattle.stream.specs.declared.Core.{Core}
use Rattle.stream.specs.Page.{Page, page_of, continued, whole, rest}
use Rattle.stream.specs.Readings.{Readings}
use Rattle.stream.specs.State.{Carried, nothing, dropped, held, State, is_comment, expecting_in, expecting}
use Rattle.stream.specs.Packets.{Seen, begun, join, is_long}
use Rattle.limits.specs.Limits.{packet_max}
use Rattle.stream.specs.Rules.{checks_on}
use Rattle.stream.specs.Feed.{carried_in, pending_of, view, first_piece, appended, new_rest, with_rest, is_late, carry_after}
use Rattle.stream.proofs.Pieces.{Fits, RestFits}

-- ---- copies

-- what is copied to place 0 is there
pub fresh : (b c : Bytes) → length b ≤ length c → take (length b) (copied c 0 b) ≡ b
fresh b c h =
    ap (take (length b)) (copied-fits c 0 b (omega arith)) ∙ rw (take-length b) (take-append_seam b (drop (0 + length b) c))

-- what is before the copy stays
stays-before : (n : ℕ) (b c : Bytes) → n + length b ≤ length c → take n (copied c n b) ≡ take n c
stays-before n b c h =
    let e : length (take n c) ≡ n = length-take-le n c (omega arith) in
    let up : n ≤ length (take n c ++ take (length b) b) = simp length-append (omega arith) in
    let low : n ≤ length (take n c) = omega arith in
    ap (take n) (copied-fits c n b h)
    ∙ take-append-le n (take n c ++ take (length b) b) (drop (n + length b) c) up
    ∙ take-append-le n (take n c) (take (length b) b) low
    ∙ take-take n n c (le_refl n)

-- and the copy is after it
pub joined-there : (n : ℕ) (b c : Bytes) → n + length b ≤ length c → take (n + length b) (copied c n b) ≡ take n c ++ b
joined-there n b c h =
    ap (take (n + length b)) (copied-fits c n b h)
    ∙ take-paste c n b (length b) (omega arith) (le_refl (length b))
    ∙ ap (λ (s : Bytes). take n c ++ s) (take-length b)

-- ---- the held bytes are the carry buffer's

abbrev Backed : Carried → Bytes → Type 0
Backed nothing c = Unit {0}
Backed dropped c = Unit {0}
Backed (held n h) c = h ≡ take n c

either_length : (t : Bool) (x y : Bytes) → length x ≡ length y → length (pick t x y) ≡ length y
either_length true x y e = e
either_length false x y e = refl

length-appended : (ph : Phase) (cr : Carried) (b c : Bytes) → length (appended ph cr b c) ≡ length c
length-appended ph nothing b c = either_length (is_comment ph) _ c (length-copied c 0 _)
length-appended ph dropped b c = refl
length-appended ph (held n h) b c = length-copied c n b

length-with_rest : (r : Option Bytes) (c : Bytes) → length (with_rest r c) ≡ length c
length-with_rest none c = refl
length-with_rest (some b) c = length-copied c 0 b

pub length-carry : (v : Option Refusal) (s : State) (p : Page) (c : Bytes) → length (carry_after v s p c) ≡ length c
unfolding carry_after
length-carry none s p c = length-with_rest (new_rest s.carried (whole p) (rest p))
    (appended s.phase s.carried (first_piece (whole p) (rest p)) c)
    ∙ length-appended s.phase s.carried (first_piece (whole p) (rest p)) c
length-carry (some n) s p c = either_length (is_late n) _ c (length-appended s.phase s.carried _ c)

-- the carry buffer after an accepted page holds what the next state carries
begun-is : (r : Option Bytes) (c : Bytes) → packet_max ≤ length c → RestFits r → carried_in (pending_of (begun r)) (with_rest r c) ≡ begun r
begun-is none c room f = refl
begun-is (some b) c room f = ap (held (length b)) (fresh b c (omega arith))

pub holds : (ph : Phase) (cr : Carried) (c : Bytes) (ws : List Bytes) (r : Option Bytes) → packet_max ≤ length c → Backed cr c
    → Fits cr (first_piece ws r) → RestFits (new_rest cr ws r)
    → carried_in (pending_of (join cr ws r).left) (with_rest (new_rest cr ws r) (appended ph cr (first_piece ws r) c)) ≡ (join cr ws r).left
unfolding join
holds ph nothing c [] r room b f g = begun-is r (appended ph nothing (first_piece [] r) c)
    (subst (λ (n : ℕ). packet_max ≤ n) (sym (length-appended ph nothing (first_piece [] r) c)) room) g
holds ph nothing c (w ∷ ws) r room b f g = begun-is r (appended ph nothing w c)
    (subst (λ (n : ℕ). packet_max ≤ n) (sym (length-appended ph nothing w c)) room) g
holds ph dropped c [] r room b f g = refl
holds ph dropped c (w ∷ ws) r room b f g = begun-is r c room g
holds ph (held n h) c [] none room b f g = ap (held n) (stays-before n [] c (let k : n + 0 ≤ packet_max = f in omega arith) ∙ sym b)
holds ph (held n h) c [] (some w) room b f g =
    ap (held (n + length w)) (joined-there n w c (let k : n + length w ≤ packet_max = f in omega arith) ∙ ap (λ (x : Bytes). x ++ w) (sym b))
holds ph (held n h) c (w ∷ ws) r room b f g = begun-is r (copied c n w) (subst (λ (n : ℕ). packet_max ≤ n) (sym (length-copied c n w)) room) g

-- under a refusal the held bytes stay
keeps : (ph : Phase) (k : Pending) (b c : Bytes) → packet_max ≤ length c → Fits (carried_in k c) b
    → carried_in k (appended ph (carried_in k c) b c) ≡ carried_in k c
keeps ph Nothing b c room f = refl
keeps ph (Held n) b c room f = ap (held n) (stays-before n b c (let k : n + length b ≤ packet_max = f in omega arith))
keeps ph Dropped b c room f = refl

-- ---- a refusal that touches the carry buffer has found no packet too long

abbrev pub is_done : Option Refusal → Bool
is_done none = true
is_done (some n) = is_late n

late_short : (a b c d e f g h : Bool) (cs : List Check)
    → is_done (first_of (AfterEnd when a ∷ NotOnePage when b ∷ WrongChecksum when c ∷ OtherSerial when d ∷ OutOfSequence when e ∷ WrongFlags when f ∷ WrongContinued when g ∷ PacketTooLong when h ∷ cs)) ≡ true
    → h ≡ false
unfolding first_of
late_short true b c d e f g h cs k = absurd (false≢true k)
late_short false true c d e f g h cs k = absurd (false≢true k)
late_short false false true d e f g h cs k = absurd (false≢true k)
late_short false false false true e f g h cs k = absurd (false≢true k)
late_short false false false false true f g h cs k = absurd (false≢true k)
late_short false false false false false true g h cs k = absurd (false≢true k)
late_short false false false false false false true h cs k = absurd (false≢true k)
late_short false false false false false false false true cs k = absurd (false≢true k)
late_short false false false false false false false false cs k = refl

pub not-long : (R : Readings) (s : State) (b : Bytes) (x : Seen) → is_done (first_of (checks_on R s b x)) ≡ true
    → is_long s.carried (page_of b).lacing ≡ false
unfolding checks_on
not-long R s b x k = late_short _ _ _ _ _ _ _ (is_long s.carried (page_of b).lacing) _ k

-- ---- the state that expects a page is backed by the buffer too

pub backed : (k : Core) (c : Bytes) (p : Page) → Backed (expecting (view k c) p).carried c
unfolding expecting
backed k c p = in_phase k.phase
  where
    in_pending : (q : Pending) → Backed (carried_in q c) c
    in_pending Nothing = tt
    in_pending (Held n) = refl
    in_pending Dropped = tt

    joining : (t : Bool) → Backed (pick t dropped nothing) c
    joining true = tt
    joining false = tt

    in_phase : (ph : Phase) → Backed (expecting_in ph (view k c) p).carried c
    in_phase First = tt
    in_phase Comment = in_pending k.pending
    in_phase Audio = in_pending k.pending
    in_phase Opened = joining (continued p)
    in_phase Ended = in_pending k.pending

-- a refusal keeps the held bytes, whatever phase expected the page
pub kept-held : (k : Core) (c b : Bytes) (p : Page) → packet_max ≤ length c → Fits (expecting (view k c) p).carried b
    → carried_in k.pending (appended (expecting (view k c) p).phase (expecting (view k c) p).carried b c) ≡ carried_in k.pending c
unfolding expecting
kept-held k c b p room f = in_phase k.phase f
  where
    joining : (t : Bool) → carried_in k.pending (appended Audio (pick t dropped nothing) b c) ≡ carried_in k.pending c
    joining true = refl
    joining false = refl

    in_phase : (ph : Phase) → Fits (expecting_in ph (view k c) p).carried b
        → carried_in k.pending (appended (expecting_in ph (view k c) p).phase (expecting_in ph (view k c) p).carried b c) ≡ carried_in k.pending c
    in_phase First g = refl
    in_phase Comment g = keeps k.phase k.pending b c room g
    in_phase Audio g = keeps k.phase k.pending b c room g
    in_phase Opened g = joining (continued p)
    in_phase Ended g = keeps k.phase k.pending b c room g
