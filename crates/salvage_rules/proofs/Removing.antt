-- The pieces that a page loses: the leading one, the trailing one, or both. Assumes nothing.
use Prim.Native.Nat.{ℕ}
use mathlib.Core.Path.{◌≡◌, refl, sym, ap, ◌∙◌}
use mathlib.Core.Bool.{Bool, true, false, not, ◌&&◌, ◌||◌}
use mathlib.Core.List.{List, [], ◌∷◌, ◌++◌, append-nil, append_assoc}
use native.Mathlib.Omega.{arith}
use lib.Dec.{ltb}
use lib.ListN.{length, take, drop, length-drop, take-append-drop}
use lib.Seq.{length-take-le}
use Rattle.octets.specs.Pick.{pick}
use Rattle.octets.specs.Octets.{Bytes, total}
use Rattle.page_lacing.specs.Lacing.{unfinished}
use Rattle.stream.specs.Page.{Page, continued, ends}
use Rattle.salvage_search.proofs.Starting.{true-false}
use Rattle.salvage_rules.specs.Tidy.{goes_through, open_after, up_to_last, first_bytes, without_first, without_last, first_cut, without}
use Rattle.salvage_rules.specs.Changes.{Piece, cuts_of}
use Rattle.salvage_rules.proofs.Pieces.{first-total, first_part, first-apart, last_part, last_apart, last-total, last-bytes, same-cut}

abbrev pub Fits : Page → Type 0
Fits p = length p.body ≡ total p.lacing

-- the leading one
record Front (q : Page) : Type 0 where
  piece : Piece
  lacing : q.lacing ≡ piece.lacing ++ (without_first q).lacing
  body : q.body ≡ piece.bytes ++ (without_first q).body
  cut : cuts_of piece.lacing piece.bytes ≡ first_cut q.lacing

front_cut : (l body : Bytes) → length body ≡ total l → cuts_of (first_part l) (take (first_bytes l) body) ≡ first_cut l
unfolding first_part
front_cut [] body e = refl
front_cut (v ∷ l) body e = by (ltb v 255) (take (first_bytes (v ∷ l)) body) ∙ ap (λ (n : ℕ). n ∷ []) (length-take-le (first_bytes (v ∷ l)) body (omega arith))
  where
    by : (t : Bool) (bytes : Bytes) → cuts_of (pick t (v ∷ []) (v ∷ first_part l)) bytes ≡ length bytes ∷ []
    by true bytes = refl
    by false bytes = refl

front : (q : Page) → Fits q → Front q
front q f = record {
  piece = record { lacing = first_part q.lacing; bytes = take (first_bytes q.lacing) q.body };
  lacing = first-apart q.lacing;
  body = sym (take-append-drop (first_bytes q.lacing) q.body);
  cut = front_cut q.lacing q.body f;
}

-- the trailing one
record Back (p : Page) : Type 0 where
  piece : Piece
  lacing : p.lacing ≡ (without_last p).lacing ++ piece.lacing
  body : p.body ≡ (without_last p).body ++ piece.bytes
  cut : cuts_of piece.lacing piece.bytes ≡ unfinished p.lacing ∷ []

-- there is one where the last value is 255
some-last : (v : ℕ) (l bytes : Bytes) → open_after (not (ltb v 255)) l ≡ true → cuts_of (last_part (v ∷ l)) bytes ≡ length bytes ∷ []
unfolding open_after last_part ends
some-last v [] bytes e = by (ltb v 255) e
  where
    by : (t : Bool) → not t ≡ true → cuts_of (pick (t || false) [] (v ∷ [])) bytes ≡ length bytes ∷ []
    by true q = true-false (sym q)
    by false q = refl
some-last v (w ∷ l) bytes e = by (ltb v 255 || (ltb w 255 || ends l)) (some-last w l bytes e)
  where
    by : (t : Bool) → cuts_of (last_part (w ∷ l)) bytes ≡ length bytes ∷ [] → cuts_of (pick t (last_part (w ∷ l)) (v ∷ (w ∷ l))) bytes ≡ length bytes ∷ []
    by true q = q
    by false q = refl

pub open_last : (o : Bool) (l bytes : Bytes) → open_after o l ≡ true → o && not (ends l) ≡ false → cuts_of (last_part l) bytes ≡ length bytes ∷ []
unfolding open_after ends
open_last true [] bytes e f = true-false f
open_last false [] bytes e f = true-false (sym e)
open_last o (v ∷ l) bytes e f = some-last v l bytes e

back : (p : Page) → Fits p → open_after (continued p) p.lacing ≡ true → goes_through p ≡ false → Back p
unfolding goes_through
back p f e g =
    let l : Bytes = p.lacing in
    let n : ℕ = total (up_to_last l) in
    let sum = last-total l in
    let size : length (drop n p.body) ≡ unfinished l = omega (arith, length-drop n p.body, last-bytes l) in
    record {
      piece = record { lacing = last_part l; bytes = drop n p.body };
      lacing = last_apart l;
      body = sym (take-append-drop n p.body);
      cut = open_last (continued p) l (drop n p.body) e g ∙ ap (λ (k : ℕ). k ∷ []) size;
    }

last_fits : (p : Page) → Fits p → Fits (without_last p)
last_fits p f =
    let sum = last-total p.lacing in
    length-take-le (total (up_to_last p.lacing)) p.body (omega arith)

-- both, or one, or none
pub record Pieces (p new : Page) (cuts : List ℕ) : Type 0 where
  pub lead : Piece
  pub trail : Piece
  pub lacing : p.lacing ≡ lead.lacing ++ (new.lacing ++ trail.lacing)
  pub body : p.body ≡ lead.bytes ++ (new.body ++ trail.bytes)
  pub told : cuts ≡ cuts_of lead.lacing lead.bytes ++ cuts_of trail.lacing trail.bytes

abbrev no_piece : Piece
no_piece = record { lacing = []; bytes = [] }

three : {a : Bytes} (up f k t : Bytes) → a ≡ up ++ t → up ≡ f ++ k → a ≡ f ++ (k ++ t)
three up f k t e q = e ∙ ap (λ (s : Bytes). s ++ t) q ∙ append_assoc f k t

pub pieces : (lead trail : Bool) (p : Page) → Fits p → (trail ≡ true → open_after (continued p) p.lacing ≡ true) → (trail ≡ true → goes_through p ≡ false)
    → (lead ≡ true → trail ≡ true → ends p.lacing ≡ true)
    → Pieces p (without lead trail p) (pick lead (first_cut p.lacing) [] ++ pick trail (unfinished p.lacing ∷ []) [])
pieces false false p f o g e = record { lead = no_piece; trail = no_piece; lacing = sym (append-nil p.lacing); body = sym (append-nil p.body); told = refl }
pieces true false p f o g e =
    let a = front p f in
    record {
      lead = a.piece;
      trail = no_piece;
      lacing = a.lacing ∙ ap (λ (s : Bytes). a.piece.lacing ++ s) (sym (append-nil (without_first p).lacing));
      body = a.body ∙ ap (λ (s : Bytes). a.piece.bytes ++ s) (sym (append-nil (without_first p).body));
      told = ap (λ (s : List ℕ). s ++ []) (sym a.cut);
    }
pieces false true p f o g e =
    let z = back p f (o refl) (g refl) in
    record { lead = no_piece; trail = z.piece; lacing = z.lacing; body = z.body; told = sym z.cut }
pieces true true p f o g e =
    let z = back p f (o refl) (g refl) in
    let a = front (without_last p) (last_fits p f) in
    record {
      lead = a.piece;
      trail = z.piece;
      lacing = three (without_last p).lacing a.piece.lacing (without true true p).lacing z.piece.lacing z.lacing a.lacing;
      body = three (without_last p).body a.piece.bytes (without true true p).body z.piece.bytes z.body a.body;
      told = rw (a.cut, z.cut, same-cut p.lacing (e refl refl));
    }

-- ---- a page without them

first_fits : (p : Page) → Fits p → Fits (without_first p)
first_fits p f =
    let sum = first-total p.lacing in
    omega (arith, length-drop (first_bytes p.lacing) p.body)

pub without-fits : (lead trail : Bool) (p : Page) → Fits p → Fits (without lead trail p)
without-fits true true p f = first_fits (without_last p) (last_fits p f)
without-fits true false p f = first_fits p f
without-fits false true p f = last_fits p f
without-fits false false p f = f
