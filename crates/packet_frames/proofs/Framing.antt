-- The frames of a packet, way by way: whether they fit after a place of s, how many they are, and whether all are empty.
-- Assumes nothing.
use mathlib.Core.Path.{◌≡◌, refl, sym, ap, ◌∙◌}
use mathlib.Core.Bool.{Bool, true, false}
use mathlib.Core.List.{List, [], ◌∷◌, ◌++◌}
use Prim.Native.Nat.{ℕ, zero, suc, ◌+◌, ◌*◌, ◌-◌, ◌/◌, ◌%◌, ◌≤◌, ◌<◌}
use native.Mathlib.Nat.{div-add-mod', mul_comm}
use native.Mathlib.Omega.{arith}
use borrow.Author.Tests.{lt-ltb, le-ltb, eq-eqb, ne_eqb, eqb-true, eqb-false, ltb-false}
use lib.Dec.{ltb, eqb}
use lib.ListN.{length, drop, replicate, length-append, length-drop, length-replicate}
use lib.Seq.{drop-length, drop-drop}
use Rattle.octets.specs.Pick.{pick}
use Rattle.octets.specs.Octets.{Bytes, total}
use Rattle.packet_frames.specs.Frames.{Rule, R1, R2, frame_max, Read, short, value, coded, with_first, and_later, coded_times, is_silent}
use Rattle.packet_frames.specs.Packet.{Parsed, breaks, frames, placed, last_frame}
use Rattle.packet_frames.specs.Code.{summed, plain, Outline, outline, frames_in, placed_in}

-- ---- whether all frames are empty

same_test : (a b c d : ℕ) → (a ≡ b → c ≡ d) → (c ≡ d → a ≡ b) → eqb a b ≡ eqb c d
same_test a b c d f g = by (eqb a b) refl
  where
    by : (t : Bool) → eqb a b ≡ t → eqb a b ≡ eqb c d
    by true e = e ∙ sym (eq-eqb c d (f (eqb-true a b e)))
    by false e = e ∙ sym (ne_eqb c d (λ h. eqb-false a b e (g h)))

-- they are where they have no bytes in all
silent-total : (ns : List ℕ) → is_silent ns ≡ eqb (total ns) 0
unfolding is_silent total
silent-total [] = refl
silent-total (zero ∷ ns) = let e : 0 + total ns ≡ total ns = omega arith in rw e (silent-total ns)
silent-total (suc n ∷ ns) = rw (ne_eqb (suc n) 0 (λ e. omega arith), ne_eqb (suc n + total ns) 0 (λ e. omega arith))

total-replicate : (m n : ℕ) → total (replicate m n) ≡ m * n
unfolding total
total-replicate zero n = omega arith
total-replicate (suc m) n = rw (total-replicate m n) (omega arith)

-- m equal frames that take n bytes
silent-equal : (m n : ℕ) → n % m ≡ 0 → is_silent (replicate m (n / m)) ≡ eqb n 0
silent-equal m n e =
    let d : n / m * m + n % m ≡ n = div-add-mod' n m in
    let whole : m * (n / m) ≡ n = mul_comm m (n / m) ∙ omega arith in
    silent-total (replicate m (n / m)) ∙ ap (λ (k : ℕ). eqb k 0) (total-replicate m (n / m) ∙ whole)

total-last : (ns : List ℕ) (k : ℕ) → total (ns ++ (k ∷ [])) ≡ total ns + k
unfolding total
total-last [] k = omega arith
total-last (n ∷ ns) k = rw (total-last ns k) (omega arith)

-- frames of n bytes in all, and a last one that leaves p of `room` bytes
silent-last : (ns : List ℕ) (n p room : ℕ) → total ns ≡ n → n + p ≤ room → is_silent (ns ++ ((room - (n + p)) ∷ [])) ≡ eqb room p
silent-last ns n p room w h =
    let k : ℕ = room - (n + p) in
    let whole : total (ns ++ (k ∷ [])) ≡ n + k = total-last ns k ∙ ap (λ (j : ℕ). j + k) w in
    silent-total (ns ++ (k ∷ [])) ∙ ap (λ (j : ℕ). eqb j 0) whole
    ∙ same_test (n + k) 0 room p (λ e. omega arith) (λ e. omega arith)

-- ---- the frames, way by way

abbrev framed : ℕ → Bool → Outline
framed m empty = record { count = m; silent = empty }

-- frames of n bytes in all and p bytes of padding
module _ (s : Bytes) (at m n p : ℕ) where
  pub placed-short : length s - at < n + p → short ≡ placed_in m n p (drop at s)
  placed-short h = rw (length-drop at s, lt-ltb (length s - at) (n + p) h)

  pub placed-fits : n + p ≤ length s - at → value (framed m (eqb n 0)) (drop (at + n + p) s) ≡ placed_in m n p (drop at s)
  placed-fits h =
      let e : at + (n + p) ≡ at + n + p = omega arith in
      rw (length-drop at s, le-ltb (length s - at) (n + p) h, drop-drop (n + p) at s, e)

-- equal frames
module _ (s : Bytes) (at m p : ℕ) where
  pub equal-short : length s - at < p → short ≡ frames_in false (plain m false p (drop at s))
  equal-short h = rw (length-drop at s, lt-ltb (length s - at) p h)

  module _ (h : p ≤ length s - at) where
    pub equal_uneven : ((length s - at - p) % m ≡ 0 → ⊥) → short ≡ frames_in false (plain m false p (drop at s))
    equal_uneven n = rw (length-drop at s, le-ltb (length s - at) p h, ne_eqb ((length s - at - p) % m) 0 n)

    module _ (e : (length s - at - p) % m ≡ 0) where
      pub equal-long : frame_max < (length s - at - p) / m → short ≡ frames_in false (plain m false p (drop at s))
      equal-long l =
          rw (length-drop at s, le-ltb (length s - at) p h, eq-eqb ((length s - at - p) % m) 0 e, lt-ltb frame_max ((length s - at - p) / m) l)

      pub equal-fits : (length s - at - p) / m ≤ frame_max
          → value (framed m (eqb (length s - at - p) 0)) (drop (length s) s) ≡ frames_in false (plain m false p (drop at s))
      equal-fits l =
          rw
          (length-drop at s, le-ltb (length s - at) p h, eq-eqb ((length s - at - p) % m) 0 e, le-ltb frame_max ((length s - at - p) / m) l, drop-length s)
          (rw (length-replicate m ((length s - at - p) / m), silent-equal m (length s - at - p) e))

-- lengths that were read: there are as many as were asked for
record Sized (n : ℕ) (b : Bytes) (sum : ℕ) (t : Bytes) : Type 0 where
  pub sizes : List ℕ
  pub read : coded_times n b ≡ value sizes t
  pub whole : total sizes ≡ sum
  pub count : length sizes ≡ n

pub times-length : (n : ℕ) (b ns t : Bytes) → coded_times n b ≡ value ns t → length ns ≡ n
unfolding coded_times
times-length zero b ns t e = let z : ns ≡ [] = cc in rw z
times-length (suc n) b ns t e = one (coded b) (times-length n) e
  where
    more : (k : ℕ) (r : Read (List ℕ)) → ((ms : List ℕ) (u : Bytes) → r ≡ value ms u → length ms ≡ n) → with_first k r ≡ value ns t → length ns ≡ suc n
    more k short h f = let z : ◌≡◌ {A = ℕ} 0 1 = cc in absurd (omega arith)
    more k (value ms u) h f = let z : ns ≡ k ∷ ms = cc in rw z (ap suc (h ms u refl))

    one : (r : Read ℕ) → ((u ms v : Bytes) → coded_times n u ≡ value ms v → length ms ≡ n) → and_later (coded_times n) r ≡ value ns t → length ns ≡ suc n
    one short h f = let z : ◌≡◌ {A = ℕ} 0 1 = cc in absurd (omega arith)
    one (value k u) h f = more k (coded_times n u) (h u) f

sized : (n : ℕ) (b : Bytes) (sum : ℕ) (t : Bytes) → value sum t ≡ summed (coded_times n b) → Sized n b sum t
sized n b sum t e = by (coded_times n b) refl e
  where
    by : (r : Read (List ℕ)) → coded_times n b ≡ r → value sum t ≡ summed r → Sized n b sum t
    by short q f = let z : ◌≡◌ {A = ℕ} 0 1 = cc in absurd (omega arith)
    by (value ns u) q f =
        let z : u ≡ t = cc in
        let w : total ns ≡ sum = cc in
        record { sizes = ns; read = rw z at q; whole = w; count = times-length n b ns u q }

unread : (r : Read (List ℕ)) → short ≡ summed r → r ≡ short
unread short e = refl
unread (value ns t) e = let z : ◌≡◌ {A = ℕ} 0 1 = cc in absurd (omega arith)

-- the frames, where they fit
outline-pick : (t : Bool) (rule : Rule) (q : Parsed) → outline (pick t (breaks rule) q) ≡ pick t short (outline q)
outline-pick true rule q = refl
outline-pick false rule q = refl

placed-outline : (ns : List ℕ) (m n p : ℕ) (t : Bytes) → length ns ≡ m → total ns ≡ n → outline (placed R1 ns p t) ≡ placed_in m n p t
placed-outline ns m n p t c w = rw w (outline-pick (ltb (length t) (n + p)) R1 (frames ns (drop (n + p) t)) ∙ rw (c, silent-total ns, w))

-- self-delimited: a length for each frame, or one for all
module _ (s : Bytes) (at m p : ℕ) where
  pub each-cut : short ≡ summed (coded_times m (drop at s)) → short ≡ frames_in true (plain m true p (drop at s))
  each-cut e = rw (unread (coded_times m (drop at s)) e)

  pub each_placed : {q : Read Outline} (n next : ℕ) → value n (drop next s) ≡ summed (coded_times m (drop at s)) → q ≡ placed_in m n p (drop next s)
      → q ≡ frames_in true (plain m true p (drop at s))
  each_placed n next e f =
      let z = sized m (drop at s) n (drop next s) e in
      f ∙ rw z.read (sym (placed-outline z.sizes m n p (drop next s) z.count z.whole))

  pub all-cut : short ≡ coded (drop at s) → short ≡ frames_in true (plain m false p (drop at s))
  all-cut e = rw (← e)

  pub all_placed : {q : Read Outline} (n next : ℕ) → value n (drop next s) ≡ coded (drop at s) → q ≡ placed_in m (m * n) p (drop next s)
      → q ≡ frames_in true (plain m false p (drop at s))
  all_placed n next e f =
      f ∙ rw (← e) (sym (placed-outline (replicate m n) m (m * n) p (drop next s) (length-replicate m n) (total-replicate m n)))

-- m frames, the last one with what is left of `room` bytes after n bytes for the others and p bytes of padding
abbrev last_in : ℕ → ℕ → ℕ → ℕ → Read Outline
last_in m n p room = pick (ltb room (n + p)) short (pick (ltb frame_max (room - (n + p))) short (value (framed m (eqb room p)) []))

last-outline : (ns : List ℕ) (m n p : ℕ) (t : Bytes) → length ns + 1 ≡ m → total ns ≡ n → outline (last_frame R1 ns p t) ≡ last_in m n p (length t)
last-outline ns m n p t c w =
    rw w
    (outline-pick (ltb (length t) (n + p)) R1 rest
    ∙ by (ltb (length t) (n + p)) refl)
  where
    k : ℕ
    k = length t - (n + p)

    rest : Parsed
    rest = pick (ltb frame_max k) (breaks R2) (frames (ns ++ (k ∷ [])) [])

    by : (b : Bool) → ltb (length t) (n + p) ≡ b
        → pick b short (outline rest) ≡ pick b short (pick (ltb frame_max k) short (value (framed m (eqb (length t) p)) []))
    by true e = refl
    by false e =
        let count : length (ns ++ (k ∷ [])) ≡ m = length-append ns (k ∷ []) ∙ c in
        outline-pick (ltb frame_max k) R2 (frames (ns ++ (k ∷ [])) [])
        ∙ rw (count, silent-last ns n p (length t) w (ltb-false (length t) (n + p) e))

-- the last frame takes the rest
pub last-cut : (s : Bytes) (at m p : ℕ) → short ≡ summed (coded_times (m - 1) (drop at s)) → short ≡ frames_in false (plain m true p (drop at s))
last-cut s at m p e = rw (unread (coded_times (m - 1) (drop at s)) e)

-- the lengths of the other frames, read up to the place `next`: n in all
pub record Others (s : Bytes) (at m p n next : ℕ) : Type 0 where
  pub some : 1 ≤ m
  pub inside : next ≤ length s
  pub read : value n (drop next s) ≡ summed (coded_times (m - 1) (drop at s))

module _ {s : Bytes} {at m p n next : ℕ} (o : Others s at m p n next) where
  last-told : frames_in false (plain m true p (drop at s)) ≡ last_in m n p (length s - next)
  last-told =
      let z = sized (m - 1) (drop at s) n (drop next s) o.read in
      let count : length z.sizes + 1 ≡ m = omega arith in
      rw (z.read, ← length-drop next s) (last-outline z.sizes m n p (drop next s) count z.whole)

  pub last-short : length s - next < n + p → short ≡ frames_in false (plain m true p (drop at s))
  last-short h = rw (last-told, lt-ltb (length s - next) (n + p) h)

  module _ (h : n + p ≤ length s - next) where
    pub last-long : frame_max < length s - next - (n + p) → short ≡ frames_in false (plain m true p (drop at s))
    last-long l = rw (last-told, le-ltb (length s - next) (n + p) h, lt-ltb frame_max (length s - next - (n + p)) l)

    pub last_fits : length s - next - (n + p) ≤ frame_max
        → value (framed m (eqb (length s - next) p)) (drop (length s) s) ≡ frames_in false (plain m true p (drop at s))
    last_fits l = rw (last-told, le-ltb (length s - next) (n + p) h, le-ltb frame_max (length s - next - (n + p)) l, drop-length s)
