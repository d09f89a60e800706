-- The kept pages are found in the first places of the work list. Assumes nothing.
use Rattle.std.specs.Prelude.{Result, Ok, Err}
use Rattle.std.proofs.Common.{◌≡◌, ℕ, suc, ◌+◌, ◌*◌, ◌/◌, ◌^◌, ◌<◌, ◌≤◌, Bool, true, false, ltb, List, [], ◌∷◌, ◌++◌, map, length, take, drop, sym, refl, ap, ◌∙◌, subst, true≢false, arith, length-append, take_at, le-ltb, lt-ltb}
use lib.Seq.{sets, sets-eq, take-append_seam}
use Rattle.octets.specs.Octets.{Bytes}
use Rattle.refusal.specs.declared.Refusal.TheVariants.{ShortRoom, HeadersIncomplete}
use Rattle.refusal.specs.Checks.{first_of}
use Rattle.refusal.specs.Numbers.{number_of}
use Rattle.refusal.specs.Told.{gives, refuses}
use Rattle.page_crc.specs.Crc.{page_crc}
use Rattle.stream.specs.State.{in_headers}
use Rattle.stream.specs.Stream.{phase_of}
use Rattle.salvage_rules.specs.Good.{Good}
use Rattle.salvage_rules.specs.Rounds.{pages_out, settled, kept_in}
use Rattle.salvage_rules.specs.Statements.{Each}
use Rattle.salvage_rules.specs.Listed.{listed_in}
use Rattle.salvage_list.specs.Collect.{stream_pages, places_of, Collected}
use Rattle.salvage_list.proofs.Collected.{collected_listed, few-pages, each-good}
use Rattle.salvage_kept.specs.Code.{R}
use Rattle.salvage_kept.specs.Promises.{AllGood, Settles}
use Rattle.salvage_kept.specs.Found.{is_short_work, find_kept, FindsKept}

-- 1
pub found-short : (b : Bytes) (old : List ℕ) → length old < length b / 27 → FindsKept b (Err ShortRoom) old old
unfolding find_kept first_of
found-short b old h = record { told = rw (lt-ltb (length old) (length b / 27) h); kept = tt; short = λ e. refl }

as_many : (gs : List Good) → length (places_of gs) ≡ length gs
as_many [] = refl
as_many (g ∷ gs) = ap suc (as_many gs)

module _ (b : Bytes) (old work : List ℕ) (n : ℕ) (fits : length b < 2 ^ 64) (enough : length b / 27 ≤ length old)
    (c : Collected (stream_pages page_crc b) n old work) where
  abbrev gs : List Good
  gs = stream_pages page_crc b

  pub few : n ≤ length old
  few = omega (arith, few-pages page_crc b, c.count)

  first : take n work ≡ places_of gs
  first =
      let k : length (places_of gs) ≡ n = as_many gs ∙ sym c.count in
      ap (take n) (c.stored ∙ sets-eq (places_of gs) old 0 (omega (arith, k, few))) ∙ take_at (places_of gs) (drop (0 + length (places_of gs)) old) n k

  listed : listed_in b (take n work) ≡ gs
  listed = ap (listed_in b) first ∙ collected_listed page_crc b fits

  pub all-good : AllGood b (take n work)
  all-good = subst (Each _) (sym listed) (each-good page_crc b)

  module _ (list : List ℕ) (due : Bool) (s : Settles b (take n work) list due) where
    kept : listed_in b list ≡ kept_in page_crc b
    kept = s.pages ∙ ap (settled R) listed

    headers : in_headers (phase_of (pages_out (kept_in page_crc b))) ≡ due
    headers = ap (λ (l : List Good). in_headers (phase_of (pages_out l))) (sym kept) ∙ sym s.headers

    long : is_short_work (length b) (length old) ≡ false
    long = le-ltb (length old) (length b / 27) enough

    not_short : {A : Type 0} → is_short_work (length b) (length old) ≡ true → A
    not_short e = let z : ◌≡◌ {A = Bool} true false = sym e ∙ long in absurd (true≢false z)

    -- 24
    pub found-due : (end : List ℕ) → due ≡ true → FindsKept b (Err HeadersIncomplete) old end
    unfolding find_kept first_of
    found-due end e = record { told = rw (long, headers ∙ e); kept = tt; short = λ q. not_short q }

    pub found-kept : (rest : List ℕ) → due ≡ false → length list ≡ n → FindsKept b (Ok n) old (list ++ rest)
    unfolding find_kept first_of
    found-kept rest e l = record {
      told = rw (long, headers ∙ e) (ap gives c.count);
      kept = (omega (arith, l, length-append list rest), ap (listed_in b) (take_at list rest n l) ∙ kept);
      short = λ q. not_short q;
    }
