-- Pages and lines written one after the other: what is left of them decides. Assumes nothing.
use Rattle.std.proofs.Common.{◌≡◌, ℕ, suc, ◌+◌, ◌%◌, ◌^◌, ◌<◌, ◌≤◌, List, [], ◌∷◌, ◌++◌, map, length, sym, refl, ap, ◌∙◌, subst, ap₂, arith, length-append}
use lib.Seq.{sets}
use Rattle.octets.specs.Octets.{Bytes, copied}
use Rattle.text_put.proofs.Filling.{Filling, filling_first, filling_next, filling_done}
use Rattle.stream.specs.Page.{page_of}
use Rattle.feed_pages.specs.Feedings.{together}
use Rattle.salvage_rules.specs.Good.{Good}
use Rattle.salvage_rules.specs.Tidy.{tidy_page, tidy_from}
use Rattle.salvage_rules.specs.Lines.{Line, skipped, lines_from}
use Rattle.salvage_rules.specs.Rounds.{page_out}
use Rattle.salvage_rules.specs.Steps.{past_all}
use Rattle.salvage_rules.specs.Listed.{listed_in, pages_to, pages_from}
use Rattle.salvage_page.specs.Statements.{kept_size}
use Rattle.salvage_feed.specs.Feeding.{tidied_bytes}
use Rattle.salvage_list.specs.declared.Listed.{Listed}
use Rattle.salvage_list.specs.Next.{ListedIs}
use Rattle.salvage.specs.declared.walk.Walk.{Walk}
use Rattle.salvage.specs.declared.walk.Changes.{Changes}
use Rattle.salvage.specs.Columns.{changes_of, changes_lines, line_count}
use Rattle.salvage.specs.Code.{end_after, bytes_left, lines_left, lines_of, begun, Kept, all_bytes, all_lines, Walks, walk_by, CanPut, CanWrite, Walked, PagesWritten}
use Rattle.salvage.proofs.Columns.{column_append, changes-length}
use Rattle.salvage.proofs.Walking.{t, bytes_left_lem, lines_left_lem}
use Rattle.salvage.proofs.Steps.{p, has, good, size_is, told_is, walk_over}

-- ---- pages

-- the pages of the list ws in the output, which was d, as far as the walk w has come
abbrev pub Pages : Bytes → List ℕ → Bytes → Walk → Bytes → Type 0
Pages b ws d w e = Filling d 0 (all_bytes b ws) e w.bytes (bytes_left (pages_to b ws w.at) (pages_from b ws w.at))

pub pages_begin : (b : Bytes) (ws : List ℕ) (d : Bytes) → Pages b ws d begun d
unfolding listed_in
pages_begin b ws d = filling_first d 0 (all_bytes b ws)

module _ {b : Bytes} {ws : List ℕ} {w : Walk} {next : Listed} (fits : length b < 2 ^ 64) (long : length ws < 2 ^ 64) (kept : Kept b ws)
    (h : Walks b ws w) (is : ListedIs b ws w.prior w.cut w.at next) (inside : next.index < length ws) where
  abbrev page : Bytes
  page = p fits long kept h is inside

  out_is : tidied_bytes next.form w.number page ≡ page_out (t h (has fits long kept h is inside))
  unfolding tidy_page
  out_is = rw is.place

  module _ (d : Bytes) (room : length (all_bytes b ws) ≤ length d) (e : Bytes) (f : Pages b ws d w e) where
    left : Filling d 0 (all_bytes b ws) e w.bytes (page_out (t h (has fits long kept h is inside)) ++ bytes_left (pages_to b ws (suc next.index)) (pages_from b ws (suc next.index)))
    left = subst (Filling d 0 (all_bytes b ws) e w.bytes) (bytes_left_lem h (has fits long kept h is inside)) f

    pub can_put : CanPut page next w e
    can_put =
        let x : List ℕ = page_out (t h (has fits long kept h is inside)) in
        let y : List ℕ = bytes_left (pages_to b ws (suc next.index)) (pages_from b ws (suc next.index)) in
        record {
          good = good fits long kept h is inside;
          link = is.link;
          number = let n : w.number ≡ length (pages_to b ws w.at) % 2 ^ 32 = h.is.number in omega arith;
          room = omega (arith, size_is fits long kept h is inside, left.place, left.size, length-append x y);
        }

    pub pages_on : (c : Changes) {r : Walk} {o : Bytes} → o ≡ copied e w.bytes (tidied_bytes next.form w.number page)
        → r ≡ walk_by w next (next.place + length page) (kept_size next.form page) (line_count c) → Pages b ws d r o
    pages_on c {r} {o} q z =
        rw z
        (filling_next left (record { place = ap (λ (k : ℕ). w.bytes + k) (size_is fits long kept h is inside); output = q ∙ ap (copied e w.bytes) out_is })
        (omega arith))

pub pages-end : {b : Bytes} {ws : List ℕ} {w : Walk} {d e : Bytes} → length (all_bytes b ws) ≤ length d → Walked b ws w → Pages b ws d w e → PagesWritten b ws d w e
unfolding tidy_from together
pages-end {b} {ws} {w} {d} {e} room x f =
    let over : Filling d 0 (all_bytes b ws) e w.bytes [] = subst (λ (l : List Good). Filling d 0 (all_bytes b ws) e w.bytes (bytes_left (pages_to b ws w.at) l)) x.over f in
    record { walked = x; output = (filling_done over (omega arith)).output }

-- ---- lines

-- the lines in a column, which was d, by a field
pub record Column (field : Line → ℕ) (b : Bytes) (ws : List ℕ) (d : List ℕ) (w : Walk) (e : List ℕ) : Type 0 where
  pub long : length e ≡ length d
  pub same : sets e w.lines (map field (lines_left (length b) (pages_to b ws w.at) (pages_from b ws w.at))) ≡ sets d 0 (map field (all_lines b ws))

pub column_begin : (field : Line → ℕ) (b : Bytes) (ws : List ℕ) (d : List ℕ) → Column field b ws d begun d
unfolding listed_in
column_begin field b ws d = record { long = refl; same = refl }

module _ {b : Bytes} {ws : List ℕ} {w : Walk} {next : Listed} (fits : length b < 2 ^ 64) (long : length ws < 2 ^ 64) (kept : Kept b ws)
    (h : Walks b ws w) (is : ListedIs b ws w.prior w.cut w.at next) (inside : next.index < length ws) where
  pub column_on : (field : Line → ℕ) {d e o : List ℕ} {c : Changes} {r : Walk} → Column field b ws d w e
      → c ≡ changes_of (page_of (p fits long kept h is inside)).lacing next w
      → o ≡ sets e w.lines (map field (changes_lines w.end next.place c)) → length o ≡ length e
      → r ≡ walk_by w next (next.place + length (p fits long kept h is inside)) (kept_size next.form (p fits long kept h is inside)) (line_count c)
      → Column field b ws d r o
  column_on field {d} {e} {o} {c} {r} f u q l z =
      let told : changes_lines w.end next.place c ≡ lines_of w.end (t h (has fits long kept h is inside)) =
      ap (changes_lines w.end next.place) u ∙ told_is fits long kept h is inside in
      let n : line_count c ≡ length (lines_of w.end (t h (has fits long kept h is inside))) = sym (changes-length w.end next.place c) ∙ ap length told in
      let rest : List Line = lines_left (length b) (pages_to b ws (suc next.index)) (pages_from b ws (suc next.index)) in
      rw z
      (record {
        long = l ∙ f.long;
        same =
            ap₂ (λ (x : List ℕ) (k : ℕ). sets x (w.lines + k) (map field rest)) (q ∙ ap (λ (x : List Line). sets e w.lines (map field x)) told) n
            ∙ sym (column_append field e w.lines (lines_of w.end (t h (has fits long kept h is inside))) rest)
            ∙ ap (λ (x : List Line). sets e w.lines (map field x)) (sym (lines_left_lem h (has fits long kept h is inside))) ∙ f.same;
      })

pub column_end : (field : Line → ℕ) {b : Bytes} {ws : List ℕ} {w : Walk} {d e o : List ℕ} → Walked b ws w → Column field b ws d w e
    → o ≡ sets e w.lines (map field (skipped w.end (length b))) → o ≡ sets d 0 (map field (all_lines b ws))
unfolding tidy_from lines_from
column_end field {b} {ws} {w} {d} {e} {o} x f q =
    q
    ∙ ap (λ (k : ℕ). sets e w.lines (map field (skipped k (length b)))) x.walks.is.end
    ∙ ap (λ (l : List Good). sets e w.lines (map field (lines_left (length b) (pages_to b ws w.at) l))) (sym x.over) ∙ f.same
