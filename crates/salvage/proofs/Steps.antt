-- One step of the walk over the kept pages. Assumes nothing.
use Rattle.std.proofs.Common.{◌≡◌, ℕ, suc, ◌+◌, ◌-◌, ◌*◌, ◌%◌, ◌^◌, ◌<◌, ◌≤◌, Bool, true, List, [], ◌∷◌, ◌++◌, length, get_or, sym, refl, ap, ◌∙◌, subst, ap₂, arith, length-append}
use Rattle.octets.specs.Octets.{Bytes}
use Rattle.page_crc.specs.Crc.{page_crc}
use Rattle.page_size.specs.Size.{is_one_page}
use Rattle.page_reader.specs.Reading.{read_page}
use Rattle.page_writer.proofs.RoundTrip.{size_same}
use Rattle.stream.specs.Page.{page_of}
use Rattle.stream.specs.Readings.{readings}
use Rattle.salvage_search.specs.Search.{is_good}
use Rattle.salvage_rules.specs.declared.Link.{Link}
use Rattle.salvage_rules.specs.Good.{Good, end_of}
use Rattle.salvage_rules.specs.Tidy.{Tidied, tidy_page}
use Rattle.salvage_rules.specs.Rounds.{page_out, pages_out, kept_in}
use Rattle.salvage_rules.specs.Steps.{past_all}
use Rattle.salvage_rules.specs.Statements.{Each}
use Rattle.salvage_rules.specs.Links.{link_of, link_cut, tidied}
use Rattle.salvage_rules.specs.Listed.{bytes_at, good_in, listed_in, pages_to, pages_from, NextIs}
use Rattle.salvage_rules.proofs.Every.{each-settled}
use Rattle.salvage_rules.proofs.Found.{read_one}
use Rattle.salvage_rules.proofs.Listed.{parted}
use Rattle.salvage_rules.proofs.Room.{page_out_lem, room_enough}
use Rattle.salvage_page.specs.Statements.{kept_size}
use Rattle.salvage_list.specs.declared.Listed.{Listed}
use Rattle.salvage_list.specs.Collect.{stream_pages}
use Rattle.salvage_list.specs.Next.{next_listed, known_cut, ListedIs}
use Rattle.salvage_list.proofs.Next.{next-listed, further}
use Rattle.salvage_list.proofs.Known.{known_is}
use Rattle.salvage_list.proofs.There.{within, length-there}
use Rattle.salvage_list.proofs.Collected.{Here, all_here, each-good}
use Rattle.salvage_kept.proofs.Feeding.{is-next, each_part}
use Rattle.salvage.specs.declared.walk.Walk.{Walk}
use Rattle.salvage.specs.declared.walk.Changes.{Changes}
use Rattle.salvage.specs.Columns.{changes_of, line_count, changes_lines}
use Rattle.salvage.specs.Code.{end_after, bytes_left, lines_left, lines_of, Kept, all_bytes, all_lines, Walks, walk_by, NextHas, CanWalk, Walked}
use Rattle.salvage.proofs.Columns.{changes-length}
use Rattle.salvage.proofs.Telling.{lines-told}
use Rattle.salvage.proofs.Walking.{t, link-is, bytes_left_lem, lines_left_lem, walks_on}

-- ---- the kept pages

module _ (b : Bytes) (ws : List ℕ) (kept : Kept b ws) where
  -- what holds of every good page of the stream holds of those of the list
  each-listed : (P : Good → Type 0) → Each P (stream_pages page_crc b) → Each P (listed_in b ws)
  each-listed P e = subst (Each P) (sym kept) (each-settled P (readings page_crc) (stream_pages page_crc b) e)

  next_listed-is : (P : Good → Type 0) {at i : ℕ} → Each P (stream_pages page_crc b) → NextIs b ws at i → P (good_in b (get_or ws i 0))
  next_listed-is P {at} {i} e n =
      each_part P (pages_to b ws at) (good_in b (get_or ws i 0)) (pages_from b ws (suc i))
      (subst (Each P) (parted b at ws ∙ ap (λ (l : List Good). pages_to b ws at ++ l) n.next) (each-listed P e))

  -- as many bytes as the input has are enough, and few lines
  pub bytes_most : length (all_bytes b ws) ≤ length b
  unfolding past_all pages_out
  bytes_most = rw kept (room_enough page_crc b).output

  pub lines-most : 7 * length (all_lines b ws) ≤ length b + 7
  unfolding past_all end_after
  lines-most = rw kept (room_enough page_crc b).lines

-- ---- one page

module _ {b : Bytes} {ws : List ℕ} {w : Walk} {next : Listed} (fits : length b < 2 ^ 64) (long : length ws < 2 ^ 64) (kept : Kept b ws)
    (h : Walks b ws w) (is : ListedIs b ws w.prior w.cut w.at next) (inside : next.index < length ws) where
  nth : NextIs b ws w.at next.index
  nth = is-next b ws w.at next.index is.index inside

  abbrev g : Good
  g = good_in b (get_or ws next.index 0)

  abbrev B : List Good
  B = pages_from b ws (suc next.index)

  abbrev pub p : Bytes
  p = bytes_at b next.place

  linked : next.link ≡ link_of g.page
  linked = is.link ∙ ap (λ (k : ℕ). link_of (good_in b k).page) is.place

  pub has : NextHas b ws w next
  has = record {
    is = nth;
    place = is.place;
    link = is.link;
    cut =
        is.cut ∙ ap (λ (a : Link). known_cut w.prior w.cut a B) linked
        ∙ known_is w.prior w.cut g B (h.known ∙ ap (link_cut w.prior.link) nth.next) ∙ ap (λ (a : Link). link_cut a B) (sym linked);
    form = is.form;
  }

  pub good : is_good (read_page page_crc p) ≡ true
  good =
      rw is.place
      (next_listed-is b ws kept (λ (k : Good). is_good (read_page page_crc (bytes_at b k.place)) ≡ true) (each-good page_crc b) nth)

  pub one : is_one_page p ≡ true
  one = read_one page_crc p good

  -- it ends within the input
  ends : next.place + length p ≤ length b
  ends =
      let here = next_listed-is b ws kept (Here page_crc b) (all_here page_crc b) nth in
      rw is.place (omega (arith, within page_crc b (get_or ws next.index 0) here.starts, length-there page_crc b (get_or ws next.index 0) here.starts))

  same : p ≡ bytes_at b (get_or ws next.index 0)
  same = ap (bytes_at b) is.place

  end_is : next.place + length p ≡ end_of g
  unfolding page_of
  end_is =
      let size = size_same p one in
      rw is.place (ap (λ (k : ℕ). get_or ws next.index 0 + k) (rw is.place at (sym size)))

  pub size_is : kept_size next.form p ≡ length (page_out (t h has))
  unfolding tidy_page
  size_is = rw is.place (sym (page_out_lem (t h has)))

  -- what is left
  bytes-here : w.bytes + kept_size next.form p ≤ length b
  bytes-here =
      omega (arith, size_is, h.bytes, bytes_most b ws kept, ap length (bytes_left_lem h has) ∙ length-append (page_out (t h has)) (bytes_left (pages_to b ws (suc next.index)) B))

  pub lines-here : w.lines + 5 < 2 ^ 64
  lines-here = omega (arith, h.lines, lines-most b ws kept)

  pub can_walk : CanWalk p next w
  can_walk = record { one = one; index = omega arith; end = omega (arith, ends); bytes = omega (arith, bytes-here); lines = lines-here }

  -- what is told
  pub told_is : changes_lines w.end next.place (changes_of (page_of p).lacing next w) ≡ lines_of w.end (t h has)
  told_is =
      rw same
      (lines-told g next w is.place linked (let n : w.number ≡ length (pages_to b ws w.at) % 2 ^ 32 = h.is.number in omega arith))

  pub goes : {c : Changes} {r : Walk} → c ≡ changes_of (page_of p).lacing next w
      → r ≡ walk_by w next (next.place + length p) (kept_size next.form p) (line_count c) → Walks b ws r
  goes {c} {r} e f =
      rw f
      (walks_on h has (next.place + length p) (kept_size next.form p) (line_count c) end_is size_is
      (rw e (sym (changes-length w.end next.place (changes_of (page_of p).lacing next w)) ∙ ap length told_is)))

  pub nearer : (c : Changes) {r : Walk} → r ≡ walk_by w next (next.place + length p) (kept_size next.form p) (line_count c)
      → length ws - r.at < length ws - w.at
  nearer c f = rw f (let n = nth in omega (arith, n.fore, n.inside))

-- ---- the end of the list

pub walk_over : {b : Bytes} {ws : List ℕ} {w : Walk} {next : Listed} → Walks b ws w → ListedIs b ws w.prior w.cut w.at next
    → length ws ≤ next.index → Walked b ws w
walk_over {b} {ws} {w} {next} h is e =
    let n = next-listed b ws w.at in
    let end : length ws ≤ next_listed ws w.at = rw is.index at e in
    record { walks = h; over = n.same ∙ n.none end }

pub lines-over : (b : Bytes) (ws : List ℕ) {w : Walk} → length b < 2 ^ 64 → Kept b ws → Walks b ws w → w.lines + 1 < 2 ^ 64
lines-over b ws fits kept h = omega (arith, h.lines, lines-most b ws kept)
