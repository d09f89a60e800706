-- The walk over the kept pages: what they come to, page by page. Assumes nothing.
use Rattle.std.proofs.Common.{◌≡◌, ℕ, suc, ◌+◌, ◌%◌, ◌^◌, ◌<◌, ◌≤◌, Bool, List, [], ◌∷◌, ◌++◌, map, length, get_or, take, drop, sym, refl, ap, ◌∙◌, subst, ap₂, arith, length-append}
use Rattle.octets.specs.Octets.{Bytes}
use Rattle.feed_pages.specs.Feedings.{together}
use Rattle.salvage_rules.specs.declared.Link.{Link}
use Rattle.salvage_rules.specs.declared.Prior.{Prior}
use Rattle.salvage_rules.specs.Good.{Good, end_of}
use Rattle.salvage_rules.specs.Tidy.{no_page, leading_cut, trailing_cut, Tidied, tidy_page, tidy_from}
use Rattle.salvage_rules.specs.Lines.{Line, lines_from}
use Rattle.salvage_rules.specs.Rounds.{page_out}
use Rattle.salvage_rules.specs.Steps.{past, past_all}
use Rattle.salvage_rules.specs.Links.{link_of, link_cut, prior_of, next_prior, form_of, tidied}
use Rattle.salvage_rules.specs.Listed.{good_in, listed_in, pages_to, pages_from}
use Rattle.salvage_rules.proofs.Links.{next-prior, past_more, tidied-next, no_cut}
use Rattle.salvage_rules.proofs.Listed.{with_next}
use Rattle.salvage_list.specs.declared.Listed.{Listed}
use Rattle.salvage.specs.declared.walk.Walk.{Walk}
use Rattle.salvage.specs.Code.{tidy_after, end_after, bytes_left, lines_left, lines_of, begun, WalkIs, Walks, walk_by, NextHas}

-- ---- the pages after one more

end_more : (at : ℕ) (K : List Good) (g : Good) → end_after at (K ++ (g ∷ [])) ≡ end_of g
unfolding end_after
end_more at [] g = refl
end_more at (a ∷ K) g = end_more (end_of a) K g

module _ (K : List Good) (g : Good) (B : List Good) (t : Tidied) (is : t ≡ tidy_page (leading_cut (past_all no_page K) g.page B) (trailing_cut g.page B) (length K) g) where
  tidy-next : tidy_after K (g ∷ B) ≡ t ∷ tidy_after (K ++ (g ∷ [])) B
  unfolding tidy_from
  tidy-next =
      let n : suc (length K) ≡ length (K ++ (g ∷ [])) = simp length-append (omega arith) in
      ap₂ (λ (x : Tidied) (l : List Tidied). x ∷ l) (sym is) (ap₂ (λ (x : _) (k : ℕ). tidy_from x k B) (sym (past_more no_page K g)) n)

  pub bytes_next : bytes_left K (g ∷ B) ≡ page_out t ++ bytes_left (K ++ (g ∷ [])) B
  unfolding together
  bytes_next = ap (λ (l : List Tidied). together (map page_out l)) tidy-next

  old-is : t.old ≡ g
  unfolding tidy_page
  old-is = ap (λ (x : Tidied). x.old) is

  pub lines_next : (n : ℕ) → lines_left n K (g ∷ B) ≡ lines_of (end_after 0 K) t ++ lines_left n (K ++ (g ∷ [])) B
  unfolding lines_from
  lines_next n =
      ap (lines_from n (end_after 0 K)) tidy-next
      ∙ ap (λ (k : ℕ). lines_of (end_after 0 K) t ++ lines_from n k (tidy_after (K ++ (g ∷ [])) B)) (ap end_of old-is ∙ sym (end_more 0 K g))

-- ---- the walk

pub walk_begins : (b : Bytes) (ws : List ℕ) → Walks b ws begun
unfolding listed_in past_all end_after
walk_begins b ws = record {
  inside = omega arith;
  known = sym (no_cut (listed_in b ws));
  is = record { prior = refl; number = refl; end = refl };
  bytes = omega arith;
  lines = omega arith;
}

module _ {b : Bytes} {ws : List ℕ} {w : Walk} {next : Listed} (h : Walks b ws w) (x : NextHas b ws w next) where
  abbrev g : Good
  g = good_in b (get_or ws next.index 0)

  abbrev K : List Good
  K = pages_to b ws w.at

  abbrev B : List Good
  B = pages_from b ws (suc next.index)

  abbrev pub t : Tidied
  t = tidied next.form w.number g

  pub here : good_in b next.place ≡ g
  here = ap (good_in b) x.place

  pub link-is : next.link ≡ link_of g.page
  link-is = x.link ∙ ap (λ (k : Good). link_of k.page) here

  pub tidied-is : t ≡ tidy_page (leading_cut (past_all no_page K) g.page B) (trailing_cut g.page B) (length K) g
  tidied-is =
      tidied-next K g B next.form w.number
      (x.form ∙ ap₂ (λ (y : Prior) (c : Bool). form_of y next.link c) h.is.prior x.cut
      ∙ ap (λ (a : Link). form_of (prior_of (past_all no_page K)) a (link_cut a B)) link-is)
      h.is.number

  up_to : pages_to b ws (suc next.index) ≡ K ++ (g ∷ [])
  up_to = with_next b ws w.at next.index g x.is.fore x.is.inside x.is.next

  -- what is left before the page, and after it
  pub bytes_left_lem : bytes_left K (pages_from b ws w.at) ≡ page_out t ++ bytes_left (pages_to b ws (suc next.index)) B
  bytes_left_lem =
      ap (bytes_left K) x.is.next ∙ bytes_next K g B t tidied-is ∙ ap (λ (l : List Good). page_out t ++ bytes_left l B) (sym up_to)

  pub lines_left_lem : lines_left (length b) K (pages_from b ws w.at) ≡ lines_of w.end t ++ lines_left (length b) (pages_to b ws (suc next.index)) B
  lines_left_lem =
      ap (lines_left (length b) K) x.is.next ∙ lines_next K g B t tidied-is (length b)
      ∙ ap₂ (λ (e : ℕ) (l : List Good). lines_of e t ++ lines_left (length b) l B) (sym h.is.end) (sym up_to)

  pub walks_on : (end bytes lines : ℕ) → end ≡ end_of g → bytes ≡ length (page_out t) → lines ≡ length (lines_of w.end t)
      → Walks b ws (walk_by w next end bytes lines)
  walks_on end bytes lines e n l = record {
    inside = x.is.inside;
    known = x.cut;
    is = record {
      prior =
          ap₂ next_prior h.is.prior link-is ∙ next-prior (past_all no_page K) g
          ∙ ap prior_of (sym (past_more no_page K g) ∙ ap (past_all no_page) (sym up_to));
      number =
          let k : length (pages_to b ws (suc next.index)) ≡ length K + 1 = ap length up_to ∙ length-append K (g ∷ []) in
          omega (arith, h.is.number, k);
      end = e ∙ sym (end_more 0 K g) ∙ ap (end_after 0) (sym up_to);
    };
    bytes = omega (arith, n, h.bytes, ap length bytes_left_lem ∙ length-append (page_out t) (bytes_left (pages_to b ws (suc next.index)) B));
    lines = omega (arith, l, h.lines, ap length lines_left_lem ∙ length-append (lines_of w.end t) (lines_left (length b) (pages_to b ws (suc next.index)) B));
  }
