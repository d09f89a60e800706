-- The next page of the list is fed. Assumes nothing.
use Rattle.std.specs.Prelude.{Option, Some, None}
use Rattle.std.proofs.Common.{◌≡◌, ℕ, suc, ◌+◌, ◌<◌, Bool, true, false, not, ◌&&◌, List, [], ◌∷◌, ◌++◌, length, get_or, sym, refl, ap, ◌∙◌, subst, ap₂}
use Rattle.octets.specs.Octets.{Bytes}
use Rattle.octets.proofs.Tests.{both}
use Rattle.page_crc.specs.Crc.{page_crc}
use Rattle.page_reader.specs.Reading.{read_page}
use Rattle.stream.specs.declared.Core.{Core}
use Rattle.stream.specs.Feed.{view}
use Rattle.stream.specs.Lent.{Lent, is_short}
use Rattle.salvage_search.specs.Search.{is_good}
use Rattle.salvage_rules.specs.declared.Link.{Link}
use Rattle.salvage_rules.specs.declared.Prior.{Prior}
use Rattle.salvage_rules.specs.Good.{Good}
use Rattle.salvage_rules.specs.Tidy.{goes_through, no_page, tidy_page}
use Rattle.salvage_rules.specs.Rounds.{page_out}
use Rattle.salvage_rules.specs.Steps.{past_all, next_out}
use Rattle.salvage_rules.specs.Statements.{Each}
use Rattle.salvage_rules.specs.Links.{link_of, link_cut, prior_of, form_of, tidied}
use Rattle.salvage_rules.specs.Listed.{bytes_at, good_in, listed_in, pages_to, pages_from, NextIs}
use Rattle.salvage_rules.proofs.Links.{out_next, bit_by_prior}
use Rattle.salvage_rules.proofs.Listed.{parted, not-missing}
use Rattle.salvage_list.specs.declared.Listed.{Listed}
use Rattle.salvage_list.specs.Next.{next_listed, known_cut, ListedIs}
use Rattle.salvage_list.proofs.Next.{next-listed, further}
use Rattle.salvage_list.proofs.Known.{known_is}
use Rattle.salvage_feed.specs.Feeding.{tidied_bytes, Accepts, Refuses, FeedsTidied}
use Rattle.salvage_kept.specs.declared.Point.{Point}
use Rattle.salvage_kept.specs.declared.Pass.{Pass}
use Rattle.salvage_kept.specs.Code.{R, point_after, pass_of, Holds}
use Rattle.salvage_kept.specs.Promises.{AllGood, IsNext, IsRefused}
use Rattle.salvage_kept.proofs.Holding.{holds_on, holds-saved, holds_still}

-- ---- the next page

pub is-next : (b : Bytes) (ws : List ℕ) (at i : ℕ) → i ≡ next_listed ws at → i < length ws → NextIs b ws at i
is-next b ws at i e h =
    let below : next_listed ws at < length ws = rw e at h in
    let n = next-listed b ws at in
    let there = n.here below in
    rw e (record { fore = further ws at below; inside = below; here = not-missing b ws (next_listed ws at) below there; next = n.same ∙ there })

pub each_part : (P : Good → Type 0) (A : List Good) (g : Good) (B : List Good) → Each P (A ++ (g ∷ B)) → P g
unfolding Each
each_part P [] g B e = e.0
each_part P (a ∷ A) g B e = each_part P A g B e.1

pub next-good : {b : Bytes} {ws : List ℕ} {at i : ℕ} → AllGood b ws → NextIs b ws at i → is_good (read_page page_crc (bytes_at b (get_or ws i 0))) ≡ true
next-good {b} {ws} {at} {i} a n =
    let P : Good → Type 0 = λ (g : Good). is_good (read_page page_crc (bytes_at b g.place)) ≡ true in
    each_part P (pages_to b ws at) (good_in b (get_or ws i 0)) (pages_from b ws (suc i))
    (subst (Each P) (parted b at ws ∙ ap (λ (l : List Good). pages_to b ws at ++ l) n.next) a)

-- ---- fed

module _ {b : Bytes} {G : List Good} {ws : List ℕ} {p : Pass} {next : Listed} {m : Lent} {keep : Bytes} (x : IsNext b G ws p next m keep) where
  pub nth : NextIs b ws p.now.at next.index
  nth = is-next b ws p.now.at next.index x.is.index x.inside

  abbrev g : Good
  g = good_in b (get_or ws next.index 0)

  abbrev B : List Good
  B = pages_from b ws (suc next.index)

  pub good : is_good (read_page page_crc (bytes_at b next.place)) ≡ true
  good = rw x.is.place (next-good x.good nth)

  link-is : next.link ≡ link_of g.page
  link-is = x.is.link ∙ ap (λ (w : ℕ). link_of (good_in b w).page) x.is.place

  -- what was known of the packet that goes on after the page before
  known : p.now.cut ≡ link_cut p.now.prior.link (g ∷ B)
  known =
      x.holds.going.fed.cut ∙ sym (bit_by_prior (pages_to b ws p.now.at) (pages_from b ws p.now.at))
      ∙ ap₂ (λ (y : Prior) (l : List Good). link_cut y.link l) (sym x.holds.point.prior) nth.next

  cut-is : next.cut ≡ link_cut (link_of g.page) B
  cut-is =
      x.is.cut ∙ ap (λ (a : Link). known_cut p.now.prior p.now.cut a B) link-is
      ∙ known_is p.now.prior p.now.cut g B known

  out_is : tidied_bytes next.form p.now.number (bytes_at b next.place) ≡ next_out (pages_to b ws p.now.at) g B
  unfolding tidy_page
  out_is =
      rw x.is.place
      (out_next (pages_to b ws p.now.at) g B next.form p.now.number
      (x.is.form ∙ ap₂ (λ (y : Prior) (c : Bool). form_of y next.link c) x.holds.point.prior cut-is
      ∙ ap (λ (a : Link). form_of (prior_of (past_all no_page (pages_to b ws p.now.at))) a (link_cut (link_of g.page) B)) link-is)
      x.holds.point.number)

  abbrev out : Bytes
  out = tidied_bytes next.form p.now.number (bytes_at b next.place)

  -- what feeding the page told, the page being found in the buffer
  pub told : (r : Option Core) (left : Bytes) {page : Bytes} → page ≡ bytes_at b next.place
      → (is_good (read_page page_crc page) ≡ true → is_short m ≡ false
      → FeedsTidied p.now.core (tidied_bytes next.form p.now.number page) m.carry r left)
      → FeedsTidied p.now.core out m.carry r left
  told r left {page} e f =
      subst (λ (z : Bytes). FeedsTidied p.now.core (tidied_bytes next.form p.now.number z) m.carry r left) e
      (f (rw e good) x.room)

  module _ {core : Core} {left : Bytes} (w : Accepts p.now.core out m.carry core left) where
    point-is : point_after p.now core next.link next.cut next.index
        ≡ point_after p.now core (link_of g.page) (link_cut (link_of g.page) B) next.index
    point-is = ap₂ (λ (a : Link) (c : Bool). point_after p.now core a c next.index) link-is cut-is

    pub fed_on : {now : Point} → now ≡ point_after p.now core next.link next.cut next.index → Holds b G ws (pass_of now p.saved) left keep
    fed_on e =
        rw (e ∙ point-is)
        (holds_on x.holds nth core left (rw (← out_is) w.accepted) (rw (← out_is) w.state))

    pub fed-saved : {now : Point} {kept : Bytes} → now ≡ point_after p.now core next.link next.cut next.index
        → next.link.onward && not next.link.through ≡ true → view p.now.core kept ≡ view p.now.core m.carry
        → Holds b G ws (pass_of now p.now) left kept
    fed-saved {now} {kept} e t v =
        rw (e ∙ point-is)
        (holds-saved x.holds nth core left (rw (← out_is) w.accepted) (rw (← out_is) w.state) kept v
        (sym (ap (λ (a : Link). a.through) link-is) ∙ ended next.link.through (both next.link.onward (not next.link.through) t).1))
      where
        ended : (u : Bool) → not u ≡ true → u ≡ false
        ended true q = sym q
        ended false q = refl

  module _ {left : Bytes} (w : Refuses p.now.core out m.carry left) where
    pub fed_still : Holds b G ws p left keep
    fed_still = holds_still x.holds nth left w.state

    pub fed-refused : IsRefused b ws p next.index left
    fed-refused = record { why = w.why; refused = rw w.state (rw (← out_is) w.refused) }
