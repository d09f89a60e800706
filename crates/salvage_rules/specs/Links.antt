-- What the code knows of a page and of what is before it: enough to tell which of its pieces are cut. Assumes nothing.
use Rattle.std.specs.Prelude.{ℕ, ◌+◌, ◌%◌, ◌^◌, Bool, true, false, not, ◌&&◌, ◌||◌, List, [], ◌∷◌, eqb}
use Rattle.octets.specs.Pick.{pick}
use Rattle.stream.specs.Page.{Page, continued}
use Rattle.salvage_rules.specs.declared.Link.{Link}
use Rattle.salvage_rules.specs.declared.Prior.{Prior}
use Rattle.salvage_rules.specs.declared.Form.{Form}
use Rattle.salvage_rules.specs.Good.{Good}
use Rattle.salvage_rules.specs.Tidy.{goes_on, goes_through, Before, no_page, page_before, Tidied, tidy_page, without}

-- ---- a page

abbrev pub link_of : Page → Link
link_of p = record { sequence = p.header.sequence; continued = continued p; onward = goes_on p; through = goes_through p }

-- the page b follows the page a by their old numbers
abbrev pub follows_link : Link → Link → Bool
follows_link a b = eqb b.sequence ((a.sequence + 1) % 2 ^ 32)

-- the packet that goes on after the page a is cut by a later break; qs are the pages after it
unfoldable pub link_cut : Link → List Good → Bool
link_cut a [] = false
link_cut a (q ∷ qs) =
    a.onward
    && pick (follows_link a (link_of q.page)) ((link_of q.page).through && link_cut (link_of q.page) qs) true

-- ---- what is before it

abbrev pub no_prior : Prior
no_prior = record {
  any = false;
  link = record { sequence = 0; continued = false; onward = false; through = false };
  cut = false;
}

abbrev pub prior_of : Before → Prior
prior_of no_page = no_prior
prior_of (page_before p cut) = record { any = true; link = link_of p; cut = cut }

-- the packet that the page a continues is cut by an earlier break
abbrev pub prior_cut : Prior → Link → Bool
prior_cut x a = x.any && (a.continued && pick (follows_link x.link a) x.cut true)

-- what is before the page after a
abbrev pub next_prior : Prior → Link → Prior
next_prior x a = record { any = true; link = a; cut = prior_cut x a && a.through }

-- ---- which of its pieces are removed

-- where `cut` tells whether the packet that goes on after it is cut by a later break
abbrev pub form_of : Prior → Link → Bool → Form
form_of x a cut = record { lead = prior_cut x a || (a.through && cut); trail = not a.through && cut }

-- the page without them
abbrev pub kept_of : Form → Page → Page
kept_of f p = without f.lead f.trail p

-- the page tidied, as number n of the list
abbrev pub tidied : Form → ℕ → Good → Tidied
tidied f n g = tidy_page f.lead f.trail n g
