-- What the code knows of a page decides as the page does. Assumes nothing.
use Prim.Native.Nat.{ℕ, ◌+◌, ◌%◌, ◌^◌}
use mathlib.Core.Path.{◌≡◌, refl, sym, ap, ap₂, ◌∙◌}
use mathlib.Core.Bool.{Bool, true, false, ◌&&◌}
use mathlib.Core.List.{List, [], ◌∷◌, ◌++◌}
use native.Mathlib.Omega.{arith}
use lib.ListN.{length}
use Rattle.octets.specs.Pick.{pick}
use Rattle.octets.specs.Octets.{Bytes}
use Rattle.stream.specs.Page.{Page}
use Rattle.salvage_rules.specs.declared.Form.{Form}
use Rattle.salvage_rules.specs.Good.{Good}
use Rattle.salvage_rules.specs.Tidy.{follows, goes_on, goes_through, cut_after, Before, no_page, page_before, cut_before, leading_cut, trailing_cut, Tidied, tidy_page}
use Rattle.salvage_rules.specs.Rounds.{page_out}
use Rattle.salvage_rules.specs.Steps.{past, past_all, bit_of, next_out}
use Rattle.salvage_rules.specs.Links.{link_of, link_cut, prior_of, prior_cut, next_prior, form_of, tidied}

pub link-cut : (p : Page) (qs : List Good) → link_cut (link_of p) qs ≡ cut_after p qs
unfolding link_cut cut_after follows
link-cut p [] = refl
link-cut p (q ∷ qs) =
    ap (λ (t : Bool). goes_on p && pick (follows p q.page) (goes_through q.page && t) true) (link-cut q.page qs)

pub prior-cut : (x : Before) (p : Page) → prior_cut (prior_of x) (link_of p) ≡ cut_before x p
unfolding follows
prior-cut no_page p = refl
prior-cut (page_before a cut) p = refl

pub next-prior : (x : Before) (g : Good) → next_prior (prior_of x) (link_of g.page) ≡ prior_of (past x g)
unfolding follows
next-prior no_page g = refl
next-prior (page_before a cut) g = refl

abbrev pub cut_form : Before → Page → List Good → Form
cut_form x p qs = record { lead = leading_cut x p qs; trail = trailing_cut p qs }

pub form_of_lem : (x : Before) (p : Page) (qs : List Good) → form_of (prior_of x) (link_of p) (cut_after p qs) ≡ cut_form x p qs
unfolding follows leading_cut trailing_cut
form_of_lem no_page p qs = refl
form_of_lem (page_before a cut) p qs = refl

-- ---- the next page after the pages K

pub past_more : (x : Before) (K : List Good) (g : Good) → past_all x (K ++ (g ∷ [])) ≡ past (past_all x K) g
unfolding past_all
past_more x [] g = refl
past_more x (a ∷ K) g = past_more (past x a) K g

-- a number counts modulo 2 ^ 32
same_number : (lead trail : Bool) (n : ℕ) (g : Good) → tidy_page lead trail (n % 2 ^ 32) g ≡ tidy_page lead trail n g
unfolding tidy_page
same_number lead trail n g = let e : n % 2 ^ 32 % 2 ^ 32 ≡ n % 2 ^ 32 = omega arith in rw e

pub tidied-next : (K : List Good) (g : Good) (B : List Good) (form : Form) (n : ℕ)
    → form ≡ form_of (prior_of (past_all no_page K)) (link_of g.page) (link_cut (link_of g.page) B) → n ≡ length K % 2 ^ 32
    → tidied form n g ≡ tidy_page (leading_cut (past_all no_page K) g.page B) (trailing_cut g.page B) (length K) g
tidied-next K g B form n f e =
    let cut : form ≡ cut_form (past_all no_page K) g.page B =
    f ∙ ap (form_of (prior_of (past_all no_page K)) (link_of g.page)) (link-cut g.page B) ∙ form_of_lem (past_all no_page K) g.page B in
    ap₂ (λ (x : Form) (k : ℕ). tidied x k g) cut e
    ∙ same_number (leading_cut (past_all no_page K) g.page B) (trailing_cut g.page B) (length K) g

-- its bytes
pub out_next : (K : List Good) (g : Good) (B : List Good) (form : Form) (n : ℕ)
    → form ≡ form_of (prior_of (past_all no_page K)) (link_of g.page) (link_cut (link_of g.page) B) → n ≡ length K % 2 ^ 32
    → page_out (tidied form n g) ≡ next_out K g B
out_next K g B form n f e =
    let z : length K ≡ 0 + length K = omega arith in
    ap page_out (tidied-next K g B form n f e)
    ∙ ap (λ (k : ℕ). page_out (tidy_page (leading_cut (past_all no_page K) g.page B) (trailing_cut g.page B) k g)) z

-- the bit, by the last page
last_bit : (x : Before) (g : Good) (K B : List Good) → link_cut (prior_of (past_all x (g ∷ K))).link B ≡ bit_of (g ∷ K) B
unfolding past_all bit_of
last_bit x g [] B = link-cut g.page B
last_bit x g (h ∷ K) B = last_bit (past x g) h K B

pub no_cut : (B : List Good) → link_cut (prior_of no_page).link B ≡ false
unfolding link_cut
no_cut [] = refl
no_cut (q ∷ B) = refl

pub bit_by_prior : (K B : List Good) → link_cut (prior_of (past_all no_page K)).link B ≡ bit_of K B
unfolding past_all bit_of
bit_by_prior [] B = no_cut B
bit_by_prior (g ∷ K) B = last_bit no_page g K B
