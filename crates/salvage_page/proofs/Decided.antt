-- Which packets are cut, by tests that are already decided. Assumes nothing.
use Rattle.std.proofs.Common.{◌≡◌, Bool, true, false, not, ◌&&◌, ◌||◌, refl}
use Rattle.salvage_rules.specs.declared.Link.{Link}
use Rattle.salvage_rules.specs.declared.Prior.{Prior}
use Rattle.salvage_rules.specs.Links.{follows_link, prior_cut, next_prior, form_of}

and-true : (t : Bool) → t && true ≡ t
and-true true = refl
and-true false = refl

and-false : (t : Bool) → t && false ≡ false
and-false true = refl
and-false false = refl

pub or-true : (t : Bool) → t || true ≡ true
or-true true = refl
or-true false = refl

or-false : (t : Bool) → t || false ≡ t
or-false true = refl
or-false false = refl

module _ (x : Prior) (a : Link) where
  -- ---- the packet that the page continues

  pub cut-first : x.any ≡ false → prior_cut x a ≡ false
  cut-first e = rw e

  pub cut_new : x.any ≡ true → a.continued ≡ false → prior_cut x a ≡ false
  cut_new e f = rw (e, f)

  pub cut-joined : x.any ≡ true → a.continued ≡ true → follows_link x.link a ≡ true → prior_cut x a ≡ x.cut
  cut-joined e f g = rw (e, f, g)

  pub cut-broken : x.any ≡ true → a.continued ≡ true → follows_link x.link a ≡ false → prior_cut x a ≡ true
  cut-broken e f g = rw (e, f, g)

  -- ---- what is before the next page

  pub next-other : a.through ≡ false → next_prior x a ≡ record { any = true; link = a; cut = false }
  next-other e = rw (e, and-false (prior_cut x a))

  pub next-same : a.through ≡ true → next_prior x a ≡ record { any = true; link = a; cut = prior_cut x a }
  next-same e = rw (e, and-true (prior_cut x a))

  -- ---- which pieces are removed

  module _ {p : Bool} (lead : p ≡ prior_cut x a) where
    pub form-kept : record { lead = p; trail = false } ≡ form_of x a false
    form-kept = rw (lead, and-false a.through, or-false (prior_cut x a), and-false (not a.through))

    pub form-other : a.through ≡ false → record { lead = p; trail = true } ≡ form_of x a true
    form-other e = rw (lead, e, or-false (prior_cut x a))

  pub form_through : a.through ≡ true → record { lead = true; trail = false } ≡ form_of x a true
  form_through e = rw (e, or-true (prior_cut x a))
