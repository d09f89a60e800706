-- `salvage::salvage` meets its contract. Assumes nothing.
use Rattle.refusal.specs.Told.{told}
use Rattle.refusal.specs.declared.Refusal.{Refusal}
use Rattle.std.specs.Prelude.{Result, Ok, Err}
use Rattle.std.proofs.Common.{◌≡◌, ℕ, ◌≤◌, false, List, length, take, sym, refl, ap, ◌∙◌, subst, arith, length-take, rules}
use Rattle.octets.specs.Octets.{Bytes}
use Rattle.page_crc.specs.Crc.{page_crc}
use Rattle.salvage_rules.specs.Listed.{listed_in}
use Rattle.salvage_rules.specs.Rounds.{kept_in}
use Rattle.salvage_kept.specs.Found.{is_short_work, KeptAt}
use Rattle.salvage.proofs.Salvaging.{due, refused-told, found, saved-is, saved-told}
use Rattle.salvage.proofs.salvage.Goals as goal

-- where the pages were found: the places of those that are kept, and that nothing was refused
here : (b : Bytes) (found : Result ℕ Refusal) (work : List ℕ) (n : ℕ) → KeptAt b found work → found ≡ Ok n
    → (n ≤ length work) × (listed_in b (take n work) ≡ kept_in page_crc b)
here b found work n kept is = subst (λ (r : Result ℕ Refusal). KeptAt b r work) is kept

pub slice_bounds-put_kept-end : goal.slice_bounds-put_kept-end
slice_bounds-put_kept-end c = (here c.args.buffer.now _ c.find_kept.new.work c.in_ok-n.n c.find_kept.ensures.kept c.in_ok-n.was).0

pub slice_bounds-put_kept-end-2 : goal.slice_bounds-put_kept-end-2
slice_bounds-put_kept-end-2 c = omega (arith, (here c.args.buffer.now _ c.find_kept.new.work c.in_ok-n.n c.find_kept.ensures.kept c.in_ok-n.was).0, length-take c.in_ok-n.n c.find_kept.new.work)

pub put_kept-requires : goal.put_kept-requires
put_kept-requires c = (here c.args.buffer.now _ c.find_kept.new.work c.in_ok-n.n c.find_kept.ensures.kept c.in_ok-n.was).1

pub returns : goal.returns
returns c =
    let put = c.put_kept.ensures in
    let a = c.args in
    let n : ℕ = c.in_ok-n.n in
    let work : List ℕ = c.find_kept.new.work in
    let there = here a.buffer.now _ work n c.find_kept.ensures.kept c.in_ok-n.was in
    let told = found a.buffer.now (length a.work.now) 0 0 n (sym (ap told c.in_ok-n.was) ∙ c.find_kept.ensures.told) in
    let saved = saved-is a.buffer.now (take n work) there.1 told.1 in
    record {
      told = put.told ∙ sym (saved-told a.buffer.now (take n work) (length a.work.now) _ _ there.1 told.0 told.1);
      free = tt;
      output = rw saved put.output;
      whats = rw saved put.whats;
      spots = rw saved put.spots;
      counts = rw saved put.counts;
    }

pub returns-in_err-n : goal.returns-in_err-n
returns-in_err-n c =
    let a = c.args in
    let why = c.in_err-n.field-0.0 in
    let same : c.from_residual.result ≡ Err why = grind arith in
    rw same
    (record {
      told = sym (refused-told a.buffer.now (length a.work.now) _ _ _ (sym (ap told c.in_err-n.was) ∙ c.find_kept.ensures.told));
      free = tt;
      output = refl;
      whats = refl;
      spots = refl;
      counts = refl;
    })
