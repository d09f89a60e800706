-- `utf8::lead_bits` meets its contract. Assumes nothing.
use mathlib.Core.Path.{◌≡◌}
use borrow.Author.Tests.{ne_eqb}
use Rattle.utf8.specs.Characters.{lead_bits}
use Rattle.utf8.proofs.Lead.{bits_by, lead_bits_lem}
use Rattle.utf8.proofs.lead_bits.Goals as goal
use Rattle.utf8.proofs.lead_bits.Lts as lts
use Rattle.utf8.proofs.lead_bits.Tie as tie

abbrev Start : Type 0
Start = lts.Start tie.handed_pre tie.handed_post

-- where the arms begin
law : (c : Start) → bits_by c.args.n c.args.lead ≡ lead_bits c.args.lead
law c = lead_bits_lem c.args.lead c.args.n c.ranges.lead.fits c.requires.same c.requires.some

pub returns-in-2 : goal.returns-in-2
returns-in-2 c = rw c.in-2.is at (law c.before)

pub returns-in-3 : goal.returns-in-3
returns-in-3 c = rw c.in-3.is at (law c.before)

pub returns-in-4 : goal.returns-in-4
returns-in-4 c = rw c.in-4.is at (law c.before)

pub returns-in_default : goal.returns-in_default
returns-in_default c =
    let no = c.in_default.in_default-own.rest in
    simp (ne_eqb _ _ no.0.0.1, ne_eqb _ _ no.0.1, ne_eqb _ _ no.1) at (law c.before)
