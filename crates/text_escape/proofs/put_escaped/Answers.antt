-- `text_escape::put_escaped` meets its contract. Assumes nothing.
use Prim.Native.Nat.{◌+◌, ◌-◌, ◌≤◌}
use native.Mathlib.Omega.{arith}
use borrow.Author.Tests.{leb-true, leb-false}
use lib.ListN.{length}
use Rattle.octets.proofs.Tests.{failed, held}
use Rattle.text_put.proofs.Putting.{put-laid, put-nothing}
use Rattle.text_escape.specs.Escape.{escaped}
use Rattle.text_escape.proofs.put_escaped.Goals as goal
use Rattle.text_escape.proofs.put_escaped.Lts as lts
use Rattle.text_escape.proofs.put_escaped.Tie as tie

abbrev Else-not-fits_within : Type 0
Else-not-fits_within = lts.Else2 tie.the-claims tie.handed_pre tie.handed_post

-- the text fits
fits : (c : Else-not-fits_within) → let a = c.args in a.at + length (escaped a.s.now) ≤ length a.out.now
fits c =
    let a = c.args in
    let test = leb-true (length (escaped a.s.now)) (length a.out.now - a.at) (held c.fits_within.ensures c.if-not-fits_within.false) in
    omega arith

pub returns-then-out-at : goal.returns-then-out-at
returns-then-out-at c = put-nothing (omega arith)

pub returns-then-not-fits_within : goal.returns-then-not-fits_within
returns-then-not-fits_within c =
    let a = c.args in
    let test = leb-false (length (escaped a.s.now)) (length a.out.now - a.at) (failed c.fits_within.ensures c.if-not-fits_within.true) in
    put-nothing (omega arith)

pub lay_escaped-requires : goal.lay_escaped-requires
lay_escaped-requires c = fits c.before.before

pub returns : goal.returns
returns c = put-laid (fits c.before.before.before.before.before) c.lay_escaped.ensures
