-- `tags_lines::put_text` meets its contract. Assumes nothing.
use mathlib.Core.List.{◌++◌}
use Prim.Native.Nat.{◌+◌, ◌-◌, ◌≤◌}
use native.Mathlib.Omega.{arith}
use borrow.Author.Tests.{leb-true, leb-false}
use lib.ListN.{length, length-append}
use Rattle.octets.proofs.Tests.{failed, held}
use Rattle.text_put.proofs.Putting.{put-laid, put-nothing, laid-put, laid_then}
use Rattle.text_escape.specs.Escape.{escaped}
use Rattle.tags_lines.specs.Lines.{text_line}
use Rattle.tags_lines.proofs.Parts.{length-text}
use Rattle.tags_lines.proofs.put_text.Goals as goal
use Rattle.tags_lines.proofs.put_text.Lts as lts
use Rattle.tags_lines.proofs.put_text.Tie as tie

abbrev Else-not-fits_within : Type 0
Else-not-fits_within = lts.Else3 tie.the-claims tie.handed_pre tie.handed_post

-- the line fits
fits : (c : Else-not-fits_within)
    → let a = c.args in
    a.at + (length a.name.now + length (escaped a.text.now) + length a.end.now) ≤ length a.out.now
fits c =
    let a = c.args in
    let room = length a.out.now - a.at - (length a.name.now + length a.end.now) in
    let test = leb-true (length (escaped a.text.now)) room (held c.fits_within.ensures c.if-not-fits_within.false) in
    omega arith

pub returns-then-out-at : goal.returns-then-out-at
returns-then-out-at c =
    let a = c.args in
    put-nothing (omega (arith, length-text a.name.now a.text.now a.end.now))

pub returns-then-out-at-2 : goal.returns-then-out-at-2
returns-then-out-at-2 c =
    let a = c.args in
    put-nothing (omega (arith, length-text a.name.now a.text.now a.end.now))

pub returns-then-not-fits_within : goal.returns-then-not-fits_within
returns-then-not-fits_within c =
    let a = c.args in
    let room = length a.out.now - a.at - (length a.name.now + length a.end.now) in
    let test = leb-false (length (escaped a.text.now)) room (failed c.fits_within.ensures c.if-not-fits_within.true) in
    put-nothing (omega (arith, length-text a.name.now a.text.now a.end.now))

pub returns : goal.returns
unfolding text_line
returns c =
    let test = c.before.before.before.before.before.before.before.before.before.before.before.before.before in
    let a = c.args in
    let room = fits test in
    let two = length-append a.name.now (escaped a.text.now) in
    let three = length-append (a.name.now ++ escaped a.text.now) a.end.now in
    let first = laid-put (omega arith) c.put_bytes-second.ensures in
    let second = laid_then first (omega (arith, first.place)) c.put_escaped-third.ensures in
    put-laid (omega arith) (laid_then second (omega (arith, second.place)) c.put_bytes.ensures)
