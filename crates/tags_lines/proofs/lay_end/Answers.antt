-- `tags_lines::lay_end` meets its contract: a line feed, or decibels before it. Assumes nothing.
use mathlib.Core.Path.{◌≡◌, sym, ap, ◌∙◌}
use Prim.Native.Nat.{◌≤◌}
use native.Mathlib.Omega.{arith}
use lib.ListN.{length}
use mir.Syntax.{w16}
use mir.Val.{SFits}
use mir.Facts.{to_z-of_z}
use borrow.Author.Rules.{rules}
use Rattle.octets.specs.Octets.{Bytes}
use Rattle.octets.proofs.Tests.{failed, held}
use Rattle.text_put.proofs.Putting.{put-known, laid-put, laid-known}
use Rattle.text_gain.specs.Numbers.{decibels_end}
use Rattle.text_gain.proofs.Texts.{length-end}
use Rattle.tags_lines.specs.Lines.{gain_end, end_most}
use Rattle.tags_lines.proofs.Parts.{end-plain, end-gain}
use Rattle.tags_lines.proofs.lay_end.Goals as goal

short : {s t : Bytes} → s ≡ t → length s ≤ end_most → length t ≤ end_most
short same h = rw same at h

pub returns-then-not-is_gain : goal.returns-then-not-is_gain
returns-then-not-is_gain c =
    let same = sym (end-plain c.args.c.now (failed c.is_gain.ensures c.if-not-is_gain.true)) in
    record { laid = laid-known same (laid-put (omega (arith, c.requires)) c.put_bytes.ensures); short = short same (omega arith) }

pub returns-in-Ok : goal.returns-in-Ok
returns-in-Ok c =
    let same = sym (end-gain c.args.c.now (held c.is_gain.ensures c.if-not-is_gain.false) ∙ ap gain_end (sym c.in-Ok.ensures)) in
    let g = c.in-Ok.g in
    let narrow : SFits w16 g = search rules in
    let most = length-end g narrow.sfits in
    record {
      laid = laid-known same (laid-put (omega (arith, c.requires)) (put-known (ap decibels_end (to_z-of_z narrow)) c.put_decibels.ensures));
      short = short same most;
    }

pub returns-in-Err : goal.returns-in-Err
returns-in-Err c =
    let same = sym (end-gain c.args.c.now (held c.is_gain.ensures c.if-not-is_gain.false) ∙ ap gain_end (sym c.in-Err.ensures)) in
    record { laid = laid-known same (laid-put (omega (arith, c.requires)) c.put_bytes-in-Err.ensures); short = short same (omega arith) }
