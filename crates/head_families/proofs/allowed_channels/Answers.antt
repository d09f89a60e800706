-- `head_families::allowed_channels` meets its contract: the family's set or its limit decides. Assumes nothing.
use mathlib.Core.Path.{sym, ◌∙◌}
use native.Mathlib.Omega.{arith}
use borrow.Author.Tests.{le-leb, lt-leb}
use Rattle.head_families.proofs.Checks.{no_channel, set_decides, most_decides, most_other, not-ambisonic}
use Rattle.head_families.proofs.allowed_channels.Goals as goal

pub returns-then-channels-lt1 : goal.returns-then-channels-lt1
returns-then-channels-lt1 c = let a = c.args in sym (no_channel a.family a.channels c.if-channels-lt1.true)

pub returns-in-0 : goal.returns-in-0
returns-in-0 c =
    let a = c.args in
    sym (most_decides a.family a.channels c.if-channels-lt1.false (rw c.in-0.is) (rw c.in-0.is))

pub returns-in-1 : goal.returns-in-1
returns-in-1 c =
    let a = c.args in
    sym (most_decides a.family a.channels c.if-channels-lt1.false (rw c.in-1.is) (rw c.in-1.is))

pub returns-in-2 : goal.returns-in-2
returns-in-2 c =
    let a = c.args in
    c.ambisonic_channels.ensures ∙ sym (set_decides a.family a.channels c.if-channels-lt1.false (rw c.in-2.is))

pub returns-in-3 : goal.returns-in-3
returns-in-3 c =
    let a = c.args in
    c.ambisonic_channels-in-3.ensures ∙ sym (set_decides a.family a.channels c.if-channels-lt1.false (rw c.in-3.is))

pub returns-in-255 : goal.returns-in-255
returns-in-255 c =
    let a = c.args in
    sym
    (most_decides a.family a.channels c.if-channels-lt1.false (rw c.in-255.is) (rw c.in-255.is)
    ∙ le-leb a.channels 255 (omega arith))

pub returns-in_default : goal.returns-in_default
returns-in_default c =
    let a = c.args in
    let n = c.in_default.in_default-own.rest in
    let none = most_other n.0.0.0.0.1 n.0.0.0.1 n.1 in
    sym
    (most_decides a.family a.channels c.if-channels-lt1.false (not-ambisonic n.0.0.1 n.0.1) none
    ∙ lt-leb a.channels 0 c.if-channels-lt1.false)
