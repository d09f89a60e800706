-- `utf8::character_at` meets its contract: the first test that fails decides, and the number last. Assumes nothing.
use mathlib.Core.Path.{◌≡◌, sym, ap, ◌∙◌}
use Prim.Native.Nat.{ℕ, ◌+◌, ◌-◌}
use native.Mathlib.Omega.{arith}
use lib.ListN.{get_or, drop}
use Rattle.octets.proofs.Tests.{failed, held}
use Rattle.utf8.specs.Characters.{number_with, right_number, right_character}
use Rattle.utf8.proofs.Lead.{ascii_length, ascii}
use Rattle.utf8.proofs.Characters.{no_length, wrong_tails, number_decides}
use Rattle.utf8.proofs.character_at.Goals as goal
use Rattle.utf8.proofs.character_at.Lts as lts
use Rattle.utf8.proofs.character_at.Tie as tie

abbrev After-right_number : Type 0
After-right_number = lts.After-right_number tie.the-claims tie.handed_pre tie.handed_post

-- whether the character is right is what the number's test says
decided : (c : After-right_number)
    → let a = c.args in
    right_character (get_or a.s.now a.at 0) (drop (a.at + 1) a.s.now) ≡ c.right_number.result
decided c =
    let a = c.args in
    let n = c.character_length-n.result in
    let s = drop (a.at + 1) a.s.now in
    number_decides (get_or a.s.now a.at 0) n s c.character_length-n.ensures.same (omega arith) (held c.tails_follow.ensures c.if-not-tails_follow.false)
    ∙ sym (c.right_number.ensures ∙ ap (right_number n) (c.number_with-x.ensures ∙ ap (λ (x : ℕ). number_with x (n - 1) s) c.lead_bits.ensures))

pub returns-then-lead-lt128 : goal.returns-then-lead-lt128
returns-then-lead-lt128 c =
    let a = c.args in
    let lead = get_or a.s.now a.at 0 in
    rw (ascii lead (drop (a.at + 1) a.s.now) c.if-lead-lt128.true, ascii_length lead c.if-lead-lt128.true)

pub returns-then-n-eq0 : goal.returns-then-n-eq0
returns-then-n-eq0 c =
    let a = c.args in
    rw (no_length (get_or a.s.now a.at 0) c.character_length-n.result (drop (a.at + 1) a.s.now) c.character_length-n.ensures.same c.if-n-eq0.true)

pub returns-then-not-tails_follow : goal.returns-then-not-tails_follow
returns-then-not-tails_follow c =
    let a = c.args in
    let tails = failed c.tails_follow.ensures c.if-not-tails_follow.true in
    rw
    (wrong_tails (get_or a.s.now a.at 0) c.character_length-n.result (drop (a.at + 1) a.s.now) c.character_length-n.ensures.same
    (omega arith) tails)

pub returns-then-not-right_number : goal.returns-then-not-right_number
returns-then-not-right_number c = rw (decided c.before.before ∙ c.if-not-right_number.true)

pub returns : goal.returns
returns c =
    rw (decided c.before.before ∙ c.if-not-right_number.false)
    c.character_length-n.ensures.same
