-- What the judgement of a stream in a buffer returns to C and leaves in its output (RULES.md, 15). Assumes nothing.
use Rattle.std.specs.Prelude.{ℕ, ◌≡◌, eqb}
use Rattle.octets.specs.Pick.{pick}
use Rattle.refusal.specs.declared.Refusal.TheVariants.{HeadersIncomplete}
use Rattle.refusal.specs.Numbers.{number_of}
use Rattle.recording.specs.Judging.{Judgement, whole, refused}

-- 0 where the stream is whole
abbrev pub judged_number : Judgement → ℕ
judged_number (whole pages packets) = 0
judged_number (refused n page) = n

-- the page is stored under every number but 0 and 24
abbrev pub judged_page : Judgement → ℕ → ℕ
judged_page (whole pages packets) old = old
judged_page (refused n page) old = pick (eqb n (number_of HeadersIncomplete)) old page

-- the returned number, and the page from `old` to `new`, are those of the judgement
pub record JudgedIn (j : Judgement) (number old new : ℕ) : Type 0 where
  pub refusal : number ≡ judged_number j
  pub page : new ≡ judged_page j old
