-- What the private functions answer and ask, in the code's words. Assumes nothing.
use Rattle.std.specs.Prelude.{ℕ, ◌+◌, ◌≤◌, ◌≡◌, true, length}
use Rattle.std.proofs.Math.Option.{Option}
use Rattle.octets.specs.Octets.{Bytes, total}
use Rattle.limits.specs.Limits.{packet_max}
use Rattle.refusal.specs.declared.Refusal.{Refusal}
use Rattle.refusal.specs.Checks.{first_of}
use Rattle.page_layout.specs.declared.PageHeader.{PageHeader}
use Rattle.stream.specs.declared.Phase.TheVariants.{First, Comment}
use Rattle.stream.specs.declared.Pending.{Pending}
use Rattle.stream.specs.declared.Pending.TheVariants.{Nothing, Held, Dropped}
use Rattle.stream.specs.declared.Core.{Core}
use Rattle.stream.specs.declared.Shape.{Shape}
use Rattle.stream.specs.Page.{page_with}
use Rattle.stream.specs.State.{in_headers}
use Rattle.stream.specs.Shape.{shape_of}
use Rattle.stream.specs.Packets.{seen}
use Rattle.stream.specs.Rules.{lacing_checks}
use Rattle.stream.specs.Feed.{view}

-- 9 to 11 of a page with these parts, whatever the carry buffer
abbrev pub lacing_found : Core → PageHeader → Bytes → Bytes → Bytes → Option Refusal
lacing_found core h carry lacing body =
    first_of (lacing_checks (view core carry) (page_with h lacing body) (seen (view core carry) (page_with h lacing body)))

-- a header page is due, and the lacing values have this shape
pub record Shaped (core : Core) (shape : Shape) (lacing : Bytes) : Type 0 where
  pub inside : in_headers core.phase ≡ true
  pub shape_is : shape ≡ shape_of lacing

-- the first page is due, and the body is as long as its lacing values say
pub record HeadDue (core : Core) (lacing body : Bytes) : Type 0 where
  pub first : core.phase ≡ First
  pub none_left : core.pending ≡ Nothing
  pub sums : total lacing ≡ length body

-- a page of the comment packet is due, and there is room for it
pub record CommentDue (core : Core) (lacing body carry : Bytes) : Type 0 where
  pub comment : core.phase ≡ Comment
  pub sums : total lacing ≡ length body
  pub room : packet_max ≤ length carry

-- what is unfinished after n more bytes of it
abbrev pub longer : Pending → ℕ → Pending
longer Nothing n = Held n
longer (Held k) n = Held (k + n)
longer Dropped n = Dropped

-- n more bytes are within the bound
abbrev pub Within : Pending → ℕ → Type 0
Within Nothing n = n ≤ packet_max
Within (Held k) n = k + n ≤ packet_max
Within Dropped n = Unit {0}
