-- What the code has at a point of the pass, for the pages of the list that are before it. Assumes nothing.
use Rattle.std.specs.Prelude.{◌≡◌, ℕ, suc, ◌+◌, ◌%◌, ◌^◌, ◌≤◌, Bool, false, List, length, take, drop}
use Rattle.octets.specs.Octets.{Bytes}
use Rattle.page_crc.specs.Crc.{page_crc}
use Rattle.stream.specs.declared.Core.{Core}
use Rattle.stream.specs.Readings.{Readings, readings}
use Rattle.stream.specs.Feed.{start, view}
use Rattle.salvage_rules.specs.declared.Link.{Link}
use Rattle.salvage_rules.specs.Good.{Good}
use Rattle.salvage_rules.specs.Tidy.{no_page}
use Rattle.salvage_rules.specs.Steps.{past_all}
use Rattle.salvage_rules.specs.Links.{no_prior, prior_of, next_prior}
use Rattle.salvage_rules.specs.Listed.{listed_in, pages_to, pages_from}
use Rattle.salvage_kept.specs.declared.Point.{Point}
use Rattle.salvage_kept.specs.declared.Pass.{Pass}
use Rattle.salvage_kept.specs.Pass.{Going, Saved}

abbrev pub R : Readings
R = readings page_crc

-- those from the index j to the index `at`
abbrev pub pages_in : Bytes → List ℕ → ℕ → ℕ → List Good
pages_in b ws j at = listed_in b (drop j (take at ws))

-- ---- a point of the pass

abbrev pub beginning : Point
beginning = record { core = start.core; prior = no_prior; cut = false; at = 0; number = 0 }

-- the point after one page more, at the index i
abbrev pub point_after : Point → Core → Link → Bool → ℕ → Point
point_after p core link cut i = record {
  core = core;
  prior = next_prior p.prior link;
  cut = cut;
  at = suc i;
  number = (p.number + 1) % 2 ^ 32;
}

-- the same point, the next page being looked for after the index i
abbrev pub point_past : Point → ℕ → Point
point_past p i = record { core = p.core; prior = p.prior; cut = p.cut; at = suc i; number = p.number }

abbrev pub pass_of : Point → Point → Pass
pass_of now saved = record { now = now; saved = saved }

-- the point after the pages K
pub record PointIs (K : List Good) (p : Point) : Type 0 where
  pub prior : p.prior ≡ prior_of (past_all no_page K)
  pub number : p.number ≡ length K % 2 ^ 32

-- the pass over the list ws, which was G, in the buffer b; `carry` is the carry buffer, and `keep` what it was at the saved point
pub record Holds (b : Bytes) (G : List Good) (ws : List ℕ) (p : Pass) (carry keep : Bytes) : Type 0 where
  pub inside : p.now.at ≤ length ws
  pub earlier : p.saved.at ≤ p.now.at
  pub point : PointIs (pages_to b ws p.now.at) p.now
  pub back : PointIs (pages_to b ws p.saved.at) p.saved
  pub going : Going R G (pages_to b ws p.now.at) (pages_from b ws p.now.at) (view p.now.core carry) p.now.cut
  pub saved : Saved R (pages_to b ws p.now.at) (pages_from b ws p.now.at) (pages_to b ws p.saved.at)
      (pages_in b ws p.saved.at p.now.at) (view p.saved.core keep) p.saved.cut
