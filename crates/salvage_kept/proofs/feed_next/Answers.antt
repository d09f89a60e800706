-- `salvage_kept::feed_next` meets its contract: `Feeding` has its ways. Assumes nothing.
use Rattle.stream.specs.declared.Core.{Core}
use Rattle.std.specs.Prelude.{Option, Some, None}
use Rattle.std.proofs.Common.{◌≡◌, ℕ, List, sym, ap, ◌∙◌, subst, rules}
use Rattle.octets.specs.Octets.{Bytes}
use Rattle.salvage_rules.specs.Good.{Good}
use Rattle.salvage_rules.specs.Listed.{bytes_at}
use Rattle.salvage_feed.specs.Feeding.{tidied_bytes, FeedsTidied}
use Rattle.salvage_kept.specs.declared.Point.{Point}
use Rattle.salvage_kept.proofs.Feeding.{told, fed_on, fed-saved, fed_still, fed-refused}
use Rattle.salvage_kept.proofs.feed_next.Goals as goal

pub point_after-point-requires : goal.point_after-point-requires
point_after-point-requires c = c.requires.index

pub copy_held-requires-then-begins : goal.copy_held-requires-then-begins
copy_held-requires-then-begins c = c.spare-1.given ∙ sym c.requires.spares ∙ c.requires.keeps

pub shape_of-carry-then-begins : goal.shape_of-carry-then-begins
shape_of-carry-then-begins c = c.carry-1.given

pub shape_of-spare-then-begins : goal.shape_of-spare-then-begins
shape_of-spare-then-begins c = c.spare-1.given

pub shape_of-ends-then-begins : goal.shape_of-ends-then-begins
shape_of-ends-then-begins c = c.ends-1.given

pub returns-then-begins : goal.returns-then-begins
returns-then-begins c =
    let a = c.args in
    let left : Bytes = c.feed_tidied.new.carry in
    let out : Bytes = tidied_bytes a.next.form a.pass.now.number (bytes_at a.buffer.now a.next.place) in
    record {
      next_fed_is = λ (G : List Good) (ws : List ℕ) x.
          fed-saved x (subst (λ (r : Option Core). FeedsTidied a.pass.now.core out a.carry.now r left) c.in-Some.is
          (told x c.feed_tidied.result left c.page_at-page.ensures c.feed_tidied.ensures)) c.point_after-point.ensures
          (sym c.begins.ensures ∙ c.if-begins.true) (c.copy_held-then-begins.ensures ∙ c.copy_held.ensures);
      onward = ap (λ (p : Point). p.at) c.point_after-point.ensures;
    }

pub shape_of-carry-else-begins : goal.shape_of-carry-else-begins
shape_of-carry-else-begins c = c.carry-1.given

pub shape_of-spare-else-begins : goal.shape_of-spare-else-begins
shape_of-spare-else-begins c = c.spare-1.given

pub returns-else-begins : goal.returns-else-begins
returns-else-begins c =
    let a = c.args in
    let left : Bytes = c.feed_tidied.new.carry in
    let out : Bytes = tidied_bytes a.next.form a.pass.now.number (bytes_at a.buffer.now a.next.place) in
    record {
      next_fed_is = λ (G : List Good) (ws : List ℕ) x.
          fed_on x (subst (λ (r : Option Core). FeedsTidied a.pass.now.core out a.carry.now r left) c.in-Some.is
          (told x c.feed_tidied.result left c.page_at-page.ensures c.feed_tidied.ensures)) c.point_after-point.ensures;
      onward = ap (λ (p : Point). p.at) c.point_after-point.ensures;
    }

pub returns-in-None : goal.returns-in-None
returns-in-None c =
    let a = c.args in
    let left : Bytes = c.feed_tidied.new.carry in
    let out : Bytes = tidied_bytes a.next.form a.pass.now.number (bytes_at a.buffer.now a.next.place) in
    record {
      next_fed_is = λ (G : List Good) (ws : List ℕ) x.
          let w = subst (λ (r : Option Core). FeedsTidied a.pass.now.core out a.carry.now r left) c.in-None.is
          (told x c.feed_tidied.result left c.page_at-page.ensures c.feed_tidied.ensures) in
          (fed_still x w, fed-refused x w);
      onward = tt;
    }
