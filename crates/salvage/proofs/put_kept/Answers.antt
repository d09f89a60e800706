-- `salvage::put_kept` meets its contract. Assumes nothing.
use Rattle.std.proofs.Common.{◌≡◌, ℕ, min, Bool, true, false, List, length, sym, refl, ap, ◌∙◌, ap₂, arith, rules}
use Rattle.salvage.specs.Salvaging.{what_in, place_in, size_in, amounts}
use Rattle.octets.specs.Octets.{Bytes}
use Rattle.refusal.specs.Told.{gives}
use Rattle.salvage.specs.Code.{all_lines}
use Rattle.salvage.specs.Putting.{is_short}
use Rattle.salvage.proofs.Steps.{lines-over}
use Rattle.salvage.proofs.Putting.{walked-bytes, walked_lines, bytes_fit, lines_fit, column_stored, column_kept}
use Rattle.salvage.proofs.put_kept.Goals as goal

-- whether the room suffices, by the least of three lengths
short-is : (b : Bytes) (list : List ℕ) (out i j k room least_of_two : ℕ) (found : Bool) → room ≡ min i least_of_two → least_of_two ≡ min j k
    → found ≡ is_short b list out room → (t : Bool) → found ≡ t → is_short b list out (min i (min j k)) ≡ t
short-is b list out i j k room least_of_two found e f is t q = rw (← f, ← e) (sym is ∙ q)

pub returns-then-is_short : goal.returns-then-is_short
returns-then-is_short c = record { told = rw (short-is _ _ _ _ _ _ c.least-room.result c.least.result c.is_short.result c.least-room.ensures c.least.ensures c.is_short.ensures true c.if-is_short.true); output = refl; whats = refl; spots = refl; counts = refl }

pub write_pages-walk-requires : goal.write_pages-walk-requires
write_pages-walk-requires c =
    let a = c.args in
    record { kept = c.requires; room = bytes_fit a.buffer.now a.list.now _ _ (short-is _ _ _ _ _ _ c.least-room.result c.least.result c.is_short.result c.least-room.ensures c.least.ensures c.is_short.ensures false c.if-is_short.false) }

pub lines_in-lines-requires : goal.lines_in-lines-requires
lines_in-lines-requires c =
    lines-over c.args.buffer.now c.args.list.now (omega arith) c.requires c.write_pages-walk.ensures.walked.walks

pub returns-then-lines-eq0 : goal.returns-then-lines-eq0
returns-then-lines-eq0 c =
    let a = c.args in
    let walked = c.write_pages-walk.ensures.walked in
    let none : length (all_lines a.buffer.now a.list.now) ≡ 0 = sym (c.lines_in-lines.ensures ∙ walked_lines walked) ∙ c.if-lines-eq0.true in
    record {
      told = rw (short-is _ _ _ _ _ _ c.least-room.result c.least.result c.is_short.result c.least-room.ensures c.least.ensures c.is_short.ensures false c.if-is_short.false) (ap₂ (λ (x y : ℕ). gives (amounts x y)) (walked-bytes walked) (sym none));
      output = c.write_pages-walk.ensures.output;
      whats = column_kept what_in (all_lines a.buffer.now a.list.now) _ none;
      spots = column_kept place_in (all_lines a.buffer.now a.list.now) _ none;
      counts = column_kept size_in (all_lines a.buffer.now a.list.now) _ none;
    }

pub returns : goal.returns
returns c =
    let stored = c.write_lines.ensures in
    let a = c.args in
    let walked = c.write_pages-walk.ensures.walked in
    let few = lines_fit a.buffer.now a.list.now _ _ (short-is _ _ _ _ _ _ c.least-room.result c.least.result c.is_short.result c.least-room.ensures c.least.ensures c.is_short.ensures false c.if-is_short.false) in
    record {
      told = rw (short-is _ _ _ _ _ _ c.least-room.result c.least.result c.is_short.result c.least-room.ensures c.least.ensures c.is_short.ensures false c.if-is_short.false) (ap₂ (λ (x y : ℕ). gives (amounts x y)) (walked-bytes walked) (c.lines_in-lines.ensures ∙ walked_lines walked));
      output = c.write_pages-walk.ensures.output;
      whats = column_stored what_in (all_lines a.buffer.now a.list.now) _ _ (omega (arith, few)) stored.whats;
      spots = column_stored place_in (all_lines a.buffer.now a.list.now) _ _ (omega (arith, few)) stored.spots;
      counts = column_stored size_in (all_lines a.buffer.now a.list.now) _ _ (omega (arith, few)) stored.counts;
    }
