-- `packet_frames::packet_frames` meets its contract: by how the frames lie. Assumes nothing.
use Rattle.std.specs.Prelude.{Option}
use mathlib.Core.Path.{◌≡◌, refl, sym, ap, ◌∙◌}
use mathlib.Core.Bool.{Bool}
use lib.ListN.{drop}
use Rattle.octets.specs.Octets.{Bytes}
use Rattle.packet_frames.specs.declared.Layout.{Layout}
use Rattle.packet_frames.specs.Frames.{Read}
use Rattle.packet_frames.specs.Packet.{parse}
use Rattle.packet_frames.specs.Code.{plain, told_layout, FramesIn, frames_in, Outline, outline}
use Rattle.packet_frames.proofs.Outlines.{outlined}
use Rattle.packet_frames.proofs.packet_frames.Goals as goal
use Rattle.packet_frames.proofs.packet_frames.Goals.{In_ok-layout}

-- what is known of the layout that was found
module _ (c : In_ok-layout) where
  abbrev packet : Bytes
  packet = c.args.s.now

  abbrev layout : Layout
  layout = c.in_ok-layout.layout

  sound : FramesIn packet layout.count layout.padding layout.at
  sound = rw c.in_ok-layout.was at c.layout_of.ensures.sound

  frames : (self : Bool) → frames_in self (told_layout packet c.layout_of.result) ≡ outline (parse self packet)
  frames self = ap (frames_in self) c.layout_of.ensures.told ∙ sym (outlined self packet)

  -- a packet by how its frames lie, with lengths of their own or not
  by_layout : {delimited self vary : Bool} {x : Read Outline} → delimited ≡ self → layout.vary ≡ vary
      → x ≡ frames_in self (plain layout.count vary layout.padding (drop layout.at packet))
      → x ≡ outline (parse delimited packet)
  by_layout {delimited} {self} d v e =
      e
      ∙ ap (λ (w : Bool). frames_in self (plain layout.count w layout.padding (drop layout.at packet))) (sym v)
      ∙ ap (λ (q : Option Layout). frames_in self (told_layout packet q)) (sym c.in_ok-layout.was)
      ∙ frames self
      ∙ ap (λ (t : Bool). outline (parse t packet)) (sym d)

pub delimited_frames-requires : goal.delimited_frames-requires
delimited_frames-requires c =
    let k = sound (goal.at.delimited_frames-requires c).In_ok-layout in
    record { few = k.few; inside = k.inside }

pub returns-then-delimited : goal.returns-then-delimited
returns-then-delimited c =
    let call = c.delimited_frames.ensures in
    record {
      told = by_layout (goal.at.returns-then-delimited c).In_ok-layout c.if-delimited.true refl call.told;
      within = call.within;
    }

pub varied_frames-requires : goal.varied_frames-requires
varied_frames-requires c =
    let k = sound (goal.at.varied_frames-requires c).In_ok-layout in
    record { some = k.some; few = k.few; inside = k.inside }

pub returns-then-layout : goal.returns-then-layout
returns-then-layout c =
    let call = c.varied_frames.ensures in
    record {
      told = by_layout (goal.at.returns-then-layout c).In_ok-layout c.if-delimited.false c.if-layout.true call.told;
      within = call.within;
    }

pub equal_frames-requires : goal.equal_frames-requires
equal_frames-requires c =
    let k = sound (goal.at.equal_frames-requires c).In_ok-layout in
    record { some = k.some; few = k.few; inside = k.inside }

pub returns-in_err-layout : goal.returns-in_err-layout
returns-in_err-layout c =
    let s = c.args.s.now in
    let d = c.args.delimited in
    let call = c.layout_of in
    rw c.from_residual.ensures
    (record {
      told =
          ap (λ (x : Option Layout). frames_in d (told_layout s x)) (sym c.in_err-layout.was) ∙ ap (frames_in d) call.ensures.told
          ∙ sym (outlined d s);
      within = tt;
    })

pub returns : goal.returns
returns c =
    let call = c.equal_frames.ensures in
    record {
      told = by_layout (goal.at.returns c).In_ok-layout c.if-delimited.false c.if-layout.false call.told;
      within = call.within;
    }
