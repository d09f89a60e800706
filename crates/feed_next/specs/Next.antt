-- The core after an accepted page (RULES.md, refusals 5 and 6). Assumes nothing.
use Rattle.std.specs.Prelude.{ℕ}
use Rattle.page_layout.specs.declared.PageHeader.{PageHeader}
use Rattle.granule.specs.declared.Position.{Position}
use Rattle.stream.specs.declared.Phase.{Phase}
use Rattle.stream.specs.declared.Pending.{Pending}
use Rattle.stream.specs.declared.Core.{Core}
use Rattle.stream.specs.Rules.{due_after}

abbrev pub core_after : PageHeader → Phase → Pending → Position → ℕ → ℕ → Core
core_after h phase pending position streams preskip = record {
  phase = phase;
  pending = pending;
  position = position;
  serial = h.serial;
  next = due_after h;
  streams = streams;
  preskip = preskip;
}
